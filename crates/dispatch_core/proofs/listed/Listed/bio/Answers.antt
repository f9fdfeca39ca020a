use Rattle.std.proofs.Common.{length, sym, ap, arith}
use Rattle.dispatch_core.proofs.Listing.{few_bios}
use Rattle.dispatch_core.proofs.listed.Listed.bio.Goals as goal

pub returns-clause-few : goal.returns-clause-few
returns-clause-few c =
    let shown = ap (λ r. length r.bios) (sym c.self.view_is) in
    omega (arith, shown, few_bios c.self.inside.pool.now.bios c.self.inside.request.now.bios.items, c.as_slice.ensures.fits, ap length c.as_slice.ensures.value)
