use Rattle.std.proofs.Common.{ap, is_some, sym, refl}
use Rattle.overlay.proofs.Gone.{goes}
use Rattle.overlay.proofs.pages.take_at.Goals as goal

pub returns-in-Some-remove-clause-new : goal.returns-in-Some-remove-clause-new
returns-in-Some-remove-clause-new c =
    let here = c.in-Some.ensures.value in
    let kept = c.get_mut.follows.holds c.in-Some.page.now in
    goes _ _ _ c.args.number c.args.at c.in-Some.page.now here (kept.3 (ap is_some (sym here))).0 c.remove.ensures.updates.0 (c.if-has_other.ensures.only refl)
