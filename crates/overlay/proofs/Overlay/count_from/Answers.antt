use Rattle.std.proofs.Common.{◌≡◌, ◌+◌, arith}
use Rattle.overlay.proofs.Ranged.{more_stored}
use Rattle.overlay.proofs.Overlay.count_from.Goals as goal

pub loop-count-preserved : goal.loop-count-preserved
loop-count-preserved c =
    let within = c.count_in_page-more.ensures.within in
    let sum = c.in-Some.ensures.1 in
    let sector : c.in-Some.sector ≡ c.args.start + c.loop-count.count = omega (arith, sum, c.from.ensures) in (
      omega (arith, within),
      more_stored c.args.self.now c.args.start c.loop-count.count c.count_in_page-more.result c.in-Some.sector sector
          c.loop-count.invariant.1 c.count_in_page-more.ensures.stored,
    )
