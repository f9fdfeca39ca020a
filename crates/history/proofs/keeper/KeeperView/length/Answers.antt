use Rattle.std.proofs.Common.{rules}
use Rattle.history.proofs.keeper.KeeperView.length.Goals as goal

pub overflow_cast-result : goal.overflow_cast-result
overflow_cast-result c =
    let h = c.keeper.invariant in
    let few = h.few in
    let bounded = h.bounded in
    let steps = h.steps in
    let within = c.length.ensures.steps in
    search (rules, bounded, few, steps, within)
