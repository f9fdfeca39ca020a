use Rattle.std.proofs.Common.{rules}
use Rattle.history.proofs.keeper.KeeperView.cursor.Goals as goal

pub overflow_cast-result : goal.overflow_cast-result
overflow_cast-result c =
    let h = c.keeper.invariant in
    let few = h.few in
    let bounded = h.bounded in
    let steps = h.steps in
    let within = c.cursor.ensures.within in
    search (rules, bounded, few, steps, within)
