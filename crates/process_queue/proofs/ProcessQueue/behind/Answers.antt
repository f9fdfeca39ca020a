use Rattle.std.proofs.Common.{◌∙◌, ap}
use Rattle.linked_rows.specs.Chains.{side_at}
use Rattle.process_queue.proofs.Walk.{behind_at}
use Rattle.process_queue.proofs.ProcessQueue.behind.Goals as goal

pub returns : goal.returns
returns c seat k lt at =
    behind_at c.self.inside.links.items c.self.inside.sides.items c.self.inside.ends.items c.self.inside.queued c.args.self.now c.side_at.result seat k c.args.slot
    c.self.invariant c.self.view_is (c.side_at.ensures ∙ ap (λ sides. side_at sides c.args.slot) c.as_slice.ensures.value) lt at
