use Rattle.std.proofs.Common.{refl}
use Rattle.change_record.proofs.parts.Parts.new.Goals as goal

pub returns : goal.returns
returns c =
    let queues = c.in_ok-pool.ensures in
    let seats = c.in_ok-outboxes.ensures in
    let entities = c.in_ok-trees.ensures in
    rw (
      c.new.ensures,
      queues.pool,
      queues.tags,
      queues.queues,
      queues.requeued,
      seats.outboxes,
      seats.seats,
      seats.heads,
      entities.trees,
      c.new-2.ensures,
      entities.weights,
      entities.budgets,
    ) refl
