use Rattle.std.proofs.lemmas.List.{replicate_more}
use Rattle.change_record.proofs.parts.empty_outboxes.Goals as goal

pub loop-preserved : goal.loop-preserved
loop-preserved c = rw (c.in_ok-push.ensures.items, c.loop.invariant, c.empty.ensures) (replicate_more c.loop.counter _)
