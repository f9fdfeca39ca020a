use Rattle.std.proofs.Common.{◌≡◌, [], replicate}
use Rattle.change_record.proofs.parts.empty_outboxes.Given as goal

abbrev pub invariant-loop : goal.invariant-loop
invariant-loop l = l.boxes.items ≡ replicate l.counter (record { items = [] })
