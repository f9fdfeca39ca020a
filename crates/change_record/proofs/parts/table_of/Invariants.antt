use Rattle.std.proofs.Common.{◌≡◌, replicate}
use Rattle.change_record.proofs.parts.table_of.Given as goal

abbrev pub invariant-loop : goal.invariant-loop
invariant-loop g l = l.table.items ≡ replicate l.counter l.value
