use Rattle.std.proofs.Common.{◌≡◌, None, replicate}
use Rattle.sector_core.proofs.table.empty_table.Given as goal

abbrev pub invariant-loop : goal.invariant-loop
invariant-loop g l = l.table.items ≡ replicate l.counter None
