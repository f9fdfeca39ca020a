use Rattle.std.proofs.Common.{◌≡◌, ◌++◌, replicate}
use Rattle.change_record.proofs.parts.first_budgets.Given as goal

abbrev pub invariant-loop : goal.invariant-loop
invariant-loop l = l.table.items ≡ replicate 16 l.seats ++ replicate l.counter l.groups
