use Rattle.std.proofs.Common.{◌≡◌, replicate}
use Rattle.plain.specs.Opening.{empty_service}
use Rattle.change_record.proofs.parts.empty_trees.Given as goal

abbrev pub invariant-loop : goal.invariant-loop
invariant-loop l = l.trees.items ≡ replicate l.counter (empty_service l.vtime)
