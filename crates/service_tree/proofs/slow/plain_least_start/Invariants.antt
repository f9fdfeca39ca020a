use Rattle.service_tree.proofs.Compared.{IsLeast}
use Rattle.service_tree.proofs.slow.plain_least_start.Given as goal

-- the least start of the active members so far
abbrev pub invariant-loop-entity : goal.invariant-loop-entity
invariant-loop-entity l = IsLeast l.tree.members l.entity l.least
