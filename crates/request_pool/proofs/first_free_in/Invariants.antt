use Rattle.request_pool.specs.Slots.{AreTaken}
use Rattle.request_pool.proofs.first_free_in.Given as goal

-- no slot before this one is free
abbrev pub invariant-loop-slot : goal.invariant-loop-slot
invariant-loop-slot g l = AreTaken l.table l.from l.slot
