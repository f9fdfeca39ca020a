use Rattle.host_paths.specs.Operating.{IsBetween}
use Rattle.host_paths.proofs.operator.serve_operators.Given as goal

abbrev pub invariant-loop : goal.invariant-loop
invariant-loop g l = IsBetween l.seat
