use Rattle.std.specs.Prelude.{ℕ}
use Rattle.host_core.specs.Cores.{SameSeats}
use Rattle.host_core.specs.Running.{AreTurns}
use Rattle.host_core.proofs.turns.Core.run_watched.Given as goal

abbrev pub invariant-loop : goal.invariant-loop
invariant-loop g l = goal.W-IsAlwaysCallable g l.watch × SameSeats l.initial.self l.self × ((n : ℕ) × AreTurns n l.initial.self l.self)
