-- The virtual times of a group, read at once.
use Rattle.std.specs.Prelude.{◌≡◌, ℕ, true}
use Rattle.sector_core.specs.declared.class.Class.TheVariants.{RealTime, BestEffort, Idle}
use Rattle.plain.specs.Machine.{Bfq}
use Rattle.plain.specs.Rules.{stands, vtime_of}
use Rattle.script_host.specs.declared.state.groups.Times.{Times}

-- a group stands, and these are its virtual times
pub record HasTimes (b : Bfq) (group : ℕ) (times : Times) : Type 0 where
  pub stands : stands b group ≡ true
  pub real_time : times.real_time ≡ vtime_of b group RealTime
  pub best_effort : times.best_effort ≡ vtime_of b group BestEffort
  pub idle : times.idle ≡ vtime_of b group Idle
