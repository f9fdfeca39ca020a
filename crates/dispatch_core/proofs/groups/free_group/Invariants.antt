use Rattle.std.proofs.Common.{◌≡◌, ℕ, ◌<◌, ◌≤◌, true}
use Rattle.dispatch_core.proofs.Words.{bfq_of, stands}
use Rattle.dispatch_core.proofs.groups.free_group.Given as goal

-- each earlier group stands
abbrev pub invariant-loop-group : goal.invariant-loop-group
invariant-loop-group l = (j : ℕ) → 1 ≤ j → j < l.group → stands (bfq_of l.parts.tables) j ≡ true
