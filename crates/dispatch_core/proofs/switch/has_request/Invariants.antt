use Rattle.std.proofs.Common.{◌≡◌, ℕ, ◌<◌, None}
use Rattle.dispatch_core.specs.WellFormed.{at}
use Rattle.dispatch_core.proofs.switch.has_request.Given as goal

-- no earlier slot is taken
abbrev pub invariant-loop-slot : goal.invariant-loop-slot
invariant-loop-slot l = (j : ℕ) → j < l.slot → at l.parts.tables.requests j ≡ None
