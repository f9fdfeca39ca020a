use Rattle.std.proofs.Common.{ℕ, ◌+◌, ◌-◌, ◌<◌, ◌≤◌}
use Rattle.plain.specs.Runs.{IsStored}
use Rattle.overlay.proofs.Overlay.count_from.Given as goal

-- all before this one are stored
abbrev pub invariant-loop-count : goal.invariant-loop-count
invariant-loop-count l = (l.count ≤ l.most) × ((k : ℕ) → k < l.count → IsStored l.self (l.start + k))

abbrev pub decreases-loop-count : goal.decreases-loop-count
decreases-loop-count l = l.most - l.count
