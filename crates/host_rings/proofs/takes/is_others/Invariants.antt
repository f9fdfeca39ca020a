use Rattle.std.proofs.Common.{◌≡◌, ℕ, ◌<◌, Some}
use Rattle.std.specs.List.{slice_get}
use Rattle.host_rings.proofs.takes.is_others.Given as goal

-- no other device that was looked at took it last
abbrev pub invariant-loop-device : goal.invariant-loop-device
invariant-loop-device l = (k : ℕ) → k < l.device → (k ≡ l.own → ⊥) → slice_get l.lasts k ≡ Some (Some l.issue) → ⊥
