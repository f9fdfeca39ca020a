use Rattle.std.proofs.Common.{◌≡◌, Some, ℕ, ◌<◌}
use Rattle.plain.specs.Members.{pick}
use Rattle.service_tree.proofs.slow.plain_pick.Given as goal

-- none of the entities seen so far is the pick
abbrev pub invariant-loop-entity : goal.invariant-loop-entity
invariant-loop-entity l = (n : ℕ) → n < l.entity → pick l.vtime l.tree.members ≡ Some n → ⊥
