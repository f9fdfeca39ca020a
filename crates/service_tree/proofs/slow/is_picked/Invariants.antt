use Rattle.std.proofs.Common.{ℕ, ◌<◌}
use Rattle.plain.specs.Members.{IsEligibleAt}
use Rattle.plain.specs.declared.member.Member.{Member}
use Rattle.service_tree.proofs.Chosen.{IsFirst}
use Rattle.service_tree.proofs.slow.is_picked.Given as goal

-- none of the eligible members seen so far goes before the entity
abbrev pub invariant-loop-other : goal.invariant-loop-other
invariant-loop-other l = (n : ℕ) (m : Member) → n < l.other → IsEligibleAt l.vtime l.tree.members n m → IsFirst (l.entity, l.member) (n, m)
