-- What is read at a place that may not be there.
use Rattle.std.specs.Prelude.{slice_get}
use Rattle.std.proofs.Common.{◌≡◌, ℕ, zero, suc, List, [], ◌∷◌, Option, Some, None, slice_index_or, refl, sym, ap, ◌∙◌}
use Rattle.plain.specs.declared.member.Member.{Member}
use Rattle.plain.specs.Classes.{Classes, same_times}
use Rattle.change_record.specs.Tables.{Tables}
use Rattle.change_record.specs.Exchange.{tree_at}

-- where there is no such place, the default
pub looked_none : {A : Type 0} (xs : List A) (i : ℕ) (d : A) → slice_get xs i ≡ None → slice_index_or xs i d ≡ d
looked_none [] i d e = refl
looked_none (x ∷ xs) zero d e = cc
looked_none (x ∷ xs) (suc i) d e = looked_none xs i d e

-- where there is one, what stands there
pub looked_some : {A : Type 0} (xs : List A) (i : ℕ) (d y : A) → slice_get xs i ≡ Some y → slice_index_or xs i d ≡ y
looked_some [] i d y e = cc
looked_some (x ∷ xs) zero d y e = cc
looked_some (x ∷ xs) (suc i) d y e = looked_some xs i d y e

-- what stands at an entity's place in the tree of a group that is there
pub looked_in : (t : Tables) (group entity : ℕ) (tree : Classes) (o p : Option Member) → slice_get t.trees group ≡ Some tree → o ≡ slice_index_or tree.members entity None → o ≡ p
    → slice_index_or (tree_at t group).members entity None ≡ p
looked_in t group entity tree o p found read is =
    ap (λ (s : Classes). slice_index_or s.members entity None) (looked_some t.trees group (record { vtimes = same_times 0; members = [] }) tree found) ∙ sym read ∙ is
