-- The first stored sector from one on.
use Rattle.std.proofs.Common.{◌≡◌, ℕ, ◌+◌, ◌-◌, ◌/◌, ◌<◌, ◌≤◌, List, ◌∷◌, Option, Some, None, IsSome, IfSome, slice_get, false, refl, ap, sym, subst, inl, inr, arith}
use Rattle.std.proofs.lemmas.Bool.{cases_lt}
use Rattle.std.specs.Ordering.{nat_cmp, is_gt}
use Rattle.std.specs.Cmp.{nat_cmp_is}
use Rattle.std.specs.Map.{lookup}
use Rattle.std.specs.BTreeMap.{is_at}
use Rattle.std.specs.declared.cmp.Ordering.TheVariants.{Less, Equal}
use Rattle.plain.specs.Machine.{Blocks}
use Rattle.overlay.specs.Pages.{Pages, blocks_of}
use Rattle.plain.specs.Runs.{IsFree, IsStored}
use Rattle.overlay.proofs.Seen.{in_page}

-- a bound of numbers, as the tree compares them
pub not_gt : (a b : ℕ) → a ≤ b → is_gt (nat_cmp a b) ≡ false
not_gt a b h = elim (cases_lt a b) [
  | inl l ↦ ap is_gt (sym (nat_cmp_is a b Less l))
  | inr g ↦
      let same : a ≡ b = omega (arith, h, g) in
      ap is_gt (sym (nat_cmp_is a b Equal same))
]

-- what holds of the first entry holds of the one that stands there
pub of_first : {E : Type 0} (P : E → Type 0) (r rest : List E) (e : E) → r ≡ e ∷ rest → IfSome (slice_get r 0) P → P e
of_first P r rest e is h = subst (λ l. IfSome (slice_get l 0) P) is h

-- there is nothing where something would be absurd
pub free_unless : {X : Type 0} (o : Option X) → (IsSome o → ⊥) → o ≡ None
free_unless None f = refl
free_unless (Some x) f = absurd (f refl)

-- behind a page there is nothing where there is no page
pub free_behind : (es : Pages) (m : Blocks) → blocks_of es ≡ m
    → (q : ℕ) → lookup (is_at (nat_cmp (q / 8))) es ≡ None → IsFree m q
free_behind es m is q none = in_page es m (q / 8) None is (sym none) q refl

-- a run, and the sectors that follow it without a gap
pub more_stored : (m : Blocks) (start count more sector : ℕ) → sector ≡ start + count → ((k : ℕ) → k < count → IsStored m (start + k))
    → ((k : ℕ) → k < more → IsStored m (sector + k)) → (k : ℕ) → k < count + more → IsStored m (start + k)
more_stored m start count more sector is first then k below = elim (cases_lt k count) [
  | inl less ↦ first k less
  | inr reached ↦
      let same : sector + (k - count) ≡ start + k = omega (arith, is, reached) in
      subst (IsStored m) same (then (k - count) (omega (arith, below, reached)))
]
