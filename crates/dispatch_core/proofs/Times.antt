-- How often a slot stands in a list of slots, and what a table has at such slots.
use Rattle.std.proofs.Common.{◌≡◌, ◌⊎◌, inl, inr, ℕ, ◌+◌, ◌<◌, ◌≤◌, List, [], ◌∷◌, ◌++◌, cond, eqb, Option, Some, None, length, get_or, set, refl, ap, ◌∙◌, arith}
use Rattle.std.specs.Prelude.{All}
use Rattle.std.specs.List.{filter_map}
use Rattle.std.proofs.lemmas.Bool.{cases_eq, cases_lt, eq-eqb, ne_eqb}
use Rattle.std.proofs.lemmas.List.{get_or-set_same, get_or-set_other, get_or_past}
use Rattle.std.proofs.lemmas.List.Sums.{sum_by-cons, sum_by-append, get_or-le-sum_by}
use Rattle.std.proofs.lemmas.List.Elements.{All-nil, All-cons, All-head, All-tail}
use Rattle.dispatch_core.proofs.Words.{Bio, bios_at, at, times}

-- one where two slots are the same
abbrev pub same : ℕ → ℕ → ℕ
same x s = cond (eqb x s) 1 0

-- a slot is itself
pub same_is : (s : ℕ) → same s s ≡ 1
same_is s = ap (λ b. cond b 1 0) (eq-eqb s s refl)

-- two slots that differ are not the same
pub same_not : (x s : ℕ) → (x ≡ s → ⊥) → same x s ≡ 0
same_not x s apart = ap (λ b. cond b 1 0) (ne_eqb x s apart)

-- how often a slot stands in a list with one more at its head
pub times-cons : (s x : ℕ) (xs : List ℕ) → times s (x ∷ xs) ≡ same x s + times s xs
times-cons s x xs = sum_by-cons (λ y. same y s) x xs

-- and in two lists one after the other
pub times-append : (s : ℕ) (xs ys : List ℕ) → times s (xs ++ ys) ≡ times s xs + times s ys
times-append s xs ys = sum_by-append (λ y. same y s) xs ys

-- no element of the list is the slot
abbrev pub Apart : ℕ → List ℕ → Type 0
Apart s xs = All (λ x. x ≡ s → ⊥) xs

-- a slot that stands nowhere in a list is none of its elements
pub Apart_from_times : (s : ℕ) (xs : List ℕ) → times s xs ≡ 0 → Apart s xs
Apart_from_times s [] e = All-nil (λ x. x ≡ s → ⊥)
Apart_from_times s (x ∷ xs) e =
    let other : x ≡ s → ⊥ = λ p. absurd (omega (arith, e, times-cons s x xs, ap (λ y. same y s) p, same_is s)) in
    All-cons (λ y. y ≡ s → ⊥) x xs other (Apart_from_times s xs (omega (arith, e, times-cons s x xs)))

-- each element stands in its list
pub times_here : (xs : List ℕ) (k d : ℕ) → k < length xs → 1 ≤ times (get_or xs k d) xs
times_here xs k d lt = omega (arith, get_or-le-sum_by (λ y. same y (get_or xs k d)) xs k d lt, same_is (get_or xs k d))

-- what a table has at a place after another was put somewhere
pub set_cases : {A : Type 0} (xs : List (Option A)) (k j : ℕ) (v : Option A) → k < length xs
    → ((j ≡ k) × (at (set xs k v) j ≡ v)) ⊎ ((j ≡ k → ⊥) × (at (set xs k v) j ≡ at xs j))
set_cases xs k j v within = elim (cases_eq j k) [
  | inl e ↦ inl (e, ap (at (set xs k v)) e ∙ get_or-set_same xs k v None within)
  | inr apart ↦ inr (apart, get_or-set_other xs k j v None apart)
]

-- a taken place is within its table
pub at_within : {A : Type 0} (xs : List (Option A)) (k : ℕ) (a : A) → at xs k ≡ Some a → k < length xs
at_within xs k a h = elim (cases_lt k (length xs)) [ inl within ↦ within | inr past ↦ let none = get_or_past xs k None past in absurd cc ]

-- lists of bios whose slots have the same in both tables
pub filter_map_same : {X Y : Type 0} (f g : X → Option Y) (xs : List X) → All (λ x. f x ≡ g x) xs → filter_map f xs ≡ filter_map g xs
filter_map_same f g [] h = refl
filter_map_same f g (x ∷ xs) h =
    let here = All-head (λ y. f y ≡ g y) x xs h in
    let rest = filter_map_same f g xs (All-tail (λ y. f y ≡ g y) x xs h) in
    rw (here, rest) refl

-- a list of bios stays where another slot is written
pub bios_at-set : (bios : List (Option Bio)) (place : ℕ) (v : Option Bio) (xs : List ℕ) → Apart place xs → bios_at (set bios place v) xs ≡ bios_at bios xs
bios_at-set bios place v xs apart =
    filter_map_same (at (set bios place v)) (at bios) xs (λ k d h. get_or-set_other bios place (get_or xs k d) v None (apart k d h))
