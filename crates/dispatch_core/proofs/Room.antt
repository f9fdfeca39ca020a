-- A list of slots, each at most once, is no longer than the range that they are in.
use Rattle.std.proofs.Common.{◌≡◌, inl, inr, ℕ, zero, suc, ◌+◌, ◌<◌, ◌≤◌, List, [], ◌∷◌, length, ap, ◌∙◌, arith}
use Rattle.std.specs.Prelude.{All}
use Rattle.std.proofs.lemmas.Bool.{cases_eq}
use Rattle.std.proofs.lemmas.List.Elements.{All-head, All-tail}
use Rattle.dispatch_core.specs.WellFormed.{times}
use Rattle.dispatch_core.proofs.Times.{same, same_is, times-cons, Apart, Apart_from_times}

-- each slot stands in the list at most once
abbrev pub Distinct : List ℕ → Type 0
Distinct xs = (q : ℕ) → times q xs ≤ 1

-- the first element stands nowhere in the rest
pub Distinct-head : (x : ℕ) (xs : List ℕ) → Distinct (x ∷ xs) → Apart x xs
Distinct-head x xs h = Apart_from_times x xs (omega (arith, h x, times-cons x x xs, same_is x))

-- the rest of such a list is one too
pub Distinct-tail : (x : ℕ) (xs : List ℕ) → Distinct (x ∷ xs) → Distinct xs
Distinct-tail x xs h q = omega (arith, h q, times-cons q x xs)

-- how often the slots of a range stand in the list
abbrev span : ℕ → ℕ → List ℕ → ℕ
span lo zero xs = 0
span lo (suc n) xs = times (lo + n) xs + span lo n xs

-- an element more in the list counts no less
span-cons-le : (lo n x : ℕ) (xs : List ℕ) → span lo n xs ≤ span lo n (x ∷ xs)
span-cons-le lo zero x xs = omega arith
span-cons-le lo (suc n) x xs = omega (arith, span-cons-le lo n x xs, times-cons (lo + n) x xs)

-- and one of the range counts one more
span-cons : (lo n x : ℕ) (xs : List ℕ) → lo ≤ x → x < lo + n → 1 + span lo n xs ≤ span lo n (x ∷ xs)
span-cons lo zero x xs least most = absurd (omega arith)
span-cons lo (suc n) x xs least most = elim (cases_eq x (lo + n)) [
  | inl e ↦
      let s : same x (lo + n) ≡ 1 = ap (λ y. same y (lo + n)) e ∙ same_is (lo + n) in
      omega (arith, s, span-cons-le lo n x xs, times-cons (lo + n) x xs)
  | inr other ↦ omega (arith, span-cons lo n x xs least (omega arith), times-cons (lo + n) x xs)
]

-- a list within the range has as many elements as are counted
length-span : (lo n : ℕ) (xs : List ℕ) → All (λ x. (lo ≤ x) × (x < lo + n)) xs → length xs ≤ span lo n xs
length-span lo n [] h = omega arith
length-span lo n (x ∷ xs) h =
    let here = All-head (λ y. (lo ≤ y) × (y < lo + n)) x xs h in
    let rest = length-span lo n xs (All-tail (λ y. (lo ≤ y) × (y < lo + n)) x xs h) in
    omega (arith, rest, span-cons lo n x xs here.0 here.1)

-- each slot of the range counts once at most
span-few : (lo n : ℕ) (xs : List ℕ) → Distinct xs → span lo n xs ≤ n
span-few lo zero xs h = omega arith
span-few lo (suc n) xs h = omega (arith, h (lo + n), span-few lo n xs h)

-- so the list is no longer than the range
pub room : (lo n : ℕ) (xs : List ℕ) → Distinct xs → All (λ x. (lo ≤ x) × (x < lo + n)) xs → length xs ≤ n
room lo n xs few h = omega (arith, length-span lo n xs h, span-few lo n xs few)
