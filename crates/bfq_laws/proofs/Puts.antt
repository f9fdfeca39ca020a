-- What is found, and sums that are 0.
use Rattle.std.proofs.Common.{true, false, Bool, ◌≡◌, inl, inr, ℕ, zero, suc, ◌+◌, ◌<◌, ◌≤◌, List, [], ◌∷◌, map, sum, All, Some, cond, ap, ◌∙◌, subst, arith}
use Rattle.std.specs.List.{find}
use Rattle.std.proofs.lemmas.Bool.{cases_eq}
use Rattle.std.proofs.lemmas.List.Elements.{All-head, All-tail}
use Rattle.std.proofs.lemmas.List.Sums.{sum_by-cons}
use Rattle.plain.specs.Lists.{numbers}
use Rattle.plain_laws.proofs.Puts.{some_is}

-- what holds of all holds of one that is found
pub All-find : {A : Type 0} (P : A → Type 0) (passes : A → Bool) (xs : List A) (x : A) → find passes xs ≡ Some x → All P xs → P x
All-find P passes [] x e h = cc
All-find P passes (y ∷ ys) x e h = elim (passes y) as (λ b. cond b (Some y) (find passes ys) ≡ Some x → P x) [
  | true ↦ λ here. subst P (some_is y x here) (All-head P y ys h)
  | false ↦ λ later. All-find P passes ys x later (All-tail P y ys h)
] e

-- who is found among some numbers is one of them
pub find-within : (passes : ℕ → Bool) (from count x : ℕ) → find passes (numbers from count) ≡ Some x → (from ≤ x) × (x < from + count)
find-within passes from zero x e = cc
find-within passes from (suc count) x e = elim (passes from) as (λ t. cond t (Some from) (find passes (numbers (from + 1) count)) ≡ Some x → (from ≤ x) × (x < from + suc count)) [
  | true ↦ λ f. let same : from ≡ x = some_is from x f in (omega (arith, same), omega (arith, same))
  | false ↦ λ f. let r = find-within passes (from + 1) count x f in let low : from + 1 ≤ x = r.0 in let high : x < from + 1 + count = r.1 in (omega (arith, low), omega (arith, high))
] e

-- where a sum is 0 each term is
pub sum-none : (f : ℕ → ℕ) (from count e : ℕ) → sum (map f (numbers from count)) ≡ 0 → from ≤ e → e < from + count → f e ≡ 0
sum-none f from zero e none low high = absurd (omega (arith, low, high))
sum-none f from (suc count) e none low high =
    let terms : List ℕ = map f (numbers (from + 1) count) in
    let all : sum (f from ∷ terms) ≡ f from + sum terms = sum_by-cons (λ x. x) (f from) terms in
    let rest : sum terms ≡ 0 = omega (arith, all, none) in
    let first : f from ≡ 0 = omega (arith, all, none) in
    elim (cases_eq e from) [
      | inl same ↦ ap f same ∙ first
      | inr other ↦ sum-none f (from + 1) count e rest (omega (arith, low, other)) (omega (arith, high))
    ]
