-- Counting: the places of a table, the slots of a list, the lengths of the queues.
use Rattle.std.proofs.Common.{◌≡◌, inl, inr, ℕ, zero, suc, ◌+◌, ◌<◌, ◌≤◌, List, [], ◌∷◌, length, Option, Some, None, Bool, true, false, cond, is_some, IsSome, ◌==◌, sum_by, count_by, set, nat_lt, refl, sym, ap, ◌∙◌, arith, eq-eqb, ne_eqb}
use Rattle.std.proofs.lemmas.Bool.{cases_eq, cond-true, cond-false}
use Rattle.std.proofs.lemmas.List.Sums.{sum_by-cons, sum_by-set, count_by-le-length}
use Rattle.dispatch_core.proofs.Words.{Link, insert_in, placed, numbers, at, one}
use Rattle.dispatch_core.specs.WellFormed.{taken}

-- terms that agree on a list have one sum
pub sum_agree : {A : Type 0} (f g : A → ℕ) (xs : List A) → ((x : A) → f x ≡ g x) → sum_by f xs ≡ sum_by g xs
sum_agree f g [] h = refl
sum_agree f g (x ∷ xs) h = sum_by-cons f x xs ∙ ap (λ n. n + sum_by f xs) (h x) ∙ ap (λ n. g x + n) (sum_agree f g xs h) ∙ sym (sum_by-cons g x xs)

-- a sum of sums is the sum of both
sum_both : {A : Type 0} (f g : A → ℕ) (xs : List A) → sum_by (λ x. f x + g x) xs ≡ sum_by f xs + sum_by g xs
sum_both f g [] = refl
sum_both f g (x ∷ xs) = omega (arith, sum_by-cons (λ x. f x + g x) x xs, sum_by-cons f x xs, sum_by-cons g x xs, sum_both f g xs)

-- a number below the first of a run is none of it
sum_below : (k from count : ℕ) → k < from → sum_by (λ s. cond (k == s) 1 0) (numbers from count) ≡ 0
sum_below k from zero h = refl
sum_below k from (suc count) h =
    let f : ℕ → ℕ = λ s. cond (k == s) 1 0 in
    let e : f from ≡ 0 = cond-false (k == from) 1 0 (ne_eqb k from (λ e. omega arith)) in
    omega (arith, sum_by-cons f from (numbers (from + 1) count), e, sum_below k (from + 1) count (omega arith))

-- a number of a run stands in it once
sum_once : (k from count : ℕ) → from ≤ k → k < from + count → sum_by (λ s. cond (k == s) 1 0) (numbers from count) ≡ 1
sum_once k from zero lo hi = absurd (omega arith)
sum_once k from (suc count) lo hi =
    let f : ℕ → ℕ = λ s. cond (k == s) 1 0 in
    elim (cases_eq k from) [
      | inl e ↦
          let g : f from ≡ 1 = cond-true (k == from) 1 0 (eq-eqb k from e) in
          omega (arith, sum_by-cons f from (numbers (from + 1) count), g, sum_below k (from + 1) count (omega arith))
      | inr ne ↦
          let g : f from ≡ 0 = cond-false (k == from) 1 0 (ne_eqb k from ne) in
          omega (arith, sum_by-cons f from (numbers (from + 1) count), g, sum_once k (from + 1) count (omega arith) (omega arith))
    ]

-- an entry makes a list longer by one
pub length-insert_in : (e : ℕ × ℕ) (xs : List (ℕ × ℕ)) → length (insert_in e xs) ≡ length xs + 1
length-insert_in e [] = refl
length-insert_in e (x ∷ xs) = elim (nat_lt x.0 e.0) as (λ b. length (cond b (x ∷ insert_in e xs) (e ∷ x ∷ xs)) ≡ suc (length xs) + 1) [
  | true ↦ omega (arith, length-insert_in e xs)
  | false ↦ omega arith
]

-- the same where the entry may be of another seat
length-put : (b : Bool) (e : ℕ × ℕ) (xs : List (ℕ × ℕ)) → length (cond b (insert_in e xs) xs) ≡ length xs + cond b 1 0
length-put true e xs = length-insert_in e xs
length-put false e xs = omega arith

-- a sum of noughts is nought
sum_none : {A : Type 0} (xs : List A) → sum_by (λ x. 0) xs ≡ 0
sum_none [] = refl
sum_none (x ∷ xs) = omega (arith, sum_by-cons (λ x. 0) x xs, sum_none xs)

-- a taken place counts one
last_step : (l : Link) (links : List (Option Link)) → taken links + 1 ≡ taken (Some l ∷ links)
last_step l links = omega (arith, sum_by-cons (λ (v : Option Link). cond (is_some v) 1 0) (Some l) links)

-- the lengths of the queues are together the number of the links
pub lengths_from : (count base : ℕ) (links : List (Option Link)) → ((k : ℕ) (l : Link) → at links k ≡ Some l → l.seat < count)
    → sum_by (λ s. length (placed s base links)) (numbers 0 count) ≡ taken links
lengths_from count base [] h = sum_none (numbers 0 count)
lengths_from count base (None ∷ links) h = lengths_from count (base + 1) links (λ k l e. h (suc k) l e)
lengths_from count base (Some l ∷ links) h =
    let within : l.seat < count = h zero l refl in
    let ih : sum_by (λ s. length (placed s (base + 1) links)) (numbers 0 count) ≡ taken links = lengths_from count (base + 1) links (λ k m e. h (suc k) m e) in
    sum_agree _ (λ s. length (placed s (base + 1) links) + cond (l.seat == s) 1 0) (numbers 0 count) (λ s. length-put (l.seat == s) (l.serial, base) (placed s (base + 1) links))
    ∙ sum_both (λ s. length (placed s (base + 1) links)) (λ s. cond (l.seat == s) 1 0) (numbers 0 count)
    ∙ ap (λ n. n + sum_by (λ s. cond (l.seat == s) 1 0) (numbers 0 count)) ih
    ∙ ap (λ n. taken links + n) (sum_once l.seat 0 count (omega arith) (omega arith))
    ∙ last_step l links

-- the places of a table are counted by their numbers
pub count_numbers : {A : Type 0} (f : ℕ → Bool) (from : ℕ) (xs : List (Option A)) → ((k : ℕ) → f (from + k) ≡ is_some (at xs k)) → count_by f (numbers from (length xs)) ≡ taken xs
count_numbers f from [] h = refl
count_numbers f from (x ∷ xs) h =
    let e : from + zero ≡ from = omega arith in
    let first : f from ≡ is_some x = sym (ap f e) ∙ h zero in
    let ih : count_by f (numbers (from + 1) (length xs)) ≡ taken xs = count_numbers f (from + 1) xs (λ k. let g : from + 1 + k ≡ from + suc k = omega arith in ap f g ∙ h (suc k)) in
    sum_by-cons (λ k. cond (f k) 1 0) from (numbers (from + 1) (length xs))
    ∙ ap (λ b. cond b 1 0 + count_by f (numbers (from + 1) (length xs))) first
    ∙ ap (λ n. cond (is_some x) 1 0 + n) ih
    ∙ sym (sum_by-cons (λ v. cond (is_some v) 1 0) x xs)

-- a place counts at most once
pub one-le : {A : Type 0} (x : Option A) → one x ≤ 1
one-le None = omega arith
one-le (Some v) = omega arith

-- a table with no free place has as many taken places as it is long
pub taken_all : {A : Type 0} (xs : List (Option A)) → ((k : ℕ) → k < length xs → IsSome (at xs k)) → taken xs ≡ length xs
taken_all [] h = refl
taken_all (x ∷ xs) h =
    let here : one x ≡ 1 = ap (λ b. cond b 1 0) (h zero (omega arith)) in
    omega (arith, sum_by-cons (λ v. cond (is_some v) 1 0) x xs, here, taken_all xs (λ k l. h (suc k) (omega arith)))

-- a table with a free place has fewer
pub taken_less : {A : Type 0} (xs : List (Option A)) (k : ℕ) → k < length xs → at xs k ≡ None → taken xs < length xs
taken_less [] k h e = absurd (omega arith)
taken_less (x ∷ xs) zero h e =
    let here : one x ≡ 0 = ap one e in
    omega (arith, sum_by-cons (λ v. cond (is_some v) 1 0) x xs, here, count_by-le-length (λ v. is_some v) xs)
taken_less (x ∷ xs) (suc k) h e =
    let here : one x ≤ 1 = one-le x in
    omega (arith, sum_by-cons (λ v. cond (is_some v) 1 0) x xs, here, taken_less xs k (omega arith) e)

-- a place that is set is counted as what is put there
pub taken-set : {A : Type 0} (xs : List (Option A)) (i : ℕ) (v : Option A) → i < length xs → taken (set xs i v) + one (at xs i) ≡ taken xs + one v
taken-set xs i v h = sum_by-set (λ v. cond (is_some v) 1 0) xs i v None h
