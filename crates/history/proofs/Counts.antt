-- How many exchanges some steps have.
use Rattle.std.proofs.Common.{◌≡◌, ℕ, zero, suc, ◌+◌, ◌<◌, ◌≤◌, List, [], ◌∷◌, take, get_or, refl, ap, ◌∙◌, arith}
use Rattle.std.specs.List.{sum, fold}
use Rattle.history.specs.Turns.{changes_of}

add-start : (a : ℕ) (l : List ℕ) → fold ◌+◌ a l ≡ a + sum l
add-start a [] = omega arith
add-start a (x ∷ l) = let h = add-start (a + x) l in let k = add-start (0 + x) l in omega (arith, h, k)

pub changes-more : (lengths : List ℕ) (from n : ℕ) → changes_of lengths from (suc n) ≡ get_or lengths from 0 + changes_of lengths (suc from) n
changes-more [] zero zero = refl
changes-more [] zero (suc n) = refl
changes-more [] (suc from) zero = refl
changes-more [] (suc from) (suc n) = refl
changes-more (x ∷ lengths) zero n = add-start (0 + x) (take n lengths) ∙ omega arith
changes-more (x ∷ lengths) (suc from) n = changes-more lengths from n

-- the lists before one and that one are among all
pub changes-within : (lengths : List ℕ) (from done n : ℕ) → done < n → changes_of lengths from done + get_or lengths (from + done) 0 ≤ changes_of lengths from n
changes-within lengths from zero zero lt = absurd (omega (arith, lt))
changes-within lengths from (suc done) zero lt = absurd (omega (arith, lt))
changes-within lengths from zero (suc n) lt =
    let here : get_or lengths (from + 0) 0 ≡ get_or lengths from 0 = ap (λ k. get_or lengths k 0) (omega arith) in
    let all = changes-more lengths from n in
    omega (arith, here, all)
changes-within lengths from (suc done) (suc n) lt =
    let here : get_or lengths (from + suc done) 0 ≡ get_or lengths (suc from + done) 0 = ap (λ k. get_or lengths k 0) (omega arith) in
    let front = changes-more lengths from done in
    let all = changes-more lengths from n in
    let within = changes-within lengths (suc from) done n (omega (arith, lt)) in
    omega (arith, here, front, all, within)
