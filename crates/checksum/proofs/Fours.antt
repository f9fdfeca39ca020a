-- Bytes taken four at a time.
use Rattle.std.proofs.Common.{◌≡◌, ℕ, zero, suc, ◌+◌, ◌*◌, ◌<◌, List, [], ◌∷◌, length, drop, get_or, refl, sym, ap, ◌∙◌, arith}

dropped : (xs : List ℕ) (i : ℕ) → i < length xs → drop i xs ≡ get_or xs i 0 ∷ drop (i + 1) xs
dropped [] i h = absurd (omega arith)
dropped (x ∷ xs) zero h = refl
dropped (x ∷ xs) (suc i) h =
    let next : suc i + 1 ≡ suc (i + 1) = omega arith in
    dropped xs i (omega arith) ∙ ap (λ k. get_or xs i 0 ∷ drop k (x ∷ xs)) (sym next)

pub four_dropped : (xs : List ℕ) (k : ℕ) → k * 4 + 3 < length xs
    → drop (k * 4) xs ≡ get_or xs (k * 4) 0 ∷ get_or xs (k * 4 + 1) 0 ∷ get_or xs (k * 4 + 2) 0 ∷ get_or xs (k * 4 + 3) 0 ∷ drop ((k + 1) * 4) xs
four_dropped xs k h =
    let second : k * 4 + 1 + 1 ≡ k * 4 + 2 = omega arith in
    let third : k * 4 + 2 + 1 ≡ k * 4 + 3 = omega arith in
    let last : k * 4 + 3 + 1 ≡ (k + 1) * 4 = omega arith in
    dropped xs (k * 4) (omega (arith, h))
    ∙ (ap (λ ys. get_or xs (k * 4) 0 ∷ ys) (dropped xs (k * 4 + 1) (omega (arith, h)))
    ∙ (ap (λ j. get_or xs (k * 4) 0 ∷ get_or xs (k * 4 + 1) 0 ∷ drop j xs) second
    ∙ (ap (λ ys. get_or xs (k * 4) 0 ∷ get_or xs (k * 4 + 1) 0 ∷ ys) (dropped xs (k * 4 + 2) (omega (arith, h)))
    ∙ (ap (λ j. get_or xs (k * 4) 0 ∷ get_or xs (k * 4 + 1) 0 ∷ get_or xs (k * 4 + 2) 0 ∷ drop j xs) third
    ∙ (ap (λ ys. get_or xs (k * 4) 0 ∷ get_or xs (k * 4 + 1) 0 ∷ get_or xs (k * 4 + 2) 0 ∷ ys) (dropped xs (k * 4 + 3) h)
    ∙ ap (λ j. get_or xs (k * 4) 0 ∷ get_or xs (k * 4 + 1) 0 ∷ get_or xs (k * 4 + 2) 0 ∷ get_or xs (k * 4 + 3) 0 ∷ drop j xs) last)))))
