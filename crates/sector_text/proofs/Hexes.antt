-- The text of sectors, a sector at a time.
use Rattle.std.proofs.Common.{◌≡◌, ℕ, suc, ◌/◌, ◌≤◌, ◌<◌, List, [], ◌∷◌, ◌++◌, length, take, drop, refl, sym, ap, ◌∙◌, arith, append_assoc, append-nil, length-drop}
use Rattle.sector_text.specs.Hex.{hex_of, hex_words}

no_words : (n : ℕ) (bytes : List ℕ) → n ≡ 0 → hex_words n bytes ≡ []
unfolding hex_words
no_words n bytes e = rw e refl

more_words : (n m : ℕ) (bytes : List ℕ) → n ≡ suc m → hex_words n bytes ≡ 32 ∷ (hex_of (take 512 bytes) ++ hex_words m (drop 512 bytes))
unfolding hex_words
more_words n m bytes e = rw e refl

counted : (bytes : List ℕ) → 512 ≤ length bytes → length bytes / 512 ≡ suc (length (drop 512 bytes) / 512)
counted bytes h = omega (arith, length-drop 512 bytes)

-- a sector more is appended
pub one_more : (before after whole rest sector others : List ℕ) → 512 ≤ length rest → sector ≡ take 512 rest → others ≡ drop 512 rest
    → after ≡ (before ++ (32 ∷ [])) ++ hex_of sector → before ++ hex_words (length rest / 512) rest ≡ whole
    → after ++ hex_words (length others / 512) others ≡ whole
one_more before after whole rest sector others long front back is so_far =
    let words : hex_words (length rest / 512) rest ≡ 32 ∷ (hex_of sector ++ hex_words (length others / 512) others)
    = rw (front, back) (more_words (length rest / 512) (length (drop 512 rest) / 512) rest (counted rest long)) in
    let joined : after ++ hex_words (length others / 512) others ≡ before ++ (32 ∷ (hex_of sector ++ hex_words (length others / 512) others))
    = rw is (simp append_assoc) in
    joined ∙ ap (λ ys. before ++ ys) (sym words) ∙ so_far

-- no whole sector is left
pub all_told : (out whole rest : List ℕ) → length rest < 512 → out ++ hex_words (length rest / 512) rest ≡ whole → out ≡ whole
all_told out whole rest short so_far =
    let none : hex_words (length rest / 512) rest ≡ [] = no_words (length rest / 512) rest (omega arith) in
    sym (append-nil out) ∙ ap (λ ys. out ++ ys) (sym none) ∙ so_far
