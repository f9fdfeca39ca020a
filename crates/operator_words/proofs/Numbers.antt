-- A number has one spelling in decimal.
use Rattle.std.proofs.Common.{◌≡◌, ℕ, ◌<◌, ◌≤◌, ◌^◌, List, sym, ◌∙◌, arith}
use Rattle.std.specs.Fmt.{decimal}
use Rattle.std.proofs.lemmas.Fmt.{decimal_injective}

pub one_number : (m n : ℕ) → m < 2 ^ 64 → n < 2 ^ 64 → decimal m ≡ decimal n → m ≡ n
one_number m n hm hn e = decimal_injective m n hm hn e

-- a word that spells a number past the limit spells none below it
pub not_below : (limit m n : ℕ) (word : List ℕ) → limit ≤ 2 ^ 64 → m < 2 ^ 64 → (m < limit → ⊥) → word ≡ decimal m
    → n < limit → word ≡ decimal n → ⊥
not_below limit m n word within fits past is below e =
    let same : m ≡ n = one_number m n fits (omega arith) (sym is ∙ e) in
    past (omega arith)

-- a word that spells no number spells none below the limit
pub none_below : (limit : ℕ) (word : List ℕ) → limit ≤ 2 ^ 64 → ((n : ℕ) → n < 2 ^ 64 → word ≡ decimal n → ⊥) → (n : ℕ) → n < limit → word ≡ decimal n → ⊥
none_below limit word within none n below e = none n (omega arith) e
