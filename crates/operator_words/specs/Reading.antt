-- What words, and a word that is a number, are read to.
use Rattle.std.specs.Prelude.{◌≡◌, ℕ, ◌<◌, List, Option, MatchOption}
use Rattle.std.specs.Fmt.{decimal}
use Rattle.host_calls.specs.declared.operator.OperatorCall.{OperatorCall}
use Rattle.operator_words.specs.Words.{words_of, Fits}

-- the call that has these words, or none if no call has them (our format)
abbrev pub Reads : List (List ℕ) → Option OperatorCall → Type 0
Reads words found = MatchOption found
    ((call : OperatorCall) → Fits call → words ≡ words_of call → ⊥)
    (λ call. Fits call × (words ≡ words_of call))

-- the number below the limit that this word is in decimal, or none if it is none (our format)
abbrev pub IsNumberBelow : ℕ → List ℕ → Option ℕ → Type 0
IsNumberBelow limit word found = MatchOption found
    ((n : ℕ) → n < limit → word ≡ decimal n → ⊥)
    (λ n. (n < limit) × (word ≡ decimal n))
