-- What words spell numbers.
use Rattle.std.proofs.Common.{◌≡◌, ◌≢◌, ℕ, ◌+◌, ◌*◌, ◌<◌, ◌^◌, ◌%◌, List, [], ◌∷◌, ◌++◌, refl, sym, ap, subst, ◌∙◌, arith, ◌⊎◌, inl, inr, suc, zero, lit<, length, get_or, take}
use Rattle.std.specs.Char.{digit_value}
use Rattle.std.specs.Int.{IsInRange}
use Rattle.std.specs.Fmt.{decimal}
use Rattle.std.specs.Str.Parse.{AllDigits, digits_value}
use Rattle.std.proofs.lemmas.Fmt.{decimal_nonempty, first_decimal, decimal_digit, decimal_by_steps, decimal-digits_value, digits_decimal, digits_value-decimal}
use Rattle.std.proofs.lemmas.Int.Digits.{digits_more, digits_value_more}
use Rattle.std.proofs.lemmas.Str.{digit_value_digit}
use Rattle.std.proofs.lemmas.Str.Parse.{IsNumeralModel, numerals_by_value, tells_digits, digit_at, digits_value-take-le}
use Rattle.script_line.specs.Words.{IsPlain, HasNoSpace}

own : IsNumeralModel (AllDigits 10) (digits_value 10)
own = numerals_by_value (AllDigits 10) tells_digits

zero_or_more : (n : ℕ) → (n ≡ 0) ⊎ (0 < n)
zero_or_more zero = inl refl
zero_or_more (suc k) = inr (omega arith)

plain_decimal : (n : ℕ) → n < 2 ^ 64 → (n ≡ 0) ⊎ (0 < n) → IsPlain (decimal n)
plain_decimal n fits (inl z) =
    let e : decimal n ≡ 48 ∷ [] = rw z (decimal_digit 0 (lit< tt)) in
    let at_zero : IsPlain (48 ∷ []) = (lit< tt, (λ k. absurd (omega (arith, k))), (λ _. refl)) in
    subst IsPlain (sym e) at_zero
plain_decimal n fits (inr more) =
    let first = first_decimal n more fits in
    (decimal_nonempty n fits, (λ k. omega (arith, k, first)), (λ k. absurd (omega (arith, k, first))))

pub IsPlain-decimal : (n : ℕ) (word : List ℕ) → n < 2 ^ 64 → word ≡ decimal n → IsPlain word
IsPlain-decimal n word fits e = subst IsPlain (sym e) (plain_decimal n fits (zero_or_more n))

-- the number so far, with one digit more
pub digits_so_far : (word : List ℕ) (i n m : ℕ) → i < length word → AllDigits 10 (take i word) → n ≡ digits_value 10 (take i word)
    → digit_value (get_or word i 0) < 10 → m ≡ n * 10 + digit_value (get_or word i 0)
    → AllDigits 10 (take (i + 1) word) × (m ≡ digits_value 10 (take (i + 1) word))
digits_so_far word i n m within digits value digit more = (
  digits_more 10 word i within digits digit,
  omega (arith, digits_value_more 10 word i within),
)

-- where the next byte is no digit, or is one by which the number does not fit, the word spells no number
pub no_decimal : (word : List ℕ) (i n : ℕ) → i < length word → n ≡ digits_value 10 (take i word)
    → (((digit_value (get_or word i 0) < 10) × (n * 10 + digit_value (get_or word i 0) < 2 ^ 64)) → ⊥)
    → (m : ℕ) → m < 2 ^ 64 → word ≡ decimal m → ⊥
no_decimal word i n within value none m fits e =
    let digits : AllDigits 10 word = subst (AllDigits 10) (sym e) (digits_decimal own m fits) in
    let range : IsInRange 48 57 (get_or word i 0) = digit_at word i digits within in
    let digit = digit_value_digit (get_or word i 0) range in
    let whole : digits_value 10 word ≡ m = ap (digits_value 10) e ∙ digits_value-decimal own m fits in
    none (
      omega (arith, digit, range.0, range.1),
      omega (arith, digits_value-take-le 10 word (i + 1) (omega arith), digits_value_more 10 word i within),
    )

-- a plain word of digits spells their value
pub whole_decimal : (word : List ℕ) (n : ℕ) → IsPlain word → AllDigits 10 word → n ≡ digits_value 10 word → n < 2 ^ 64 → word ≡ decimal n
whole_decimal word n plain digits value fits =
    sym (decimal-digits_value own word digits plain.0 plain.2 (omega arith)) ∙ ap decimal (sym value)

pub HasNoSpace-push : (c : ℕ) (cs : List ℕ) → HasNoSpace cs → c ≢ 32 → HasNoSpace (cs ++ (c ∷ []))
HasNoSpace-push c [] h k = (k, tt)
HasNoSpace-push c (x ∷ xs) h k = (h.0, HasNoSpace-push c xs h.1 k)

pub HasNoSpace-decimal : (n : ℕ) → n < 2 ^ 64 → HasNoSpace (decimal n)
HasNoSpace-decimal n fits = decimal_by_steps (λ _ ds. HasNoSpace ds)
    (λ m small. (omega arith, tt))
    (λ m ds big h. HasNoSpace-push (48 + m % 10) ds h (omega arith))
    n fits
