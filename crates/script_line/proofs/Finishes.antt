-- What a line that begins with the word `finish` can be.
use Rattle.std.proofs.Common.{◌≡◌, ℕ, ◌<◌, ◌^◌, List, [], ◌∷◌, ◌++◌, codes, refl, sym, ◌∙◌, ap, arith, append_assoc, get_or, take, drop, take-append-drop}
use Rattle.std.specs.Fmt.{decimal}
use Rattle.script_line.specs.Words.{IsTail, numbers}
use Rattle.script_line.specs.Line.{spelled, ended, Fits, EndingFits}
use Rattle.script_line.specs.declared.line.Line.{Line}
use Rattle.script_line.specs.declared.line.Line.TheVariants.{Finish}
use Rattle.script_line.specs.declared.line.Ending.{Ending}
use Rattle.script_line.specs.declared.line.Ending.TheVariants.{Stored, Fill, Short, Fault}
use Rattle.script_line.proofs.Cuts.{one_number}

pub two_numbers : (m n : ℕ) (rest : List ℕ) → numbers (m ∷ n ∷ []) ++ rest ≡ 32 ∷ (decimal m ++ (32 ∷ (decimal n ++ rest)))
two_numbers m n rest = simp append_assoc

pub only_finish : (text : List ℕ)
    → ((tag issue : ℕ) (e : Ending) → tag < 2 ^ 8 → issue < 2 ^ 64 → EndingFits e → text ≡ 32 ∷ (decimal tag ++ (32 ∷ (decimal issue ++ ended e))) → ⊥)
    → (l : Line) → Fits l → spelled l ≡ codes "finish" ++ text → ⊥
only_finish text none (Finish tag issue e) fits same =
    let after : numbers (tag ∷ issue ∷ []) ++ ended e ≡ text = cc in
    none tag issue e fits.0 fits.1 fits.2 (sym after ∙ two_numbers tag issue (ended e))
only_finish text none _ fits same = omega (arith, ap (λ xs. get_or xs 0 0) same, ap (λ xs. get_or xs 1 0) same)

pub IsTail-ended : (e : Ending) → IsTail (ended e)
IsTail-ended Stored = refl
IsTail-ended (Fill byte) = refl
IsTail-ended Short = refl
IsTail-ended Fault = refl

-- one number is the first of these two
pub first_number : (text rest last : List ℕ) (m n : ℕ) → m < 2 ^ 64 → n < 2 ^ 64 → IsTail rest → IsTail last
    → text ≡ 32 ∷ (decimal m ++ rest) → text ≡ 32 ∷ (decimal n ++ last) → (m ≡ n) × (rest ≡ last)
first_number text rest last m n hm hn hr hl e f =
    let same : decimal m ++ rest ≡ decimal n ++ last = cc in
    one_number m n rest last hm hn hr hl same

pub no_second : (text rest : List ℕ) (tag : ℕ) → tag < 2 ^ 64 → IsTail rest → text ≡ 32 ∷ (decimal tag ++ rest)
    → ((n : ℕ) (more : List ℕ) → n < 2 ^ 64 → IsTail more → rest ≡ 32 ∷ (decimal n ++ more) → ⊥)
    → (l : Line) → Fits l → spelled l ≡ codes "finish" ++ text → ⊥
no_second text rest tag ht hr e none = only_finish text (λ t i end ft fi fe same.
    let parts = first_number text rest (32 ∷ (decimal i ++ ended end)) tag t ht (omega arith) hr refl e same in
    none i (ended end) fi (IsTail-ended end) parts.1)

-- the tag, the issue and the ending are these
pub all_three : (text rest last : List ℕ) (tag issue t i : ℕ) (end : Ending)
    → tag < 2 ^ 64 → issue < 2 ^ 64 → IsTail rest → IsTail last
    → text ≡ 32 ∷ (decimal tag ++ rest) → rest ≡ 32 ∷ (decimal issue ++ last)
    → t < 2 ^ 8 → i < 2 ^ 64 → text ≡ 32 ∷ (decimal t ++ (32 ∷ (decimal i ++ ended end)))
    → (tag ≡ t) × (last ≡ ended end)
all_three text rest last tag issue t i end ht hi hr hl e f st si same =
    let first = first_number text rest (32 ∷ (decimal i ++ ended end)) tag t ht (omega arith) hr refl e same in
    let second = first_number rest last (ended end) issue i hi si hl (IsTail-ended end) f first.1 in
    (first.0, second.1)

pub no_ending : (text rest last : List ℕ) (tag issue : ℕ) → tag < 2 ^ 64 → issue < 2 ^ 64 → IsTail rest → IsTail last
    → text ≡ 32 ∷ (decimal tag ++ rest) → rest ≡ 32 ∷ (decimal issue ++ last)
    → ((e : Ending) → EndingFits e → last ≡ ended e → ⊥)
    → (l : Line) → Fits l → spelled l ≡ codes "finish" ++ text → ⊥
no_ending text rest last tag issue ht hi hr hl e f none = only_finish text (λ t i end ft fi fe same.
    none end fe (all_three text rest last tag issue t i end ht hi hr hl e f ft fi same).1)

pub no_tag : (text rest last : List ℕ) (tag issue : ℕ) → tag < 2 ^ 64 → issue < 2 ^ 64 → IsTail rest → IsTail last
    → text ≡ 32 ∷ (decimal tag ++ rest) → rest ≡ 32 ∷ (decimal issue ++ last)
    → (tag < 2 ^ 8 → ⊥)
    → (l : Line) → Fits l → spelled l ≡ codes "finish" ++ text → ⊥
no_tag text rest last tag issue ht hi hr hl e f none = only_finish text (λ t i end ft fi fe same.
    let is = (all_three text rest last tag issue t i end ht hi hr hl e f ft fi same).0 in
    none (omega (arith, is)))

-- a text that is ` fill` and a byte, cut after ` fill`
pub filled : (text rest end : List ℕ) (n byte : ℕ) → text ≡ codes " fill" ++ rest → n < 2 ^ 64 → IsTail end
    → rest ≡ 32 ∷ (decimal n ++ end) → byte < 2 ^ 8 → text ≡ ended (Fill byte) → (n ≡ byte) × (end ≡ [])
filled text rest end n byte e hn he f hb same =
    let after : rest ≡ 32 ∷ (decimal byte ++ []) = cc in
    first_number rest end [] n byte hn (omega arith) he tt f after

pub front_of : (text word rest : List ℕ) → word ≡ take 5 text → rest ≡ drop 5 text → word ≡ codes " fill" → text ≡ codes " fill" ++ rest
front_of text word rest front back is = sym (take-append-drop 5 text) ∙ (let first : take 5 text ≡ codes " fill" = sym front ∙ is in cc)

pub not_empty : (xs : List ℕ) → xs ≡ [] → (xs ≡ [] → ⊥) → ⊥
not_empty xs e n = n e
