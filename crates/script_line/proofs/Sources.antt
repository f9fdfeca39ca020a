-- Lines that end at a sector of the payload, and all that end in more than numbers.
use Rattle.std.proofs.Common.{◌≡◌, ℕ, ◌+◌, ◌<◌, ◌^◌, inl, inr, List, [], ◌∷◌, ◌++◌, codes, length, refl, sym, ap, subst, ◌∙◌, arith, append_assoc}
use Rattle.std.specs.Prelude.{Option, None, Some, MatchOption, IfNone}
use Rattle.std.specs.Fmt.{decimal}
use Rattle.std.proofs.lemmas.Fmt.{decimal_injective}
use Rattle.script_line.specs.Words.{IsTail, AreNumbers, numbers, at_sector}
use Rattle.script_line.specs.Line.{Fits}
use Rattle.script_line.specs.Plain.{IsClassed, IsSourced, IsMarked, FitsOrNone}
use Rattle.script_line.specs.declared.line.Line.{Line}
use Rattle.script_line.specs.declared.line.Line.TheVariants.{ClassAttach, WriteFrom, ClassVtime}
use Rattle.script_line.proofs.Cuts.{mark, split_numbers, IsTail-append}
use Rattle.script_line.proofs.Finishes.{first_number}
use Rattle.script_line.proofs.Named.{letter_first, ended_by, no_class_after, one_class_line}

-- A sector after numbers.

-- `@` is no first byte of a number
no_digit : (from n : ℕ) (rest : List ℕ) → n < 2 ^ 64 → at_sector from ≡ 32 ∷ (decimal n ++ rest) → ⊥
no_digit from n rest fits e =
    let after : 64 ∷ decimal from ≡ decimal n ++ rest = cc in
    let first : 64 < 58 = letter_first n rest (64 ∷ decimal from) fits after in
    omega (arith, first)

joined : (n : ℕ) (ns : List ℕ) (from : ℕ) → numbers (n ∷ ns) ++ at_sector from ≡ 32 ∷ (decimal n ++ (numbers ns ++ at_sector from))
joined n ns from = ap (λ ys. 32 ∷ ys) (append_assoc (decimal n) (numbers ns) (at_sector from))

no_numbers_at : (from : ℕ) (ms : List ℕ) → AreNumbers ms → at_sector from ≡ numbers ms → ⊥
no_numbers_at from [] fits e = cc
no_numbers_at from (m ∷ ms) fits e = no_digit from m (numbers ms) fits.0 e

-- numbers are not numbers and a sector of the payload
no_sector_after : (xs ns : List ℕ) (from : ℕ) → AreNumbers xs → AreNumbers ns → numbers xs ≡ numbers ns ++ at_sector from → ⊥
no_sector_after xs ns from hx hn e =
    let parts = split_numbers ns xs (at_sector from) hn hx refl (sym e) in
    no_numbers_at from parts.0 parts.3 parts.2

-- numbers and a sector of the payload are so in one way only
one_source : (ns ms : List ℕ) (f g : ℕ) → AreNumbers ns → AreNumbers ms → f < 2 ^ 64 → g < 2 ^ 64
    → numbers ns ++ at_sector f ≡ numbers ms ++ at_sector g → (ns ≡ ms) × (f ≡ g)
one_source [] [] f g hn hm hf hg e =
    let same : decimal f ≡ decimal g = cc in
    (refl, decimal_injective f g hf hg same)
one_source [] (m ∷ ms) f g hn hm hf hg e = absurd (no_digit f m (numbers ms ++ at_sector g) hm.0 (e ∙ joined m ms g))
one_source (n ∷ ns) [] f g hn hm hf hg e = absurd (no_digit g n (numbers ns ++ at_sector f) hn.0 (sym e ∙ joined n ns f))
one_source (n ∷ ns) (m ∷ ms) f g hn hm hf hg e =
    let both = first_number (numbers (n ∷ ns) ++ at_sector f) (numbers ns ++ at_sector f) (numbers ms ++ at_sector g) n m hn.0 hm.0
    (IsTail-append ns (at_sector f) refl) (IsTail-append ms (at_sector g) refl) (joined n ns f) (e ∙ joined m ms g) in
    let rest = one_source ns ms f g hn.1 hm.1 hf hg both.1 in
    let first : n ≡ m = both.0 in
    let others : ns ≡ ms = rest.0 in
    (cc, rest.1)

-- What is read to no such line.

-- a text that is not so many numbers and then a sector of the payload
abbrev pub NoSource : ℕ → List ℕ → Type 0
NoSource count text = (ns : List ℕ) (from : ℕ) → AreNumbers ns → length ns ≡ count → from < 2 ^ 64 → text ≡ numbers ns ++ at_sector from → ⊥

-- no number stands there
pub none_first : (count : ℕ) (text : List ℕ) → ((n : ℕ) (rest : List ℕ) → n < 2 ^ 64 → IsTail rest → text ≡ 32 ∷ (decimal n ++ rest) → ⊥)
    → NoSource (count + 1) text
none_first count text none [] from fits is small e = absurd (omega (arith, is))
none_first count text none (n ∷ ns) from fits is small e =
    none n (numbers ns ++ at_sector from) fits.0 (IsTail-append ns (at_sector from) refl) (e ∙ joined n ns from)

-- a number stands there, and after it are not so many
pub none_after : (count : ℕ) (text rest : List ℕ) (n : ℕ) → n < 2 ^ 64 → IsTail rest → text ≡ 32 ∷ (decimal n ++ rest)
    → NoSource count rest → NoSource (count + 1) text
none_after count text rest n fits tail whole none [] from hs is small e = absurd (omega (arith, is))
none_after count text rest n fits tail whole none (m ∷ ms) from hs is small e =
    let both = first_number text rest (numbers ms ++ at_sector from) n m fits hs.0 tail (IsTail-append ms (at_sector from) refl) whole (e ∙ joined m ms from) in
    none ms from hs.1 (omega (arith, is)) small both.1

-- no sector of the payload stands there
pub none_last : (text : List ℕ) → ((n : ℕ) → n < 2 ^ 64 → text ≡ at_sector n → ⊥) → NoSource 0 text
none_last text none [] from hs is small e = none from small e
none_last text none (n ∷ ns) from hs is small e = absurd (omega (arith, is))

no_sourced : (text : List ℕ) → NoSource 4 text → (l : Line) → Fits l → IsSourced text l → ⊥
no_sourced text none (WriteFrom s n a c from) f is =
    none (s ∷ n ∷ a ∷ c ∷ []) from (omega arith, (f.1, (f.2, (omega arith, tt)))) (omega arith) f.4 is
no_sourced text none _ f is = is

-- none is read
pub read_none : (text : List ℕ) (found : Option Line) → found ≡ None → NoSource 4 text
    → MatchOption found ((l : Line) → Fits l → IsSourced text l → ⊥) (λ l. Fits l × IsSourced text l)
read_none text found is none =
    let R : Option Line → Type 0 = λ f. MatchOption f ((l : Line) → Fits l → IsSourced text l → ⊥) (λ l. Fits l × IsSourced text l) in
    subst R (sym is) (no_sourced text none)

-- What is read to a line.

-- one number more, in front
pub more : (text rest : List ℕ) (n : ℕ) (ns : List ℕ) (from : ℕ) → text ≡ 32 ∷ (decimal n ++ rest) → rest ≡ numbers ns ++ at_sector from
    → text ≡ numbers (n ∷ ns) ++ at_sector from
more text rest n ns from whole is = whole ∙ ap (λ r. 32 ∷ (decimal n ++ r)) is ∙ sym (joined n ns from)

only_fitted : (text : List ℕ) (s n a c from : ℕ) → AreNumbers (s ∷ n ∷ a ∷ c ∷ []) → from < 2 ^ 64
    → text ≡ numbers (s ∷ n ∷ a ∷ c ∷ []) ++ at_sector from → (Fits (WriteFrom s n a c from) → ⊥)
    → (l : Line) → Fits l → IsSourced text l → ⊥
only_fitted text s n a c from hs small whole none (WriteFrom s' n' a' c' g) f is =
    let F : Line → Type 0 = λ x. Fits x in
    let both = one_source (s' ∷ n' ∷ a' ∷ c' ∷ []) (s ∷ n ∷ a ∷ c ∷ []) g from (omega arith, (f.1, (f.2, (omega arith, tt)))) hs f.4 small (sym is ∙ whole) in
    let given : s' ∷ n' ∷ a' ∷ c' ∷ [] ≡ s ∷ n ∷ a ∷ c ∷ [] = both.0 in
    let sector : g ≡ from = both.1 in
    let same : WriteFrom s' n' a' c' g ≡ WriteFrom s n a c from = cc in
    none (subst F same f)
only_fitted text s n a c from hs small whole none _ f is = is

-- four numbers and a sector of the payload, where the numbers fit
pub sourced_fitted : (text : List ℕ) (s n a c from : ℕ) (found : Option Line) → AreNumbers (s ∷ n ∷ a ∷ c ∷ []) → from < 2 ^ 64
    → text ≡ numbers (s ∷ n ∷ a ∷ c ∷ []) ++ at_sector from → FitsOrNone (WriteFrom s n a c from) found
    → MatchOption found ((l : Line) → Fits l → IsSourced text l → ⊥) (λ l. Fits l × IsSourced text l)
sourced_fitted text s n a c from None hs small whole h = only_fitted text s n a c from hs small whole h
sourced_fitted text s n a c from (Some l) hs small whole h =
    let R : Line → Type 0 = λ x. Fits x × IsSourced text x in
    subst R (sym h.1) (h.0, whole)

-- Lines that end in a class or at a sector of the payload.

one_sourced : (text : List ℕ) (l m : Line) → Fits l → Fits m → IsSourced text l → IsSourced text m → l ≡ m
one_sourced text (WriteFrom s n a c from) (WriteFrom s' n' a' c' g) f h one two =
    let both = one_source (s ∷ n ∷ a ∷ c ∷ []) (s' ∷ n' ∷ a' ∷ c' ∷ []) from g (omega arith, (f.1, (f.2, (omega arith, tt))))
    (omega arith, (h.1, (h.2, (omega arith, tt)))) f.4 h.4 (sym one ∙ two) in
    let given : s ∷ n ∷ a ∷ c ∷ [] ≡ s' ∷ n' ∷ a' ∷ c' ∷ [] = both.0 in
    let sector : from ≡ g = both.1 in
    cc
one_sourced text (WriteFrom s n a c from) _ f h one two = absurd two
one_sourced text _ m f h one two = absurd one

-- no line that ends in a class is a write
pub class_no_write : (w t : List ℕ) (l : Line) → IsClassed w t l → w ≡ codes "write" → ⊥
class_no_write w t (ClassAttach s g p c) h k = omega (arith, ap mark (sym h.0 ∙ k))
class_no_write w t (ClassVtime g c) h k = omega (arith, ap mark (sym h.0 ∙ k))
class_no_write w t _ h k = h

-- two lines that are this word and this text are equal
pub one_marked : (w t : List ℕ) (l m : Line) → Fits l → Fits m → IsMarked w t l → IsMarked w t m → l ≡ m
one_marked w t l m f g (inl one) (inl two) = one_class_line w t l m f g one two
one_marked w t l m f g (inl one) (inr two) = absurd (class_no_write w t l one two.0)
one_marked w t l m f g (inr one) (inl two) = absurd (class_no_write w t m two one.0)
one_marked w t l m f g (inr one) (inr two) = one_sourced t l m f g one.1 two.1

-- such a text is no numbers
pub not_numbers : (w t given : List ℕ) (l : Line) → Fits l → IsMarked w t l → AreNumbers given → t ≡ numbers given → ⊥
not_numbers w t given l f (inl is) hg e =
    let ends = ended_by w t l f is in
    no_class_after given ends.given ends.named hg ends.fits (sym e ∙ ends.ending)
not_numbers w t given (WriteFrom s n a c from) f (inr is) hg e =
    no_sector_after given (s ∷ n ∷ a ∷ c ∷ []) from hg (omega arith, (f.1, (f.2, (omega arith, tt)))) (sym e ∙ is.1)
not_numbers w t given _ f (inr is) hg e = is.1

-- what a write is read to, and what another word is
pub marked_write : (w t : List ℕ) (found : Option Line) → w ≡ codes "write"
    → MatchOption found ((l : Line) → Fits l → IsSourced t l → ⊥) (λ l. Fits l × IsSourced t l)
    → MatchOption found ((l : Line) → Fits l → IsMarked w t l → ⊥) (λ l. Fits l × IsMarked w t l)
marked_write w t None is none = λ l f m. elim m [ inl c ↦ class_no_write w t l c is | inr s ↦ none l f s.1 ]
marked_write w t (Some l) is some = (some.0, inr (is, some.1))

pub marked_other : (w t : List ℕ) (found : Option Line) → (w ≡ codes "write" → ⊥)
    → MatchOption found ((l : Line) → Fits l → IsClassed w t l → ⊥) (λ l. Fits l × IsClassed w t l)
    → MatchOption found ((l : Line) → Fits l → IsMarked w t l → ⊥) (λ l. Fits l × IsMarked w t l)
marked_other w t None other none = λ l f m. elim m [ inl c ↦ none l f c | inr s ↦ other s.0 ]
marked_other w t (Some l) other some = (some.0, inl some.1)

pub if_marked : {Q : Type 0} (word text : List ℕ) (found : Option Line)
    → MatchOption found ((l : Line) → Fits l → IsMarked word text l → ⊥) (λ l. Fits l × IsMarked word text l)
    → (((l : Line) → Fits l → IsMarked word text l → ⊥) → Q) → IfNone found Q
if_marked word text None h f = f h
if_marked word text (Some l) h f = tt
