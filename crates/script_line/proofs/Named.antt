-- Lines that end in the name of a class.
use Rattle.std.proofs.Common.{◌≡◌, ◌≢◌, ℕ, ◌+◌, ◌%◌, ◌<◌, ◌≤◌, ◌^◌, List, [], ◌∷◌, ◌++◌, codes, length, refl, sym, ap, subst, ◌∙◌, arith, get_or, Bor}
use Rattle.std.specs.Prelude.{Option, None, Some, IfSome, IfNone, MatchOption, reverse}
use Rattle.std.proofs.lemmas.List.{append_cancel_right, reverse-append}
use Rattle.std.specs.Fmt.{decimal}
use Rattle.std.proofs.lemmas.Fmt.{decimal_by_steps}
use Rattle.sector_core.specs.declared.class.Class.{Class}
use Rattle.sector_core.specs.declared.class.Class.TheVariants.{RealTime, BestEffort, Idle}
use Rattle.script_line.specs.Words.{IsTail, AreNumbers, numbers, class_named}
use Rattle.script_line.specs.Line.{Fits}
use Rattle.script_line.specs.Plain.{IsWordNumbersAndClass, IsClassed, ReadsClass, FitsOrNone}
use Rattle.script_line.specs.declared.line.Line.{Line}
use Rattle.script_line.specs.declared.line.Line.TheVariants.{ClassAttach, ClassVtime}
use Rattle.script_line.proofs.Cuts.{mark, one_numbers, split_numbers}

pub IsTail-class : (c : Class) → IsTail (class_named c)
IsTail-class RealTime = refl
IsTail-class BestEffort = refl
IsTail-class Idle = refl

-- Two texts that end in the names of classes.

-- the last bytes of a text come first when it is turned round
turned : (a : List ℕ) (c : Class) → reverse (a ++ class_named c) ≡ reverse (class_named c) ++ reverse a
turned a c = reverse-append a (class_named c)

last_bytes : (x y : List ℕ) (c d : Class) → reverse (class_named c) ++ x ≡ reverse (class_named d) ++ y → c ≡ d
last_bytes x y RealTime RealTime h = refl
last_bytes x y BestEffort BestEffort h = refl
last_bytes x y Idle Idle h = refl
last_bytes x y _ _ h = absurd (omega (arith, ap (λ xs. get_or xs 0 0) h, ap (λ xs. get_or xs 1 0) h))

one_class : (a b : List ℕ) (c d : Class) → a ++ class_named c ≡ b ++ class_named d → c ≡ d
one_class a b c d e =
    let same : reverse (class_named c) ++ reverse a ≡ reverse (class_named d) ++ reverse b = sym (turned a c) ∙ ap reverse e ∙ turned b d in
    last_bytes (reverse a) (reverse b) c d same

-- such a text is cut into a front and a class in one way only
pub one_end : (a b : List ℕ) (c d : Class) → a ++ class_named c ≡ b ++ class_named d → (a ≡ b) × (c ≡ d)
one_end a b c d e =
    let class : c ≡ d = one_class a b c d e in
    (append_cancel_right a b (class_named c) (e ∙ ap (λ k. b ++ class_named k) (sym class)), class)

-- Numbers end in no class.

-- the first byte is no letter
abbrev HasNoLetterFirst : List ℕ → Type 0
HasNoLetterFirst [] = ⊥
HasNoLetterFirst (b ∷ bs) = b < 58

first_kept : (ds more : List ℕ) → HasNoLetterFirst ds → HasNoLetterFirst (ds ++ more)
first_kept [] more h = absurd h
first_kept (d ∷ ds) more h = h

digit_first : (n : ℕ) → n < 2 ^ 64 → HasNoLetterFirst (decimal n)
digit_first n fits = decimal_by_steps (λ _ ds. HasNoLetterFirst ds)
    (λ m small. omega arith)
    (λ m ds big h. first_kept ds ((48 + m % 10) ∷ []) h)
    n fits

pub letter_first : (n : ℕ) (rest bs : List ℕ) → n < 2 ^ 64 → bs ≡ decimal n ++ rest → HasNoLetterFirst bs
letter_first n rest bs fits e = subst HasNoLetterFirst (sym e) (first_kept (decimal n) rest (digit_first n fits))

no_name : (c : Class) (ns : List ℕ) → AreNumbers ns → class_named c ≡ numbers ns → ⊥
no_name RealTime [] fits e = cc
no_name BestEffort [] fits e = cc
no_name Idle [] fits e = cc
no_name RealTime (n ∷ ns) fits e =
    let after : codes "rt" ≡ decimal n ++ numbers ns = cc in
    let first : 114 < 58 = letter_first n (numbers ns) (codes "rt") fits.0 after in
    omega (arith, first)
no_name BestEffort (n ∷ ns) fits e =
    let after : codes "be" ≡ decimal n ++ numbers ns = cc in
    let first : 98 < 58 = letter_first n (numbers ns) (codes "be") fits.0 after in
    omega (arith, first)
no_name Idle (n ∷ ns) fits e =
    let after : codes "idle" ≡ decimal n ++ numbers ns = cc in
    let first : 105 < 58 = letter_first n (numbers ns) (codes "idle") fits.0 after in
    omega (arith, first)

-- numbers are not numbers and a class
pub no_class_after : (xs ns : List ℕ) (c : Class) → AreNumbers xs → AreNumbers ns → numbers xs ≡ numbers ns ++ class_named c → ⊥
no_class_after xs ns c hx hn e =
    let parts = split_numbers ns xs (class_named c) hn hx (IsTail-class c) (sym e) in
    no_name c parts.0 parts.3 parts.2

-- What a line with a class is.

-- a line that ends in a class: its numbers, and its class
pub record IsEnded (word text : List ℕ) (l : Line) : Type 0 where
  pub given : List ℕ
  pub named : Class
  pub fits : AreNumbers given
  pub few : length given ≤ 5
  pub ending : text ≡ numbers given ++ class_named named
  pub is : IsWordNumbersAndClass word given named l

pub ended_by : (word text : List ℕ) (l : Line) → Fits l → IsClassed word text l → IsEnded word text l
ended_by word text (ClassAttach s g p c) f h = record { given = s ∷ g ∷ p ∷ []; named = c; fits = (omega arith, (omega arith, (omega arith, tt))); few = omega arith; ending = h.1; is = (h.0, refl, refl) }
ended_by word text (ClassVtime g c) f h = record { given = g ∷ []; named = c; fits = (omega arith, tt); few = omega arith; ending = h.1; is = (h.0, refl, refl) }
ended_by word text _ f h = absurd h

pub to_classed : (word text given : List ℕ) (c : Class) (l : Line) → text ≡ numbers given ++ class_named c → IsWordNumbersAndClass word given c l → IsClassed word text l
to_classed word text given c (ClassAttach s g p k) e h = (h.0, e ∙ ap (λ ns. numbers ns ++ class_named c) h.1 ∙ ap (λ x. numbers (s ∷ g ∷ p ∷ []) ++ class_named x) h.2)
to_classed word text given c (ClassVtime g k) e h = (h.0, e ∙ ap (λ ns. numbers ns ++ class_named c) h.1 ∙ ap (λ x. numbers (g ∷ []) ++ class_named x) h.2)
to_classed word text given c _ e h = absurd h

-- a word, numbers and a class are one line at most
one_classed : (w ns : List ℕ) (c : Class) (l m : Line) → IsWordNumbersAndClass w ns c l → IsWordNumbersAndClass w ns c m → l ≡ m
one_classed w ns c (ClassAttach s g p k) (ClassAttach s' g' p' k') one two =
    let same : s ∷ g ∷ p ∷ [] ≡ s' ∷ g' ∷ p' ∷ [] = sym one.1 ∙ two.1 in
    let class : k ≡ k' = sym one.2 ∙ two.2 in
    cc
one_classed w ns c (ClassVtime g k) (ClassVtime g' k') one two =
    let same : g ∷ [] ≡ g' ∷ [] = sym one.1 ∙ two.1 in
    let class : k ≡ k' = sym one.2 ∙ two.2 in
    cc
one_classed w ns c (ClassAttach s g p k) (ClassVtime g' k') one two = absurd (omega (arith, ap mark (sym one.0 ∙ two.0)))
one_classed w ns c (ClassVtime g k) (ClassAttach s' g' p' k') one two = absurd (omega (arith, ap mark (sym one.0 ∙ two.0)))
one_classed w ns c (ClassAttach s g p k) _ one two = absurd two
one_classed w ns c (ClassVtime g k) _ one two = absurd two
one_classed w ns c _ m one two = absurd one

-- the line that this word, these numbers and this class are, where its numbers fit, is what they are read to
pub class_fitted : (w ns : List ℕ) (c : Class) (line : Line) (found : Option Line) → IsWordNumbersAndClass w ns c line → FitsOrNone line found → ReadsClass w ns c found
class_fitted w ns c line None is h = λ l fits m.
    let F : Line → Type 0 = λ x. Fits x in
    h (subst F (one_classed w ns c l line m is) fits)
class_fitted w ns c line (Some l) is h =
    let R : Line → Type 0 = λ x. Fits x × IsWordNumbersAndClass w ns c x in
    subst R (sym h.1) (h.0, is)

-- two lines that are this word and this text, which ends in a class, are equal
pub one_class_line : (w t : List ℕ) (l m : Line) → Fits l → Fits m → IsClassed w t l → IsClassed w t m → l ≡ m
one_class_line w t l m f g one two =
    let p = ended_by w t l f one in
    let q = ended_by w t m g two in
    let cuts = one_end (numbers p.given) (numbers q.given) p.named q.named (sym p.ending ∙ q.ending) in
    let given : q.given ≡ p.given = one_numbers q.given p.given q.fits p.fits (sym cuts.0) in
    let M : List ℕ → Class → Type 0 = λ ns c. IsWordNumbersAndClass w ns c m in
    let here : IsWordNumbersAndClass w p.given p.named m = subst (λ c. M p.given c) (sym cuts.1) (subst (λ ns. M ns q.named) given q.is) in
    one_classed w p.given p.named l m p.is here

-- What is read to no line.

-- a text that ends in no class
pub no_end : (word text : List ℕ) → ((front : List ℕ) (c : Class) → text ≡ front ++ class_named c → ⊥)
    → (l : Line) → Fits l → IsClassed word text l → ⊥
no_end word text none l f is =
    let p = ended_by word text l f is in
    none (numbers p.given) p.named p.ending

-- a class, before which stand no numbers
pub no_front : (word text front : List ℕ) (c : Class) → text ≡ front ++ class_named c
    → ((ns : List ℕ) → AreNumbers ns → length ns ≤ 5 → front ≡ numbers ns → ⊥)
    → (l : Line) → Fits l → IsClassed word text l → ⊥
no_front word text front c whole none l f is =
    let p = ended_by word text l f is in
    none p.given p.fits p.few (one_end front (numbers p.given) c p.named (sym whole ∙ p.ending)).0

-- numbers and a class: what they are read to is what the text is read to
pub read_classed : (word text front given : List ℕ) (c : Class) (found : Option Line)
    → text ≡ front ++ class_named c → front ≡ numbers given → AreNumbers given → ReadsClass word given c found
    → MatchOption found ((l : Line) → Fits l → IsClassed word text l → ⊥) (λ l. Fits l × IsClassed word text l)
read_classed word text front given c (Some l) whole is fits h = (h.0, to_classed word text given c l (whole ∙ ap (λ x. x ++ class_named c) is) h.1)
read_classed word text front given c None whole is fits h = λ l f m.
    let p = ended_by word text l f m in
    let cuts = one_end (numbers p.given) front p.named c (sym p.ending ∙ whole) in
    let same : p.given ≡ given = one_numbers p.given given p.fits fits (cuts.0 ∙ is) in
    let M : List ℕ → Class → Type 0 = λ ns k. IsWordNumbersAndClass word ns k l in
    h l f (subst (λ k. M given k) cuts.1 (subst (λ ns. M ns p.named) same p.is))

-- what stands before the end of a text, if it has that end
pub if_ends : (text end : List ℕ) (found : Option (Bor (List ℕ))) → MatchOption found ((front : List ℕ) → text ≢ front ++ end) (λ x. text ≡ x.now ++ end)
    → IfSome found (λ x. text ≡ x.now ++ end)
if_ends text end None h = tt
if_ends text end (Some x) h = h

pub unless_ends : (text end : List ℕ) (found : Option (Bor (List ℕ))) → MatchOption found ((front : List ℕ) → text ≢ front ++ end) (λ x. text ≡ x.now ++ end)
    → IfNone found ((front : List ℕ) → text ≡ front ++ end → ⊥)
unless_ends text end None h = h
unless_ends text end (Some x) h = tt
