-- Two lines that are spelled alike are equal.
use Rattle.std.proofs.Common.{◌≡◌, ℕ, List, [], ◌∷◌, ◌++◌, codes, refl, sym, ap, subst, ◌∙◌, arith, inl, inr, take, get_or}
use Rattle.script_line.specs.Words.{numbers}
use Rattle.script_line.specs.Line.{spelled, ended, Fits, EndingFits}
use Rattle.script_line.specs.Look.{shown, LookFits}
use Rattle.std.specs.Prelude.{Option, None, Some}
use Rattle.script_line.specs.Plain.{IsWordAndNumbers, IsClassed, IsMarked, Reads, FitsOrNone}
use Rattle.script_line.specs.declared.line.Line.{Line}
use Rattle.script_line.specs.declared.line.Line.TheVariants.{Attach, ClassAttach, Read, Write, WriteFrom, Discard, Reap, Leave, Dispatch, Finish, Work, Requeue, Hold, Release, Undo, Redo, Group, Drop, Weight, Freeze, Thaw, Switch, Tick, Sector, Queue, Cursor, Vtime, ClassVtime, Entity, Class, Show}
use Rattle.script_line.specs.declared.look.Look.{Look}
use Rattle.script_line.specs.declared.line.Ending.{Ending}
use Rattle.script_line.specs.declared.line.Ending.TheVariants.{Stored, Fill, Short, Fault}
use Rattle.sector_core.specs.declared.config.Scheduler.{Scheduler}
use Rattle.sector_core.specs.declared.config.Scheduler.TheVariants.{Plain, Bfq}
use Rattle.script_line.proofs.Cuts.{mark, one_cut, one_numbers, IsTail-numbers}
use Rattle.std.specs.Fmt.{decimal}
use Rattle.script_line.proofs.Finishes.{first_number, two_numbers, IsTail-ended}
use Rattle.script_line.proofs.Plains.{IsLeader, IsOther, PlainParts, LedParts, NamedParts, parts}
use Rattle.script_line.proofs.Looks.{one_look}
use Rattle.script_line.proofs.Sources.{one_marked, not_numbers}

abbrev word_of : Line → List ℕ
word_of (Attach s g p) = codes "attach"
word_of (ClassAttach s g p c) = codes "attach"
word_of (Read s n a c) = codes "read"
word_of (Discard s n a c) = codes "discard"
word_of (Write s n a c b) = codes "write"
word_of (WriteFrom s n a c f) = codes "write"
word_of (Reap s n) = codes "reap"
word_of (Leave s) = codes "leave"
word_of Dispatch = codes "dispatch"
word_of (Finish t i e) = codes "finish"
word_of (Work t i) = codes "work"
word_of (Requeue t i) = codes "requeue"
word_of Hold = codes "hold"
word_of Release = codes "release"
word_of (Undo k) = codes "undo"
word_of (Redo k) = codes "redo"
word_of (Group p w) = codes "group"
word_of (Drop g) = codes "drop"
word_of (Weight g w) = codes "weight"
word_of Freeze = codes "freeze"
word_of Thaw = codes "thaw"
word_of (Switch s) = codes "switch"
word_of Tick = codes "tick"
word_of (Sector n) = codes "sector"
word_of (Queue s) = codes "queue"
word_of Cursor = codes "line"
word_of (Vtime g) = codes "vtime"
word_of (ClassVtime g c) = codes "vtime"
word_of (Entity n) = codes "entity"
word_of (Class n) = codes "class"
word_of (Show look) = codes "show"

word_is : (w ns : List ℕ) (l : Line) → IsWordAndNumbers w ns l → w ≡ word_of l
word_is w ns (Finish t i e) h = absurd h
word_is w ns (Switch s) h = absurd h
word_is w ns (Show look) h = absurd h
word_is w ns (ClassAttach s g p c) h = absurd h
word_is w ns (ClassVtime g c) h = absurd h
word_is w ns (WriteFrom s n a c f) h = absurd h
word_is w ns _ h = h.0

-- a line that is a word and numbers begins with none of `finish`, `switch` and `show`
not_led : (w ns : List ℕ) (l : Line) → IsWordAndNumbers w ns l → IsLeader w → ⊥
not_led w ns (Finish t i e) h k = h
not_led w ns (Switch s) h k = h
not_led w ns (Show look) h k = h
not_led w ns (ClassAttach s g p c) h k = h
not_led w ns (ClassVtime g c) h k = h
not_led w ns (WriteFrom s n a c f) h k = h
not_led w ns _ h (inl k) = omega (arith, ap mark (sym h.0 ∙ k))
not_led w ns _ h (inr (inl k)) = omega (arith, ap mark (sym h.0 ∙ k))
not_led w ns _ h (inr (inr k)) = omega (arith, ap mark (sym h.0 ∙ k))

one_plain : (w ns : List ℕ) (l m : Line) → IsWordAndNumbers w ns l → IsWordAndNumbers w ns m → l ≡ m
one_plain w ns (Attach s g p) (Attach s' g' p') one two = let same : s ∷ g ∷ p ∷ [] ≡ s' ∷ g' ∷ p' ∷ [] = sym one.1 ∙ two.1 in cc
one_plain w ns (Attach s g p) m one two = absurd (omega (arith, ap mark (sym one.0 ∙ word_is w ns m two)))
one_plain w ns (Read s n a c) (Read s' n' a' c') one two = let same : s ∷ n ∷ a ∷ c ∷ [] ≡ s' ∷ n' ∷ a' ∷ c' ∷ [] = sym one.1 ∙ two.1 in cc
one_plain w ns (Read s n a c) m one two = absurd (omega (arith, ap mark (sym one.0 ∙ word_is w ns m two)))
one_plain w ns (Discard s n a c) (Discard s' n' a' c') one two = let same : s ∷ n ∷ a ∷ c ∷ [] ≡ s' ∷ n' ∷ a' ∷ c' ∷ [] = sym one.1 ∙ two.1 in cc
one_plain w ns (Discard s n a c) m one two = absurd (omega (arith, ap mark (sym one.0 ∙ word_is w ns m two)))
one_plain w ns (Write s n a c b) (Write s' n' a' c' b') one two = let same : s ∷ n ∷ a ∷ c ∷ b ∷ [] ≡ s' ∷ n' ∷ a' ∷ c' ∷ b' ∷ [] = sym one.1 ∙ two.1 in cc
one_plain w ns (Write s n a c b) m one two = absurd (omega (arith, ap mark (sym one.0 ∙ word_is w ns m two)))
one_plain w ns (Reap s n) (Reap s' n') one two = let same : s ∷ n ∷ [] ≡ s' ∷ n' ∷ [] = sym one.1 ∙ two.1 in cc
one_plain w ns (Reap s n) m one two = absurd (omega (arith, ap mark (sym one.0 ∙ word_is w ns m two)))
one_plain w ns (Leave s) (Leave s') one two = let same : s ∷ [] ≡ s' ∷ [] = sym one.1 ∙ two.1 in cc
one_plain w ns (Leave s) m one two = absurd (omega (arith, ap mark (sym one.0 ∙ word_is w ns m two)))
one_plain w ns Dispatch Dispatch one two = refl
one_plain w ns Dispatch m one two = absurd (omega (arith, ap mark (sym one.0 ∙ word_is w ns m two)))
one_plain w ns (Finish t i e) m one two = absurd one
one_plain w ns (Work t i) (Work t' i') one two = let same : t ∷ i ∷ [] ≡ t' ∷ i' ∷ [] = sym one.1 ∙ two.1 in cc
one_plain w ns (Work t i) m one two = absurd (omega (arith, ap mark (sym one.0 ∙ word_is w ns m two)))
one_plain w ns (Requeue t i) (Requeue t' i') one two = let same : t ∷ i ∷ [] ≡ t' ∷ i' ∷ [] = sym one.1 ∙ two.1 in cc
one_plain w ns (Requeue t i) m one two = absurd (omega (arith, ap mark (sym one.0 ∙ word_is w ns m two)))
one_plain w ns Hold Hold one two = refl
one_plain w ns Hold m one two = absurd (omega (arith, ap mark (sym one.0 ∙ word_is w ns m two)))
one_plain w ns Release Release one two = refl
one_plain w ns Release m one two = absurd (omega (arith, ap mark (sym one.0 ∙ word_is w ns m two)))
one_plain w ns (Undo k) (Undo k') one two = let same : k ∷ [] ≡ k' ∷ [] = sym one.1 ∙ two.1 in cc
one_plain w ns (Undo k) m one two = absurd (omega (arith, ap mark (sym one.0 ∙ word_is w ns m two)))
one_plain w ns (Redo k) (Redo k') one two = let same : k ∷ [] ≡ k' ∷ [] = sym one.1 ∙ two.1 in cc
one_plain w ns (Redo k) m one two = absurd (omega (arith, ap mark (sym one.0 ∙ word_is w ns m two)))
one_plain w ns (Group p n) (Group p' n') one two = let same : p ∷ n ∷ [] ≡ p' ∷ n' ∷ [] = sym one.1 ∙ two.1 in cc
one_plain w ns (Group p n) m one two = absurd (omega (arith, ap mark (sym one.0 ∙ word_is w ns m two)))
one_plain w ns (Drop g) (Drop g') one two = let same : g ∷ [] ≡ g' ∷ [] = sym one.1 ∙ two.1 in cc
one_plain w ns (Drop g) m one two = absurd (omega (arith, ap mark (sym one.0 ∙ word_is w ns m two)))
one_plain w ns (Weight g n) (Weight g' n') one two = let same : g ∷ n ∷ [] ≡ g' ∷ n' ∷ [] = sym one.1 ∙ two.1 in cc
one_plain w ns (Weight g n) m one two = absurd (omega (arith, ap mark (sym one.0 ∙ word_is w ns m two)))
one_plain w ns Freeze Freeze one two = refl
one_plain w ns Freeze m one two = absurd (omega (arith, ap mark (sym one.0 ∙ word_is w ns m two)))
one_plain w ns Thaw Thaw one two = refl
one_plain w ns Thaw m one two = absurd (omega (arith, ap mark (sym one.0 ∙ word_is w ns m two)))
one_plain w ns (Switch s) m one two = absurd one
one_plain w ns Tick Tick one two = refl
one_plain w ns Tick m one two = absurd (omega (arith, ap mark (sym one.0 ∙ word_is w ns m two)))
one_plain w ns (Sector n) (Sector n') one two = let same : n ∷ [] ≡ n' ∷ [] = sym one.1 ∙ two.1 in cc
one_plain w ns (Sector n) m one two = absurd (omega (arith, ap mark (sym one.0 ∙ word_is w ns m two)))
one_plain w ns (Queue s) (Queue s') one two = let same : s ∷ [] ≡ s' ∷ [] = sym one.1 ∙ two.1 in cc
one_plain w ns (Queue s) m one two = absurd (omega (arith, ap mark (sym one.0 ∙ word_is w ns m two)))
one_plain w ns Cursor Cursor one two = refl
one_plain w ns Cursor m one two = absurd (omega (arith, ap mark (sym one.0 ∙ word_is w ns m two)))
one_plain w ns (Vtime g) (Vtime g') one two = let same : g ∷ [] ≡ g' ∷ [] = sym one.1 ∙ two.1 in cc
one_plain w ns (Vtime g) m one two = absurd (omega (arith, ap mark (sym one.0 ∙ word_is w ns m two)))
one_plain w ns (Entity n) (Entity n') one two = let same : n ∷ [] ≡ n' ∷ [] = sym one.1 ∙ two.1 in cc
one_plain w ns (Entity n) m one two = absurd (omega (arith, ap mark (sym one.0 ∙ word_is w ns m two)))
one_plain w ns (Class n) (Class n') one two = let same : n ∷ [] ≡ n' ∷ [] = sym one.1 ∙ two.1 in cc
one_plain w ns (Class n) m one two = absurd (omega (arith, ap mark (sym one.0 ∙ word_is w ns m two)))
one_plain w ns (Show look) m one two = absurd one
one_plain w ns (ClassAttach s g p c) m one two = absurd one
one_plain w ns (ClassVtime g c) m one two = absurd one
one_plain w ns (WriteFrom s n a c f) m one two = absurd one

-- the line that these words and numbers are, where its numbers fit, is what they are read to
pub reads_fitted : (w ns : List ℕ) (line : Line) (found : Option Line) → IsWordAndNumbers w ns line → FitsOrNone line found → Reads w ns found
reads_fitted w ns line None is h = λ l fits m.
    let F : Line → Type 0 = λ x. Fits x in
    h (subst F (one_plain w ns l line m is) fits)
reads_fitted w ns line (Some l) is h =
    let R : Line → Type 0 = λ x. Fits x × IsWordAndNumbers w ns x in
    subst R (sym h.1) (h.0, is)

one_ending : (d e : Ending) → EndingFits d → EndingFits e → ended d ≡ ended e → d ≡ e
one_ending Stored Stored _ _ _ = refl
one_ending Short Short _ _ _ = refl
one_ending Fault Fault _ _ _ = refl
one_ending (Fill b) (Fill c) hb hc h =
    let same : numbers (b ∷ []) ≡ numbers (c ∷ []) = cc in
    let list : b ∷ [] ≡ c ∷ [] = one_numbers (b ∷ []) (c ∷ []) (omega arith, tt) (omega arith, tt) same in
    cc
one_ending (Fill b) e hb hc h = absurd (omega (arith, ap (λ xs. mark (take 6 xs)) h))
one_ending d (Fill c) hb hc h = absurd (omega (arith, ap (λ xs. mark (take 6 xs)) h))
one_ending _ _ _ _ h = absurd (omega (arith, ap mark h))

one_finish : (t i : ℕ) (e : Ending) (u j : ℕ) (f : Ending) → Fits (Finish t i e) → Fits (Finish u j f)
    → spelled (Finish t i e) ≡ spelled (Finish u j f) → Finish t i e ≡ Finish u j f
one_finish t i e u j f h k same =
    let after : numbers (t ∷ i ∷ []) ++ ended e ≡ numbers (u ∷ j ∷ []) ++ ended f = cc in
    let flat : 32 ∷ (decimal t ++ (32 ∷ (decimal i ++ ended e))) ≡ 32 ∷ (decimal u ++ (32 ∷ (decimal j ++ ended f)))
    = sym (two_numbers t i (ended e)) ∙ after ∙ two_numbers u j (ended f) in
    let first = first_number (32 ∷ (decimal t ++ (32 ∷ (decimal i ++ ended e)))) (32 ∷ (decimal i ++ ended e)) (32 ∷ (decimal j ++ ended f)) t u
    (omega arith) (omega arith) refl refl refl flat in
    let second = first_number (32 ∷ (decimal i ++ ended e)) (ended e) (ended f) i j h.1 k.1 (IsTail-ended e) (IsTail-ended f) refl first.1 in
    let third = one_ending e f h.2 k.2 second.1 in
    let tag : t ≡ u = first.0 in
    let issue : i ≡ j = second.0 in
    cc

one_scheduler : (s t : Scheduler) → spelled (Switch s) ≡ spelled (Switch t) → Switch s ≡ Switch t
one_scheduler Plain Plain h = refl
one_scheduler Bfq Bfq h = refl
one_scheduler Plain Bfq h = absurd (omega (arith, ap (λ xs. get_or xs 7 0) h))
one_scheduler Bfq Plain h = absurd (omega (arith, ap (λ xs. get_or xs 7 0) h))

one_show : (l m : Look) → LookFits l → LookFits m → spelled (Show l) ≡ spelled (Show m) → Show l ≡ Show m
one_show l m f g h =
    let after : shown l ≡ shown m = cc in
    ap Show (one_look l m f g after)

-- two lines that begin with `finish`, `switch` or `show` and are spelled alike are equal
one_other : (l m : Line) → IsOther l → IsOther m → Fits l → Fits m → spelled l ≡ spelled m → l ≡ m
one_other l m (inl a) (inl b) f g same =
    let F : Line → Type 0 = λ x. Fits x in
    let both : spelled (Finish a.0 a.1 a.2) ≡ spelled (Finish b.0 b.1 b.2) = ap spelled (sym a.3) ∙ same ∙ ap spelled b.3 in
    a.3 ∙ one_finish a.0 a.1 a.2 b.0 b.1 b.2 (subst F a.3 f) (subst F b.3 g) both ∙ sym b.3
one_other l m (inl a) (inr (inl b)) f g same =
    let both : spelled (Finish a.0 a.1 a.2) ≡ spelled (Switch b.0) = ap spelled (sym a.3) ∙ same ∙ ap spelled b.1 in
    absurd (omega (arith, ap (λ xs. get_or xs 0 0) both))
one_other l m (inl a) (inr (inr b)) f g same =
    let both : spelled (Finish a.0 a.1 a.2) ≡ spelled (Show b.0) = ap spelled (sym a.3) ∙ same ∙ ap spelled b.1 in
    absurd (omega (arith, ap (λ xs. get_or xs 0 0) both))
one_other l m (inr (inl a)) (inl b) f g same =
    let both : spelled (Switch a.0) ≡ spelled (Finish b.0 b.1 b.2) = ap spelled (sym a.1) ∙ same ∙ ap spelled b.3 in
    absurd (omega (arith, ap (λ xs. get_or xs 0 0) both))
one_other l m (inr (inl a)) (inr (inl b)) f g same =
    let both : spelled (Switch a.0) ≡ spelled (Switch b.0) = ap spelled (sym a.1) ∙ same ∙ ap spelled b.1 in
    a.1 ∙ one_scheduler a.0 b.0 both ∙ sym b.1
one_other l m (inr (inl a)) (inr (inr b)) f g same =
    let both : spelled (Switch a.0) ≡ spelled (Show b.0) = ap spelled (sym a.1) ∙ same ∙ ap spelled b.1 in
    absurd (omega (arith, ap (λ xs. get_or xs 1 0) both))
one_other l m (inr (inr a)) (inl b) f g same =
    let both : spelled (Show a.0) ≡ spelled (Finish b.0 b.1 b.2) = ap spelled (sym a.1) ∙ same ∙ ap spelled b.3 in
    absurd (omega (arith, ap (λ xs. get_or xs 0 0) both))
one_other l m (inr (inr a)) (inr (inl b)) f g same =
    let both : spelled (Show a.0) ≡ spelled (Switch b.0) = ap spelled (sym a.1) ∙ same ∙ ap spelled b.1 in
    absurd (omega (arith, ap (λ xs. get_or xs 1 0) both))
one_other l m (inr (inr a)) (inr (inr b)) f g same =
    let F : Line → Type 0 = λ x. Fits x in
    let both : spelled (Show a.0) ≡ spelled (Show b.0) = ap spelled (sym a.1) ∙ same ∙ ap spelled b.1 in
    a.1 ∙ one_show a.0 b.0 (subst F a.1 f) (subst F b.1 g) both ∙ sym b.1

-- a line that ends in a class begins with none of `finish`, `switch` and `show`
class_not_led : (w t : List ℕ) (l : Line) → IsClassed w t l → IsLeader w → ⊥
class_not_led w t (ClassAttach s g p c) h (inl k) = omega (arith, ap mark (sym h.0 ∙ k))
class_not_led w t (ClassAttach s g p c) h (inr (inl k)) = omega (arith, ap mark (sym h.0 ∙ k))
class_not_led w t (ClassAttach s g p c) h (inr (inr k)) = omega (arith, ap mark (sym h.0 ∙ k))
class_not_led w t (ClassVtime g c) h (inl k) = omega (arith, ap mark (sym h.0 ∙ k))
class_not_led w t (ClassVtime g c) h (inr (inl k)) = omega (arith, ap mark (sym h.0 ∙ k))
class_not_led w t (ClassVtime g c) h (inr (inr k)) = omega (arith, ap mark (sym h.0 ∙ k))
class_not_led w t _ h k = h

-- nor does a line that ends at a sector of the payload
named_not_led : (w t : List ℕ) (l : Line) → IsMarked w t l → IsLeader w → ⊥
named_not_led w t l (inl h) k = class_not_led w t l h k
named_not_led w t l (inr h) (inl k) = omega (arith, ap mark (sym h.0 ∙ k))
named_not_led w t l (inr h) (inr (inl k)) = omega (arith, ap mark (sym h.0 ∙ k))
named_not_led w t l (inr h) (inr (inr k)) = omega (arith, ap mark (sym h.0 ∙ k))

-- No two lines of different kinds are spelled alike.

plain_or_led : (l m : Line) → PlainParts l → LedParts m → spelled l ≡ spelled m → ⊥
plain_or_led l m p q same =
    let both : p.0 ++ numbers p.1 ≡ q.0 ++ q.1 = sym p.2.spelling ∙ same ∙ q.2.spelling in
    let word_is : p.0 ≡ q.0 = (one_cut p.0 q.0 (numbers p.1) q.1 p.2.space q.2.space (IsTail-numbers p.1) q.2.tail both).0 in
    not_led q.0 p.1 l (p.2.is q.0 p.1 (sym word_is) refl) q.2.known

plain_or_named : (l m : Line) → PlainParts l → NamedParts m → Fits m → spelled l ≡ spelled m → ⊥
plain_or_named l m p q g same =
    let both : p.0 ++ numbers p.1 ≡ q.0 ++ q.1 = sym p.2.spelling ∙ same ∙ q.2.spelling in
    let cuts = one_cut p.0 q.0 (numbers p.1) q.1 p.2.space q.2.space (IsTail-numbers p.1) q.2.tail both in
    not_numbers q.0 q.1 p.1 m g (q.2.is q.0 q.1 refl refl) p.2.fits (sym cuts.1)

led_or_named : (l m : Line) → LedParts l → NamedParts m → spelled l ≡ spelled m → ⊥
led_or_named l m p q same =
    let both : p.0 ++ p.1 ≡ q.0 ++ q.1 = sym p.2.spelling ∙ same ∙ q.2.spelling in
    let cuts = one_cut p.0 q.0 p.1 q.1 p.2.space q.2.space p.2.tail q.2.tail both in
    named_not_led p.0 p.1 m (q.2.is p.0 p.1 cuts.0 cuts.1) p.2.known

both_plain : (l m : Line) → PlainParts l → PlainParts m → spelled l ≡ spelled m → l ≡ m
both_plain l m p q same =
    let both : p.0 ++ numbers p.1 ≡ q.0 ++ numbers q.1 = sym p.2.spelling ∙ same ∙ q.2.spelling in
    let cuts = one_cut p.0 q.0 (numbers p.1) (numbers q.1) p.2.space q.2.space (IsTail-numbers p.1) (IsTail-numbers q.1) both in
    one_plain p.0 p.1 l m (p.2.is p.0 p.1 refl refl) (q.2.is p.0 p.1 cuts.0 (one_numbers p.1 q.1 p.2.fits q.2.fits cuts.1))

both_named : (l m : Line) → NamedParts l → NamedParts m → Fits l → Fits m → spelled l ≡ spelled m → l ≡ m
both_named l m p q f g same =
    let both : p.0 ++ p.1 ≡ q.0 ++ q.1 = sym p.2.spelling ∙ same ∙ q.2.spelling in
    let cuts = one_cut p.0 q.0 p.1 q.1 p.2.space q.2.space p.2.tail q.2.tail both in
    one_marked p.0 p.1 l m f g (p.2.is p.0 p.1 refl refl) (q.2.is p.0 p.1 cuts.0 cuts.1)

pub one_spelling : (l m : Line) → Fits l → Fits m → spelled l ≡ spelled m → l ≡ m
one_spelling l m f g same =
    elim (parts l f) [
      | inl p ↦ elim (parts m g) [
        | inl q ↦ both_plain l m p q same
        | inr (inl q) ↦ absurd (plain_or_led l m p q same)
        | inr (inr q) ↦ absurd (plain_or_named l m p q g same)
      ]
      | inr (inl p) ↦ elim (parts m g) [
        | inl q ↦ absurd (plain_or_led m l q p (sym same))
        | inr (inl q) ↦ one_other l m p.2.other q.2.other f g same
        | inr (inr q) ↦ absurd (led_or_named l m p q same)
      ]
      | inr (inr p) ↦ elim (parts m g) [
        | inl q ↦ absurd (plain_or_named m l q p f (sym same))
        | inr (inl q) ↦ absurd (led_or_named m l q p (sym same))
        | inr (inr q) ↦ both_named l m p q f g same
      ]
    ]
