-- Each line is a word and numbers, or ends in a class or at a sector of the payload, or begins with the word `finish`, `switch` or `show`.
use Rattle.std.proofs.Common.{◌≡◌, ℕ, ◌≤◌, ◌<◌, ◌⊎◌, inl, inr, List, [], ◌∷◌, ◌++◌, codes, length, get_or, refl, sym, ap, ◌∙◌, arith, rules, lit≤}
use Rattle.script_line.specs.Words.{IsTail, HasNoSpace, AreNumbers, numbers, at_sector, class_named}
use Rattle.script_line.specs.Line.{spelled, ended, named, Fits}
use Rattle.script_line.specs.Look.{shown}
use Rattle.script_line.specs.Plain.{IsWordAndNumbers, IsMarked, Reads}
use Rattle.std.specs.Prelude.{Option, None, Some, IfNone}
use Rattle.script_line.specs.declared.line.Line.{Line}
use Rattle.script_line.specs.declared.look.Look.{Look}
use Rattle.script_line.specs.declared.line.Ending.{Ending}
use Rattle.sector_core.specs.declared.config.Scheduler.{Scheduler}
use Rattle.sector_core.specs.declared.config.Scheduler.TheVariants.{Plain, Bfq}
use Rattle.script_line.specs.declared.line.Line.TheVariants.{Attach, ClassAttach, Read, Write, WriteFrom, Discard, Reap, Leave, Dispatch, Finish, Work, Requeue, Hold, Release, Undo, Redo, Group, Drop, Weight, Freeze, Thaw, Switch, Tick, Sector, Queue, Cursor, Vtime, ClassVtime, Entity, Class, Show}
use Rattle.script_line.proofs.Cuts.{one_cut, one_numbers, IsTail-numbers}
use Rattle.script_line.proofs.Looks.{IsTail-shown}
use Rattle.script_line.proofs.Sources.{not_numbers}

pub record IsPlain (word given : List ℕ) (l : Line) : Type 0 where
  pub spelling : spelled l ≡ word ++ numbers given
  pub space : HasNoSpace word
  pub fits : AreNumbers given
  pub few : length given ≤ 5
  pub is : (w ns : List ℕ) → w ≡ word → ns ≡ given → IsWordAndNumbers w ns l

-- a `finish` line, a `switch` line or a `show` line
abbrev pub IsOther : Line → Type 0
IsOther l = ((tag : ℕ) × (issue : ℕ) × (e : Ending) × (l ≡ Finish tag issue e)) ⊎ (((s : Scheduler) × (l ≡ Switch s)) ⊎ ((look : Look) × (l ≡ Show look)))

-- a word that more than numbers follows
abbrev pub IsLeader : List ℕ → Type 0
IsLeader word = (word ≡ codes "finish") ⊎ ((word ≡ codes "switch") ⊎ (word ≡ codes "show"))

pub record IsLed (word rest : List ℕ) (l : Line) : Type 0 where
  pub spelling : spelled l ≡ word ++ rest
  pub space : HasNoSpace word
  pub tail : IsTail rest
  pub known : IsLeader word
  pub other : IsOther l

pub record IsNamed (word rest : List ℕ) (l : Line) : Type 0 where
  pub spelling : spelled l ≡ word ++ rest
  pub space : HasNoSpace word
  pub tail : IsTail rest
  pub is : (w t : List ℕ) → w ≡ word → t ≡ rest → IsMarked w t l

-- a line of a word and numbers
abbrev pub PlainParts : Line → Type 0
PlainParts l = (word : List ℕ) × (given : List ℕ) × IsPlain word given l

-- a line that begins with `finish`, `switch` or `show`
abbrev pub LedParts : Line → Type 0
LedParts l = (word : List ℕ) × (rest : List ℕ) × IsLed word rest l

-- a line that ends in a class or at a sector of the payload
abbrev pub NamedParts : Line → Type 0
NamedParts l = (word : List ℕ) × (rest : List ℕ) × IsNamed word rest l

abbrev pub Parts : Line → Type 0
Parts l = PlainParts l ⊎ (LedParts l ⊎ NamedParts l)

IsTail-named : (s : Scheduler) → IsTail (named s)
IsTail-named Plain = refl
IsTail-named Bfq = refl

pub parts : (l : Line) → Fits l → Parts l
parts (Attach s g p) f = inl (codes "attach", s ∷ g ∷ p ∷ [], record { spelling = refl; space = search rules; fits = (omega arith, (omega arith, (omega arith, tt))); few = lit≤ tt; is = λ w ns e d. (e, d) })
parts (ClassAttach s g p c) f = inr (inr (codes "attach", numbers (s ∷ g ∷ p ∷ []) ++ class_named c, record { spelling = refl; space = search rules; tail = refl; is = λ w t e d. inl (e, d) }))
parts (Read s n a c) f = inl (codes "read", s ∷ n ∷ a ∷ c ∷ [], record { spelling = refl; space = search rules; fits = (omega arith, (f.1, (f.2, (omega arith, tt)))); few = lit≤ tt; is = λ w ns e d. (e, d) })
parts (Discard s n a c) f = inl (codes "discard", s ∷ n ∷ a ∷ c ∷ [], record { spelling = refl; space = search rules; fits = (omega arith, (f.1, (f.2, (omega arith, tt)))); few = lit≤ tt; is = λ w ns e d. (e, d) })
parts (Write s n a c b) f = inl (codes "write", s ∷ n ∷ a ∷ c ∷ b ∷ [], record { spelling = refl; space = search rules; fits = (omega arith, (f.1, (f.2, (omega arith, (omega arith, tt))))); few = lit≤ tt; is = λ w ns e d. (e, d) })
parts (WriteFrom s n a c b) f = inr (inr (codes "write", numbers (s ∷ n ∷ a ∷ c ∷ []) ++ at_sector b, record { spelling = refl; space = search rules; tail = refl; is = λ w t e d. inr (e, d) }))
parts (Reap s n) f = inl (codes "reap", s ∷ n ∷ [], record { spelling = refl; space = search rules; fits = (omega arith, (f.1, tt)); few = lit≤ tt; is = λ w ns e d. (e, d) })
parts (Leave s) f = inl (codes "leave", s ∷ [], record { spelling = refl; space = search rules; fits = (omega arith, tt); few = lit≤ tt; is = λ w ns e d. (e, d) })
parts Dispatch f = inl (codes "dispatch", [], record { spelling = refl; space = search rules; fits = tt; few = lit≤ tt; is = λ w ns e d. (e, d) })
parts (Finish t i e) f = inr (inl (codes "finish", numbers (t ∷ i ∷ []) ++ ended e, record { spelling = refl; space = search rules; tail = refl; known = inl refl; other = inl (t, i, e, refl) }))
parts (Work t i) f = inl (codes "work", t ∷ i ∷ [], record { spelling = refl; space = search rules; fits = (omega arith, (f.1, tt)); few = lit≤ tt; is = λ w ns e d. (e, d) })
parts (Requeue t i) f = inl (codes "requeue", t ∷ i ∷ [], record { spelling = refl; space = search rules; fits = (omega arith, (f.1, tt)); few = lit≤ tt; is = λ w ns e d. (e, d) })
parts Hold f = inl (codes "hold", [], record { spelling = refl; space = search rules; fits = tt; few = lit≤ tt; is = λ w ns e d. (e, d) })
parts Release f = inl (codes "release", [], record { spelling = refl; space = search rules; fits = tt; few = lit≤ tt; is = λ w ns e d. (e, d) })
parts (Undo k) f = inl (codes "undo", k ∷ [], record { spelling = refl; space = search rules; fits = (omega arith, tt); few = lit≤ tt; is = λ w ns e d. (e, d) })
parts (Redo k) f = inl (codes "redo", k ∷ [], record { spelling = refl; space = search rules; fits = (omega arith, tt); few = lit≤ tt; is = λ w ns e d. (e, d) })
parts (Group g w) f = inl (codes "group", g ∷ w ∷ [], record { spelling = refl; space = search rules; fits = (omega arith, (omega arith, tt)); few = lit≤ tt; is = λ w ns e d. (e, d) })
parts (Drop g) f = inl (codes "drop", g ∷ [], record { spelling = refl; space = search rules; fits = (omega arith, tt); few = lit≤ tt; is = λ w ns e d. (e, d) })
parts (Weight g w) f = inl (codes "weight", g ∷ w ∷ [], record { spelling = refl; space = search rules; fits = (omega arith, (omega arith, tt)); few = lit≤ tt; is = λ w ns e d. (e, d) })
parts Freeze f = inl (codes "freeze", [], record { spelling = refl; space = search rules; fits = tt; few = lit≤ tt; is = λ w ns e d. (e, d) })
parts Thaw f = inl (codes "thaw", [], record { spelling = refl; space = search rules; fits = tt; few = lit≤ tt; is = λ w ns e d. (e, d) })
parts (Switch s) f = inr (inl (codes "switch", named s, record { spelling = refl; space = search rules; tail = IsTail-named s; known = inr (inl refl); other = inr (inl (s, refl)) }))
parts Tick f = inl (codes "tick", [], record { spelling = refl; space = search rules; fits = tt; few = lit≤ tt; is = λ w ns e d. (e, d) })
parts (Sector n) f = inl (codes "sector", n ∷ [], record { spelling = refl; space = search rules; fits = (f, tt); few = lit≤ tt; is = λ w ns e d. (e, d) })
parts (Queue s) f = inl (codes "queue", s ∷ [], record { spelling = refl; space = search rules; fits = (omega arith, tt); few = lit≤ tt; is = λ w ns e d. (e, d) })
parts Cursor f = inl (codes "line", [], record { spelling = refl; space = search rules; fits = tt; few = lit≤ tt; is = λ w ns e d. (e, d) })
parts (Vtime g) f = inl (codes "vtime", g ∷ [], record { spelling = refl; space = search rules; fits = (omega arith, tt); few = lit≤ tt; is = λ w ns e d. (e, d) })
parts (ClassVtime g c) f = inr (inr (codes "vtime", numbers (g ∷ []) ++ class_named c, record { spelling = refl; space = search rules; tail = refl; is = λ w t e d. inl (e, d) }))
parts (Entity n) f = inl (codes "entity", n ∷ [], record { spelling = refl; space = search rules; fits = (omega arith, tt); few = lit≤ tt; is = λ w ns e d. (e, d) })
parts (Class n) f = inl (codes "class", n ∷ [], record { spelling = refl; space = search rules; fits = (omega arith, tt); few = lit≤ tt; is = λ w ns e d. (e, d) })
parts (Show look) f = inr (inl (codes "show", shown look, record { spelling = refl; space = search rules; tail = IsTail-shown look; known = inr (inr refl); other = inr (inr (look, refl)) }))

-- what holds of the numbers one by one holds of the list, where it has so many
pub of_none : (P : List ℕ → Type 0) (ns : List ℕ) → length ns < 1 → P [] → P ns
of_none P [] few h = h
of_none P (a ∷ ns) few h = absurd (omega arith)

pub of_one : (P : List ℕ → Type 0) (ns : List ℕ) → 1 ≤ length ns → length ns < 2 → P (get_or ns 0 0 ∷ []) → P ns
of_one P (a ∷ []) some few h = h
of_one P [] some few h = absurd (omega arith)
of_one P (a ∷ b ∷ ns) some few h = absurd (omega arith)

pub of_two : (P : List ℕ → Type 0) (ns : List ℕ) → 2 ≤ length ns → length ns < 3 → P (get_or ns 0 0 ∷ get_or ns 1 0 ∷ []) → P ns
of_two P (a ∷ ns) some few h = of_one (λ xs. P (a ∷ xs)) ns (omega arith) (omega arith) h
of_two P [] some few h = absurd (omega arith)

pub of_three : (P : List ℕ → Type 0) (ns : List ℕ) → 3 ≤ length ns → length ns < 4 → P (get_or ns 0 0 ∷ get_or ns 1 0 ∷ get_or ns 2 0 ∷ []) → P ns
of_three P (a ∷ ns) some few h = of_two (λ xs. P (a ∷ xs)) ns (omega arith) (omega arith) h
of_three P [] some few h = absurd (omega arith)

pub of_four : (P : List ℕ → Type 0) (ns : List ℕ) → 4 ≤ length ns → length ns < 5
    → P (get_or ns 0 0 ∷ get_or ns 1 0 ∷ get_or ns 2 0 ∷ get_or ns 3 0 ∷ []) → P ns
of_four P (a ∷ ns) some few h = of_three (λ xs. P (a ∷ xs)) ns (omega arith) (omega arith) h
of_four P [] some few h = absurd (omega arith)

pub of_five : (P : List ℕ → Type 0) (ns : List ℕ) → 5 ≤ length ns → length ns < 6
    → P (get_or ns 0 0 ∷ get_or ns 1 0 ∷ get_or ns 2 0 ∷ get_or ns 3 0 ∷ get_or ns 4 0 ∷ []) → P ns
of_five P (a ∷ ns) some few h = of_four (λ xs. P (a ∷ xs)) ns (omega arith) (omega arith) h
of_five P [] some few h = absurd (omega arith)

-- no line is a word and six numbers or more
pub too_many : (word given : List ℕ) → 6 ≤ length given → (l : Line) → Fits l → IsWordAndNumbers word given l → ⊥
too_many word given many (Finish t i e) fits is = is
too_many word given many (Switch s) fits is = is
too_many word given many (Show look) fits is = is
too_many word given many (ClassAttach s g p c) fits is = is
too_many word given many (ClassVtime g c) fits is = is
too_many word given many (WriteFrom s n a c b) fits is = is
too_many word given many _ fits is = omega (arith, ap length is.1)

-- a text cut into a word that is none of `finish`, `switch` and `show` and numbers is no line, where no line is that word and these numbers
pub no_plain : (text word rest given : List ℕ) → text ≡ word ++ rest → HasNoSpace word → IsTail rest → (word ≡ codes "finish" → ⊥) → (word ≡ codes "switch" → ⊥) → (word ≡ codes "show" → ⊥)
    → AreNumbers given → rest ≡ numbers given
    → ((l : Line) → Fits l → IsWordAndNumbers word given l → ⊥)
    → (l : Line) → Fits l → text ≡ spelled l → ⊥
no_plain text word rest given whole hw hr finish switch show hg is none l fits e =
    elim (parts l fits) [
      | inl p ↦
          let same : word ++ rest ≡ p.0 ++ numbers p.1 = sym whole ∙ e ∙ p.2.spelling in
          let cuts = one_cut word p.0 rest (numbers p.1) hw p.2.space hr (IsTail-numbers p.1) same in
          none l fits (p.2.is word given cuts.0 (one_numbers given p.1 hg p.2.fits (sym is ∙ cuts.1)))
      | inr (inl p) ↦
          let same : word ++ rest ≡ p.0 ++ p.1 = sym whole ∙ e ∙ p.2.spelling in
          let word_is = (one_cut word p.0 rest p.1 hw p.2.space hr p.2.tail same).0 in
          elim p.2.known [
            | inl k ↦ finish (word_is ∙ k)
            | inr (inl k) ↦ switch (word_is ∙ k)
            | inr (inr k) ↦ show (word_is ∙ k)
          ]
      | inr (inr p) ↦
          let same : word ++ rest ≡ p.0 ++ p.1 = sym whole ∙ e ∙ p.2.spelling in
          let cuts = one_cut word p.0 rest p.1 hw p.2.space hr p.2.tail same in
          not_numbers word rest given l fits (p.2.is word rest cuts.0 cuts.1) hg is
    ]

-- a text cut into a word that is none of `finish`, `switch` and `show` and what are no numbers, and no line that ends in a class or at a sector of the payload, is no line
pub no_numbers : (text word rest : List ℕ) → text ≡ word ++ rest → HasNoSpace word → IsTail rest → (word ≡ codes "finish" → ⊥) → (word ≡ codes "switch" → ⊥) → (word ≡ codes "show" → ⊥)
    → ((ns : List ℕ) → AreNumbers ns → length ns ≤ 5 → rest ≡ numbers ns → ⊥)
    → ((l : Line) → Fits l → IsMarked word rest l → ⊥)
    → (l : Line) → Fits l → text ≡ spelled l → ⊥
no_numbers text word rest whole hw hr finish switch show none unmarked l fits e =
    elim (parts l fits) [
      | inl p ↦
          let same : word ++ rest ≡ p.0 ++ numbers p.1 = sym whole ∙ e ∙ p.2.spelling in
          let cuts = one_cut word p.0 rest (numbers p.1) hw p.2.space hr (IsTail-numbers p.1) same in
          none p.1 p.2.fits p.2.few cuts.1
      | inr (inl p) ↦
          let same : word ++ rest ≡ p.0 ++ p.1 = sym whole ∙ e ∙ p.2.spelling in
          let word_is = (one_cut word p.0 rest p.1 hw p.2.space hr p.2.tail same).0 in
          elim p.2.known [
            | inl k ↦ finish (word_is ∙ k)
            | inr (inl k) ↦ switch (word_is ∙ k)
            | inr (inr k) ↦ show (word_is ∙ k)
          ]
      | inr (inr p) ↦
          let same : word ++ rest ≡ p.0 ++ p.1 = sym whole ∙ e ∙ p.2.spelling in
          let cuts = one_cut word p.0 rest p.1 hw p.2.space hr p.2.tail same in
          unmarked l fits (p.2.is word rest cuts.0 cuts.1)
    ]

pub none_read : {Q : Type 0} (word given : List ℕ) (found : Option Line) → Reads word given found
    → (((l : Line) → Fits l → IsWordAndNumbers word given l → ⊥) → Q) → IfNone found Q
none_read word given None h f = f h
none_read word given (Some l) h f = tt
