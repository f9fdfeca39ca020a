-- What a line that begins with the word `show` can be.
use Rattle.std.proofs.Common.{◌≡◌, ℕ, ◌≤◌, List, [], ◌∷◌, ◌++◌, codes, length, refl, sym, ◌∙◌, ap, arith, rules, lit≤, get_or}
use Rattle.script_line.specs.Words.{HasNoSpace, IsTail, AreNumbers, numbers}
use Rattle.script_line.specs.Look.{shown, LookFits, IsLook}
use Rattle.script_line.specs.Line.{spelled, Fits}
use Rattle.script_line.specs.declared.look.Look.{Look}
use Rattle.script_line.specs.declared.look.Look.TheVariants.{Seat, Outbox, Queue, Requeued, Flight, Service, Tree, Host, State, Stored, Step}
use Rattle.script_line.specs.declared.line.Line.{Line}
use Rattle.script_line.specs.declared.line.Line.TheVariants.{Show}
use Rattle.script_line.proofs.Cuts.{one_cut, one_numbers, IsTail-numbers, mark}

pub record IsShown (word given : List ℕ) (look : Look) : Type 0 where
  pub spelling : shown look ≡ 32 ∷ (word ++ numbers given)
  pub space : HasNoSpace word
  pub fits : AreNumbers given
  pub few : length given ≤ 5
  pub is : (w ns : List ℕ) → w ≡ word → ns ≡ given → IsLook w ns look

-- the word and the numbers after the word `show`
abbrev pub LookParts : Look → Type 0
LookParts look = (word : List ℕ) × (given : List ℕ) × IsShown word given look

look_parts : (look : Look) → LookFits look → LookParts look
look_parts (Seat s) f = (codes "seat", s ∷ [], record { spelling = refl; space = search rules; fits = (omega arith, tt); few = lit≤ tt; is = λ w ns e d. (e, d) })
look_parts (Outbox s) f = (codes "outbox", s ∷ [], record { spelling = refl; space = search rules; fits = (omega arith, tt); few = lit≤ tt; is = λ w ns e d. (e, d) })
look_parts (Queue s) f = (codes "queue", s ∷ [], record { spelling = refl; space = search rules; fits = (omega arith, tt); few = lit≤ tt; is = λ w ns e d. (e, d) })
look_parts Requeued f = (codes "requeued", [], record { spelling = refl; space = search rules; fits = tt; few = lit≤ tt; is = λ w ns e d. (e, d) })
look_parts Flight f = (codes "flight", [], record { spelling = refl; space = search rules; fits = tt; few = lit≤ tt; is = λ w ns e d. (e, d) })
look_parts Service f = (codes "service", [], record { spelling = refl; space = search rules; fits = tt; few = lit≤ tt; is = λ w ns e d. (e, d) })
look_parts (Tree g) f = (codes "tree", g ∷ [], record { spelling = refl; space = search rules; fits = (omega arith, tt); few = lit≤ tt; is = λ w ns e d. (e, d) })
look_parts Host f = (codes "host", [], record { spelling = refl; space = search rules; fits = tt; few = lit≤ tt; is = λ w ns e d. (e, d) })
look_parts State f = (codes "state", [], record { spelling = refl; space = search rules; fits = tt; few = lit≤ tt; is = λ w ns e d. (e, d) })
look_parts (Stored n) f = (codes "stored", n ∷ [], record { spelling = refl; space = search rules; fits = (f, tt); few = lit≤ tt; is = λ w ns e d. (e, d) })
look_parts (Step k) f = (codes "step", k ∷ [], record { spelling = refl; space = search rules; fits = (omega arith, tt); few = lit≤ tt; is = λ w ns e d. (e, d) })

pub IsTail-shown : (look : Look) → IsTail (shown look)
IsTail-shown (Seat s) = refl
IsTail-shown _ = refl

only_show : (text : List ℕ) → ((look : Look) → LookFits look → text ≡ shown look → ⊥)
    → (l : Line) → Fits l → spelled l ≡ codes "show" ++ text → ⊥
only_show text none (Show look) fits same =
    let after : text ≡ shown look = cc in
    none look fits after
only_show text none _ fits same = omega (arith, ap (λ xs. get_or xs 0 0) same, ap (λ xs. get_or xs 1 0) same)

-- a text that is a space, a word and a rest, and stands after `show`: the word and the numbers of what is shown are these
cut_alike : (text after word rest : List ℕ) (look : Look) → text ≡ 32 ∷ after → after ≡ word ++ rest → HasNoSpace word → IsTail rest
    → (p : LookParts look) → text ≡ shown look → (word ≡ p.0) × (rest ≡ numbers p.1)
cut_alike text after word rest look first whole hw hr p e =
    let spelling : shown look ≡ 32 ∷ (p.0 ++ numbers p.1) = p.2.spelling in
    let same : word ++ rest ≡ p.0 ++ numbers p.1 = cc in
    one_cut word p.0 rest (numbers p.1) hw p.2.space hr (IsTail-numbers p.1) same

-- after `show`, a space and a word, what are no numbers: no line
pub none_given : (text after word rest : List ℕ) → text ≡ 32 ∷ after → after ≡ word ++ rest → HasNoSpace word → IsTail rest
    → ((ns : List ℕ) → AreNumbers ns → length ns ≤ 5 → rest ≡ numbers ns → ⊥)
    → (l : Line) → Fits l → spelled l ≡ codes "show" ++ text → ⊥
none_given text after word rest first whole hw hr none = only_show text (λ look fits e.
    let p = look_parts look fits in
    none p.1 p.2.fits p.2.few (cut_alike text after word rest look first whole hw hr p e).1)

-- after `show`, a space, a word and numbers that show nothing: no line
pub none_shown : (text after word rest given : List ℕ) → text ≡ 32 ∷ after → after ≡ word ++ rest → HasNoSpace word → IsTail rest
    → AreNumbers given → rest ≡ numbers given
    → ((look : Look) → LookFits look → IsLook word given look → ⊥)
    → (l : Line) → Fits l → spelled l ≡ codes "show" ++ text → ⊥
none_shown text after word rest given first whole hw hr hg is none = only_show text (λ look fits e.
    let p = look_parts look fits in
    let cuts = cut_alike text after word rest look first whole hw hr p e in
    none look fits (p.2.is word given cuts.0 (one_numbers given p.1 hg p.2.fits (sym is ∙ cuts.1))))

-- the word after the word `show`
abbrev look_word : Look → List ℕ
look_word (Seat s) = codes "seat"
look_word (Outbox s) = codes "outbox"
look_word (Queue s) = codes "queue"
look_word Requeued = codes "requeued"
look_word Flight = codes "flight"
look_word Service = codes "service"
look_word (Tree g) = codes "tree"
look_word Host = codes "host"
look_word State = codes "state"
look_word (Stored n) = codes "stored"
look_word (Step k) = codes "step"

look_word_is : (w ns : List ℕ) (look : Look) → IsLook w ns look → w ≡ look_word look
look_word_is w ns (Seat s) h = h.0
look_word_is w ns _ h = h.0

one_look_word : (w ns : List ℕ) (l m : Look) → IsLook w ns l → IsLook w ns m → l ≡ m
one_look_word w ns (Seat s) (Seat s') one two = let same : s ∷ [] ≡ s' ∷ [] = sym one.1 ∙ two.1 in cc
one_look_word w ns (Outbox s) (Outbox s') one two = let same : s ∷ [] ≡ s' ∷ [] = sym one.1 ∙ two.1 in cc
one_look_word w ns (Queue s) (Queue s') one two = let same : s ∷ [] ≡ s' ∷ [] = sym one.1 ∙ two.1 in cc
one_look_word w ns Requeued Requeued one two = refl
one_look_word w ns Flight Flight one two = refl
one_look_word w ns Service Service one two = refl
one_look_word w ns (Tree g) (Tree g') one two = let same : g ∷ [] ≡ g' ∷ [] = sym one.1 ∙ two.1 in cc
one_look_word w ns Host Host one two = refl
one_look_word w ns State State one two = refl
one_look_word w ns (Stored n) (Stored n') one two = let same : n ∷ [] ≡ n' ∷ [] = sym one.1 ∙ two.1 in cc
one_look_word w ns (Step k) (Step k') one two = let same : k ∷ [] ≡ k' ∷ [] = sym one.1 ∙ two.1 in cc
one_look_word w ns _ m one two = absurd (omega (arith, ap mark (sym one.0 ∙ look_word_is w ns m two)))

-- two looks that are spelled alike are equal
pub one_look : (l m : Look) → LookFits l → LookFits m → shown l ≡ shown m → l ≡ m
one_look l m f g same =
    let p = look_parts l f in
    let q = look_parts m g in
    let cuts = cut_alike (shown l) (p.0 ++ numbers p.1) p.0 (numbers p.1) m p.2.spelling refl p.2.space (IsTail-numbers p.1) q same in
    one_look_word p.0 p.1 l m (p.2.is p.0 p.1 refl refl) (q.2.is p.0 p.1 cuts.0 (one_numbers p.1 q.1 p.2.fits q.2.fits cuts.1))
