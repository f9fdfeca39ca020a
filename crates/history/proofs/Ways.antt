-- An undo, a redo and a new step leave a line.
use Rattle.std.proofs.Common.{true, ◌≡◌, ℕ, zero, suc, ◌+◌, ◌-◌, ◌<◌, ◌≤◌, List, [], ◌∷◌, ◌++◌, take, length, set, get_or, refl, sym, ap, ◌∙◌, subst, arith, length-set, length-append, inl, inr, Bool, false}
use Rattle.std.proofs.Math.ListN.{get_or-append}
use Rattle.std.proofs.lemmas.List.{get_or-set_same, get_or-set_other, get_or-take, get_or-append_right, length-take-le}
use Rattle.change_record.specs.declared.change.Change.{Change}
use Rattle.change_record.specs.Tables.{Tables}
use Rattle.change_record.specs.Exchange.{back_tables, back_left, forth_tables, forth_left}
use Rattle.change_record.specs.Trail.{IsTrail}
use Rattle.change_record.specs.Tape.{step_at}
use Rattle.plain.specs.Machine.{Plain}
use Rattle.change_record.specs.Machine.{meaning}
use Rattle.change_record.proofs.Exchanges.{back_tables-forth, forth_tables-back}
use Rattle.plain.specs.declared.sizes.Sizes.{Sizes}
use Rattle.plain.specs.declared.step.Step.{Step}
use Rattle.plain.specs.declared.call.Stamped.{Stamped}
use Rattle.plain.specs.declared.answer.Answer.{Answer}
use Rattle.plain.specs.declared.answer.Answer.TheVariants.{Accepted, Refused, NotYet}
use Rattle.plain.specs.declared.answer.Reply.{Reply}
use Rattle.plain.specs.declared.answer.Code.TheVariants.{OutOfMemory}
use Rattle.plain.specs.Opening.{Limits}
use Rattle.plain.specs.Step.{of_sizes, step, IsAccepted, MayGiveWay, Applies}
use Rattle.history.specs.Roll.{Line, plain_at, SameLine, AddsStep, LineAfter, MayStep}
use Rattle.history.proofs.Room.{no_room}
use Rattle.dispatch_core.specs.WellFormed.{IsSound}
use Rattle.dispatch_core.proofs.Laws.{IsSound-later}
use Rattle.history.specs.Line.{stamped_at, Stands, Waits, IsPast, IsFuture, IsLine}
use Rattle.history.proofs.Lines.{undone, redone, past-same, future-same, past-later}

-- equal parts
pub same-line : (line : List Stamped) (cursor last : ℕ) (z y : Sizes) (t u : Tables) (steps now : List (List Change)) (current idle : List Change)
    → y ≡ z → u ≡ t → now ≡ steps → idle ≡ current → IsLine line cursor last z t steps current → IsLine line cursor last y u now idle
same-line line cursor last z y t u steps now current idle a b c d h =
    let P : Sizes → Type 0 = λ x. IsLine line cursor last x t steps current in
    let Q : Tables → Type 0 = λ x. IsLine line cursor last y x steps current in
    let R : List (List Change) → Type 0 = λ x. IsLine line cursor last y u x current in
    let S : List Change → Type 0 = λ x. IsLine line cursor last y u now x in
    subst S (sym d) (subst R (sym c) (subst Q (sym b) (subst P (sym a) h)))

pub undo-line : (line : List Stamped) (k last : ℕ) (z : Sizes) (t : Tables) (steps : List (List Change)) (current : List Change)
    → IsLine line (suc k) last z t steps current
    → IsLine line k last z (back_tables (step_at steps k) t) (set steps k (back_left (step_at steps k) t)) current
undo-line line k last z t steps current h =
    let l : Limits = of_sizes z in
    let c : List Change = step_at steps k in
    let now : List (List Change) = set steps k (back_left c t) in
    let u : Tables = back_tables c t in
    let within : suc k ≤ length line = h.within in
    let even : length steps ≡ length line = h.even in
    let here : step_at now k ≡ back_left c t = get_or-set_same steps k (back_left c t) [] (omega (arith, within, even)) in
    let waits : Waits l (last + 1) (back_left c t) (stamped_at line k) u = undone l (last + 1) c (stamped_at line k) t h.well h.past.0 in
    let G : Tables → Type 0 = λ x. IsFuture l (last + 1) (step_at now) (stamped_at line) (length line - suc k) (k + 1) x in
    let K : ℕ → Type 0 = λ x. IsFuture l (last + 1) (step_at steps) (stamped_at line) (length line - suc k) x t in
    let rest : G t = future-same l (last + 1) (step_at steps) (step_at now) (stamped_at line) (length line - suc k) (k + 1) t
    (λ i le. get_or-set_other steps k i (back_left c t) [] (omega (arith, le)))
    (subst K (omega arith) h.future) in
    let F : List Change → Type 0 = λ d. Waits l (last + 1) d (stamped_at line k) u × G (forth_tables d u) in
    let both : F (step_at now k) = subst F (sym here) (waits, subst G (sym (forth_tables-back c t)) rest) in
    let M : ℕ → Type 0 = λ x. IsFuture l (last + 1) (step_at now) (stamped_at line) x k u in
    let count : suc (length line - suc k) ≡ length line - k = omega (arith, within) in
    record {
      within = omega (arith, within);
      even = length-set steps k _ ∙ even;
      idle = h.idle;
      well = h.past.0.well;
      past = past-same l (last + 1) (step_at steps) (step_at now) (stamped_at line) (stamped_at line) k u
          (λ i lt. get_or-set_other steps k i (back_left c t) [] (omega (arith, lt))) (λ i lt. refl) h.past.1;
      future = subst M count both;
    }

-- the step after the cursor waits
pub next-waits : (line : List Stamped) (k last : ℕ) (z : Sizes) (t : Tables) (steps : List (List Change)) (current : List Change)
    → k < length line → IsLine line k last z t steps current → Waits (of_sizes z) (last + 1) (step_at steps k) (stamped_at line k) t
next-waits line k last z t steps current lt h =
    let M : ℕ → Type 0 = λ x. IsFuture (of_sizes z) (last + 1) (step_at steps) (stamped_at line) x k t in
    let count : length line - k ≡ suc (length line - suc k) = omega (arith, lt) in
    let future : M (suc (length line - suc k)) = subst M count h.future in
    future.0

pub redo-line : (line : List Stamped) (k last : ℕ) (z : Sizes) (t : Tables) (steps : List (List Change)) (current : List Change)
    → k < length line → IsLine line k last z t steps current
    → IsLine line (suc k) last z (forth_tables (step_at steps k) t) (set steps k (forth_left (step_at steps k) t)) current
redo-line line k last z t steps current lt h =
    let l : Limits = of_sizes z in
    let c : List Change = step_at steps k in
    let now : List (List Change) = set steps k (forth_left c t) in
    let u : Tables = forth_tables c t in
    let even : length steps ≡ length line = h.even in
    let here : step_at now k ≡ forth_left c t = get_or-set_same steps k (forth_left c t) [] (omega (arith, lt, even)) in
    let M : ℕ → Type 0 = λ x. IsFuture l (last + 1) (step_at steps) (stamped_at line) x k t in
    let count : length line - k ≡ suc (length line - suc k) = omega (arith, lt) in
    let future : M (suc (length line - suc k)) = subst M count h.future in
    let stands : Stands l (last + 1) (forth_left c t) (stamped_at line k) u = redone l (last + 1) c (stamped_at line k) t h.well future.0 in
    let G : Tables → Type 0 = λ x. IsPast l (last + 1) (step_at now) (stamped_at line) k x in
    let rest : G t = past-same l (last + 1) (step_at steps) (step_at now) (stamped_at line) (stamped_at line) k t
    (λ i lt. get_or-set_other steps k i (forth_left c t) [] (omega (arith, lt))) (λ i lt. refl) h.past in
    let F : List Change → Type 0 = λ d. Stands l (last + 1) d (stamped_at line k) u × G (back_tables d u) in
    let K : ℕ → Type 0 = λ x. IsFuture l (last + 1) (step_at now) (stamped_at line) (length line - suc k) x u in
    record {
      within = omega (arith, lt);
      even = length-set steps k _ ∙ even;
      idle = h.idle;
      well = future.0.well;
      past = subst F (sym here) (stands, subst G (sym (back_tables-forth c t)) rest);
      future = subst K (omega arith) (future-same l (last + 1) (step_at steps) (step_at now) (stamped_at line) (length line - suc k) (k + 1) u
          (λ i le. get_or-set_other steps k i (forth_left c t) [] (omega (arith, le))) future.1);
    }

-- the last of a list that was cut
last-of : {A : Type 0} (xs : List A) (k : ℕ) (x d : A) → k ≤ length xs → get_or (take k xs ++ x ∷ []) k d ≡ x
last-of xs k x d le =
    let none : k - k ≡ 0 = omega arith in
    get_or-append_right (take k xs) (x ∷ []) k k d (length-take-le k xs le) (omega arith) ∙ ap (λ n. get_or (x ∷ []) n d) none

-- the others of a list that was cut
before-last : {A : Type 0} (xs : List A) (k i : ℕ) (x d : A) → k ≤ length xs → i < k → get_or (take k xs ++ x ∷ []) i d ≡ get_or xs i d
before-last xs k i x d le lt = get_or-append (take k xs) (x ∷ []) d i (omega (arith, lt, length-take-le k xs le)) ∙ get_or-take k xs i d lt

length-cut : {A : Type 0} (xs : List A) (k : ℕ) (x : A) → k ≤ length xs → length (take k xs ++ x ∷ []) ≡ suc k
length-cut xs k x le = length-append (take k xs) (x ∷ []) ∙ omega (arith, length-take-le k xs le)

pub step-line : (line : List Stamped) (k last : ℕ) (z : Sizes) (t u : Tables) (steps : List (List Change)) (current changes : List Change) (s : Step)
    → IsLine line k last z t steps current → IsTrail changes u t → IsSound (of_sizes z) (last + 1 + 1) u
    → meaning u ≡ (step (of_sizes z) (meaning t) (last + 1) true s).0
    → IsLine (take k line ++ record { serial = last + 1; step = s } ∷ []) (suc k) (last + 1) z u (take k steps ++ changes ∷ []) current
step-line line k last z t u steps current changes s h trail w made =
    let l : Limits = of_sizes z in
    let x : Stamped = record { serial = last + 1; step = s } in
    let now : List (List Change) = take k steps ++ changes ∷ [] in
    let next : List Stamped = take k line ++ x ∷ [] in
    let within : k ≤ length line = h.within in
    let even : length steps ≡ length line = h.even in
    let cut : k ≤ length steps = omega (arith, within, even) in
    let W : Tables → Type 0 = λ v. IsSound l (last + 1 + 1) v in
    let stands : Stands l (last + 1 + 1) changes x u = record {
      fits = trail.fits;
      puts = trail.puts;
      well = subst W (sym trail.back) (IsSound-later l (last + 1) t h.well);
      made = made ∙ ap (λ v. (step l (meaning v) (last + 1) true s).0) (sym trail.back);
    } in
    let G : Tables → Type 0 = λ v. IsPast l (last + 1 + 1) (step_at now) (stamped_at next) k v in
    let rest : G t = past-same l (last + 1 + 1) (step_at steps) (step_at now) (stamped_at line) (stamped_at next) k t
    (λ i lt. before-last steps k i changes [] cut lt) (λ i lt. before-last line k i x _ within lt)
    (past-later l (last + 1) (step_at steps) (stamped_at line) k t h.past) in
    let F : List Change → Type 0 = λ d. Stands l (last + 1 + 1) d x u × G (back_tables d u) in
    let E : Stamped → Type 0 = λ y. Stands l (last + 1 + 1) (step_at now k) y u × G (back_tables (step_at now k) u) in
    let both : E x = subst F (sym (last-of steps k changes [] cut)) (stands, subst G (sym trail.back) rest) in
    let M : ℕ → Type 0 = λ n. IsFuture l (last + 1 + 1) (step_at now) (stamped_at next) n (suc k) u in
    let none : 0 ≡ length next - suc k = omega (arith, length-cut line k x within) in
    record {
      within = omega (arith, length-cut line k x within);
      even = length-cut steps k changes cut ∙ sym (length-cut line k x within);
      idle = h.idle;
      well = w;
      past = subst E (sym (last-of line k x _ within)) both;
      future = subst M none tt;
    }

-- an accepted step was taken with room
pub roomed : (l : Limits) (m next : Plain) (n : ℕ) (room : Bool) (s : Step) (reply : Reply) → Applies l m n room s next (Accepted reply) → room ≡ true
roomed l m next n true s reply h = refl
roomed l m next n false s reply (inl e) = absurd (no_room l m n s (subst IsAccepted (ap (λ o. o.1) e) tt))
roomed l m next n false s reply (inr e) = absurd (subst IsAccepted e.1 tt)

pub made : (l : Limits) (m next : Plain) (n : ℕ) (room : Bool) (s : Step) (reply : Reply) → Applies l m n room s next (Accepted reply) → next ≡ (step l m n true s).0
made l m next n true s reply (inl e) = ap (λ o. o.0) e
made l m next n false s reply (inl e) = absurd (no_room l m n s (subst IsAccepted (ap (λ o. o.1) e) tt))
made l m next n room s reply (inr e) = absurd (subst IsAccepted e.1 tt)

pub may-other : (old new : Line) (m next : Plain) (room : Bool) (s : Step) (answer : Answer) → m ≡ plain_at old
    → Applies (of_sizes old.sizes) m (old.last + 1) room s next answer → (IsAccepted answer → ⊥) → SameLine old new → MayStep old room s answer new
may-other old new m next room s answer e h not same =
    let P : Plain → Type 0 = λ p. Applies (of_sizes old.sizes) p (old.last + 1) room s next answer in
    elim (subst P e h) as (λ _. MayStep old room s answer new) [
      | inl same_answer ↦ inl (
        ap (λ o. o.1) same_answer,
        elim answer as (λ a. (IsAccepted a → ⊥) → LineAfter old s a new) [
          | Accepted reply ↦ λ no. absurd (no tt)
          | Refused code ↦ λ no. same
          | NotYet cause ↦ λ no. same
        ] not,
      )
      | inr want ↦ inr (want.0, want.1, same)
    ]

pub may-accept : (old new : Line) (m next : Plain) (room : Bool) (s : Step) (reply : Reply) → m ≡ plain_at old
    → Applies (of_sizes old.sizes) m (old.last + 1) room s next (Accepted reply) → AddsStep old s new → MayStep old room s (Accepted reply) new
may-accept old new m next room s reply e h adds =
    let P : Plain → Type 0 = λ p. Applies (of_sizes old.sizes) p (old.last + 1) room s next (Accepted reply) in
    elim (subst P e h) as (λ _. MayStep old room s (Accepted reply) new) [
      | inl same_answer ↦ inl (ap (λ o. o.1) same_answer, adds)
      | inr want ↦ absurd (subst IsAccepted want.1 tt)
    ]

pub may-want : (old new : Line) (m next : Plain) (room : Bool) (s : Step) (reply : Reply) → m ≡ plain_at old
    → Applies (of_sizes old.sizes) m (old.last + 1) room s next (Accepted reply) → SameLine old new → MayStep old room s (Refused OutOfMemory) new
may-want old new m next room s reply e h same =
    let P : Plain → Type 0 = λ p. Applies (of_sizes old.sizes) p (old.last + 1) room s next (Accepted reply) in
    elim (subst P e h) as (λ _. MayStep old room s (Refused OutOfMemory) new) [
      | inl same_answer ↦ inr (subst MayGiveWay (ap (λ o. o.1) same_answer) tt, refl, same)
      | inr want ↦ absurd (subst IsAccepted want.1 tt)
    ]

-- a list with one more at its end

take-left : {A : Type 0} (xs ys : List A) (k : ℕ) → k ≤ length xs → take k (xs ++ ys) ≡ take k xs
take-left xs ys zero le = refl
take-left [] ys (suc k) le = absurd (omega (arith, le))
take-left (x ∷ xs) ys (suc k) le = ap (λ l. x ∷ l) (take-left xs ys k (omega (arith, le)))

take-all : {A : Type 0} (xs ys : List A) → take (length xs) (xs ++ ys) ≡ xs
take-all [] ys = refl
take-all (x ∷ xs) ys = ap (λ l. x ∷ l) (take-all xs ys)

set-last : {A : Type 0} (xs : List A) (x y : A) → set (xs ++ x ∷ []) (length xs) y ≡ xs ++ y ∷ []
set-last [] x y = refl
set-last (z ∷ xs) x y = ap (λ l. z ∷ l) (set-last xs x y)

get-last : {A : Type 0} (xs : List A) (x d : A) → get_or (xs ++ x ∷ []) (length xs) d ≡ x
get-last [] x d = refl
get-last (y ∷ xs) x d = get-last xs x d

last-number : {A : Type 0} (xs : List A) (x : A) → length (xs ++ x ∷ []) - 1 ≡ length xs
last-number xs x = let e : length (xs ++ x ∷ []) ≡ length xs + 1 = length-append xs (x ∷ []) in omega (arith, e)

-- an accepted step makes one more
pub length-added : (all steps : List (List Change)) (c : List Change) → all ≡ steps ++ c ∷ [] → length all ≡ length steps + 1
length-added all steps c h = ap length h ∙ length-append steps (c ∷ [])

-- only the last of the steps from a number on is kept
pub kept-last : (steps : List (List Change)) (c : List Change) (k : ℕ) → k ≤ length steps
    → take k (steps ++ c ∷ []) ++ step_at (steps ++ c ∷ []) (length (steps ++ c ∷ []) - 1) ∷ [] ≡ take k steps ++ c ∷ []
kept-last steps c k le =
    ap (λ l. l ++ step_at (steps ++ c ∷ []) (length (steps ++ c ∷ []) - 1) ∷ []) (take-left steps (c ∷ []) k le)
    ∙ ap (λ n. take k steps ++ step_at (steps ++ c ∷ []) n ∷ []) (last-number steps c)
    ∙ ap (λ d. take k steps ++ d ∷ []) (get-last steps c [])

-- the last step is that which was added
pub added-last : (steps : List (List Change)) (c : List Change) → step_at (steps ++ c ∷ []) (length (steps ++ c ∷ []) - 1) ≡ c
added-last steps c = ap (λ n. step_at (steps ++ c ∷ []) n) (last-number steps c) ∙ get-last steps c []

-- the last of the steps is dropped
pub dropped-last : (steps : List (List Change)) (c d : List Change) → take (length (set (steps ++ c ∷ []) (length (steps ++ c ∷ []) - 1) d) - 1) (set (steps ++ c ∷ []) (length (steps ++ c ∷ []) - 1) d) ≡ steps
dropped-last steps c d =
    let e : set (steps ++ c ∷ []) (length (steps ++ c ∷ []) - 1) d ≡ steps ++ d ∷ [] = ap (λ n. set (steps ++ c ∷ []) n d) (last-number steps c) ∙ set-last steps c d in
    ap (λ l. take (length l - 1) l) e ∙ ap (λ n. take n (steps ++ d ∷ [])) (last-number steps d) ∙ take-all steps (d ∷ [])
