-- More room in the history gives the same machine.
use Rattle.std.proofs.Common.{◌≡◌, ℕ, suc, ◌+◌, ◌-◌, ◌==◌, nat_lt, Bool, true, false, not, List, [], ◌∷◌, ◌++◌, length, Option, None, Some, ◌≤◌, refl, sym, ap, ◌∙◌, if◌then◌else◌, length-append, arith}
use Rattle.std.proofs.lemmas.Bool.{lt-ltb}
use Rattle.plain.specs.Lists.{first_of}
use Rattle.plain.specs.declared.step.Step.{Step}
use Rattle.plain.specs.declared.call.Call.{Call}
use Rattle.plain.specs.declared.call.Call.TheVariants.{Do, Hold, Release, Undo, Redo}
use Rattle.plain.specs.declared.answer.Answer.{Answer}
use Rattle.plain.specs.declared.answer.Answer.TheVariants.{Accepted, Refused, NotYet}
use Rattle.plain.specs.declared.answer.Reply.{Reply}
use Rattle.plain.specs.declared.answer.Reply.TheVariants.{Moved, Done}
use Rattle.plain.specs.declared.answer.Code.TheVariants.{NotHeld, AlreadyHeld, ZeroCount, NothingToUndo, NothingToRedo, HistoryFull}
use Rattle.plain.specs.declared.answer.Cause.TheVariants.{Held}
use Rattle.plain.specs.Opening.{Limits}
use Rattle.plain.specs.Step.{step}
use Rattle.plain.specs.Keeper.{State, opened, machine_of, has_room, did, called}
use Rattle.plain.specs.Headline.{replayed, replay}

-- a keeper with another history
abbrev pub with_most : ℕ → State → State
with_most n k = record k { most = n }

-- and with an answer
abbrev over : ℕ → State × Answer → State × Answer
over n r = (with_most n r.0, r.1)

did-more : (k : State) (n : ℕ) (s : Step) (answer : Answer) → did (with_most n k) s answer ≡ over n (did k s answer)
did-more k n s (Accepted reply) = refl
did-more k n s (Refused code) = refl
did-more k n s (NotYet cause) = refl

do-more : (k : State) (n : ℕ) (s : Step) (held room other : Bool) → other ≡ room
    → (if held then (with_most n k, NotYet Held) else did (with_most n k) s (step k.limits (machine_of k) (k.last + 1) other s).1)
    ≡ over n (if held then (k, NotYet Held) else did k s (step k.limits (machine_of k) (k.last + 1) room s).1)
do-more k n s true room other same = refl
do-more k n s false room other same =
    ap (λ (has : Bool). did (with_most n k) s (step k.limits (machine_of k) (k.last + 1) has s).1) same
    ∙ did-more k n s (step k.limits (machine_of k) (k.last + 1) room s).1

abbrev enters : State → Option Answer → State → Call → Reply → State × Answer
enters k first next call reply = elim first [
  | None ↦ (record next { journal = k.journal ++ call ∷ [] }, Accepted reply)
  | Some answer ↦ (k, answer)
]

enters-more : (k next : State) (n : ℕ) (first : Option Answer) (call : Call) (reply : Reply)
    → enters (with_most n k) first (with_most n next) call reply ≡ over n (enters k first next call reply)
enters-more k next n None call reply = refl
enters-more k next n (Some answer) call reply = refl

-- one call, with room for it in both
called-more : (k : State) (n : ℕ) (call : Call) → has_room (with_most n k) ≡ has_room k → called (with_most n k) call ≡ over n (called k call)
called-more k n (Do s) same = do-more k n s k.held (has_room k) (has_room (with_most n k)) same
called-more k n Hold same =
    ap (λ (has : Bool). enters (with_most n k) (first_of ((k.held, Refused AlreadyHeld) ∷ (not has, Refused HistoryFull) ∷ [])) (with_most n (record k { held = true })) Hold (Moved k.cursor (length k.line))) same
    ∙ enters-more k (record k { held = true }) n (first_of ((k.held, Refused AlreadyHeld) ∷ (not (has_room k), Refused HistoryFull) ∷ [])) Hold (Moved k.cursor (length k.line))
called-more k n Release same =
    ap (λ (has : Bool). enters (with_most n k) (first_of ((not k.held, Refused NotHeld) ∷ (not has, Refused HistoryFull) ∷ [])) (with_most n (record k { held = false })) Release Done) same
    ∙ enters-more k (record k { held = false }) n (first_of ((not k.held, Refused NotHeld) ∷ (not (has_room k), Refused HistoryFull) ∷ [])) Release Done
called-more k n (Undo count) same =
    ap (λ (has : Bool). enters (with_most n k) (first_of ((not k.held, Refused NotHeld) ∷ (count == 0, Refused ZeroCount) ∷ (nat_lt k.cursor count, Refused NothingToUndo) ∷ (not has, Refused HistoryFull) ∷ []))
    (with_most n (record k { cursor = k.cursor - count })) (Undo count) (Moved (k.cursor - count) (length k.line))) same
    ∙ enters-more k (record k { cursor = k.cursor - count }) n (first_of ((not k.held, Refused NotHeld) ∷ (count == 0, Refused ZeroCount) ∷ (nat_lt k.cursor count, Refused NothingToUndo) ∷ (not (has_room k), Refused HistoryFull) ∷ []))
    (Undo count) (Moved (k.cursor - count) (length k.line))
called-more k n (Redo count) same =
    ap (λ (has : Bool). enters (with_most n k) (first_of ((not k.held, Refused NotHeld) ∷ (count == 0, Refused ZeroCount) ∷ (nat_lt (length k.line) (k.cursor + count), Refused NothingToRedo) ∷ (not has, Refused HistoryFull) ∷ []))
    (with_most n (record k { cursor = k.cursor + count })) (Redo count) (Moved (k.cursor + count) (length k.line))) same
    ∙ enters-more k (record k { cursor = k.cursor + count }) n (first_of ((not k.held, Refused NotHeld) ∷ (count == 0, Refused ZeroCount) ∷ (nat_lt (length k.line) (k.cursor + count), Refused NothingToRedo) ∷ (not (has_room k), Refused HistoryFull) ∷ []))
    (Redo count) (Moved (k.cursor + count) (length k.line))

-- a call adds one entry at most, and leaves the history's size
pub record Grows (k next : State) : Type 0 where
  pub most : next.most ≡ k.most
  pub length : length next.journal ≤ length k.journal + 1

stays : (k : State) → Grows k k
stays k = record { most = refl; length = omega arith }

did-grows : (k : State) (s : Step) (answer : Answer) → Grows k (did k s answer).0
did-grows k s (Accepted reply) = record { most = refl; length = omega (arith, length-append k.journal (Do s ∷ [])) }
did-grows k s (Refused code) = stays k
did-grows k s (NotYet cause) = stays k

do-grows : (k : State) (s : Step) (held : Bool) (answer : Answer) → Grows k (if held then (k, NotYet Held) else did k s answer).0
do-grows k s true answer = stays k
do-grows k s false answer = did-grows k s answer

enters-grows : (k next : State) (first : Option Answer) (call : Call) (reply : Reply) → next.most ≡ k.most → Grows k (enters k first next call reply).0
enters-grows k next None call reply same = record { most = same; length = omega (arith, length-append k.journal (call ∷ [])) }
enters-grows k next (Some answer) call reply same = stays k

called-grows : (k : State) (call : Call) → Grows k (called k call).0
called-grows k (Do s) = do-grows k s k.held (step k.limits (machine_of k) (k.last + 1) (has_room k) s).1
called-grows k Hold = enters-grows k (record k { held = true }) (first_of ((k.held, Refused AlreadyHeld) ∷ (not (has_room k), Refused HistoryFull) ∷ [])) Hold (Moved k.cursor (length k.line)) refl
called-grows k Release = enters-grows k (record k { held = false }) (first_of ((not k.held, Refused NotHeld) ∷ (not (has_room k), Refused HistoryFull) ∷ [])) Release Done refl
called-grows k (Undo count) =
    enters-grows k (record k { cursor = k.cursor - count })
    (first_of ((not k.held, Refused NotHeld) ∷ (count == 0, Refused ZeroCount) ∷ (nat_lt k.cursor count, Refused NothingToUndo) ∷ (not (has_room k), Refused HistoryFull) ∷ []))
    (Undo count) (Moved (k.cursor - count) (length k.line)) refl
called-grows k (Redo count) =
    enters-grows k (record k { cursor = k.cursor + count })
    (first_of ((not k.held, Refused NotHeld) ∷ (count == 0, Refused ZeroCount) ∷ (nat_lt (length k.line) (k.cursor + count), Refused NothingToRedo) ∷ (not (has_room k), Refused HistoryFull) ∷ []))
    (Redo count) (Moved (k.cursor + count) (length k.line)) refl

room_in : (k : State) → suc (length k.journal) ≤ k.most → has_room k ≡ true
room_in k h = lt-ltb (length k.journal) k.most (omega (arith, h))

replayed-more : (calls : List Call) (k : State) (n : ℕ) → length k.journal + length calls ≤ k.most → length k.journal + length calls ≤ n
    → replayed (with_most n k) calls ≡ with_most n (replayed k calls)
replayed-more [] k n here there = refl
replayed-more (call ∷ calls) k n here there =
    let grows = called-grows k call in
    let room : has_room k ≡ true = room_in k (omega (arith, here)) in
    let more : has_room (with_most n k) ≡ true = room_in (with_most n k) (omega (arith, there)) in
    let same = called-more k n call (more ∙ sym room) in
    ap (λ (r : State × Answer). replayed r.0 calls) same
    ∙ replayed-more calls (called k call).0 n (omega (arith, here, grows.length, grows.most)) (omega (arith, there, grows.length))

pub more_room : (l : Limits) (most other : ℕ) (journal : List Call) → length journal ≤ most → length journal ≤ other
    → replay l other journal ≡ with_most other (replay l most journal)
more_room l most other journal here there = replayed-more journal (opened l most) other (omega (arith, here)) (omega (arith, there))
