-- What a call does to the state, and the journal that it is the replay of.
use Rattle.std.proofs.Common.{true, false, Bool, ◌≡◌, ℕ, ◌+◌, ◌-◌, ◌<◌, ◌≤◌, ◌==◌, nat_lt, List, [], ◌∷◌, ◌++◌, length, take, refl, sym, ap, ◌∙◌, subst, arith, rules, inl, inr, if◌then◌else◌}
use Rattle.std.proofs.lemmas.List.{length-append, length-take}
use Rattle.plain.specs.declared.step.Step.{Step}
use Rattle.plain.specs.declared.call.Call.{Call}
use Rattle.plain.specs.declared.call.Call.TheVariants.{Do, Hold, Release, Undo, Redo}
use Rattle.plain.specs.declared.answer.Answer.{Answer}
use Rattle.plain.specs.declared.answer.Answer.TheVariants.{Accepted, Refused, NotYet}
use Rattle.plain.specs.declared.answer.Reply.{Reply}
use Rattle.plain.specs.declared.answer.Reply.TheVariants.{Moved, Done}
use Rattle.plain.specs.declared.answer.Code.TheVariants.{OutOfMemory}
use Rattle.plain.specs.declared.answer.Cause.TheVariants.{Held}
use Rattle.plain.specs.Opening.{Limits}
use Rattle.plain.specs.Step.{of_sizes, step, IsAccepted, MayGiveWay}
use Rattle.plain.specs.Keeper.{State, opened, machine_of, has_room, did, called}
use Rattle.plain.specs.Headline.{MayCall, replayed, replay}
use Rattle.history.specs.Turns.{Turns}
use Rattle.history.specs.Roll.{Line, plain_at, SameLine, LengthsAfter, MayStep}
use Rattle.history.proofs.Room.{no_room}
use Rattle.history.specs.Keeping.{state_of, IsKeeper}

replayed-append : (k : State) (xs ys : List Call) → replayed k (xs ++ ys) ≡ replayed (replayed k xs) ys
replayed-append k [] ys = refl
replayed-append k (x ∷ xs) ys = replayed-append (called k x).0 xs ys

-- an accepted call leaves the replay of the journal with it
pub replay-more : (l : Limits) (most : ℕ) (k next : State) (journal : List Call) (call : Call) (answer : Answer)
    → k ≡ replay l most journal → (next, answer) ≡ called k call → next ≡ replay l most (journal ++ call ∷ [])
replay-more l most k next journal call answer e h =
    ap (λ o. o.0) h ∙ ap (λ s. (called s call).0) e ∙ sym (replayed-append (opened l most) journal (call ∷ []))

-- what the calls do where no test refuses

pub hold-done : (k : State) → k.held ≡ false → has_room k ≡ true
    → called k Hold ≡ (record k { held = true; journal = k.journal ++ Hold ∷ [] }, Accepted (Moved k.cursor (length k.line)))
hold-done k h r = rw (h, r) refl

pub release-done : (k : State) → k.held ≡ true → has_room k ≡ true
    → called k Release ≡ (record k { held = false; journal = k.journal ++ Release ∷ [] }, Accepted Done)
release-done k h r = rw (h, r) refl

pub undo-done : (k : State) (n : ℕ) → k.held ≡ true → (n == 0) ≡ false → nat_lt k.cursor n ≡ false → has_room k ≡ true
    → called k (Undo n) ≡ (record k { cursor = k.cursor - n; journal = k.journal ++ Undo n ∷ [] }, Accepted (Moved (k.cursor - n) (length k.line)))
undo-done k n h z c r = rw (h, z, c, r) refl

pub redo-done : (k : State) (n : ℕ) → k.held ≡ true → (n == 0) ≡ false → nat_lt (length k.line) (k.cursor + n) ≡ false → has_room k ≡ true
    → called k (Redo n) ≡ (record k { cursor = k.cursor + n; journal = k.journal ++ Redo n ∷ [] }, Accepted (Moved (k.cursor + n) (length k.line)))
redo-done k n h z c r = rw (h, z, c, r) refl

-- a step where the host is not held
pub step-done : (k : State) (s : Step) (answer : Answer) → k.held ≡ false → (step k.limits (machine_of k) (k.last + 1) (has_room k) s).1 ≡ answer
    → called k (Do s) ≡ did k s answer
step-done k s answer h e = ap (λ b. if b then (k, NotYet Held) else did k s (step k.limits (machine_of k) (k.last + 1) (has_room k) s).1) h ∙ ap (did k s) e

did-accepted : (k : State) (s : Step) (a : Answer) → MayGiveWay a → MayGiveWay (did k s a).1
did-accepted k s (Accepted reply) h = h
did-accepted k s (Refused code) h = h
did-accepted k s (NotYet cause) h = h

same-state : (r new : Line) (held : Bool) (most : ℕ) → SameLine r new → state_of new held most ≡ state_of r held most
same-state r new held most same i = record {
  limits = of_sizes (same.sizes i);
  most = most;
  line = same.steps i;
  cursor = same.cursor i;
  held = held;
  last = same.last i;
  journal = same.journal i;
}

-- an accepted step
did-it : (r new : Line) (held : Bool) (most : ℕ) (s : Step) (reply : Reply) → held ≡ false → MayStep r (nat_lt (length r.journal) most) s (Accepted reply) new
    → (state_of new held most, Accepted reply) ≡ called (state_of r held most) (Do s)
did-it r new held most s reply h (inl x) = (λ i. (
  record {
    limits = of_sizes (x.1.sizes i);
    most = most;
    line = x.1.steps i;
    cursor = x.1.cursor i;
    held = held;
    last = x.1.last i;
    journal = x.1.journal i;
  },
  Accepted reply,
)) ∙ sym (step-done (state_of r held most) s (Accepted reply) h (sym x.0))
did-it r new held most s reply h (inr x) = absurd (subst IsAccepted x.1 tt)

-- what a step is answered, and the state after it, are those of the plain call
may-do : (r new : Line) (held : Bool) (most : ℕ) (s : Step) (answer : Answer) → held ≡ false → MayStep r (nat_lt (length r.journal) most) s answer new
    → MayCall (state_of r held most) (Do s) answer (state_of new held most)
may-do r new held most s (Accepted reply) h may = inl (did-it r new held most s reply h may)
may-do r new held most s (Refused code) h (inl x) =
    inl (ap (λ k. (k, Refused code)) (same-state r new held most x.1) ∙ sym (step-done (state_of r held most) s (Refused code) h (sym x.0)))
may-do r new held most s (NotYet cause) h (inl x) =
    inl (ap (λ k. (k, NotYet cause)) (same-state r new held most x.1) ∙ sym (step-done (state_of r held most) s (NotYet cause) h (sym x.0)))
may-do r new held most s (Refused code) h (inr x) =
    let k : State = state_of r held most in
    inr (subst (λ o. MayGiveWay o.1) (sym (step-done k s _ h refl)) (did-accepted k s _ x.0), tt, x.1, same-state r new held most x.2)
may-do r new held most s (NotYet cause) h (inr x) =
    let k : State = state_of r held most in
    inr (subst (λ o. MayGiveWay o.1) (sym (step-done k s _ h refl)) (did-accepted k s _ x.0), tt, x.1, same-state r new held most x.2)

pub may-take : (r new : Line) (held room : Bool) (most : ℕ) (s : Step) (answer : Answer) → held ≡ false → room ≡ nat_lt (length r.journal) most
    → MayStep r room s answer new → MayCall (state_of r held most) (Do s) answer (state_of new held most)
may-take r new held room most s answer h e may = let P : Bool → Type 0 = λ b. MayStep r b s answer new in may-do r new held most s answer h (subst P e may)

-- the lists after a step
pub turns-taken : (r new : Line) (held : Bool) (most : ℕ) (s : Step) (answer : Answer) → LengthsAfter r s answer new
    → Turns (record { state = state_of r held most; lengths = r.lengths; turns = r.turns }) (Do s) answer (record { state = state_of new held most; lengths = new.lengths; turns = new.turns })
turns-taken r new held most s (Accepted reply) h = h
turns-taken r new held most s (Refused code) h = h
turns-taken r new held most s (NotYet cause) h = h

-- a redo that wants memory
pub redo-wants : (r new : Line) (held : Bool) (most n : ℕ)
    → held ≡ true → (n == 0) ≡ false → nat_lt (length r.steps) (r.cursor + n) ≡ false → nat_lt (length r.journal) most ≡ true → SameLine r new
    → MayCall (state_of r held most) (Redo n) (Refused OutOfMemory) (state_of new held most)
redo-wants r new held most n h z c room same =
    let k : State = state_of r held most in
    inr (subst (λ o. MayGiveWay o.1) (sym (redo-done k n h z c room)) tt, tt, refl, same-state r new held most same)

-- a keeper whose line and journal are the same
pub keeper-same : (r new : Line) (held : Bool) (most : ℕ) → SameLine r new → new.cursor ≤ new.spare → IsKeeper r held most → IsKeeper new held most
keeper-same r new held most same reserved h =
    let steps : length new.steps ≡ length r.steps = ap length same.steps in
    let last : new.last ≡ r.last = same.last in
    let entries : length new.journal ≡ length r.journal = ap length same.journal in
    let few : length r.journal ≤ most = h.few in
    let within : length r.steps ≤ length r.journal = h.steps in
    let serials : r.last ≤ length r.journal = h.serials in
    record {
      reserved = reserved;
      bounded = h.bounded;
      few = omega (arith, few, entries);
      steps = omega (arith, steps, entries, within);
      serials = omega (arith, last, entries, serials);
      replayed = same-state r new held most same ∙ h.replayed
          ∙ ap (λ z. replay (of_sizes z) most r.journal) (sym same.sizes) ∙ ap (replay (of_sizes new.sizes) most) (sym same.journal);
    }

-- a keeper after an accepted call
pub keeper-more : (r new : Line) (held held' : Bool) (most : ℕ) (call : Call) (answer : Answer)
    → IsKeeper r held most → new.sizes ≡ r.sizes → new.journal ≡ r.journal ++ call ∷ [] → nat_lt (length r.journal) most ≡ true
    → new.cursor ≤ new.spare → length new.steps ≤ length r.steps + 1 → new.last ≤ r.last + 1
    → (state_of new held' most, answer) ≡ called (state_of r held most) call
    → IsKeeper new held' most
keeper-more r new held held' most call answer h sizes e room reserved steps last done =
    let entries : length new.journal ≡ length r.journal + 1 = ap length e ∙ length-append r.journal (call ∷ []) in
    let within : length r.steps ≤ length r.journal = h.steps in
    let serials : r.last ≤ length r.journal = h.serials in
    let lt : length r.journal < most = search (rules, room) in
    record {
      reserved = reserved;
      bounded = h.bounded;
      few = omega (arith, entries, lt);
      steps = omega (arith, entries, steps, within);
      serials = omega (arith, entries, last, serials);
      replayed = replay-more (of_sizes r.sizes) most (state_of r held most) (state_of new held' most) r.journal call answer h.replayed done
          ∙ ap (λ z. replay (of_sizes z) most (r.journal ++ call ∷ [])) (sym sizes) ∙ ap (replay (of_sizes new.sizes) most) (sym e);
    }

-- an accepted step was taken with room
room-needed : (r new : Line) (room : Bool) (s : Step) (reply : Reply) → MayStep r room s (Accepted reply) new → room ≡ true
room-needed r new true s reply may = refl
room-needed r new false s reply (inl x) = absurd (no_room (of_sizes r.sizes) (plain_at r) (r.last + 1) s (subst IsAccepted x.0 tt))
room-needed r new false s reply (inr x) = absurd (subst IsAccepted x.1 tt)

-- a keeper after a step
keeper-do : (r new : Line) (held : Bool) (most : ℕ) (s : Step) (answer : Answer) → held ≡ false → new.cursor ≤ new.spare
    → MayStep r (nat_lt (length r.journal) most) s answer new → IsKeeper r held most → IsKeeper new held most
keeper-do r new held most s (Accepted reply) e reserved (inl x) h =
    let room = room-needed r new (nat_lt (length r.journal) most) s reply (inl x) in
    let long : length new.steps ≡ length (take r.cursor r.steps) + 1 = ap length x.1.steps ∙ length-append (take r.cursor r.steps) _ in
    let cut = length-take r.cursor r.steps in
    let last : new.last ≡ r.last + 1 = x.1.last in
    keeper-more r new held held most (Do s) (Accepted reply) h x.1.sizes x.1.journal room reserved (omega (arith, long, cut)) (omega (arith, last))
    (did-it r new held most s reply e (inl x))
keeper-do r new held most s (Accepted reply) e reserved (inr x) h = absurd (subst IsAccepted x.1 tt)
keeper-do r new held most s (Refused code) e reserved (inl x) h = keeper-same r new held most x.1 reserved h
keeper-do r new held most s (Refused code) e reserved (inr x) h = keeper-same r new held most x.2 reserved h
keeper-do r new held most s (NotYet cause) e reserved (inl x) h = keeper-same r new held most x.1 reserved h
keeper-do r new held most s (NotYet cause) e reserved (inr x) h = keeper-same r new held most x.2 reserved h

pub keeper-taken : (r new : Line) (held room : Bool) (most : ℕ) (s : Step) (answer : Answer) → held ≡ false → new.cursor ≤ new.spare
    → room ≡ nat_lt (length r.journal) most → MayStep r room s answer new → IsKeeper r held most → IsKeeper new held most
keeper-taken r new held room most s answer e reserved eq may h =
    let P : Bool → Type 0 = λ b. MayStep r b s answer new in keeper-do r new held most s answer e reserved (subst P eq may) h

-- a call that is no step was entered: only the cursor may have moved
pub record Noted (r : Line) (at : ℕ) (call : Call) (new : Line) : Type 0 where
  pub sizes : new.sizes ≡ r.sizes
  pub steps : new.steps ≡ r.steps
  pub cursor : new.cursor ≡ at
  pub last : new.last ≡ r.last
  pub journal : new.journal ≡ r.journal ++ call ∷ []

-- a keeper after it
pub keeper-noted : (r new : Line) (held held' : Bool) (most cursor : ℕ) (call : Call) (reply : Reply)
    → IsKeeper r held most → Noted r cursor call new → nat_lt (length r.journal) most ≡ true → new.cursor ≤ new.spare
    → called (state_of r held most) call ≡ (record (state_of r held most) { cursor = cursor; held = held'; journal = r.journal ++ call ∷ [] }, Accepted reply)
    → IsKeeper new held' most
keeper-noted r new held held' most cursor call reply h e room reserved done =
    let steps : length new.steps ≡ length r.steps = ap length e.steps in
    let last : new.last ≡ r.last = e.last in
    keeper-more r new held held' most call (Accepted reply) h e.sizes e.journal room reserved (omega (arith, steps)) (omega (arith, last))
    ((λ i. (
      record {
        limits = of_sizes (e.sizes i);
        most = most;
        line = e.steps i;
        cursor = e.cursor i;
        held = held';
        last = e.last i;
        journal = e.journal i;
      },
      Accepted reply,
    )) ∙ sym done)
