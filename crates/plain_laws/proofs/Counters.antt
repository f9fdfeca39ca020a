-- Submit and Reap: one counter changes with the queue or the outbox of its seat.
use Rattle.std.proofs.Common.{true, false, Bool, ◌≡◌, ◌==◌, ◌≢◌, ◌⊎◌, inl, inr, ℕ, suc, ◌+◌, ◌-◌, List, [], ◌∷◌, length, Option, Some, None, All, refl, sym, ap, ◌∙◌, subst, arith, eqb-true}
use Rattle.std.specs.Option.{option_map, option_map_or}
use Rattle.std.proofs.lemmas.Bool.{cases_eq}
use Rattle.std.proofs.lemmas.List.Elements.{All-same, All-weaker}
use Rattle.std.proofs.lemmas.List.{length_push}
use Rattle.sector_core.specs.declared.bio.BioFields.{BioFields as Bio}
use Rattle.sector_core.specs.declared.bio.Op.{Op}
use Rattle.sector_core.specs.declared.range.Range.{Range}
use Rattle.plain.specs.declared.seat.Seat.{Seat}
use Rattle.plain.specs.Machine.{WholeRequest, Plain, put}
use Rattle.plain.specs.Opening.{Limits}
use Rattle.plain.specs.Sessions.{is_session, has_session, unreaped, with_unreaped}
use Rattle.plain.specs.Entities.{owed_fewer}
use Rattle.plain.specs.Steps.Submit.{merge_in, new_bio, with_bio, queue_with, submitted}
use Rattle.plain_laws.specs.Owed.{bios_in, bios_of, owed}
use Rattle.plain_laws.proofs.Puts.{put_here, put_other, put_cases, some_is}
use Rattle.plain_laws.proofs.Joins.{All-queue_with, sum_by-queue_with, joined_is}
use Rattle.plain_laws.proofs.Debts.{Seated, SitsAt, Placed, Sound, bios_in-same}

-- the seats with a change at one of them
abbrev pub changed : (ℕ → Option Seat) → ℕ → (Seat → Seat) → ℕ → Option Seat
changed seats seat change = put seats seat (option_map change (seats seat))

-- a change that leaves each session where it sits
abbrev pub KeepsSession : (Seat → Seat) → Type 0
KeepsSession change = (s : Seat) → (change s).session ≡ s.session

-- who sits at a seat sat there before, and has changed there or is the same
abbrev pub SatBefore : (ℕ → Option Seat) → ℕ → (Seat → Seat) → ℕ → Seat → Type 0
SatBefore seats seat change k s =
    (old : Seat) × (seats k ≡ Some old) × (s.session ≡ old.session) × (((k ≡ seat) × (change old ≡ s)) ⊎ ((k ≢ seat) × (old ≡ s)))

seat_before_here : (seats : ℕ → Option Seat) (seat : ℕ) (change : Seat → Seat) (k : ℕ) (s : Seat) (o : Option Seat) → KeepsSession change
    → k ≡ seat → seats seat ≡ o → option_map change o ≡ Some s → SatBefore seats seat change k s
seat_before_here seats seat change k s None keeps same is e = cc
seat_before_here seats seat change k s (Some old) keeps same is e =
    let made : change old ≡ s = some_is (change old) s e in
    (old, ap seats same ∙ is, sym (ap (λ (t : Seat). t.session) made) ∙ keeps old, inl (same, made))

seat_before : (seats : ℕ → Option Seat) (seat : ℕ) (change : Seat → Seat) (k : ℕ) (s : Seat) → KeepsSession change
    → changed seats seat change k ≡ Some s → SatBefore seats seat change k s
seat_before seats seat change k s keeps e = elim (put_cases seats seat (option_map change (seats seat)) k (Some s) e) [
  | inl x ↦ seat_before_here seats seat change k s (seats seat) keeps x.0 refl x.1
  | inr x ↦ (s, x.1, refl, inr (x.0, refl))
]

is_session-with : (session : ℕ) (change : Seat → Seat) (o : Option Seat) → KeepsSession change → is_session session (option_map change o) ≡ is_session session o
is_session-with session change None keeps = refl
is_session-with session change (Some s) keeps = ap (λ x. x == session) (keeps s)

pub is_session-changed : (session : ℕ) (seats : ℕ → Option Seat) (seat : ℕ) (change : Seat → Seat) (k : ℕ) → KeepsSession change
    → is_session session (changed seats seat change k) ≡ is_session session (seats k)
is_session-changed session seats seat change k keeps = elim (cases_eq k seat) [
  | inl e ↦
      ap (is_session session) (put_here seats seat (option_map change (seats seat)) k e)
      ∙ is_session-with session change (seats seat) keeps ∙ sym (ap (λ j. is_session session (seats j)) e)
  | inr ne ↦ ap (is_session session) (put_other seats seat (option_map change (seats seat)) k ne)
]

has_session-with : (c : ℕ) (o : Option Seat) → has_session (option_map (with_unreaped c) o) ≡ has_session o
has_session-with c None = refl
has_session-with c (Some s) = refl

has_session-counted : (seats : ℕ → Option Seat) (seat c k : ℕ) → has_session (changed seats seat (with_unreaped c) k) ≡ has_session (seats k)
has_session-counted seats seat c k = elim (cases_eq k seat) [
  | inl e ↦
      ap has_session (put_here seats seat (option_map (with_unreaped c) (seats seat)) k e)
      ∙ has_session-with c (seats seat) ∙ sym (ap (λ j. has_session (seats j)) e)
  | inr ne ↦ ap has_session (put_other seats seat (option_map (with_unreaped c) (seats seat)) k ne)
]

pub Seated-changed : (n : ℕ) (seats : ℕ → Option Seat) (seat : ℕ) (change : Seat → Seat) → KeepsSession change → Seated n seats → Seated n (changed seats seat change)
Seated-changed n seats seat change keeps h = record {
  within = λ k s e. let old = seat_before seats seat change k s keeps e in h.within k old.0 old.1;
  given = λ k s e. let old = seat_before seats seat change k s keeps e in omega (arith, old.2, h.given k old.0 old.1);
  apart = λ j k s t e f same.
      let a = seat_before seats seat change j s keeps e in
      let b = seat_before seats seat change k t keeps f in
      h.apart j k a.0 b.0 a.1 b.1 (sym a.2 ∙ same ∙ b.2);
}

-- the requests of a queue stay those of the session that sits there
pub SitsAt-changed : (seats : ℕ → Option Seat) (seat : ℕ) (change : Seat → Seat) (k : ℕ) (requests : List WholeRequest) → KeepsSession change
    → All (SitsAt seats k) requests → All (SitsAt (changed seats seat change) k) requests
SitsAt-changed seats seat change k requests keeps h =
    All-weaker (SitsAt seats k) (SitsAt (changed seats seat change) k) (λ r p. is_session-changed r.session seats seat change k keeps ∙ p) requests h

-- the counter of each seat but one is what its session is owed
abbrev pub CountsOthers : Limits → Plain → ℕ → Type 0
CountsOthers l m seat = (k : ℕ) (s : Seat) → k ≢ seat → m.seat k ≡ Some s → s.unreaped ≡ owed l m k s.session

-- a machine with another counter at a seat, and other queues and outboxes
abbrev recounted : Plain → ℕ → ℕ → (ℕ → List WholeRequest) → (ℕ → List Bio) → Plain
recounted m seat c queue outbox = record m { seat = changed m.seat seat (with_unreaped c); queue = queue; outbox = outbox }

-- the queue and the outbox of the seat alone change, and the counter with them
recounted-sound : (l : Limits) (n : ℕ) (m : Plain) (seat c : ℕ) (queue : ℕ → List WholeRequest) (outbox : ℕ → List Bio) → Placed n m → CountsOthers l m seat
    → ((k : ℕ) → All (SitsAt m.seat k) (queue k)) → ((k : ℕ) → has_session (m.seat k) ≡ false → outbox k ≡ [])
    → ((k : ℕ) → k ≢ seat → queue k ≡ m.queue k) → ((k : ℕ) → k ≢ seat → outbox k ≡ m.outbox k)
    → ((s : Seat) → m.seat seat ≡ Some s → c ≡ owed l (recounted m seat c queue outbox) seat s.session)
    → Sound l n (recounted m seat c queue outbox)
recounted-sound l n m seat c queue outbox h others sits none queues outboxes is = record {
  placed = record {
    seated = Seated-changed n m.seat seat (with_unreaped c) (λ s. refl) h.seated;
    queued = λ k. SitsAt-changed m.seat seat (with_unreaped c) k (queue k) (λ s. refl) (sits k);
    requeued = h.requeued;
    flown = h.flown;
    empty = λ k e. none k (sym (has_session-counted m.seat seat c k) ∙ e);
  };
  counts = λ k s e.
      let old = seat_before m.seat seat (with_unreaped c) k s (λ s. refl) e in
      let new : Plain = recounted m seat c queue outbox in
      let its : owed l new k s.session ≡ owed l new k old.0.session = ap (owed l new k) old.2 in
      elim old.3 [
        | inl x ↦
            let counter : s.unreaped ≡ c = sym (ap (λ (t : Seat). t.unreaped) x.1) in
            counter ∙ is old.0 (sym (ap m.seat x.0) ∙ old.1) ∙ sym (ap (λ j. owed l new j old.0.session) x.0) ∙ sym its
        | inr x ↦
            let counter : s.unreaped ≡ old.0.unreaped = sym (ap (λ (t : Seat). t.unreaped) x.1) in
            let had : old.0.unreaped ≡ owed l m k old.0.session = others k old.0 x.0 old.1 in
            let queued : bios_of old.0.session (queue k) ≡ bios_of old.0.session (m.queue k) = ap (bios_of old.0.session) (queues k x.0) in
            let completed : length (outbox k) ≡ length (m.outbox k) = ap length (outboxes k x.0) in
            let now : old.0.unreaped ≡ owed l new k old.0.session = omega (arith, had, queued, completed) in
            counter ∙ now ∙ sym its
      ];
}

-- what the counter of a seat is
pub unreaped_is : (m : Plain) (seat : ℕ) (s : Seat) → m.seat seat ≡ Some s → unreaped m seat ≡ s.unreaped
unreaped_is m seat s e = ap (λ o. option_map_or (λ (t : Seat). t.unreaped) o 0) e

-- and the session
pub session_is : (m : Plain) (seat session : ℕ) (s : Seat) → m.seat seat ≡ Some s → is_session session (m.seat seat) ≡ true → s.session ≡ session
session_is m seat session s e sits = eqb-true s.session session (sym (ap (is_session session) e) ∙ sits)

-- the queues with another one at a seat, whose requests are of the session that sits there
queued-put : (seats : ℕ → Option Seat) (queue : ℕ → List WholeRequest) (seat : ℕ) (more : List WholeRequest) → All (SitsAt seats seat) more
    → ((k : ℕ) → All (SitsAt seats k) (queue k)) → (k : ℕ) → All (SitsAt seats k) (put queue seat more k)
queued-put seats queue seat more sits h k = elim (cases_eq k seat) [
  | inl e ↦
      let P : ℕ → Type 0 = λ j. All (SitsAt seats j) more in
      All-same (SitsAt seats k) (put queue seat more k) more (put_here queue seat more k e) (subst P (sym e) sits)
  | inr ne ↦ All-same (SitsAt seats k) (put queue seat more k) (queue k) (put_other queue seat more k ne) (h k)
]

-- a request has one bio more at either end
length-with_bio : (front : Bool) (bio : Bio) (r : WholeRequest) → length (with_bio front bio r).bios ≡ length r.bios + 1
length-with_bio true bio r = omega arith
length-with_bio false bio r = length_push r.bios bio

-- so its session has one bio more there
bios_in-with_bio : (front : Bool) (session : ℕ) (bio : Bio) (r : WholeRequest) → r.session ≡ session → bios_in session (with_bio front bio r) ≡ bios_in session r + 1
bios_in-with_bio front session bio r its =
    bios_in-same session (with_bio front bio r) its ∙ length-with_bio front bio r ∙ sym (ap (λ n. n + 1) (bios_in-same session r its))

-- Submit: one bio more is queued.
pub submitted-sound : (l : Limits) (n : ℕ) (m : Plain) (seat session : ℕ) (op : Op) (range : Range) (payload : List ℕ)
    → is_session session (m.seat seat) ≡ true → Sound l n m → Sound l n (submitted m n seat session op range payload)
submitted-sound l n m seat session op range payload sits h =
    let bio : Bio = new_bio n range payload in
    let r : WholeRequest = record { session = session; op = op; bios = bio ∷ [] } in
    let found = merge_in m seat session op range in
    let more = queue_with session op bio found (m.queue seat) in
    let all : All (SitsAt m.seat seat) more = All-queue_with (SitsAt m.seat seat) session op bio found (m.queue seat) sits (λ front q joined its. its) (h.placed.queued seat) in
    recounted-sound l n m seat (unreaped m seat + 1) (put m.queue seat more) m.outbox h.placed (λ k s ne e. h.counts k s e)
    (queued-put m.seat m.queue seat more all h.placed.queued) h.placed.empty
    (λ k ne. put_other m.queue seat more k ne) (λ k ne. refl)
    (λ s e.
    let had = h.counts seat s e in
    let counter = unreaped_is m seat s e in
    let same : session ≡ s.session = sym (session_is m seat session s e sits) in
    let longer : bios_of s.session more ≡ bios_of s.session (m.queue seat) + 1 =
    sum_by-queue_with (bios_in s.session) 1 session op bio found (m.queue seat) refl (bios_in-same s.session r same)
    (λ front q joined. bios_in-with_bio front s.session bio q ((joined_is front session op range q joined).0 ∙ same)) in
    let here : bios_of s.session (put m.queue seat more seat) ≡ bios_of s.session more = ap (bios_of s.session) (put_here m.queue seat more seat refl) in
    omega (arith, had, counter, longer, here))

-- Reap: one bio less is in the outbox.
pub reaped-sound : (l : Limits) (n : ℕ) (m : Plain) (seat : ℕ) (bio : Bio) (bios : List Bio) → m.outbox seat ≡ bio ∷ bios → Sound l n m
    → Sound l n (record m { seat = put m.seat seat (option_map (with_unreaped (unreaped m seat - 1)) (m.seat seat)); outbox = put m.outbox seat bios })
reaped-sound l n m seat bio bios first h =
    recounted-sound l n m seat (unreaped m seat - 1) m.queue (put m.outbox seat bios) h.placed (λ k s ne e. h.counts k s e)
    h.placed.queued
    (λ k none. elim (cases_eq k seat) [
      | inl e ↦ let some : [] ≡ bio ∷ bios = sym (h.placed.empty k none) ∙ ap m.outbox e ∙ first in cc
      | inr ne ↦ put_other m.outbox seat bios k ne ∙ h.placed.empty k none
    ])
    (λ k ne. refl) (λ k ne. put_other m.outbox seat bios k ne)
    (λ s e.
    let had = h.counts seat s e in
    let counter = unreaped_is m seat s e in
    let before : length (m.outbox seat) ≡ suc (length bios) = ap length first in
    let after : length (put m.outbox seat bios seat) ≡ length bios = ap length (put_here m.outbox seat bios seat refl) in
    omega (arith, had, counter, before, after))

-- bios of one session are dropped: its counter falls by as many as it has more than is owed
pub fewer-sound : (l : Limits) (n : ℕ) (m : Plain) (seat count : ℕ) → Placed n m → CountsOthers l m seat
    → ((s : Seat) → m.seat seat ≡ Some s → s.unreaped ≡ owed l m seat s.session + count) → Sound l n (owed_fewer seat count m)
fewer-sound l n m seat count h others more =
    recounted-sound l n m seat (unreaped m seat - count) m.queue m.outbox h others h.queued h.empty (λ k ne. refl) (λ k ne. refl)
    (λ s e.
    let had = more s e in
    let counter = unreaped_is m seat s e in
    omega (arith, had, counter))
