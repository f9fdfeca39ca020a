-- What every step keeps of a plain machine: sessions are apart, and each seat's counter is what its session is owed.
use Rattle.std.proofs.Common.{true, false, Bool, ◌≡◌, ◌≢◌, inl, inr, ℕ, ◌+◌, ◌<◌, ◌≤◌, ◌==◌, not, List, [], ◌∷◌, length, Option, Some, None, All, refl, sym, ap, ◌∙◌, arith, eq-eqb, ne_eqb, eqb-true}
use Rattle.std.proofs.lemmas.Bool.{cases_eq, cond-true, cond-false}
use Rattle.std.proofs.lemmas.List.Elements.{All-nil, All-same, All-head, All-tail, All-weaker}
use Rattle.std.proofs.lemmas.List.Sums.{sum_by-cons}
use Rattle.plain.specs.Lists.{numbers}
use Rattle.sector_core.specs.declared.config.Scheduler.{Scheduler}
use Rattle.plain.specs.declared.seat.Seat.{Seat}
use Rattle.plain.specs.Machine.{WholeRequest, Flight, Bfq, Plain, put}
use Rattle.plain.specs.Opening.{Limits, opening}
use Rattle.plain.specs.Sessions.{is_session, has_session}
use Rattle.plain.specs.Requests.{flying}
use Rattle.plain_laws.specs.Owed.{bios_in, bios_of, CountsOwed}
use Rattle.plain_laws.proofs.Puts.{put_here, put_other, put_cases, some_is}
use Rattle.plain_laws.proofs.Flights.{bios_flown, bios_of-none}

-- there are sixteen seats; sessions are serials that were given, and no two seats have the same
pub record Seated (n : ℕ) (seats : ℕ → Option Seat) : Type 0 where
  pub within : (k : ℕ) (s : Seat) → seats k ≡ Some s → k < 16
  pub given : (k : ℕ) (s : Seat) → seats k ≡ Some s → s.session < n
  pub apart : (j k : ℕ) (s t : Seat) → seats j ≡ Some s → seats k ≡ Some t → s.session ≡ t.session → j ≡ k

-- a request's session sits at a seat
abbrev pub SitsAt : (ℕ → Option Seat) → ℕ → WholeRequest → Type 0
SitsAt seats k request = is_session request.session (seats k) ≡ true

-- a request's session is a serial that was given
abbrev pub IsGiven : ℕ → WholeRequest → Type 0
IsGiven n request = request.session < n

-- a machine whose steps had serials below `n`: a queue has requests of the session that sits there, the dispatch list and the flights
-- have requests of sessions that were given, and an outbox is empty where no session makes calls
pub record Placed (n : ℕ) (m : Plain) : Type 0 where
  pub seated : Seated n m.seat
  pub queued : (k : ℕ) → All (SitsAt m.seat k) (m.queue k)
  pub requeued : All (IsGiven n) m.requeued
  pub flown : (tag : ℕ) (f : Flight) → m.flight tag ≡ Some f → f.request.session < n
  pub empty : (k : ℕ) → has_session (m.seat k) ≡ false → m.outbox k ≡ []

-- and the counters are what is owed
pub record Sound (l : Limits) (n : ℕ) (m : Plain) : Type 0 where
  pub placed : Placed n m
  pub counts : CountsOwed l m

pub Seated-later : (n n' : ℕ) (seats : ℕ → Option Seat) → n ≤ n' → Seated n seats → Seated n' seats
Seated-later n n' seats le h = record { within = h.within; given = λ k s e. omega (arith, le, h.given k s e); apart = h.apart }

pub Sound-later : (l : Limits) (n n' : ℕ) (m : Plain) → n ≤ n' → Sound l n m → Sound l n' m
Sound-later l n n' m le h = record {
  placed = record {
    seated = Seated-later n n' m.seat le h.placed.seated;
    queued = h.placed.queued;
    requeued = All-weaker (IsGiven n) (IsGiven n') (λ r lt. omega (arith, le, lt)) m.requeued h.placed.requeued;
    flown = λ tag f e. omega (arith, le, h.placed.flown tag f e);
    empty = h.placed.empty;
  };
  counts = h.counts;
}

pub not_both : {A : Type 0} {P : Type 0} (o : Option A) (a : A) → o ≡ None → o ≡ Some a → P
not_both o a e f = cc

-- what BFQ knows of entities does not matter to it, nor do the mode of the host, the scheduler, the seat served last and the heads
pub Sound-rest : (l : Limits) (n : ℕ) (m : Plain) (frozen : Bool) (served : ℕ) (head : ℕ → ℕ) (b : Bfq) (scheduler : Scheduler)
    → Sound l n m → Sound l n (record m { frozen = frozen; served = served; head = head; bfq = b; scheduler = scheduler })
Sound-rest l n m frozen served head b scheduler h = record {
  placed = record { seated = h.placed.seated; queued = h.placed.queued; requeued = h.placed.requeued; flown = h.placed.flown; empty = h.placed.empty };
  counts = h.counts;
}

pub Sound-bfq : (l : Limits) (n : ℕ) (m : Plain) (b : Bfq) → Sound l n m → Sound l n (record m { bfq = b })
Sound-bfq l n m b h = Sound-rest l n m m.frozen m.served m.head b m.scheduler h

-- before the first step
pub Sound-opening : (l : Limits) → Sound l 0 (opening l)
Sound-opening l = record {
  placed = record {
    seated = record { within = λ k s e. cc; given = λ k s e. cc; apart = λ j k s t e f g. cc };
    queued = λ k i d lt. absurd (omega arith);
    requeued = All-nil (IsGiven 0);
    flown = λ tag f e. cc;
    empty = λ k e. refl;
  };
  counts = λ k s e. cc;
}

-- who sits where a session does
pub sitter : (session : ℕ) (o : Option Seat) → is_session session o ≡ true → (s : Seat) × (o ≡ Some s) × (s.session ≡ session)
sitter session None h = cc
sitter session (Some s) h = (s, refl, eqb-true s.session session h)

-- nothing is queued at a free seat
none_queued : (seats : ℕ → Option Seat) (k : ℕ) (requests : List WholeRequest) → seats k ≡ None → All (SitsAt seats k) requests → requests ≡ []
none_queued seats k [] e h = refl
none_queued seats k (r ∷ requests) e h =
    let sits : is_session r.session (seats k) ≡ true = All-head (SitsAt seats k) r requests h in
    let s = sitter r.session (seats k) sits in
    not_both (seats k) s.0 e s.1

-- a request of another session has no bio of this one
pub bios_in-other : (session : ℕ) (r : WholeRequest) → r.session ≢ session → bios_in session r ≡ 0
bios_in-other session r ne = cond-false (r.session == session) (length r.bios) 0 (ne_eqb r.session session ne)

pub bios_in-same : (session : ℕ) (r : WholeRequest) → r.session ≡ session → bios_in session r ≡ length r.bios
bios_in-same session r e = cond-true (r.session == session) (length r.bios) 0 (eq-eqb r.session session e)

-- a flight of an earlier session has no bio of a later one
flown_before : (session n : ℕ) (o : Option Flight) → n ≤ session → ((f : Flight) → o ≡ Some f → f.request.session < n) → bios_flown session o ≡ 0
flown_before session n None le h = refl
flown_before session n (Some f) le h = bios_in-other session f.request (λ e. omega (arith, le, e, h f refl))

-- so requests of earlier sessions have no bio of a later one
bios_of-before : (session n : ℕ) (requests : List WholeRequest) → n ≤ session → All (IsGiven n) requests → bios_of session requests ≡ 0
bios_of-before session n [] le h = refl
bios_of-before session n (r ∷ requests) le h =
    let before : r.session < n = All-head (IsGiven n) r requests h in
    let first : bios_in session r ≡ 0 = bios_in-other session r (λ e. omega (arith, le, e, before)) in
    omega (arith, sum_by-cons (bios_in session) r requests, first, bios_of-before session n requests le (All-tail (IsGiven n) r requests h))

-- Attach: nothing is owed yet to a session that begins.
abbrev attached : Plain → ℕ → Seat → (ℕ → ℕ) → Bfq → Plain
attached m seat entry head bfq = record m { seat = put m.seat seat (Some entry); head = head; bfq = bfq }

pub Seated-attached : (n : ℕ) (seats : ℕ → Option Seat) (seat : ℕ) (entry : Seat) → seat < 16 → entry.session ≡ n → Seated n seats → Seated (n + 1) (put seats seat (Some entry))
Seated-attached n seats seat entry lt new h = record {
  within = λ k s e. elim (put_cases seats seat (Some entry) k (Some s) e) [
    | inl x ↦ let here = x.0 in omega (arith, here, lt)
    | inr x ↦ h.within k s x.1
  ];
  given = λ k s e. elim (put_cases seats seat (Some entry) k (Some s) e) [
    | inl x ↦ let same = ap (λ (t : Seat). t.session) (some_is entry s x.1) in omega (arith, same, new)
    | inr x ↦ omega (arith, h.given k s x.1)
  ];
  apart = λ j k s t e f same. elim (put_cases seats seat (Some entry) j (Some s) e) [
    | inl x ↦ elim (put_cases seats seat (Some entry) k (Some t) f) [
      | inl y ↦ x.0 ∙ sym y.0
      | inr y ↦ let here = ap (λ (u : Seat). u.session) (some_is entry s x.1) in absurd (omega (arith, here, new, same, h.given k t y.1))
    ]
    | inr x ↦ elim (put_cases seats seat (Some entry) k (Some t) f) [
      | inl y ↦ let here = ap (λ (u : Seat). u.session) (some_is entry t y.1) in absurd (omega (arith, here, new, same, h.given j s x.1))
      | inr y ↦ h.apart j k s t x.1 y.1 same
    ]
  ];
}

-- the requests of a seat that is taken stay those of its session
queued-attached : (seats : ℕ → Option Seat) (seat : ℕ) (entry : Seat) (k : ℕ) (requests : List WholeRequest) → seats seat ≡ None
    → All (SitsAt seats k) requests → All (SitsAt (put seats seat (Some entry)) k) requests
queued-attached seats seat entry k requests free h = elim (cases_eq k seat) [
  | inl e ↦
      let nothing : requests ≡ [] = none_queued seats k requests (ap seats e ∙ free) h in
      All-same (SitsAt (put seats seat (Some entry)) k) requests [] nothing (λ i d lt. absurd (omega arith))
  | inr ne ↦ All-weaker (SitsAt seats k) (SitsAt (put seats seat (Some entry)) k) (λ r p. ap (is_session r.session) (put_other seats seat (Some entry) k ne) ∙ p) requests h
]

pub attached-sound : (l : Limits) (n : ℕ) (m : Plain) (seat : ℕ) (entry : Seat) (head : ℕ → ℕ) (bfq : Bfq) → seat < 16 → m.seat seat ≡ None
    → entry.session ≡ n → entry.unreaped ≡ 0 → entry.leaving ≡ false → Sound l n m → Sound l (n + 1) (attached m seat entry head bfq)
attached-sound l n m seat entry head bfq lt free new none stays h = record {
  placed = record {
    seated = Seated-attached n m.seat seat entry lt new h.placed.seated;
    queued = λ k. queued-attached m.seat seat entry k (m.queue k) free (h.placed.queued k);
    requeued = All-weaker (IsGiven n) (IsGiven (n + 1)) (λ r before. omega (arith, before)) m.requeued h.placed.requeued;
    flown = λ tag f e. omega (arith, h.placed.flown tag f e);
    empty = λ k e. elim (cases_eq k seat) [
      | inl same ↦
          let calls : has_session (put m.seat seat (Some entry) k) ≡ not entry.leaving = ap has_session (put_here m.seat seat (Some entry) k same) in
          let both : true ≡ false = sym (ap not stays) ∙ sym calls ∙ e in
          cc
      | inr other ↦ h.placed.empty k (sym (ap has_session (put_other m.seat seat (Some entry) k other)) ∙ e)
    ];
  };
  counts = λ k s e. elim (put_cases m.seat seat (Some entry) k (Some s) e) [
    | inl x ↦
        let here : m.seat k ≡ None = ap m.seat x.0 ∙ free in
        let same : entry ≡ s = some_is entry s x.1 in
        let session : s.session ≡ n = sym (ap (λ (t : Seat). t.session) same) ∙ new in
        let counter : s.unreaped ≡ 0 = sym (ap (λ (t : Seat). t.unreaped) same) ∙ none in
        let queue : bios_of s.session (m.queue k) ≡ 0 = ap (bios_of s.session) (none_queued m.seat k (m.queue k) here (h.placed.queued k)) in
        let list : bios_of s.session m.requeued ≡ 0 = bios_of-before s.session n m.requeued (omega (arith, session)) h.placed.requeued in
        let outbox : length (m.outbox k) ≡ 0 = ap length (h.placed.empty k (ap has_session here)) in
        let flights : bios_of s.session (flying l m) ≡ 0 =
        bios_of-none s.session m.flight (numbers 0 l.tags) (λ tag. flown_before s.session n (m.flight tag) (omega (arith, session)) (h.placed.flown tag)) in
        omega (arith, counter, queue, list, outbox, flights)
    | inr x ↦ h.counts k s x.1
  ];
}
