-- Every step leaves each request with a session that sits at a seat.
use Rattle.std.proofs.Common.{true, false, slice_index_or, ◌≡◌, inl, inr, ℕ, zero, suc, ◌+◌, ◌<◌, ◌≤◌, ◌==◌, List, [], ◌∷◌, ◌++◌, Option, Some, None, All, cond, refl, sym, ap, ◌∙◌, subst, arith, eq-eqb, eqb-true}
use Rattle.std.specs.List.{filter, filter_map, cons_option}
use Rattle.std.specs.Option.{option_map}
use Rattle.std.proofs.lemmas.Bool.{cases_eq}
use Rattle.std.proofs.lemmas.List.Elements.{All-nil, All-cons, All-same, All-head, All-tail, All-push, All-weaker}
use Rattle.plain.specs.Lists.{numbers, is_empty}
use Rattle.plain.specs.declared.seat.Seat.{Seat}
use Rattle.plain.specs.Machine.{WholeRequest, Flight, Plain, put}
use Rattle.plain.specs.declared.call.Call.{Call}
use Rattle.plain.specs.Opening.{Limits, opening}
use Rattle.plain.specs.Sessions.{is_session}
use Rattle.plain.specs.Steps.Submit.{new_bio, merge_in}
use Rattle.plain.specs.Requests.{request_at, flying, is_of, is_gone}
use Rattle.plain.specs.Keeper.{machine_of}
use Rattle.plain.specs.Headline.{replay}
use Rattle.plain_laws.proofs.Puts.{put_here, put_other, some_is}
use Rattle.plain_laws.proofs.Joins.{All-queue_with}
use Rattle.plain_laws.proofs.Debts.{Seated, Seated-later, Seated-attached, SitsAt}
use Rattle.plain_laws.proofs.Leavings.{Seated-freed, gone_is}
use Rattle.plain_laws.proofs.Counters.{Seated-changed, SitsAt-changed, is_session-changed}
use Rattle.plain_laws.proofs.Sendings.{IsTaken-first}
use Rattle.host_calls.specs.Sessions.{SitsAtOne, SessionsSitApart, RequestsHaveSeats}
use Rattle.plain_laws.proofs.Moves.{Moves, Stays}
use Rattle.plain_laws.proofs.Stamps.{machine-moves}
use Rattle.plain_laws.proofs.Each.{flown, ended}

-- a request's session sits at some seat
abbrev HasSeat : (ℕ → Option Seat) → WholeRequest → Type 0
HasSeat seats request = (seat : ℕ) × (is_session request.session (seats seat) ≡ true)

-- sessions are apart, a queue has requests of the session that sits there, and the dispatch list and the tags that there are have requests
-- of sessions that sit somewhere
abbrev Seating : Limits → ℕ → Plain → Type 0
Seating l n m =
    Seated n m.seat
    × ((k : ℕ) → All (SitsAt m.seat k) (m.queue k))
    × All (HasSeat m.seat) m.requeued
    × ((tag : ℕ) (f : Flight) → m.flight tag ≡ Some f → (tag < l.tags) × HasSeat m.seat f.request)

-- Attach: who sits stays, since the seat was free.
sits-attached : (seats : ℕ → Option Seat) (seat : ℕ) (v : Option Seat) (k session : ℕ) → seats seat ≡ None → is_session session (seats k) ≡ true
    → is_session session (put seats seat v k) ≡ true
sits-attached seats seat v k session free sits = elim (cases_eq k seat) [
  | inl same ↦ let none : is_session session (seats k) ≡ false = ap (is_session session) (ap seats same ∙ free) in cc
  | inr other ↦ ap (is_session session) (put_other seats seat v k other) ∙ sits
]

attached-seating : (l : Limits) (n : ℕ) (m : Plain) (seat : ℕ) (s : Seat) → seat < 16 → m.seat seat ≡ None → s.session ≡ n → Seating l n m
    → Seating l (n + 1) (record m { seat = put m.seat seat (Some s) })
attached-seating l n m seat s small free new h =
    let seats : ℕ → Option Seat = put m.seat seat (Some s) in
    let sits : (r : WholeRequest) → HasSeat m.seat r → HasSeat seats r = λ r has. (has.0, sits-attached m.seat seat (Some s) has.0 r.session free has.1) in (
      Seated-attached n m.seat seat s small new h.0,
      λ k. All-weaker (SitsAt m.seat k) (SitsAt seats k) (λ r its. sits-attached m.seat seat (Some s) k r.session free its) (m.queue k) (h.1 k),
      All-weaker (HasSeat m.seat) (HasSeat seats) sits m.requeued h.2,
      λ tag f e. let old = h.3 tag f e in (old.0, sits f.request old.1),
    )

-- the entry of a seat changes, and not its session
changed-seating : (l : Limits) (n : ℕ) (m : Plain) (seat : ℕ) (f : Seat → Seat) → Stays f → Seating l n m → Seating l n (record m { seat = put m.seat seat (option_map f (m.seat seat)) })
changed-seating l n m seat f stays h =
    let seats : ℕ → Option Seat = put m.seat seat (option_map f (m.seat seat)) in
    let sits : (r : WholeRequest) → HasSeat m.seat r → HasSeat seats r = λ r has. (has.0, is_session-changed r.session m.seat seat f has.0 stays ∙ has.1) in (
      Seated-changed n m.seat seat f stays h.0,
      λ k. SitsAt-changed m.seat seat f k (m.queue k) stays (h.1 k),
      All-weaker (HasSeat m.seat) (HasSeat seats) sits m.requeued h.2,
      λ tag f e. let old = h.3 tag f e in (old.0, sits f.request old.1),
    )

-- A seat is free where no request of its session is left.
abbrev IsOther : ℕ → WholeRequest → Type 0
IsOther session r = is_of session r ≡ false

-- where a filter leaves nothing, nothing passes
none-passes : (session : ℕ) (xs : List WholeRequest) → is_empty (filter (is_of session) xs) ≡ true → All (IsOther session) xs
none-passes session [] e = All-nil (IsOther session)
none-passes session (x ∷ xs) e =
    let rest : List WholeRequest = filter (is_of session) xs in
    elim (is_of session x) as (λ t. is_of session x ≡ t → is_empty (cond t (x ∷ rest) rest) ≡ true → All (IsOther session) (x ∷ xs)) [
      | true ↦ λ _ f. cc
      | false ↦ λ no f. All-cons (IsOther session) x xs no (none-passes session xs f)
    ] refl e

-- what two things that hold of all give
all-both : {A : Type 0} (P Q R : A → Type 0) → ((x : A) → P x → Q x → R x) → (xs : List A) → All P xs → All Q xs → All R xs
all-both P Q R f xs p q i d lt = f (slice_index_or xs i d) (p i d lt) (q i d lt)

all-first : {A : Type 0} (P : A → Type 0) (xs ys : List A) → All P (xs ++ ys) → All P xs
all-first P [] ys h = All-nil P
all-first P (x ∷ xs) ys h = All-cons P x xs (All-head P x (xs ++ ys) h) (all-first P xs ys (All-tail P x (xs ++ ys) h))

all-second : {A : Type 0} (P : A → Type 0) (xs ys : List A) → All P (xs ++ ys) → All P ys
all-second P [] ys h = h
all-second P (x ∷ xs) ys h = all-second P xs ys (All-tail P x (xs ++ ys) h)

-- what holds of all that some numbers give holds of what one gives
given-head : {A : Type 0} (P : A → Type 0) (o : Option A) (r : A) (xs : List A) → o ≡ Some r → All P (cons_option o xs) → P r
given-head P None r xs e all = cc
given-head P (Some x) r xs e all = subst P (some_is x r e) (All-head P x xs all)

given-tail : {A : Type 0} (P : A → Type 0) (o : Option A) (xs : List A) → All P (cons_option o xs) → All P xs
given-tail P None xs all = all
given-tail P (Some x) xs all = All-tail P x xs all

all-given : {A : Type 0} (P : A → Type 0) (g : ℕ → Option A) (from count k : ℕ) (r : A) → All P (filter_map g (numbers from count)) → from ≤ k → k < from + count → g k ≡ Some r → P r
all-given P g from zero k r all lo hi e = absurd (omega (arith, lo, hi))
all-given P g from (suc count) k r all lo hi e = elim (cases_eq k from) [
  | inl same ↦ given-head P (g from) r (filter_map g (numbers (from + 1) count)) (sym (ap g same) ∙ e) all
  | inr other ↦ all-given P g (from + 1) count k r (given-tail P (g from) (filter_map g (numbers (from + 1) count)) all) (omega (arith, lo, other)) (omega (arith, hi)) e
]

sits-freed : (seats : ℕ → Option Seat) (seat : ℕ) (s : Seat) (k : ℕ) (r : WholeRequest) → seats seat ≡ Some s → IsOther s.session r → is_session r.session (seats k) ≡ true
    → is_session r.session (put seats seat None k) ≡ true
sits-freed seats seat s k r is other sits = elim (cases_eq k seat) [
  | inl same ↦
      let its : (s.session == r.session) ≡ true = sym (ap (is_session r.session) (ap seats same ∙ is)) ∙ sits in
      let both : true ≡ false = sym (eq-eqb r.session s.session (sym (eqb-true s.session r.session its))) ∙ other in
      cc
  | inr ne ↦ ap (is_session r.session) (put_other seats seat None k ne) ∙ sits
]

freed-seating : (l : Limits) (n : ℕ) (m : Plain) (seat : ℕ) → is_gone l m seat ≡ true → Seating l n m → Seating l n (record m { seat = put m.seat seat None })
freed-seating l n m seat gone h =
    let seats : ℕ → Option Seat = put m.seat seat None in
    let who = gone_is l m seat (m.seat seat) refl gone in
    let s : Seat = who.0 in
    let Q : WholeRequest → Type 0 = IsOther s.session in
    let all : All Q (m.queue seat ++ m.requeued ++ flying l m) = none-passes s.session (m.queue seat ++ m.requeued ++ flying l m) who.3 in
    let waiting : All Q (m.queue seat ++ m.requeued) = all-first Q (m.queue seat ++ m.requeued) (flying l m) all in
    let queue : All Q (m.queue seat) = all-first Q (m.queue seat) m.requeued waiting in
    let list : All Q m.requeued = all-second Q (m.queue seat) m.requeued waiting in
    let tags : All Q (flying l m) = all-second Q (m.queue seat ++ m.requeued) (flying l m) all in (
      Seated-freed n m.seat seat h.0,
      λ k. elim (cases_eq k seat) [
        | inl same ↦
            let here : All Q (m.queue k) = All-same Q (m.queue k) (m.queue seat) (ap m.queue same) queue in
            all-both Q (SitsAt m.seat k) (SitsAt seats k) (λ r other sits. sits-freed m.seat seat s k r who.1 other sits) (m.queue k) here (h.1 k)
        | inr ne ↦ All-weaker (SitsAt m.seat k) (SitsAt seats k) (λ r sits. ap (is_session r.session) (put_other m.seat seat None k ne) ∙ sits) (m.queue k) (h.1 k)
      ],
      all-both Q (HasSeat m.seat) (HasSeat seats) (λ r other has. (has.0, sits-freed m.seat seat s has.0 r who.1 other has.1)) m.requeued list h.2,
      λ tag f e.
          let old = h.3 tag f e in
          let other : Q f.request = all-given Q (request_at m) 0 l.tags tag f.request tags (omega arith) (omega (arith, old.0)) (ap (option_map (λ (g : Flight). g.request)) e) in
          (old.0, (old.1.0, sits-freed m.seat seat s old.1.0 f.request who.1 other old.1.1)),
    )

-- the queues with another one at a seat
put-sits : (seats : ℕ → Option Seat) (queue : ℕ → List WholeRequest) (seat : ℕ) (more : List WholeRequest) → All (SitsAt seats seat) more
    → ((k : ℕ) → All (SitsAt seats k) (queue k)) → (k : ℕ) → All (SitsAt seats k) (put queue seat more k)
put-sits seats queue seat more sits h k = elim (cases_eq k seat) [
  | inl e ↦
      let P : ℕ → Type 0 = λ j. All (SitsAt seats j) more in
      All-same (SitsAt seats k) (put queue seat more k) more (put_here queue seat more k e) (subst P (sym e) sits)
  | inr ne ↦ All-same (SitsAt seats k) (put queue seat more k) (queue k) (put_other queue seat more k ne) (h k)
]

abbrev Flies : Limits → Plain → ℕ → WholeRequest → Type 0
Flies l m tag r = (tag < l.tags) × HasSeat m.seat r

seating-moves : (l : Limits) → Moves l (Seating l)
seating-moves l = record {
  later = λ n n' m le h. (Seated-later n n' m.seat le h.0, h.1, h.2, h.3);
  attaches = λ n m seat s small free new h. attached-seating l n m seat s small free new h;
  submits = λ n m seat session op range payload small its is h. (
    Seated-later n (n + 1) m.seat (omega arith) h.0,
    put-sits m.seat m.queue seat _
        (All-queue_with (SitsAt m.seat seat) session op (new_bio n range payload) (merge_in m seat session op range) (m.queue seat) its (λ front q joined sits. sits) (h.1 seat)) h.1,
    h.2,
    h.3,
  );
  changes = λ n m seat f stays h. changed-seating l n m seat f stays h;
  reaps = λ n m seat bio bios is h. h;
  drops = λ n m seat h. h;
  frees = λ n m seat gone h. freed-seating l n m seat gone h;
  sends = λ n i m seat tag r rest is low free h. (
    h.0,
    put-sits m.seat m.queue seat rest (is.others (SitsAt m.seat seat) (h.1 seat)) h.1,
    h.2,
    flown (Flies l m) m.flight tag i r (low, (seat, is.this (SitsAt m.seat seat) (h.1 seat))) h.3,
  );
  resends = λ n i m tag r rest is low free h.
      let taken = IsTaken-first m.requeued r rest is in
      (h.0, h.1, taken.others (HasSeat m.seat) h.2, flown (Flies l m) m.flight tag i r (low, taken.this (HasSeat m.seat) h.2) h.3);
  gives_back = λ n m tag f low is h. (h.0, h.1, All-push (HasSeat m.seat) m.requeued f.request h.2 (h.3 tag f is).1, ended (Flies l m) m.flight tag h.3);
  lands = λ n m tag f outcome low is fit h. (h.0, h.1, h.2, ended (Flies l m) m.flight tag h.3);
  delivers = λ n m tag f outcome seat low is fit small its h. (h.0, h.1, h.2, ended (Flies l m) m.flight tag h.3);
  rests = λ n m frozen served head b scheduler h. h;
}

seating-opening : (l : Limits) → Seating l 0 (opening l)
seating-opening l = (
  record { within = λ k s e. cc; given = λ k s e. cc; apart = λ j k s t e f g. cc },
  λ k. All-nil (SitsAt (opening l).seat k),
  All-nil (HasSeat (opening l).seat),
  λ tag f e. cc,
)

-- so on every keeper's machine
machine-seating : (l : Limits) (most : ℕ) (journal : List Call) → Seating l ((replay l most journal).last + 1) (machine_of (replay l most journal))
machine-seating l most journal = machine-moves l most journal (Seating l) (seating-moves l) (seating-opening l)

pub sessions-apart : (l : Limits) (most : ℕ) (journal : List Call) → SessionsSitApart l most journal
sessions-apart l most journal = let h = machine-seating l most journal in (h.0.within, h.0.apart)

-- what sits at a seat where sessions are apart, sits at no other
seat-taken : (o : Option Seat) (session : ℕ) → is_session session o ≡ true → (s : Seat) × (o ≡ Some s) × (s.session ≡ session)
seat-taken None session sits = cc
seat-taken (Some s) session sits = (s, refl, eqb-true s.session session sits)

sits-once : (n : ℕ) (seats : ℕ → Option Seat) (r : WholeRequest) → Seated n seats → HasSeat seats r → SitsAtOne seats r.session
sits-once n seats r seated has =
    let here = seat-taken (seats has.0) r.session has.1 in (
      has.0,
      seated.within has.0 here.0 here.1,
      has.1,
      λ other sits. let there = seat-taken (seats other) r.session sits in seated.apart other has.0 there.0 here.0 there.1 here.1 (there.2 ∙ sym here.2),
    )

pub requests-have-seats : (l : Limits) (most : ℕ) (journal : List Call) → RequestsHaveSeats l most journal
requests-have-seats l most journal =
    let k = replay l most journal in
    let m : Plain = machine_of k in
    let h : Seating l (k.last + 1) m = machine-seating l most journal in
    let once : (r : WholeRequest) → HasSeat m.seat r → SitsAtOne m.seat r.session = λ r has. sits-once (k.last + 1) m.seat r h.0 has in (
      λ seat. All-weaker (SitsAt m.seat seat) (λ r. SitsAtOne m.seat r.session) (λ r its. once r (seat, its)) (m.queue seat) (h.1 seat),
      All-weaker (HasSeat m.seat) (λ r. SitsAtOne m.seat r.session) once m.requeued h.2,
      λ tag f e. once f.request (h.3 tag f e).1,
    )
