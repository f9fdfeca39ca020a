-- Dispatch and Requeue: bios go from a queue or the dispatch list to a tag, and from there to the dispatch list.
use Rattle.std.proofs.Common.{true, ◌≡◌, inl, inr, ℕ, ◌+◌, ◌<◌, List, [], ◌∷◌, ◌++◌, Option, Some, None, All, sym, ap, ◌∙◌, arith, sum_by, subst}
use Rattle.std.proofs.lemmas.Bool.{cases_eq}
use Rattle.std.proofs.lemmas.List.Elements.{All-same, All-head, All-tail, All-push}
use Rattle.std.proofs.lemmas.List.Sums.{sum_by-cons, sum_by_push}
use Rattle.plain.specs.declared.seat.Seat.{Seat}
use Rattle.plain.specs.Machine.{WholeRequest, Flight, Bfq, Plain, put}
use Rattle.plain.specs.Opening.{Limits}
use Rattle.plain.specs.Sessions.{is_session}
use Rattle.plain_laws.specs.Owed.{bios_in, bios_of}
use Rattle.plain_laws.proofs.Puts.{put_here, put_other, put_cases, some_is}
use Rattle.plain_laws.proofs.Flights.{bios_flown, bios_of-put}
use Rattle.plain_laws.proofs.Debts.{SitsAt, IsGiven, Sound, sitter, bios_in-other}

-- a request of a seat's queue, sent under a free tag: the others are queued still
abbrev pub dispatched : Plain → ℕ → ℕ → ℕ → WholeRequest → List WholeRequest → ℕ → (ℕ → ℕ) → Bfq → Plain
dispatched m n seat tag request requests served head bfq = record m {
  queue = put m.queue seat requests;
  flight = put m.flight tag (Some (record { issue = n; request = request }));
  served = served;
  head = head;
  bfq = bfq;
}

-- the first request of the dispatch list, sent under a free tag
abbrev pub resent : Plain → ℕ → ℕ → WholeRequest → List WholeRequest → Plain
resent m n tag request requests = record m { requeued = requests; flight = put m.flight tag (Some (record { issue = n; request = request })) }

-- the request under a tag, given back: it goes to the end of the dispatch list
abbrev pub given_back : Plain → ℕ → WholeRequest → Plain
given_back m tag request = record m { flight = put m.flight tag None; requeued = m.requeued ++ request ∷ [] }

-- a request and others are those of a queue: what holds of each of these holds of those, and a sum over these is the sum over those
pub record IsTaken (queue : List WholeRequest) (r : WholeRequest) (rest : List WholeRequest) : Type 1 where
  pub this : (P : WholeRequest → Type 0) → All P queue → P r
  pub others : (P : WholeRequest → Type 0) → All P queue → All P rest
  pub total : (f : WholeRequest → ℕ) → sum_by f queue ≡ f r + sum_by f rest

-- so are the first and those after it
pub IsTaken-first : (queue : List WholeRequest) (r : WholeRequest) (rest : List WholeRequest) → queue ≡ r ∷ rest → IsTaken queue r rest
IsTaken-first queue r rest e = record {
  this = λ P h. All-head P r rest (All-same P (r ∷ rest) queue (sym e) h);
  others = λ P h. All-tail P r rest (All-same P (r ∷ rest) queue (sym e) h);
  total = λ f. ap (sum_by f) e ∙ sum_by-cons f r rest;
}

-- the queues without a request of one
queued-rest : (seats : ℕ → Option Seat) (queue : ℕ → List WholeRequest) (seat : ℕ) (rest : List WholeRequest) → All (SitsAt seats seat) rest
    → ((k : ℕ) → All (SitsAt seats k) (queue k)) → (k : ℕ) → All (SitsAt seats k) (put queue seat rest k)
queued-rest seats queue seat rest others h k = elim (cases_eq k seat) [
  | inl e ↦
      let P : ℕ → Type 0 = λ j. All (SitsAt seats j) rest in
      All-same (SitsAt seats k) (put queue seat rest k) rest (put_here queue seat rest k e) (subst P (sym e) others)
  | inr ne ↦ All-same (SitsAt seats k) (put queue seat rest k) (queue k) (put_other queue seat rest k ne) (h k)
]

pub dispatched-sound : (l : Limits) (n : ℕ) (m : Plain) (seat tag : ℕ) (r : WholeRequest) (rest : List WholeRequest) (served : ℕ) (head : ℕ → ℕ) (bfq : Bfq)
    → IsTaken (m.queue seat) r rest → tag < l.tags → m.flight tag ≡ None → Sound l n m → Sound l n (dispatched m n seat tag r rest served head bfq)
dispatched-sound l n m seat tag r rest served head bfq is lt free h =
    let f : Flight = record { issue = n; request = r } in
    let p = h.placed in
    let sits : is_session r.session (m.seat seat) ≡ true = is.this (SitsAt m.seat seat) (p.queued seat) in
    let entry = sitter r.session (m.seat seat) sits in
    record {
      placed = record {
        seated = p.seated;
        queued = queued-rest m.seat m.queue seat rest (is.others (SitsAt m.seat seat) (p.queued seat)) p.queued;
        requeued = p.requeued;
        flown = λ k g e. elim (put_cases m.flight tag (Some f) k (Some g) e) [
          | inl x ↦ let same = ap (λ (v : Flight). v.request.session) (some_is f g x.1) in omega (arith, same, entry.2, p.seated.given seat entry.0 entry.1)
          | inr x ↦ p.flown k g x.1
        ];
        empty = p.empty;
      };
      counts = λ k s e.
          let had = h.counts k s e in
          let flights = bios_of-put s.session m.flight l.tags tag (Some f) lt in
          let none : bios_flown s.session (m.flight tag) ≡ 0 = ap (bios_flown s.session) free in
          elim (cases_eq k seat) [
            | inl same ↦
                let before : bios_of s.session (m.queue k) ≡ bios_in s.session r + bios_of s.session rest =
                ap (λ j. bios_of s.session (m.queue j)) same ∙ is.total (bios_in s.session) in
                let after : bios_of s.session (put m.queue seat rest k) ≡ bios_of s.session rest = ap (bios_of s.session) (put_here m.queue seat rest k same) in
                omega (arith, had, flights, none, before, after)
            | inr other ↦
                let not_its : bios_in s.session r ≡ 0 = bios_in-other s.session r (λ same. other (p.seated.apart k seat s entry.0 e entry.1 (sym same ∙ sym entry.2))) in
                let after : bios_of s.session (put m.queue seat rest k) ≡ bios_of s.session (m.queue k) = ap (bios_of s.session) (put_other m.queue seat rest k other) in
                omega (arith, had, flights, none, not_its, after)
          ];
    }

-- the first of the dispatch list is sent
pub resent-sound : (l : Limits) (n : ℕ) (m : Plain) (tag : ℕ) (r : WholeRequest) (rest : List WholeRequest)
    → m.requeued ≡ r ∷ rest → tag < l.tags → m.flight tag ≡ None → Sound l n m → Sound l n (resent m n tag r rest)
resent-sound l n m tag r rest first lt free h =
    let f : Flight = record { issue = n; request = r } in
    let p = h.placed in
    let is = IsTaken-first m.requeued r rest first in
    let given : r.session < n = is.this (IsGiven n) p.requeued in
    record {
      placed = record {
        seated = p.seated;
        queued = p.queued;
        requeued = is.others (IsGiven n) p.requeued;
        flown = λ k g e. elim (put_cases m.flight tag (Some f) k (Some g) e) [
          | inl x ↦ let same = ap (λ (v : Flight). v.request.session) (some_is f g x.1) in omega (arith, same, given)
          | inr x ↦ p.flown k g x.1
        ];
        empty = p.empty;
      };
      counts = λ k s e.
          let had = h.counts k s e in
          let flights = bios_of-put s.session m.flight l.tags tag (Some f) lt in
          let none : bios_flown s.session (m.flight tag) ≡ 0 = ap (bios_flown s.session) free in
          let before : bios_of s.session m.requeued ≡ bios_in s.session r + bios_of s.session rest = is.total (bios_in s.session) in
          omega (arith, had, flights, none, before);
    }

-- the flights without one
pub landed : (n : ℕ) (flights : ℕ → Option Flight) (tag : ℕ) → ((k : ℕ) (f : Flight) → flights k ≡ Some f → f.request.session < n)
    → (k : ℕ) (f : Flight) → put flights tag None k ≡ Some f → f.request.session < n
landed n flights tag h k f e = elim (put_cases flights tag None k (Some f) e) [
  | inl x ↦ cc
  | inr x ↦ h k f x.1
]

-- the request under a tag goes to the dispatch list
pub given_back-sound : (l : Limits) (n : ℕ) (m : Plain) (tag : ℕ) (flight : Flight)
    → tag < l.tags → m.flight tag ≡ Some flight → Sound l n m → Sound l n (given_back m tag flight.request)
given_back-sound l n m tag flight lt borne h =
    let r : WholeRequest = flight.request in
    let p = h.placed in
    record {
      placed = record {
        seated = p.seated;
        queued = p.queued;
        requeued = All-push (IsGiven n) m.requeued r p.requeued (p.flown tag flight borne);
        flown = landed n m.flight tag p.flown;
        empty = p.empty;
      };
      counts = λ k s e.
          let had = h.counts k s e in
          let flights = bios_of-put s.session m.flight l.tags tag None lt in
          let its : bios_flown s.session (m.flight tag) ≡ bios_in s.session r = ap (bios_flown s.session) borne in
          let after : bios_of s.session (m.requeued ++ r ∷ []) ≡ bios_of s.session m.requeued + bios_in s.session r = sum_by_push (bios_in s.session) m.requeued r in
          omega (arith, had, flights, its, after);
    }
