-- Every step leaves each bio in one place at most: a new one has a new serial, and the others move.
use Rattle.std.proofs.Common.{true, false, Bool, ◌≡◌, inl, inr, ℕ, ◌+◌, ◌<◌, ◌≤◌, ◌==◌, nat_le, List, [], ◌∷◌, ◌++◌, Some, None, cond, sum_by, refl, sym, ap, ◌∙◌, arith, eq-eqb, ne_eqb}
use Rattle.std.proofs.lemmas.Bool.{cases_eq, cond-true, cond-false, leb-true, leb-false}
use Rattle.std.proofs.lemmas.List.Sums.{sum_by-cons, sum_by_push, sum_by-append}
use Rattle.plain.specs.Lists.{numbers, seats}
use Rattle.sector_core.specs.declared.bio.BioFields.{BioFields as Bio}
use Rattle.sector_core.specs.declared.bio.Op.{Op}
use Rattle.sector_core.specs.declared.bio.Effect.{Effect}
use Rattle.sector_core.specs.declared.range.Range.{Range}
use Rattle.plain.specs.Machine.{Blocks, WholeRequest, Flight, Plain, put}
use Rattle.plain.specs.declared.call.Call.{Call}
use Rattle.plain.specs.Opening.{Limits, opening}
use Rattle.plain.specs.Steps.Submit.{new_bio, with_bio, queue_with, merge_in}
use Rattle.plain.specs.Steps.Finish.{effect_of, completed, result_of, rest_of_effect}
use Rattle.plain.specs.Keeper.{machine_of}
use Rattle.plain.specs.Headline.{replay}
use Rattle.plain_laws.proofs.Puts.{put_here, put_other}
use Rattle.plain_laws.proofs.Joins.{sum_by-queue_with}
use Rattle.plain_laws.proofs.Sendings.{IsTaken, IsTaken-first, resent, given_back}
use Rattle.host_calls.specs.Places.{bios_named, named_in, places, NothingElse, EachBioHasOnePlace}
use Rattle.plain_laws.proofs.Moves.{Moves, queued_in, sent_from, landed, landed_at}
use Rattle.plain_laws.proofs.Stamps.{machine-moves}
use Rattle.plain_laws.proofs.Flights.{of_flight, flown-sum, flown-put, sum_none}
use Rattle.host_calls.proofs.Totals.{seats-put, seats-less}

-- how many bios of a request have this serial
abbrev named : ℕ → WholeRequest → ℕ
named serial request = bios_named serial request.bios

-- the bio has it
abbrev is_named : ℕ → Bio → ℕ
is_named serial bio = cond (bio.serial == serial) 1 0

-- each bio has one place at most, and those that are to come have none
abbrev Placing : Limits → ℕ → Plain → Type 0
Placing l n m =
    ((serial : ℕ) → places l m serial ≤ 1)
    × ((serial : ℕ) → n ≤ serial → places l m serial ≡ 0)
    × NothingElse l m

-- where no bio has more places than before, nothing is lost
no-more : (l : Limits) (n : ℕ) (m next : Plain) → ((serial : ℕ) → places l next serial ≤ places l m serial) → NothingElse l next → Placing l n m → Placing l n next
no-more l n m next less low h = (
  λ serial. let a = less serial in let b = h.0 serial in omega (arith, a, b),
  λ serial le. let a = less serial in let b = h.1 serial le in omega (arith, a, b),
  low,
)

-- what there is from a number on stays where a lower one changes
low-put : {A : Type 0} (f : ℕ → A) (k : ℕ) (v : A) (bound : ℕ) (d : A) → k < bound → ((n : ℕ) → bound ≤ n → f n ≡ d) → (n : ℕ) → bound ≤ n → put f k v n ≡ d
low-put f k v bound d small low n high = put_other f k v n (λ same. omega (arith, same, small, high)) ∙ low n high

same-put : {A : Type 0} (f : ℕ → A) (k bound : ℕ) (d : A) → ((n : ℕ) → bound ≤ n → f n ≡ d) → (n : ℕ) → bound ≤ n → put f k d n ≡ d
same-put f k bound d low n high = elim (cases_eq n k) [
  | inl same ↦ put_here f k d n same
  | inr other ↦ put_other f k d n other ∙ low n high
]

-- a queue that is not empty has a low number
taken-low : (m : Plain) (seat : ℕ) (r : WholeRequest) (rest : List WholeRequest) → ((k : ℕ) → 16 ≤ k → m.queue k ≡ []) → IsTaken (m.queue seat) r rest → 16 ≤ seat → ⊥
taken-low m seat r rest low is high =
    let one : WholeRequest → ℕ = λ _. 1 in
    let all : sum_by one (m.queue seat) ≡ 1 + sum_by one rest = is.total one in
    let none : sum_by one (m.queue seat) ≡ 0 = ap (sum_by one) (low seat high) in
    omega (arith, all, none)

small-or : (seat : ℕ) → (16 ≤ seat → ⊥) → seat < 16
small-or seat h = elim (nat_le 16 seat) as (λ t. nat_le 16 seat ≡ t → seat < 16) [
  | true ↦ λ e. absurd (h (leb-true 16 seat e))
  | false ↦ λ e. leb-false 16 seat e
] refl

-- a new bio has it
abbrev is_new : ℕ → ℕ → ℕ
is_new n serial = cond (n == serial) 1 0

-- Submit
with_bio-named : (serial : ℕ) (front : Bool) (bio : Bio) (r : WholeRequest) → named serial (with_bio front bio r) ≡ named serial r + is_named serial bio
with_bio-named serial true bio r = let a = sum_by-cons (is_named serial) bio r.bios in omega (arith, a)
with_bio-named serial false bio r = sum_by_push (is_named serial) r.bios bio

submitted-places : (l : Limits) (n : ℕ) (m : Plain) (seat session : ℕ) (op : Op) (range : Range) (payload : List ℕ) → seat < 16 → (serial : ℕ)
    → places l (queued_in m n seat session op range payload) serial ≡ places l m serial + is_new n serial
submitted-places l n m seat session op range payload small serial =
    let bio : Bio = new_bio n range payload in
    let found = merge_in m seat session op range in
    let more : List WholeRequest = queue_with session op bio found (m.queue seat) in
    let put_one = seats-put (named_in serial) m.queue seat more small in
    let one : named serial (record { session = session; op = op; bios = bio ∷ [] }) ≡ is_named serial bio = let a = sum_by-cons (is_named serial) bio [] in omega (arith, a) in
    let longer : named_in serial more ≡ named_in serial (m.queue seat) + is_named serial bio =
    sum_by-queue_with (named serial) (is_named serial bio) session op bio found (m.queue seat) refl one (λ front r joined. with_bio-named serial front bio r) in
    omega (arith, put_one, longer)

submitted-placing : (l : Limits) (n : ℕ) (m : Plain) (seat session : ℕ) (op : Op) (range : Range) (payload : List ℕ) → seat < 16 → Placing l n m
    → Placing l (n + 1) (queued_in m n seat session op range payload)
submitted-placing l n m seat session op range payload small h = (
  λ serial.
      let now = submitted-places l n m seat session op range payload small serial in
      elim (cases_eq n serial) [
        | inl same ↦
            let b : is_new n serial ≡ 1 = cond-true (n == serial) 1 0 (eq-eqb n serial same) in
            let none = h.1 serial (omega (arith, same)) in
            omega (arith, now, b, none)
        | inr other ↦
            let b : is_new n serial ≡ 0 = cond-false (n == serial) 1 0 (ne_eqb n serial other) in
            let had = h.0 serial in
            omega (arith, now, b, had)
      ],
  λ serial le.
      let now = submitted-places l n m seat session op range payload small serial in
      let b : is_new n serial ≡ 0 = cond-false (n == serial) 1 0 (ne_eqb n serial (λ same. omega (arith, same, le))) in
      let none = h.1 serial (omega (arith, le)) in
      omega (arith, now, b, none),
  (low-put m.queue seat _ 16 [] small h.2.0, h.2.1, h.2.2),
)

-- Dispatch
sent-places : (l : Limits) (i : ℕ) (m : Plain) (seat tag : ℕ) (r : WholeRequest) (rest : List WholeRequest) → IsTaken (m.queue seat) r rest → tag < l.tags → m.flight tag ≡ None → seat < 16
    → (serial : ℕ) → places l (sent_from m i seat tag r rest) serial ≤ places l m serial
sent-places l i m seat tag r rest is low free small serial =
    let put_one = seats-put (named_in serial) m.queue seat rest small in
    let taken : named_in serial (m.queue seat) ≡ named serial r + named_in serial rest = is.total (named serial) in
    let flies = flown-put (named serial) m.flight l.tags tag (Some (record { issue = i; request = r })) low in
    let none : of_flight (named serial) (m.flight tag) ≡ 0 = ap (of_flight (named serial)) free in
    omega (arith, put_one, taken, flies, none)

resent-places : (l : Limits) (i : ℕ) (m : Plain) (tag : ℕ) (r : WholeRequest) (rest : List WholeRequest) → m.requeued ≡ r ∷ rest → tag < l.tags → m.flight tag ≡ None
    → (serial : ℕ) → places l (resent m i tag r rest) serial ≤ places l m serial
resent-places l i m tag r rest first low free serial =
    let taken : named_in serial m.requeued ≡ named serial r + named_in serial rest = (IsTaken-first m.requeued r rest first).total (named serial) in
    let flies = flown-put (named serial) m.flight l.tags tag (Some (record { issue = i; request = r })) low in
    let none : of_flight (named serial) (m.flight tag) ≡ 0 = ap (of_flight (named serial)) free in
    omega (arith, taken, flies, none)

-- Requeue
given_back-places : (l : Limits) (m : Plain) (tag : ℕ) (f : Flight) → tag < l.tags → m.flight tag ≡ Some f → (serial : ℕ) → places l (given_back m tag f.request) serial ≤ places l m serial
given_back-places l m tag f low is serial =
    let ends = flown-put (named serial) m.flight l.tags tag None low in
    let its : of_flight (named serial) (m.flight tag) ≡ named serial f.request = ap (of_flight (named serial)) is in
    let longer : named_in serial (m.requeued ++ f.request ∷ []) ≡ named_in serial m.requeued + named serial f.request = sum_by_push (named serial) m.requeued f.request in
    omega (arith, ends, its, longer)

-- Finish
completed-named : (serial : ℕ) (effect : Effect) (overlay : Blocks) (bios : List Bio) → bios_named serial (completed effect overlay bios) ≡ bios_named serial bios
completed-named serial effect overlay [] = refl
completed-named serial effect overlay (bio ∷ bios) =
    let rest : List Bio = completed (rest_of_effect bio.range.count effect) overlay bios in
    let a = sum_by-cons (is_named serial) (record bio { result = Some (result_of effect overlay bio) }) rest in
    let b = sum_by-cons (is_named serial) bio bios in
    let others = completed-named serial (rest_of_effect bio.range.count effect) overlay bios in
    omega (arith, a, b, others)

landed-places : (l : Limits) (m : Plain) (tag : ℕ) (f : Flight) (effect : Effect) → tag < l.tags → m.flight tag ≡ Some f → (serial : ℕ)
    → places l (landed m tag effect f.request) serial + named serial f.request ≡ places l m serial
landed-places l m tag f effect low is serial =
    let ends = flown-put (named serial) m.flight l.tags tag None low in
    let its : of_flight (named serial) (m.flight tag) ≡ named serial f.request = ap (of_flight (named serial)) is in
    omega (arith, ends, its)

delivered-places : (l : Limits) (m : Plain) (tag : ℕ) (f : Flight) (effect : Effect) (seat : ℕ) → tag < l.tags → m.flight tag ≡ Some f → seat < 16 → (serial : ℕ)
    → places l (landed_at m tag effect f.request seat) serial ≤ places l m serial
delivered-places l m tag f effect seat low is small serial =
    let bios : List Bio = completed effect m.overlay f.request.bios in
    let ends = landed-places l m tag f effect low is serial in
    let put_one = seats-put (bios_named serial) m.outbox seat (m.outbox seat ++ bios) small in
    let longer : bios_named serial (m.outbox seat ++ bios) ≡ bios_named serial (m.outbox seat) + bios_named serial bios = sum_by-append (is_named serial) (m.outbox seat) bios in
    let same = completed-named serial effect m.overlay f.request.bios in
    omega (arith, ends, put_one, longer, same)

-- an outbox gets shorter
shorter-places : (l : Limits) (m : Plain) (seat : ℕ) (bios : List Bio) (serial : ℕ) → bios_named serial bios ≤ bios_named serial (m.outbox seat)
    → places l (record m { outbox = put m.outbox seat bios }) serial ≤ places l m serial
shorter-places l m seat bios serial less = let a = seats-less (bios_named serial) m.outbox seat bios less in omega (arith, a)

reaped-less : (serial : ℕ) (o : List Bio) (bio : Bio) (bios : List Bio) → o ≡ bio ∷ bios → bios_named serial bios ≤ bios_named serial o
reaped-less serial o bio bios is =
    let a : bios_named serial o ≡ bios_named serial (bio ∷ bios) = ap (bios_named serial) is in
    let b = sum_by-cons (is_named serial) bio bios in
    omega (arith, a, b)

later-placing : (l : Limits) (n n' : ℕ) (m : Plain) → n ≤ n' → Placing l n m → Placing l n' m
later-placing l n n' m le h = (h.0, λ serial high. h.1 serial (omega (arith, le, high)), h.2)

placing-moves : (l : Limits) → Moves l (Placing l)
placing-moves l = record {
  later = λ n n' m le h. later-placing l n n' m le h;
  attaches = λ n m seat s small free new h. later-placing l n (n + 1) m (omega arith) h;
  submits = λ n m seat session op range payload small its is h. submitted-placing l n m seat session op range payload small h;
  changes = λ n m seat f stays h. h;
  reaps = λ n m seat bio bios is h.
      let small : seat < 16 = small-or seat (λ high. let both : [] ≡ bio ∷ bios = sym (h.2.1 seat high) ∙ is in cc) in
      no-more l n m (record m { outbox = put m.outbox seat bios }) (λ serial. shorter-places l m seat bios serial (reaped-less serial (m.outbox seat) bio bios is))
      (h.2.0, low-put m.outbox seat bios 16 [] small h.2.1, h.2.2) h;
  drops = λ n m seat h.
      no-more l n m (record m { outbox = put m.outbox seat [] }) (λ serial. shorter-places l m seat [] serial (omega arith)) (h.2.0, same-put m.outbox seat 16 [] h.2.1, h.2.2) h;
  frees = λ n m seat gone h. h;
  sends = λ n i m seat tag r rest is low free h.
      let small : seat < 16 = small-or seat (taken-low m seat r rest h.2.0 is) in
      no-more l n m (sent_from m i seat tag r rest) (sent-places l i m seat tag r rest is low free small)
      (low-put m.queue seat rest 16 [] small h.2.0, h.2.1, low-put m.flight tag _ l.tags None low h.2.2) h;
  resends = λ n i m tag r rest is low free h.
      no-more l n m (resent m i tag r rest) (resent-places l i m tag r rest is low free) (h.2.0, h.2.1, low-put m.flight tag _ l.tags None low h.2.2) h;
  gives_back = λ n m tag f low is h.
      no-more l n m (given_back m tag f.request) (given_back-places l m tag f low is) (h.2.0, h.2.1, same-put m.flight tag l.tags None h.2.2) h;
  lands = λ n m tag f outcome low is fit h.
      no-more l n m (landed m tag (effect_of outcome f.request.op) f.request) (λ serial. let a = landed-places l m tag f (effect_of outcome f.request.op) low is serial in omega (arith, a))
      (h.2.0, h.2.1, same-put m.flight tag l.tags None h.2.2) h;
  delivers = λ n m tag f outcome seat low is fit small its h.
      no-more l n m (landed_at m tag (effect_of outcome f.request.op) f.request seat) (delivered-places l m tag f (effect_of outcome f.request.op) seat low is small)
      (h.2.0, low-put m.outbox seat _ 16 [] small h.2.1, same-put m.flight tag l.tags None h.2.2) h;
  rests = λ n m frozen served head b scheduler h. h;
}

-- before the first step there is no bio
opening-places : (l : Limits) (serial : ℕ) → places l (opening l) serial ≡ 0
opening-places l serial =
    let queues = sum_none (λ seat. named_in serial ((opening l).queue seat)) seats (λ k. refl) in
    let boxes = sum_none (λ seat. bios_named serial ((opening l).outbox seat)) seats (λ k. refl) in
    let a = flown-sum (named serial) (opening l).flight (numbers 0 l.tags) in
    let b = sum_none (λ tag. of_flight (named serial) ((opening l).flight tag)) (numbers 0 l.tags) (λ k. refl) in
    omega (arith, queues, boxes, a, b)

placing-opening : (l : Limits) → Placing l 0 (opening l)
placing-opening l = (λ serial. let a = opening-places l serial in omega (arith, a), λ serial le. opening-places l serial, (λ k high. refl, λ k high. refl, λ tag high. refl))

-- so on every keeper's machine
pub one-place : (l : Limits) (most : ℕ) (journal : List Call) → EachBioHasOnePlace l most journal
one-place l most journal =
    let k = replay l most journal in
    let h : Placing l (k.last + 1) (machine_of k) = machine-moves l most journal (Placing l) (placing-moves l) (placing-opening l) in
    (h.2, h.0)
