-- What moves requests and bios: what each kind of move keeps, every accepted step keeps.
use Rattle.std.proofs.Common.{true, false, Bool, ◌≡◌, ℕ, ◌+◌, ◌-◌, ◌<◌, ◌≤◌, List, [], ◌∷◌, ◌++◌, length, Some, None, cond, refl, ap, arith}
use Rattle.std.specs.Option.{option_map, option_map_or}
use Rattle.sector_core.specs.declared.bio.BioFields.{BioFields as Bio}
use Rattle.sector_core.specs.declared.bio.Op.{Op}
use Rattle.sector_core.specs.declared.bio.Outcome.{Outcome}
use Rattle.sector_core.specs.declared.bio.Effect.{Effect}
use Rattle.sector_core.specs.declared.range.Range.{Range}
use Rattle.sector_core.specs.declared.config.Scheduler.{Scheduler}
use Rattle.sector_core.specs.declared.class.Class.{Class}
use Rattle.plain.specs.declared.seat.Seat.{Seat}
use Rattle.plain.specs.Machine.{WholeRequest, Flight, Bfq, Plain, put}
use Rattle.plain.specs.declared.answer.Reply.TheVariants.{Queued}
use Rattle.plain.specs.Opening.{Limits}
use Rattle.plain.specs.Steps.Attach.{attached}
use Rattle.plain.specs.Sessions.{is_session, is_leaving, with_unreaped, unreaped}
use Rattle.plain.specs.Steps.Submit.{new_bio, queue_with, merge_in, submitted, woken}
use Rattle.plain.specs.Entities.{without_entity, without_gone, owed_fewer}
use Rattle.plain.specs.Requests.{is_gone, size_of}
use Rattle.plain.specs.Steps.Leave.{with_leaving, left}
use Rattle.plain.specs.Steps.Finish.{fits, effect_of, after_effect, completed, seat_of, delivered, after_finish}
use Rattle.plain.specs.Steps.Switch.{switched}
use Rattle.plain_laws.proofs.Flights.{find-numbers}
use Rattle.plain_laws.proofs.Sendings.{IsTaken, IsTaken-first, dispatched, resent, given_back}
use Rattle.plain_laws.proofs.Served.{woken-keeps, sent_by_bfq-keeps}
use Rattle.plain_laws.proofs.Leads.{Leads, IsSized, reaped_at}

-- a queue with one more bio
abbrev pub queued_in : Plain → ℕ → ℕ → ℕ → Op → Range → List ℕ → Plain
queued_in m n seat session op range payload = record m { queue = put m.queue seat (queue_with session op (new_bio n range payload) (merge_in m seat session op range) (m.queue seat)) }

-- the entry of a seat that is taken changes
abbrev pub changed_at : Plain → ℕ → (Seat → Seat) → Plain
changed_at m seat f = record m { seat = put m.seat seat (option_map f (m.seat seat)) }

-- and not its session
abbrev pub Stays : (Seat → Seat) → Type 0
Stays f = (s : Seat) → (f s).session ≡ s.session

-- a request of a queue is sent
abbrev pub sent_from : Plain → ℕ → ℕ → ℕ → WholeRequest → List WholeRequest → Plain
sent_from m n seat tag r rest = record m { queue = put m.queue seat rest; flight = put m.flight tag (Some (record { issue = n; request = r })) }

-- the flight under a tag ends
abbrev pub landed : Plain → ℕ → Effect → WholeRequest → Plain
landed m tag effect r = record m { overlay = after_effect effect m.overlay r.bios; flight = put m.flight tag None }

-- and its bios go to an outbox
abbrev pub landed_at : Plain → ℕ → Effect → WholeRequest → ℕ → Plain
landed_at m tag effect r seat = record m {
  overlay = after_effect effect m.overlay r.bios;
  flight = put m.flight tag None;
  outbox = put m.outbox seat (m.outbox seat ++ completed effect m.overlay r.bios);
}

-- what stands after steps with serials below a number, each move of requests and bios keeps
pub record Moves (l : Limits) (P : ℕ → Plain → Type 0) : Type 1 where
  pub later : (n n' : ℕ) (m : Plain) → n ≤ n' → P n m → P n' m
  pub attaches : (n : ℕ) (m : Plain) (seat : ℕ) (s : Seat) → seat < 16 → m.seat seat ≡ None → s.session ≡ n → P n m → P (n + 1) (record m { seat = put m.seat seat (Some s) })
  pub submits : (n : ℕ) (m : Plain) (seat session : ℕ) (op : Op) (range : Range) (payload : List ℕ) → seat < 16 → is_session session (m.seat seat) ≡ true → IsSized op range payload
      → P n m → P (n + 1) (queued_in m n seat session op range payload)
  pub changes : (n : ℕ) (m : Plain) (seat : ℕ) (f : Seat → Seat) → Stays f → P n m → P n (changed_at m seat f)
  pub reaps : (n : ℕ) (m : Plain) (seat : ℕ) (bio : Bio) (bios : List Bio) → m.outbox seat ≡ bio ∷ bios → P n m → P n (record m { outbox = put m.outbox seat bios })
  pub drops : (n : ℕ) (m : Plain) (seat : ℕ) → P n m → P n (record m { outbox = put m.outbox seat [] })
  pub frees : (n : ℕ) (m : Plain) (seat : ℕ) → is_gone l m seat ≡ true → P n m → P n (record m { seat = put m.seat seat None })
  pub sends : (n i : ℕ) (m : Plain) (seat tag : ℕ) (r : WholeRequest) (rest : List WholeRequest) → IsTaken (m.queue seat) r rest → tag < l.tags → m.flight tag ≡ None
      → P n m → P n (sent_from m i seat tag r rest)
  pub resends : (n i : ℕ) (m : Plain) (tag : ℕ) (r : WholeRequest) (rest : List WholeRequest) → m.requeued ≡ r ∷ rest → tag < l.tags → m.flight tag ≡ None
      → P n m → P n (resent m i tag r rest)
  pub gives_back : (n : ℕ) (m : Plain) (tag : ℕ) (f : Flight) → tag < l.tags → m.flight tag ≡ Some f → P n m → P n (given_back m tag f.request)
  pub lands : (n : ℕ) (m : Plain) (tag : ℕ) (f : Flight) (outcome : Outcome) → tag < l.tags → m.flight tag ≡ Some f → fits f.request.op (size_of f.request.bios) outcome ≡ true
      → P n m → P n (landed m tag (effect_of outcome f.request.op) f.request)
  pub delivers : (n : ℕ) (m : Plain) (tag : ℕ) (f : Flight) (outcome : Outcome) (seat : ℕ) → tag < l.tags → m.flight tag ≡ Some f
      → fits f.request.op (size_of f.request.bios) outcome ≡ true → seat < 16 → is_session f.request.session (m.seat seat) ≡ true
      → P n m → P n (landed_at m tag (effect_of outcome f.request.op) f.request seat)
  pub rests : (n : ℕ) (m : Plain) (frozen : Bool) (served : ℕ) (head : ℕ → ℕ) (b : Bfq) (scheduler : Scheduler)
      → P n m → P n (record m { frozen = frozen; served = served; head = head; bfq = b; scheduler = scheduler })

-- what BFQ knows alone changes
bfq-moves : (l : Limits) (P : ℕ → Plain → Type 0) → Moves l P → (n : ℕ) (m : Plain) (b : Bfq) → P n m → P n (record m { bfq = b })
bfq-moves l P k n m b h = k.rests n m m.frozen m.served m.head b m.scheduler h

attached-moves : (l : Limits) (P : ℕ → Plain → Type 0) → Moves l P → (n : ℕ) (m : Plain) (seat group prio : ℕ) (class : Class) → seat < 16 → m.seat seat ≡ None → P n m → P (n + 1) (attached l m n seat group prio class)
attached-moves l P k n m seat group prio class small free h =
    let next : Plain = attached l m n seat group prio class in
    let entry : Seat = record { session = n; prio = prio; unreaped = 0; leaving = false } in
    k.rests (n + 1) (record m { seat = put m.seat seat (Some entry) }) m.frozen m.served next.head next.bfq m.scheduler (k.attaches n m seat entry small free refl h)

submitted-moves : (l : Limits) (P : ℕ → Plain → Type 0) → Moves l P → (n : ℕ) (m : Plain) (seat session : ℕ) (op : Op) (range : Range) (payload : List ℕ) (next : Plain)
    → seat < 16 → is_session session (m.seat seat) ≡ true → IsSized op range payload → woken m seat (submitted m n seat session op range payload) ≡ Some next → P n m → P (n + 1) next
submitted-moves l P k n m seat session op range payload next small its sized is h =
    let mid : Plain = queued_in m n seat session op range payload in
    let made : P (n + 1) (submitted m n seat session op range payload) =
    k.changes (n + 1) mid seat (with_unreaped (unreaped m seat + 1)) (λ s. refl) (k.submits n m seat session op range payload small its sized h) in
    let Q : Plain → Type 0 = P (n + 1) in
    woken-keeps Q m seat (submitted m n seat session op range payload) (Queued n) made (λ b _. bfq-moves l P k (n + 1) (submitted m n seat session op range payload) b made)
    (next, Queued n) (ap (option_map (λ next. (next, Queued n))) is)

reaped-moves : (l : Limits) (P : ℕ → Plain → Type 0) → Moves l P → (n : ℕ) (m : Plain) (seat : ℕ) (bio : Bio) (bios : List Bio) → m.outbox seat ≡ bio ∷ bios → P n m → P n (reaped_at m seat bios)
reaped-moves l P k n m seat bio bios is h = k.changes n (record m { outbox = put m.outbox seat bios }) seat (with_unreaped (unreaped m seat - 1)) (λ s. refl) (k.reaps n m seat bio bios is h)

-- Leave, and the seat that is free with the last of a session's requests
without_gone-moves : (l : Limits) (P : ℕ → Plain → Type 0) → Moves l P → (m : Plain) (n seat : ℕ) → P n m → P n (without_gone l seat m)
without_gone-moves l P k m n seat h =
    let b : Bfq = without_entity seat m.bfq in
    elim (is_gone l m seat) as (λ t. is_gone l m seat ≡ t → P n (cond t (record m { seat = put m.seat seat None; bfq = b }) m)) [
      | true ↦ λ last. bfq-moves l P k n (record m { seat = put m.seat seat None }) b (k.frees n m seat last h)
      | false ↦ λ _. h
    ] refl

owed_fewer-moves : (l : Limits) (P : ℕ → Plain → Type 0) → Moves l P → (m : Plain) (n seat count : ℕ) → P n m → P n (owed_fewer seat count m)
owed_fewer-moves l P k m n seat count h = k.changes n m seat (with_unreaped (unreaped m seat - count)) (λ s. refl) h

left-moves : (l : Limits) (P : ℕ → Plain → Type 0) → Moves l P → (m : Plain) (n seat : ℕ) → P n m → P n (left l m seat)
left-moves l P k m n seat h =
    let mid : Plain = record m { outbox = put m.outbox seat [] } in
    let leaving : Plain = changed_at mid seat with_leaving in
    let count : ℕ = length (m.outbox seat) in
    let now : P n leaving = k.changes n mid seat with_leaving (λ s. refl) (k.drops n m seat h) in
    without_gone-moves l P k (owed_fewer seat count leaving) n seat (owed_fewer-moves l P k leaving n seat count now)

-- Dispatch
dispatched-moves : (l : Limits) (P : ℕ → Plain → Type 0) → Moves l P → (m : Plain) (n seat tag : ℕ) (r : WholeRequest) (rest : List WholeRequest) (served : ℕ) (head : ℕ → ℕ) (b : Bfq)
    → IsTaken (m.queue seat) r rest → tag < l.tags → m.flight tag ≡ None → P n m → P n (dispatched m n seat tag r rest served head b)
dispatched-moves l P k m n seat tag r rest served head b is low free h =
    k.rests n (sent_from m n seat tag r rest) m.frozen served head b m.scheduler (k.sends n n m seat tag r rest is low free h)

-- Finish
after_finish-moves : (l : Limits) (P : ℕ → Plain → Type 0) → Moves l P → (m : Plain) (n tag : ℕ) (outcome : Outcome) (f : Flight) → tag < l.tags → m.flight tag ≡ Some f
    → fits f.request.op (size_of f.request.bios) outcome ≡ true → P n m → P n (after_finish l m tag (effect_of outcome f.request.op) f.request)
after_finish-moves l P k m n tag outcome f low is fit h =
    let r : WholeRequest = f.request in
    let effect : Effect = effect_of outcome r.op in
    let next : Plain = landed m tag effect r in
    let bios : List Bio = completed effect m.overlay r.bios in
    let now : P n next = k.lands n m tag f outcome low is fit h in
    elim (seat_of m r.session) as (λ o. seat_of m r.session ≡ o → P n (option_map_or (delivered l bios next) o next)) [
      | None ↦ λ _. now
      | Some seat ↦ λ there.
          let found = find-numbers (λ s. is_session r.session (m.seat s)) 0 16 seat there in
          let small : seat < 16 = omega (arith, found.1) in
          elim (is_leaving (m.seat seat)) as (λ t. P n (cond t (without_gone l seat (owed_fewer seat (length bios) next)) (landed_at m tag effect r seat))) [
            | true ↦ without_gone-moves l P k (owed_fewer seat (length bios) next) n seat (owed_fewer-moves l P k next n seat (length bios) now)
            | false ↦ k.delivers n m tag f outcome seat low is fit small found.2 h
          ]
    ] refl

-- so does every accepted step
pub moves-lead : (l : Limits) (P : ℕ → Plain → Type 0) → Moves l P → Leads l P
moves-lead l P k = record {
  later = k.later;
  stays = λ n m h. h;
  attaches = λ n m seat group prio class small free known few h. attached-moves l P k n m seat group prio class small free h;
  submits = λ n m seat session op range payload next small its sized is h. submitted-moves l P k n m seat session op range payload next small its sized is h;
  reaps = λ n m seat bio bios is h. reaped-moves l P k n m seat bio bios is h;
  leaves = λ n m seat small there h. left-moves l P k m n seat h;
  takes_turns = λ n m seat tag r rest none is low free h.
      dispatched-moves l P k m n seat tag r rest seat m.head m.bfq (IsTaken-first (m.queue seat) r rest is) low free h;
  sends = λ n m tag o bfq is low free h.
      k.later n (n + 1) o.0 (omega arith)
      (sent_by_bfq-keeps (P n) l m n tag (λ q r rest head b taken. dispatched-moves l P k m n q tag r rest m.served head b taken low free h) o is);
  resends = λ n m tag r rest is low free h. k.resends n n m tag r rest is low free h;
  finishes = λ n m tag f outcome low is fit h. after_finish-moves l P k m n tag outcome f low is fit h;
  gives_back = k.gives_back;
  makes = λ n m group parent weight known weighs few is h. bfq-moves l P k n m _ h;
  drops = λ n m group known other unused h. bfq-moves l P k n m _ h;
  weighs = λ n m group weight known other weighs h. bfq-moves l P k n m _ h;
  freezes = λ n m frozen h. k.rests n m frozen m.served m.head m.bfq m.scheduler h;
  switches = λ _ n m scheduler none h. let next : Plain = switched l m scheduler in k.rests n m m.frozen next.served next.head next.bfq scheduler h;
  ticks = λ n m slot is h. bfq-moves l P k (n + 1) m _ (k.later n (n + 1) m (omega arith) h);
}
