-- What each kind of change keeps, every accepted step keeps, and so it holds of the machine of every keeper.
use Rattle.std.proofs.Common.{true, false, Bool, ◌≡◌, ℕ, ◌+◌, ◌-◌, ◌<◌, ◌≤◌, nat_le, nat_lt, ◌==◌, List, [], ◌∷◌, ◌++◌, length, Option, Some, None, cond, refl, arith}
use Rattle.std.specs.Option.{option_map, option_map_or}
use Rattle.std.proofs.lemmas.Bool.{ltb-false}
use Rattle.sector_core.specs.declared.bio.BioFields.{BioFields as Bio}
use Rattle.sector_core.specs.declared.bio.Op.{Op}
use Rattle.sector_core.specs.declared.bio.Effect.{Effect}
use Rattle.sector_core.specs.declared.range.Range.{Range}
use Rattle.sector_core.specs.declared.config.Scheduler.{Scheduler}
use Rattle.sector_core.specs.declared.config.Scheduler.TheVariants.{Plain as PlainScheduler, Bfq as BfqScheduler}
use Rattle.sector_core.specs.declared.class.Class.{Class}
use Rattle.plain.specs.Machine.{Blocks}
use Rattle.plain.specs.Lists.{is_empty}
use Rattle.plain.specs.Groups.{entity_of, depth, most_levels}
use Rattle.plain.specs.Rules.{stands}
use Rattle.plain.specs.declared.seat.InService.{InService}
use Rattle.plain.specs.declared.seat.Seat.{Seat}
use Rattle.plain.specs.Machine.{WholeRequest, Flight, Plain, put}
use Rattle.plain.specs.declared.answer.Reply.{Reply}
use Rattle.plain.specs.declared.call.Call.{Call}
use Rattle.plain.specs.Opening.{Limits, opening}
use Rattle.plain.specs.Steps.Attach.{attached}
use Rattle.plain.specs.Sessions.{is_session, is_leaving, with_unreaped, unreaped}
use Rattle.plain.specs.Steps.Submit.{submitted, woken}
use Rattle.plain.specs.Entities.{without_entity, without_gone, owed_fewer, is_weight}
use Rattle.plain.specs.Requests.{is_gone, queued, in_flight, requests_of}
use Rattle.plain.specs.Steps.Leave.{with_leaving, left}
use Rattle.plain.specs.Steps.Dispatch.{sent_by_bfq}
use Rattle.plain.specs.Steps.Finish.{effect_of, after_effect, completed, seat_of, delivered, after_finish}
use Rattle.plain.specs.Steps.GroupDrop.{is_used}
use Rattle.plain.specs.Steps.GroupMake.{free_group}
use Rattle.plain.specs.Steps.Switch.{switched}
use Rattle.plain.specs.Steps.Tick.{older}
use Rattle.plain.specs.Keeper.{machine_of}
use Rattle.plain.specs.Headline.{replay}
use Rattle.plain_laws.specs.Requests.{EachRequest}
use Rattle.plain_laws.specs.Whole.{IsWhole, AreWhole}
use Rattle.plain_laws.proofs.Flights.{find-numbers}
use Rattle.plain_laws.proofs.Leads.{Leads, made}
use Rattle.plain_laws.proofs.Moves.{Stays}
use Rattle.plain_laws.proofs.Stamps.{machine-leads}
use Rattle.plain_laws.proofs.Wholes.{whole-leads, whole-opening, all-whole}
use Rattle.bfq_laws.proofs.Puts.{sum-none}

-- a request of a seat's queue, sent in turn
abbrev pub sent_in_turn : Plain → ℕ → ℕ → ℕ → WholeRequest → List WholeRequest → Plain
sent_in_turn m n seat tag request requests = record m {
  queue = put m.queue seat requests;
  flight = put m.flight tag (Some (record { issue = n; request = request }));
  served = seat;
}

-- the entry of a seat that is taken changes, and so does an outbox
abbrev pub entered : Plain → ℕ → (Seat → Seat) → (ℕ → List Bio) → Plain
entered m seat f outbox = record m {
  seat = put m.seat seat (option_map f (m.seat seat));
  outbox = outbox;
}

-- neither a queue, nor a seat, nor what BFQ knows changes
abbrev pub moved : Plain → Blocks → List WholeRequest → (ℕ → List Bio) → (ℕ → Option Flight) → Bool → Plain
moved m overlay requests outbox flight frozen = record m { overlay = overlay; requeued = requests; outbox = outbox; flight = flight; frozen = frozen }

-- a seat is free again, and its entity in no group
abbrev pub gone : Plain → ℕ → Plain
gone m seat = record m { seat = put m.seat seat None; bfq = without_entity seat m.bfq }

-- each change of a step keeps this
pub record Keeps (l : Limits) (P : Plain → Type 0) : Type 0 where
  pub attaches : (m : Plain) (n seat group prio : ℕ) (class : Class) → seat < 16 → m.seat seat ≡ None → stands m.bfq group ≡ true → prio ≤ 7 → P m → P (attached l m n seat group prio class)
  pub submits : (m : Plain) (n seat session : ℕ) (op : Op) (range : Range) (payload : List ℕ) (next : Plain) → seat < 16 → is_session session (m.seat seat) ≡ true
      → woken m seat (submitted m n seat session op range payload) ≡ Some next → P m → P next
  pub enters : (m : Plain) (seat : ℕ) (f : Seat → Seat) (outbox : ℕ → List Bio) → Stays f → P m → P (entered m seat f outbox)
  pub goes : (m : Plain) (seat : ℕ) → seat < 16 → is_gone l m seat ≡ true → P m → P (gone m seat)
  pub takes_turns : (m : Plain) (n seat tag : ℕ) (request : WholeRequest) (requests : List WholeRequest) → m.scheduler ≡ PlainScheduler → m.queue seat ≡ request ∷ requests
      → P m → P (sent_in_turn m n seat tag request requests)
  pub sends : (m : Plain) (n tag : ℕ) (o : Plain × Reply) → m.scheduler ≡ BfqScheduler → AreWhole m → sent_by_bfq l m n tag ≡ Some o → P m → P o.0
  pub moves : (m : Plain) (overlay : Blocks) (requests : List WholeRequest) (outbox : ℕ → List Bio) (flight : ℕ → Option Flight) (frozen : Bool) → P m → P (moved m overlay requests outbox flight frozen)
  pub makes : (m : Plain) (group parent weight : ℕ) → stands m.bfq parent ≡ true → is_weight weight ≡ true → nat_le most_levels (depth m.bfq.parent parent) ≡ false → free_group m.bfq ≡ Some group
      → P m → P (record m { bfq = made l group parent weight m.bfq })
  pub drops : (m : Plain) (group : ℕ) → stands m.bfq group ≡ true → (group == 0) ≡ false → is_used m.bfq group ≡ false → P m → P (record m { bfq = without_entity (entity_of group) m.bfq })
  pub weighs : (m : Plain) (group weight : ℕ) → is_weight weight ≡ true → P m → P (record m { bfq = record m.bfq { pending = put m.bfq.pending (entity_of group) weight } })
  pub ticks : (m : Plain) (slot : InService) → m.bfq.in_service ≡ Some slot → P m → P (record m { bfq = record m.bfq { in_service = Some (older slot) } })
  pub switches : (m : Plain) (scheduler : Scheduler) → ((seat : ℕ) → seat < 16 → is_empty (m.queue seat) ≡ true) → P m → P (switched l m scheduler)

-- Leave, and the seat that is free with the last of a session's requests
without_gone-keeps : (l : Limits) (P : Plain → Type 0) → Keeps l P → (m : Plain) (seat : ℕ) → seat < 16 → P m → P (without_gone l seat m)
without_gone-keeps l P keeps m seat small h = elim (is_gone l m seat) as (λ t. is_gone l m seat ≡ t → P (cond t (gone m seat) m)) [
  | true ↦ λ last. keeps.goes m seat small last h
  | false ↦ λ _. h
] refl

owed_fewer-keeps : (l : Limits) (P : Plain → Type 0) → Keeps l P → (m : Plain) (seat count : ℕ) → P m → P (owed_fewer seat count m)
owed_fewer-keeps l P keeps m seat count h = keeps.enters m seat (with_unreaped (unreaped m seat - count)) m.outbox (λ s. refl) h

left-keeps : (l : Limits) (P : Plain → Type 0) → Keeps l P → (m : Plain) (seat : ℕ) → seat < 16 → P m → P (left l m seat)
left-keeps l P keeps m seat small h =
    let leaving : Plain = entered m seat with_leaving (put m.outbox seat []) in
    let count : ℕ = length (m.outbox seat) in
    let now : P leaving = keeps.enters m seat with_leaving (put m.outbox seat []) (λ s. refl) h in
    without_gone-keeps l P keeps (owed_fewer seat count leaving) seat small (owed_fewer-keeps l P keeps leaving seat count now)

-- Finish
after_finish-keeps : (l : Limits) (P : Plain → Type 0) → Keeps l P → (m : Plain) (tag : ℕ) (effect : Effect) (r : WholeRequest) → P m → P (after_finish l m tag effect r)
after_finish-keeps l P keeps m tag effect r h =
    let overlay : Blocks = after_effect effect m.overlay r.bios in
    let next : Plain = moved m overlay m.requeued m.outbox (put m.flight tag None) m.frozen in
    let bios : List Bio = completed effect m.overlay r.bios in
    let now : P next = keeps.moves m overlay m.requeued m.outbox (put m.flight tag None) m.frozen h in
    elim (seat_of m r.session) as (λ o. seat_of m r.session ≡ o → P (option_map_or (delivered l bios next) o next)) [
      | None ↦ λ _. now
      | Some seat ↦ λ is.
          let found = find-numbers (λ s. is_session r.session (m.seat s)) 0 16 seat is in
          let small : seat < 16 = omega (arith, found.1) in
          let outbox : ℕ → List Bio = put m.outbox seat (m.outbox seat ++ bios) in
          elim (is_leaving (m.seat seat)) as (λ t. P (cond t (without_gone l seat (owed_fewer seat (length bios) next)) (moved next next.overlay next.requeued outbox next.flight next.frozen))) [
            | true ↦ without_gone-keeps l P keeps (owed_fewer seat (length bios) next) seat small (owed_fewer-keeps l P keeps next seat (length bios) now)
            | false ↦ keeps.moves next next.overlay next.requeued outbox next.flight next.frozen now
          ]
    ] refl

-- Switch
no_length : (requests : List WholeRequest) → length requests ≡ 0 → is_empty requests ≡ true
no_length [] e = refl
no_length (r ∷ requests) e = cc

-- without any request no queue has one
drained : (l : Limits) (m : Plain) → nat_lt 0 (requests_of l m) ≡ false → (seat : ℕ) → seat < 16 → is_empty (m.queue seat) ≡ true
drained l m none seat small =
    let few : requests_of l m ≤ 0 = ltb-false 0 (requests_of l m) none in
    let q : ℕ = queued m in
    let rest : ℕ = in_flight l m in
    let list : ℕ = length m.requeued in
    let all : requests_of l m ≡ q + rest + list = refl in
    let no : queued m ≡ 0 = omega (arith, few, all) in
    let high : seat < 0 + 16 = omega (arith, small) in
    no_length (m.queue seat) (sum-none (λ seat. length (m.queue seat)) 0 16 seat no (omega arith) high)

-- every accepted step, which leaves requests whole beside
keeps-lead : (l : Limits) (P : Plain → Type 0) → Keeps l P → Leads l (λ n m. EachRequest IsWhole m × P m)
keeps-lead l P k =
    let w : Leads l (λ n m. EachRequest IsWhole m) = whole-leads l in
    record {
      later = λ n n' m le h. h;
      stays = λ n m h. h;
      attaches = λ n m seat group prio class small free known few h. (w.attaches n m seat group prio class small free known few h.0, k.attaches m n seat group prio class small free known few h.1);
      submits = λ n m seat session op range payload next small its sized is h.
          (w.submits n m seat session op range payload next small its sized is h.0, k.submits m n seat session op range payload next small its is h.1);
      reaps = λ n m seat bio bios is h. (w.reaps n m seat bio bios is h.0, k.enters m seat (with_unreaped (unreaped m seat - 1)) (put m.outbox seat bios) (λ s. refl) h.1);
      leaves = λ n m seat small there h. (w.leaves n m seat small there h.0, left-keeps l P k m seat small h.1);
      takes_turns = λ n m seat tag r rest none is low free h. (w.takes_turns n m seat tag r rest none is low free h.0, k.takes_turns m n seat tag r rest none is h.1);
      sends = λ n m tag o bfq is low free h. (w.sends n m tag o bfq is low free h.0, k.sends m n tag o bfq (all-whole m h.0) is h.1);
      resends = λ n m tag r rest is low free h.
          (w.resends n m tag r rest is low free h.0, k.moves m m.overlay rest m.outbox (put m.flight tag (Some (record { issue = n; request = r }))) m.frozen h.1);
      finishes = λ n m tag f outcome low is fit h. (w.finishes n m tag f outcome low is fit h.0, after_finish-keeps l P k m tag (effect_of outcome f.request.op) f.request h.1);
      gives_back = λ n m tag f low is h. (w.gives_back n m tag f low is h.0, k.moves m m.overlay (m.requeued ++ f.request ∷ []) m.outbox (put m.flight tag None) m.frozen h.1);
      makes = λ n m group parent weight known weighs few is h. (w.makes n m group parent weight known weighs few is h.0, k.makes m group parent weight known weighs few is h.1);
      drops = λ n m group known other unused h. (w.drops n m group known other unused h.0, k.drops m group known other unused h.1);
      weighs = λ n m group weight known other weighs h. (w.weighs n m group weight known other weighs h.0, k.weighs m group weight weighs h.1);
      freezes = λ n m frozen h. (w.freezes n m frozen h.0, k.moves m m.overlay m.requeued m.outbox m.flight frozen h.1);
      switches = λ may n m scheduler none h. (w.switches may n m scheduler none h.0, k.switches m scheduler (drained l m none) h.1);
      ticks = λ n m slot is h. (w.ticks n m slot is h.0, k.ticks m slot is h.1);
    }

-- so it holds of every keeper's machine
pub machine-keeps : (l : Limits) (most : ℕ) (journal : List Call) (P : Plain → Type 0) → Keeps l P → P (opening l) → P (machine_of (replay l most journal))
machine-keeps l most journal P keeps h =
    let all : EachRequest IsWhole (machine_of (replay l most journal)) × P (machine_of (replay l most journal)) =
    machine-leads l most journal (λ n m. EachRequest IsWhole m × P m) (keeps-lead l P keeps) (whole-opening l, h) in
    all.1
