-- The queue in service has been sent no more sectors than its budget.
use Rattle.std.proofs.Common.{true, false, ◌≡◌, ◌≢◌, inl, inr, ℕ, ◌+◌, ◌≤◌, ◌&&◌, List, [], ◌∷◌, Option, Some, None, is_some, cond, refl, sym, ap, ◌∙◌, subst, arith}
use Rattle.std.specs.List.{find}
use Rattle.std.specs.Option.{is_none, option_map, option_map_or}
use Rattle.std.proofs.lemmas.Bool.{cases_eq}
use Rattle.sector_core.specs.declared.bio.BioFields.{BioFields as Bio}
use Rattle.sector_core.specs.declared.class.Class.{Class}
use Rattle.sector_core.specs.declared.class.Class.TheVariants.{BestEffort}
use Rattle.plain.specs.Classes.{same_times}
use Rattle.plain.specs.Lists.{is_empty}
use Rattle.plain.specs.Next.{has_start, wanted, starts}
use Rattle.plain.specs.Groups.{entity_of}
use Rattle.plain.specs.declared.seat.Seat.{Seat}
use Rattle.plain.specs.declared.seat.InService.{InService}
use Rattle.plain.specs.Machine.{WholeRequest, Bfq, Plain, put}
use Rattle.plain.specs.declared.seat.Expiry.TheVariants.{Emptying}
use Rattle.plain.specs.Rules.{group_of, activate, select, expire}
use Rattle.plain.specs.declared.answer.Reply.{Reply}
use Rattle.plain.specs.declared.call.Call.{Call}
use Rattle.plain.specs.Opening.{Limits, opening}
use Rattle.plain.specs.Entities.{is_bfq, with_entity}
use Rattle.plain.specs.Steps.Attach.{attached}
use Rattle.plain.specs.Steps.Submit.{submitted, woken}
use Rattle.plain.specs.Requests.{size_of, range_of, shape}
use Rattle.plain.specs.Steps.Dispatch.{has_queued, next_request, next_size, with_budget_in, with_selected, without_empty, sent_by_bfq}
use Rattle.plain.specs.Steps.Tick.{older}
use Rattle.plain.specs.Steps.Switch.{switched}
use Rattle.plain_laws.specs.Whole.{IsWhole, AreWhole}
use Rattle.bfq_laws.specs.Budgets.{AreEnough, ServiceIsWithinBudget}
use Rattle.plain_laws.proofs.Puts.{put_here, put_other, some_is, and_then_is, map_is}
use Rattle.plain_laws.proofs.Sent.{rest_of, sent-is}
use Rattle.plain_laws.proofs.Placed.{placed}
use Rattle.plain_laws.proofs.Rules.{Any, select-keeps, charge-keeps, expire-keeps}
use Rattle.plain_laws.proofs.Begun.{begun-keeps, begun-slot}
use Rattle.plain_laws.proofs.Ruled.{again}
use Rattle.bfq_laws.proofs.Puts.{All-find}
use Rattle.bfq_laws.proofs.Quiet.{activate-quiet, charge-slot, expire-slot}
use Rattle.bfq_laws.proofs.Walk.{gone, Keeps, machine-keeps}
use Rattle.bfq_laws.proofs.Overdue.{overdue}
use Rattle.bfq_laws.proofs.Busy.{opening-none}
use Rattle.bfq_laws.proofs.Owned.{session-sits}
use Rattle.bfq_laws.proofs.Calm.{drained-slot}
use Rattle.bfq_laws.proofs.Sound.{Sound, opening-sound, sound-known, gone-away, keeps-sound}
use Rattle.bfq_laws.proofs.Enough.{put-enough, enough-selects, enough-changes, enough-ruled, opening-enough}
use Rattle.bfq_laws.proofs.Known.{Fits, Known, Sits, Begins, member-known, vtime-known, activate-known, select-begins, known-changes}

-- the queue in service is that of a seat that is taken, and has been sent no more than its budget
abbrev pub Served : (ℕ → Option Seat) → Bfq → Type 0
Served seats b = (slot : InService) → b.in_service ≡ Some slot → (is_some (seats slot.seat) ≡ true) × (slot.service ≤ b.budget slot.seat)

-- with what is known of the members of groups
pub record Within (m : Plain) : Type 0 where
  pub enough : AreEnough m.bfq
  pub known : Known m.seat m.bfq
  pub served : Served m.seat m.bfq

-- more seats are taken
abbrev Grows : (ℕ → Option Seat) → (ℕ → Option Seat) → Type 0
Grows before after = (seat : ℕ) → is_some (before seat) ≡ true → is_some (after seat) ≡ true

grown-known : (before after : ℕ → Option Seat) (b : Bfq) → Grows before after → Known before b → Known after b
grown-known before after b grows h group entity there small = grows entity (h group entity there small)

grown-served : (before after : ℕ → Option Seat) (b : Bfq) → Grows before after → Served before b → Served after b
grown-served before after b grows h slot e = let s = h slot e in (grows slot.seat s.0, s.1)

-- a seat that is taken again, or whose count changes, is taken
put-grows : (seats : ℕ → Option Seat) (seat : ℕ) (entry : Option Seat) → (is_some (seats seat) ≡ true → is_some entry ≡ true) → Grows seats (put seats seat entry)
put-grows seats seat entry stays e sits = elim (cases_eq e seat) [
  | inl same ↦ ap is_some (put_here seats seat entry e same) ∙ stays (sym (ap (λ k. is_some (seats k)) same) ∙ sits)
  | inr other ↦ ap is_some (put_other seats seat entry e other) ∙ sits
]

mapped-some : (f : Seat → Seat) (o : Option Seat) → is_some o ≡ true → is_some (option_map f o) ≡ true
mapped-some f None e = e
mapped-some f (Some s) e = refl

-- Attach: a free seat is not that of the queue in service.
attached-within : (l : Limits) → 256 ≤ l.first_budget → (m : Plain) (n seat group prio : ℕ) (class : Class) → m.seat seat ≡ None → Within m → Within (attached l m n seat group prio class)
attached-within l first m n seat group prio class free h =
    let next : Plain = attached l m n seat group prio class in
    let grows : Grows m.seat next.seat = put-grows m.seat seat _ (λ _. refl) in
    record {
      enough = put-enough m.bfq.budget seat l.first_budget first h.enough;
      known = member-known next.seat m.bfq group seat _ (λ _. ap is_some (put_here m.seat seat _ seat refl)) (grown-known m.seat next.seat m.bfq grows h.known);
      served = λ slot e.
          let s = h.served slot e in
          let other : slot.seat ≢ seat = λ same. let none : is_some (m.seat slot.seat) ≡ false = ap (λ k. is_some (m.seat k)) same ∙ ap is_some free in cc in
          let budget : put m.bfq.budget seat l.first_budget slot.seat ≡ m.bfq.budget slot.seat = put_other m.bfq.budget seat l.first_budget slot.seat other in
          let le : slot.service ≤ m.bfq.budget slot.seat = s.1 in
          (grows slot.seat s.0, omega (arith, le, budget));
    }

-- Submit
woken-within : (m : Plain) (seat : ℕ) (next o : Plain) → next.bfq ≡ m.bfq → Grows m.seat next.seat → is_some (m.seat seat) ≡ true → woken m seat next ≡ Some o → Within m → Within o
woken-within m seat next o same grows sits e h =
    elim (is_bfq m.scheduler && is_empty (m.queue seat)) as (λ t. cond t (option_map (λ b. record next { bfq = b }) (activate seat m.bfq)) (Some next) ≡ Some o → Within o) [
      | true ↦ λ is.
          let a = map_is (λ b. record next { bfq = b }) (activate seat m.bfq) o is in
          let b : Bfq = a.0 in
          let quiet = activate-quiet seat m.bfq b a.1 in
          subst Within a.2 (record {
            enough = subst (λ (f : ℕ → ℕ). (e : ℕ) → 256 ≤ f e) (sym quiet.0) h.enough;
            known = grown-known m.seat next.seat b grows (activate-known m.seat seat m.bfq b sits a.1 h.known);
            served = λ slot at.
                let s = h.served slot (sym quiet.1 ∙ at) in
                let budget : b.budget slot.seat ≡ m.bfq.budget slot.seat = ap (λ (f : ℕ → ℕ). f slot.seat) quiet.0 in
                let le : slot.service ≤ m.bfq.budget slot.seat = s.1 in
                (grows slot.seat s.0, omega (arith, le, budget));
          })
      | false ↦ λ is.
          let P : Bfq → Type 0 = λ b. AreEnough b × Known next.seat b × Served next.seat b in
          let all : P next.bfq = subst P (sym same) (h.enough, grown-known m.seat next.seat m.bfq grows h.known, grown-served m.seat next.seat m.bfq grows h.served) in
          subst Within (some_is next o is) (record { enough = all.0; known = all.1; served = all.2 })
    ] e

-- the next request of a queue has 256 sectors at most
next-whole : (m : Plain) (seat : ℕ) (r : WholeRequest) → AreWhole m → next_request m seat ≡ Some r → IsWhole r
next-whole m seat r whole e =
    let w = and_then_is (λ sector. find (has_start shape sector) (m.queue seat)) (wanted (m.head seat) (starts shape (m.queue seat))) r e in
    All-find IsWhole (has_start shape w.0) (m.queue seat) r w.2 (whole.queued seat)

next_size-few : (m : Plain) (seat : ℕ) → AreWhole m → next_size m seat ≤ 256
next_size-few m seat whole =
    elim (next_request m seat) as (λ o. next_request m seat ≡ o → option_map_or (λ (r : WholeRequest). size_of r.bios) o 0 ≤ 256) [
      | None ↦ λ _. omega arith
      | Some r ↦ λ e. (next-whole m seat r whole e).few_sectors
    ] refl

count_of_range : (bios : List Bio) → (range_of bios).count ≡ size_of bios
count_of_range [] = refl
count_of_range (bio ∷ bios) = refl

-- Dispatch: the budget of the queue in service has room for its next request
record HasRoom (m : Plain) (b : Bfq) : Type 0 where
  enough : AreEnough b
  known : Known m.seat b
  room : (slot : InService) → b.in_service ≡ Some slot → (is_some (m.seat slot.seat) ≡ true) × (slot.service + next_size m slot.seat ≤ b.budget slot.seat)

sits-within : (m : Plain) → Within m → Sits m.seat m.bfq
sits-within m h slot e = (h.served slot e).0

with_budget_in-room : (l : Limits) → 256 ≤ l.max_budget → (m : Plain) (o : Option InService) (b : Bfq) → m.bfq.in_service ≡ o → with_budget_in l m o ≡ Some b → Within m → HasRoom m b
with_budget_in-room l most m None b at e h =
    subst (HasRoom m) (some_is m.bfq b e) (record { enough = h.enough; known = h.known; room = λ slot is. let none : Some slot ≡ None = sym is ∙ at in cc })
with_budget_in-room l most m (Some slot) b at e h =
    elim (overdue l m slot b e) [
      | inl x ↦
          let free = expire-slot x.0 l.max_budget (has_queued m slot.seat) m.bfq b x.1 in
          record {
            enough = expire-keeps l.max_budget Any AreEnough (enough-changes l.max_budget most) x.0 (has_queued m slot.seat) m.bfq b x.1 h.enough;
            known = (expire-keeps l.max_budget (Fits m.seat) _ (known-changes l.max_budget m.seat) x.0 (has_queued m slot.seat) m.bfq b x.1 (h.known, sits-within m h)).0;
            room = λ other is. let none : Some other ≡ None = sym is ∙ free.3 in cc;
          }
      | inr y ↦
          let P : InService → Type 0 = λ s. (is_some (m.seat s.seat) ≡ true) × (s.service + next_size m s.seat ≤ m.bfq.budget s.seat) in
          subst (HasRoom m) y.1 (record {
            enough = h.enough;
            known = h.known;
            room = λ other is. subst P (some_is slot other (sym at ∙ is)) (sits-within m h slot at, y.0);
          })
    ]

no_slot : (o : Option InService) → is_none o ≡ true → o ≡ None
no_slot None e = refl
no_slot (Some slot) e = cc

with_selected-room : (m : Plain) (b : Bfq) → AreWhole m → HasRoom m b → HasRoom m (with_selected b)
with_selected-room m b whole h =
    elim (is_none b.in_service) as (λ t. is_none b.in_service ≡ t → HasRoom m (cond t (select b) b)) [
      | true ↦ λ free.
          let begins : Begins m.seat (select b) =
          select-begins m.seat b (record { known = h.known; fresh = λ slot is. let none : Some slot ≡ None = sym is ∙ no_slot b.in_service free in cc }) in
          let enough : AreEnough (select b) = select-keeps AreEnough enough-selects b h.enough in
          record {
            enough = enough;
            known = begins.known;
            room = λ slot is.
                let s = begins.fresh slot is in
                let none : slot.service ≡ 0 = s.1 in
                (s.0, omega (arith, none, next_size-few m slot.seat whole, enough slot.seat));
          }
      | false ↦ λ _. h
    ] refl

without_empty-within : (l : Limits) → 256 ≤ l.max_budget → (seats : ℕ → Option Seat) (queue : List WholeRequest) (b c : Bfq) → without_empty l queue b ≡ Some c
    → AreEnough b → Known seats b → Served seats b → AreEnough c × Known seats c × Served seats c
without_empty-within l most seats queue b c e enough known served =
    let P : Bfq → Type 0 = λ c. AreEnough c × Known seats c × Served seats c in
    elim (is_empty queue) as (λ t. cond t (expire Emptying l.max_budget false b) (Some b) ≡ Some c → P c) [
      | true ↦ λ f.
          let x = expire-slot Emptying l.max_budget false b c f in (
            expire-keeps l.max_budget Any AreEnough (enough-changes l.max_budget most) Emptying false b c f enough,
            (expire-keeps l.max_budget (Fits seats) _ (known-changes l.max_budget seats) Emptying false b c f (known, λ slot at. (served slot at).0)).0,
            λ slot is. let none : Some slot ≡ None = sym is ∙ x.3 in cc,
          )
      | false ↦ λ f. subst P (some_is b c f) (enough, known, served)
    ] e

sent_by_bfq-within : (l : Limits) → 256 ≤ l.max_budget → (m : Plain) (n tag : ℕ) (o : Plain × Reply) → AreWhole m → sent_by_bfq l m n tag ≡ Some o → Within m → Within o.0
sent_by_bfq-within l most m n tag o whole e h =
    let s = sent-is l m n tag o e in
    let b : Bfq = with_selected s.ready in
    let has : HasRoom m b = with_selected-room m s.ready whole (with_budget_in-room l most m m.bfq.in_service s.ready refl s.readies h) in
    let seat : ℕ = s.slot.seat in
    let r : WholeRequest = s.request in
    let size : ℕ = (range_of r.bios).count in
    let rest : List WholeRequest = rest_of m seat r in
    let c : Bfq = s.charged in
    let x = charge-slot size b c s.charges in
    let served : Served m.seat c = λ other is.
    let now : InService = record x.0 { service = x.0.service + size } in
    let same : now ≡ other = some_is now other (sym x.3 ∙ is) in
    let one : s.slot ≡ x.0 = some_is s.slot x.0 (sym s.serves ∙ x.1) in
    let room = has.room x.0 x.1 in
    let fits : x.0.service + next_size m x.0.seat ≤ b.budget x.0.seat = room.1 in
    let asked : next_size m seat ≡ size_of r.bios = ap (λ o. option_map_or (λ (q : WholeRequest). size_of q.bios) o 0) s.next in
    let seats : next_size m x.0.seat ≡ next_size m seat = ap (λ (z : InService). next_size m z.seat) (sym one) in
    let budget : c.budget x.0.seat ≡ b.budget x.0.seat = ap (λ (f : ℕ → ℕ). f x.0.seat) x.2 in
    let P : InService → Type 0 = λ z. (is_some (m.seat z.seat) ≡ true) × (z.service ≤ c.budget z.seat) in
    let count : size ≡ size_of r.bios = count_of_range r.bios in
    let le : x.0.service + size ≤ c.budget x.0.seat = omega (arith, fits, asked, seats, budget, count) in
    subst P same (room.0, le) in
    let sits : Sits m.seat b = λ other is. (has.room other is).0 in
    let all = without_empty-within l most m.seat rest c s.last s.ends (charge-keeps l.max_budget Any AreEnough (enough-changes l.max_budget most) size b c s.charges has.enough)
    (charge-keeps l.max_budget (Fits m.seat) _ (known-changes l.max_budget m.seat) size b c s.charges (has.known, sits)).0 served in
    let Q : Plain × Reply → Type 0 = λ y. Within y.0 in
    subst Q s.made (record { enough = all.0; known = all.1; served = all.2 })

-- before the first step no tree has a member
opening-within : (l : Limits) → 256 ≤ l.first_budget → 256 ≤ l.max_budget → Within (opening l)
opening-within l first most = record {
  enough = opening-enough l first most;
  known = λ g e there small. let none : is_some (placed (opening l).bfq g e) ≡ false = ap is_some (opening-none l g e) in cc;
  served = λ slot e. cc;
}

-- every step
abbrev Serves : Plain → Type 0
Serves m = Within m × Sound m

keeps-within : (l : Limits) → 256 ≤ l.first_budget → 256 ≤ l.max_budget → Keeps l Serves
keeps-within l first most = record {
  attaches = λ m n seat group prio class small free stand high h. (attached-within l first m n seat group prio class free h.0, (keeps-sound l).attaches m n seat group prio class small free stand high h.1);
  submits = λ m n seat session op range payload next small its e h. (
    woken-within m seat (submitted m n seat session op range payload) next refl (put-grows m.seat seat _ (λ sits. mapped-some _ (m.seat seat) sits)) (session-sits session (m.seat seat) its) e h.0,
    (keeps-sound l).submits m n seat session op range payload next small its e h.1,
  );
  enters = λ m seat f outbox stays h.
      let grows : Grows m.seat (put m.seat seat _) = put-grows m.seat seat _ (λ sits. mapped-some f (m.seat seat) sits) in
      (record { enough = h.0.enough; known = grown-known m.seat _ m.bfq grows h.0.known; served = grown-served m.seat _ m.bfq grows h.0.served }, (keeps-sound l).enters m seat f outbox stays h.1);
  goes = λ m seat small last h.
      let next : Plain = gone m seat in
      let sound : Sound next = (keeps-sound l).goes m seat small last h.1 in (
        record {
          enough = h.0.enough;
          known = sound-known next sound;
          served = λ slot is. let s = h.0.served slot is in (ap is_some (put_other m.seat seat None slot.seat (gone-away l m seat h.1 last slot is)) ∙ s.0, s.1);
        },
        sound,
      );
  takes_turns = λ m n seat tag request requests plain its h.
      (record { enough = h.0.enough; known = h.0.known; served = h.0.served }, (keeps-sound l).takes_turns m n seat tag request requests plain its h.1);
  sends = λ m n tag o its whole e h. (sent_by_bfq-within l most m n tag o whole e h.0, (keeps-sound l).sends m n tag o its whole e h.1);
  moves = λ m overlay requests outbox flight frozen h.
      (record { enough = h.0.enough; known = h.0.known; served = h.0.served }, (keeps-sound l).moves m overlay requests outbox flight frozen h.1);
  makes = λ m group parent weight stand weighs few free h. (
    record {
      enough = h.0.enough;
      known =
          vtime-known m.seat (with_entity l (entity_of group) parent BestEffort weight m.bfq) group (same_times l.first_vtime)
          (member-known m.seat m.bfq parent (entity_of group) _ (λ small. absurd (omega (arith, small))) h.0.known);
      served = h.0.served;
    },
    (keeps-sound l).makes m group parent weight stand weighs few free h.1,
  );
  drops = λ m group stand other unused h. (
    record {
      enough = h.0.enough;
      known = member-known m.seat m.bfq (group_of m.bfq (entity_of group)) (entity_of group) None (λ small. absurd (omega (arith, small))) h.0.known;
      served = h.0.served;
    },
    (keeps-sound l).drops m group stand other unused h.1,
  );
  weighs = λ m group weight fits h. (record { enough = h.0.enough; known = h.0.known; served = h.0.served }, (keeps-sound l).weighs m group weight fits h.1);
  ticks = λ m slot is h.
      let P : InService → Type 0 = λ s. (is_some (m.seat s.seat) ≡ true) × (s.service ≤ m.bfq.budget s.seat) in
      (record { enough = h.0.enough; known = h.0.known; served = λ other at. subst P (some_is (older slot) other at) (h.0.served slot is) }, (keeps-sound l).ticks m slot is h.1);
  switches = λ m scheduler drained h.
      let next : Plain = switched l m scheduler in
      let sound : Sound next = (keeps-sound l).switches m scheduler drained h.1 in (
        record {
          enough = begun-keeps l AreEnough (again l (λ n. AreEnough) (enough-ruled l first most) 0) scheduler m.bfq h.0.enough;
          known = sound-known next sound;
          served = λ slot at. absurd (drained-slot m drained h.1.calm slot (sym (begun-slot l scheduler m.bfq) ∙ at));
        },
        sound,
      );
}

-- the law
pub service-within : (l : Limits) (most : ℕ) (journal : List Call) → ServiceIsWithinBudget l most journal
service-within l most journal first greatest =
    let le : 256 ≤ l.max_budget = omega (arith, first, greatest) in
    let made = machine-keeps l most journal Serves (keeps-within l first le) (opening-within l first le, opening-sound l) in
    λ slot e. made.0.served slot e
