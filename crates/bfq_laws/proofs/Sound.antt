-- What is known of the machine of every keeper: whose requests a queue has, who is idle, and who waits or is served where.
use Rattle.std.proofs.Common.{true, false, ◌≡◌, ◌≢◌, inl, inr, ℕ, ◌+◌, ◌<◌, ◌&&◌, List, [], Option, Some, None, is_some, unwrap_or, cond, refl, sym, ap, ◌∙◌, subst}
use Rattle.std.specs.Option.{option_map}
use Rattle.std.proofs.lemmas.Bool.{cases_eq}
use Rattle.std.proofs.lemmas.List.Elements.{All-nil}
use Rattle.sector_core.specs.declared.config.Scheduler.{Scheduler}
use Rattle.sector_core.specs.declared.config.Scheduler.TheVariants.{Plain as PlainScheduler, Bfq as BfqScheduler}
use Rattle.sector_core.specs.declared.class.Class.{Class}
use Rattle.plain.specs.declared.member.State.{State}
use Rattle.plain.specs.declared.member.State.TheVariants.{Idle}
use Rattle.plain.specs.Lists.{is_empty}
use Rattle.plain.specs.Groups.{entity_of, path}
use Rattle.plain.specs.declared.seat.InService.{InService}
use Rattle.plain.specs.declared.seat.Seat.{Seat}
use Rattle.plain.specs.Machine.{WholeRequest, Bfq, Plain, put}
use Rattle.plain.specs.declared.seat.Expiry.TheVariants.{Emptying}
use Rattle.plain.specs.Rules.{activate, charge, expire, stands, absent}
use Rattle.plain.specs.declared.answer.Reply.{Reply}
use Rattle.plain.specs.declared.call.Call.{Call}
use Rattle.plain.specs.Opening.{Limits, opening}
use Rattle.plain.specs.Entities.{is_bfq, with_entity, without_entity}
use Rattle.plain.specs.Steps.Tick.{older}
use Rattle.plain.specs.Steps.Switch.{begun_again}
use Rattle.plain.specs.Requests.{is_gone, range_of}
use Rattle.plain.specs.Steps.Attach.{prio_weight, attached}
use Rattle.plain.specs.Steps.Submit.{submitted, woken}
use Rattle.plain.specs.Steps.Dispatch.{has_queued, with_budget_in, with_selected, without_empty, sent_by_bfq}
use Rattle.plain.specs.Keeper.{machine_of}
use Rattle.plain.specs.Headline.{replay}
use Rattle.plain_laws.proofs.Puts.{put_here, put_other, some_is, map_is}
use Rattle.plain_laws.proofs.Leads.{made}
use Rattle.plain_laws.proofs.Sent.{rest_of, sent-is}
use Rattle.plain_laws.proofs.Placed.{placed, placed-same}
use Rattle.plain_laws.proofs.Begun.{timed, begun-keeps}
use Rattle.bfq_laws.proofs.Quiet.{activate-quiet, charge-slot}
use Rattle.bfq_laws.proofs.Walk.{Keeps, machine-keeps}
use Rattle.bfq_laws.proofs.Tree.{Over-same, idle, idle-over, Tree, charge-over}
use Rattle.bfq_laws.proofs.Overdue.{overdue}
use Rattle.bfq_laws.proofs.Busy.{Busy, Tidy, attached-tidy, entered-tidy, away-from, gone-tidy, ticked-tidy, over-tidy, made-over, dropped-over, with_budget_in-busy, with_selected-busy, opening-tidy, opening-none}
use Rattle.bfq_laws.proofs.Owned.{Owned, session-sits, gone-empty, keeps-owned}
use Rattle.bfq_laws.proofs.Known.{Known}
use Rattle.bfq_laws.proofs.Calm.{under, Calm, calm-tidy, empty-seen, woken-calm, turned-calm, sent-calm, switched-calm}
use Rattle.bfq_laws.proofs.Shape.{In, Levels, Places, At, state, parent-at, own-at, vtime-at}
use Rattle.bfq_laws.proofs.Alive.{Alive, activate-alive, charge-at}
use Rattle.bfq_laws.proofs.Expiring.{expire-alive}
use Rattle.bfq_laws.proofs.Choosing.{with_selected-alive}
use Rattle.bfq_laws.proofs.Standing.{session-alive, made-alive, dropped-alive, left-alive}
use Rattle.plain.specs.Classes.{same_times}

-- the queue in service is that of a seat whose entity is not idle
pub awake-slot : (seats : ℕ → Option Seat) (queue : ℕ → List WholeRequest) (b : Bfq) → Busy seats queue b → (slot : InService) → b.in_service ≡ Some slot → (slot.seat < 16) × (idle b slot.seat ≡ false)
awake-slot seats queue b h slot is = let s = h.serves slot is in (s.0, h.rests slot.seat s.0 s.1 ∙ s.2)

-- what leaves groups, members and the slot
alive-same : (b c : Bfq) → c.parent ≡ b.parent → c.service ≡ b.service → c.in_service ≡ b.in_service → Alive b → Alive c
alive-same b c p s o h = record {
  above = h.above;
  st = h.st;
  levels = h.levels;
  at = record {
    parents = p ∙ h.at.parents;
    places = subst (Places h.above) (sym s) h.at.places;
    are = λ e.
        ap (λ o. (unwrap_or o absent).state) (placed-same b c s (unwrap_or (c.parent e) 0) e)
        ∙ ap (λ (f : ℕ → Option ℕ). (unwrap_or (placed b (unwrap_or (f e) 0) e) absent).state) p ∙ h.at.are e;
  };
  up = h.up;
  down = h.down;
  serving = λ e is. let on = h.serving e is in (on.0, o ∙ on.1, on.2);
  served = λ slot is. h.served slot (sym o ∙ is);
}

-- Attach: a free seat is in no group, and not in service.
attached-alive : (l : Limits) (m : Plain) (n seat group prio : ℕ) (class : Class) → seat < 16 → m.seat seat ≡ None → stands m.bfq group ≡ true → Tidy m → Alive m.bfq → Alive (attached l m n seat group prio class).bfq
attached-alive l m n seat group prio class small free stand tidy h =
    let with_it : Bfq = with_entity l seat group class (prio_weight prio) m.bfq in
    let none : is_some (m.seat seat) ≡ false = ap is_some free in
    let alive : Alive with_it =
    session-alive l m.bfq seat group class (prio_weight prio) small stand (λ j there. let sits : is_some (m.seat seat) ≡ true = (tidy.busy.tree.known j seat small there).0 in cc)
    (λ slot is same. let sits : is_some (m.seat seat) ≡ true = ap (λ k. is_some (m.seat k)) (sym same) ∙ (tidy.busy.serves slot is).1 in cc) h in
    alive-same with_it (attached l m n seat group prio class).bfq refl refl refl alive

-- Submit
pub woken-alive : (m : Plain) (seat : ℕ) (next o : Plain) → next.bfq ≡ m.bfq → seat < 16 → is_some (m.seat seat) ≡ true → woken m seat next ≡ Some o → Tree m.seat m.bfq → Alive m.bfq → Alive o.bfq
woken-alive m seat next o same small taken e tree h =
    let Q : Plain → Type 0 = λ x. Alive x.bfq in
    elim (is_bfq m.scheduler && is_empty (m.queue seat)) as (λ t. cond t (option_map (λ b. record next { bfq = b }) (activate seat m.bfq)) (Some next) ≡ Some o → Q o) [
      | true ↦ λ is.
          let a = map_is (λ b. record next { bfq = b }) (activate seat m.bfq) o is in
          let g = tree.above seat small taken in
          let quiet = activate-quiet seat m.bfq a.0 a.1 in
          let now : Q (record next { bfq = a.0 }) = activate-alive seat m.bfq a.0 small g.0 g.1 quiet.1 a.1 h in
          subst Q a.2 now
      | false ↦ λ is. let now : Q next = subst Alive (sym same) h in subst Q (some_is next o is) now
    ] e

-- Dispatch
pub with_budget_in-alive : (l : Limits) (m : Plain) (o : Option InService) (b : Bfq) → with_budget_in l m o ≡ Some b → Tidy m → Alive m.bfq → Alive b
with_budget_in-alive l m None b e tidy h = subst Alive (some_is m.bfq b e) h
with_budget_in-alive l m (Some slot) b e tidy h =
    elim (overdue l m slot b e) [
      | inl x ↦ expire-alive x.0 l.max_budget (has_queued m slot.seat) m.bfq b (awake-slot m.seat m.queue m.bfq tidy.busy) x.1 h
      | inr y ↦ subst Alive y.1 h
    ]

without_empty-alive : (l : Limits) (rest : List WholeRequest) (b c : Bfq) → ((slot : InService) → b.in_service ≡ Some slot → (slot.seat < 16) × (idle b slot.seat ≡ false)) → without_empty l rest b ≡ Some c → Alive b → Alive c
without_empty-alive l rest b c awake e h =
    elim (is_empty rest) as (λ t. cond t (expire Emptying l.max_budget false b) (Some b) ≡ Some c → Alive c) [
      | true ↦ λ f. expire-alive Emptying l.max_budget false b c awake f h
      | false ↦ λ f. subst Alive (some_is b c f) h
    ] e

pub charge-alive : (size : ℕ) (b c : Bfq) → charge size b ≡ Some c → Alive b → Alive c
charge-alive size b c e h =
    let x = charge-slot size b c e in
    let now : InService = record x.0 { service = x.0.service + size } in
    record {
      above = h.above;
      st = h.st;
      levels = h.levels;
      at = charge-at h.above h.st size b c h.at e;
      up = h.up;
      down = h.down;
      serving = λ i s.
          let on = h.serving i s in
          let one : on.0.seat ≡ x.0.seat = ap (λ (z : InService). z.seat) (some_is on.0 x.0 (sym on.1 ∙ x.1)) in
          (now, x.3, subst (λ k. In i (path h.above k)) one on.2);
      served = λ slot is i on.
          let one : slot.seat ≡ x.0.seat = ap (λ (z : InService). z.seat) (some_is slot now (sym is ∙ x.3)) in
          h.served x.0 x.1 i (subst (λ k. In i (path h.above k)) one on);
    }

sent_by_bfq-alive : (l : Limits) (m : Plain) (n tag : ℕ) (o : Plain × Reply) → sent_by_bfq l m n tag ≡ Some o → Tidy m → Alive m.bfq → Alive o.0.bfq
sent_by_bfq-alive l m n tag o e tidy h =
    let s = sent-is l m n tag o e in
    let a : Bfq = s.ready in
    let b : Bfq = with_selected a in
    let ready : Busy m.seat m.queue b = with_selected-busy m.seat m.queue a (with_budget_in-busy l m m.bfq.in_service a refl s.readies tidy.busy) in
    let k : ℕ = s.slot.seat in
    let alive : Alive b = with_selected-alive a (with_budget_in-alive l m m.bfq.in_service a s.readies tidy h) s.slot s.serves in
    let r : WholeRequest = s.request in
    let size : ℕ = (range_of r.bios).count in
    let rest : List WholeRequest = rest_of m k r in
    let c : Bfq = s.charged in
    let x = charge-slot size b c s.charges in
    let over = charge-over size b c s.charges in
    let now : InService = record x.0 { service = x.0.service + size } in
    let awake : (other : InService) → c.in_service ≡ Some other → (other.seat < 16) × (idle c other.seat ≡ false) = λ other is.
    let one : other.seat ≡ x.0.seat = ap (λ (z : InService). z.seat) (some_is other now (sym is ∙ x.3)) in
    let was = awake-slot m.seat m.queue b ready x.0 x.1 in
    let P : ℕ → Type 0 = λ j. (j < 16) × (idle c j ≡ false) in
    subst P (sym one) (was.0, idle-over b c x.0.seat was.0 over ∙ was.1) in
    let last : Alive s.last = without_empty-alive l rest c s.last awake s.ends (charge-alive size b c s.charges alive) in
    let Q : Plain × Reply → Type 0 = λ y. Alive y.0.bfq in
    subst Q s.made last

-- before the first step nobody is in a group
pub opening-alive : (l : Limits) → Alive (opening l).bfq
opening-alive l = record {
  above = λ _. None;
  st = λ _. Idle;
  levels = record {
    inside = λ e g is. cc;
    stood = λ e g is ne. cc;
    level = λ g. 0;
    root = refl;
    rises = λ g h is. cc;
  };
  at = record {
    parents = refl;
    places = record {
      known = λ g e there. let none : is_some (placed (opening l).bfq g e) ≡ false = ap is_some (opening-none l g e) in cc;
      there = λ g e is. cc;
      lengths = (opening-tidy l).busy.tree.lengths;
    };
    are = λ e. ap (λ o. (unwrap_or o absent).state) (opening-none l 0 e);
  };
  up = λ e g is awake nz _. cc;
  down = λ g act nz _. cc;
  serving = λ e s. cc;
  served = λ slot is e on. cc;
}

-- Tick
pub ticked-alive : (b : Bfq) (slot : InService) → b.in_service ≡ Some slot → Alive b → Alive (record b { in_service = Some (older slot) })
ticked-alive b slot is h =
    record {
      above = h.above;
      st = h.st;
      levels = h.levels;
      at = record { parents = h.at.parents; places = h.at.places; are = h.at.are };
      up = h.up;
      down = h.down;
      serving = λ e s.
          let on = h.serving e s in
          let one : on.0.seat ≡ slot.seat = ap (λ (z : InService). z.seat) (some_is on.0 slot (sym on.1 ∙ is)) in
          (older slot, refl, subst (λ k. In e (path h.above k)) one on.2);
      served = λ now its e on.
          let one : now.seat ≡ slot.seat = ap (λ (z : InService). z.seat) (some_is now (older slot) (sym its)) in
          h.served slot is e (subst (λ k. In e (path h.above k)) one on);
    }

-- Switch: times and budgets alone
pub timed-at : (l : Limits) (above : ℕ → Option ℕ) (levels : Levels above) (st : ℕ → State) (b : Bfq) (e g : ℕ) → b.parent e ≡ Some g → At above st b → At above st (timed l e b)
timed-at l above levels st b e g up at =
    let now : At above (put st e (state b e)) (timed l e b) = own-at above levels st b e g _ at (sym (parent-at above st b e at) ∙ up) in
    record {
      parents = now.parents;
      places = now.places;
      are = λ i. now.are i ∙ (elim (cases_eq i e) [
        | inl same ↦ put_here st e (state b e) i same ∙ at.are e ∙ ap st (sym same)
        | inr other ↦ put_other st e (state b e) i other
      ]);
    }

begun-alive : (l : Limits) (scheduler : Scheduler) (b : Bfq) → Alive b → Alive (begun_again l scheduler b)
begun-alive l scheduler b h =
    let Q : Bfq → Type 0 = λ c. At h.above h.st c × (c.in_service ≡ b.in_service) in
    let c : Bfq = begun_again l scheduler b in
    let last : Q c = begun-keeps l Q (record {
      times = λ c e g up q. (timed-at l h.above h.levels h.st c e g up q.0, q.1);
      vtimes = λ c g q. (vtime-at h.above h.st c g (same_times l.first_vtime) q.0, q.1);
      budgets = λ c q. (record { parents = q.0.parents; places = q.0.places; are = q.0.are }, q.1);
    }) scheduler b (h.at, refl) in
    record {
      above = h.above;
      st = h.st;
      levels = h.levels;
      at = last.0;
      up = h.up;
      down = h.down;
      serving = λ e s. let on = h.serving e s in (on.0, last.1 ∙ on.1, on.2);
      served = λ slot is. h.served slot (sym last.1 ∙ is);
    }

-- what is known of a machine
pub record Sound (m : Plain) : Type 0 where
  pub owned : Owned m
  pub calm : Calm m
  pub alive : Alive m.bfq

pub opening-sound : (l : Limits) → Sound (opening l)
opening-sound l = record {
  owned = λ seat. All-nil _;
  calm = record { busy = record { tree = (opening-tidy l).busy.tree; rests = λ e lt sits. cc; serves = λ slot at. cc }; free = λ e no. empty-seen (is_bfq l.scheduler) [] refl };
  alive = opening-alive l;
}

-- a session's entity that is in a group is that of a seat that is taken
in-sits : (m : Plain) → Sound m → (e g : ℕ) → e < 16 → m.bfq.parent e ≡ Some g → is_some (m.seat e) ≡ true
in-sits m h e g small up =
    let above_e : h.alive.above e ≡ Some g = sym (parent-at h.alive.above h.alive.st m.bfq e h.alive.at) ∙ up in
    (h.calm.busy.tree.known g e small (h.alive.at.places.there g e above_e)).0

-- so is each session's that is in a tree
pub sound-known : (m : Plain) → Sound m → Known m.seat m.bfq
sound-known m h group e there small = (h.calm.busy.tree.known group e small there).0

-- a seat that is free with the last of its requests is not that of the queue in service
pub gone-empty_seen : (l : Limits) (m : Plain) (seat : ℕ) → Sound m → is_gone l m seat ≡ true → is_empty ((under m).queue seat) ≡ true
gone-empty_seen l m seat h last = empty-seen (is_bfq m.scheduler) (m.queue seat) (gone-empty l m seat h.owned last).1

pub gone-away : (l : Limits) (m : Plain) (seat : ℕ) → Sound m → is_gone l m seat ≡ true → (slot : InService) → m.bfq.in_service ≡ Some slot → slot.seat ≢ seat
gone-away l m seat h last = away-from (under m) seat (gone-empty_seen l m seat h last) h.calm

sound-slot : (m : Plain) → Sound m → (slot : InService) → m.bfq.in_service ≡ Some slot → slot.seat < 16
sound-slot m h slot is = (h.calm.busy.serves slot is).0

not_bfq : (s : Scheduler) → s ≡ PlainScheduler → is_bfq s ≡ false
not_bfq PlainScheduler e = refl
not_bfq BfqScheduler e = cc

-- every step
pub keeps-sound : (l : Limits) → Keeps l Sound
keeps-sound l = record {
  attaches = λ m n seat group prio class small free stand high h. record {
    owned = (keeps-owned l).attaches m n seat group prio class small free stand high h.owned;
    calm = attached-tidy l (under m) n seat group prio class small free stand h.calm;
    alive = attached-alive l (under m) n seat group prio class small free stand h.calm h.alive;
  };
  submits = λ m n seat session op range payload next small its e h.
      let taken : is_some (m.seat seat) ≡ true = session-sits session (m.seat seat) its in
      record {
        owned = (keeps-owned l).submits m n seat session op range payload next small its e h.owned;
        calm = woken-calm m n seat session op range payload next small taken e h.calm;
        alive = woken-alive m seat (submitted m n seat session op range payload) next refl small taken e h.calm.busy.tree h.alive;
      };
  enters = λ m seat f outbox stays h. record {
    owned = (keeps-owned l).enters m seat f outbox stays h.owned;
    calm = entered-tidy (under m) seat f outbox h.calm;
    alive = h.alive;
  };
  goes = λ m seat small last h.
      let g = gone-empty l m seat h.owned last in
      let empty : is_empty ((under m).queue seat) ≡ true = gone-empty_seen l m seat h last in
      let up = h.calm.busy.tree.above seat small g.0 in
      record {
        owned = (keeps-owned l).goes m seat small last h.owned;
        calm = gone-tidy (under m) seat small g.0 empty h.calm;
        alive = left-alive m.bfq seat up.0 small up.1 (h.calm.busy.rests seat small g.0 ∙ empty) (gone-away l m seat h last) h.alive;
      };
  takes_turns = λ m n seat tag request requests plain its h. record {
    owned = (keeps-owned l).takes_turns m n seat tag request requests plain its h.owned;
    calm = turned-calm m n seat tag request requests (not_bfq m.scheduler plain) h.calm;
    alive = h.alive;
  };
  sends = λ m n tag o its whole e h.
      let is : is_bfq m.scheduler ≡ true = ap is_bfq its in
      record {
        owned = (keeps-owned l).sends m n tag o its whole e h.owned;
        calm = sent-calm l m n tag o is e h.calm;
        alive = sent_by_bfq-alive l m n tag o e (calm-tidy m is h.calm) h.alive;
      };
  moves = λ m overlay requests outbox flight frozen h. record {
    owned = h.owned;
    calm = record { busy = h.calm.busy; free = h.calm.free };
    alive = h.alive;
  };
  makes = λ m group parent weight stand weighs few free h. record {
    owned = h.owned;
    calm = over-tidy (under m) (made l group parent weight m.bfq) (made-over l m.bfq group parent weight) refl h.calm;
    alive = made-alive l m.bfq group parent weight stand few free (sound-slot m h) h.alive;
  };
  drops = λ m group stand other unused h. record {
    owned = h.owned;
    calm = over-tidy (under m) (without_entity (entity_of group) m.bfq) (dropped-over m.bfq group) refl h.calm;
    alive = dropped-alive m.bfq group stand other unused (sound-slot m h) h.alive;
  };
  weighs = λ m group weight fits h.
      let next : Bfq = record m.bfq { pending = put m.bfq.pending (entity_of group) weight } in
      record {
        owned = h.owned;
        calm = over-tidy (under m) next (Over-same m.bfq next refl refl) refl h.calm;
        alive = alive-same m.bfq next refl refl refl h.alive;
      };
  ticks = λ m slot is h. record {
    owned = h.owned;
    calm = ticked-tidy (under m) slot is h.calm;
    alive = ticked-alive m.bfq slot is h.alive;
  };
  switches = λ m scheduler drained h. record {
    owned = h.owned;
    calm = switched-calm l m scheduler drained (in-sits m h) h.owned h.calm;
    alive = begun-alive l scheduler m.bfq h.alive;
  };
}

-- so it is on the machine of every keeper
pub machine-sound : (l : Limits) (most : ℕ) (journal : List Call) → Sound (machine_of (replay l most journal))
machine-sound l most journal = machine-keeps l most journal Sound (keeps-sound l) (opening-sound l)
