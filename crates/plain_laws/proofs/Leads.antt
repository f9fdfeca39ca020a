-- What each accepted step keeps, every step keeps: one field for each way in which a step changes a machine, with all that the tests and
-- the rules before it say.
use Rattle.std.proofs.Common.{true, false, Bool, ◌≡◌, ℕ, zero, suc, ◌+◌, ◌-◌, ◌<◌, ◌≤◌, nat_le, nat_lt, ◌==◌, ◌||◌, not, List, [], ◌∷◌, length, Option, Some, None, is_some, refl, subst, arith, unwrap_or, eqb-true}
use Rattle.std.specs.Option.{option_map, is_none}
use Rattle.std.proofs.lemmas.Bool.{not-false, leb-false, ltb-false, or_parts}
use Rattle.sector_core.specs.declared.bio.BioFields.{BioFields as Bio}
use Rattle.sector_core.specs.declared.bio.BioResult.TheVariants.{Written}
use Rattle.sector_core.specs.declared.bio.Op.{Op}
use Rattle.sector_core.specs.declared.bio.Outcome.{Outcome}
use Rattle.sector_core.specs.declared.range.Range.{Range}
use Rattle.sector_core.specs.declared.config.Scheduler.{Scheduler}
use Rattle.sector_core.specs.declared.config.Scheduler.TheVariants.{Plain as PlainScheduler, Bfq as BfqScheduler}
use Rattle.sector_core.specs.declared.class.Class.{Class}
use Rattle.sector_core.specs.declared.class.Class.TheVariants.{BestEffort}
use Rattle.plain.specs.Groups.{entity_of, depth, most_levels}
use Rattle.plain.specs.Classes.{same_times}
use Rattle.plain.specs.Rules.{put_vtimes, stands}
use Rattle.plain.specs.declared.seat.InService.{InService}
use Rattle.plain.specs.Machine.{WholeRequest, Flight, Bfq, Plain, put}
use Rattle.plain.specs.declared.answer.Reply.{Reply}
use Rattle.plain.specs.declared.answer.Reply.TheVariants.{Attached, Queued, Completed, Left, Issued, Finished, Requeued, Group, Done}
use Rattle.plain.specs.declared.step.Step.{Step}
use Rattle.plain.specs.declared.step.Step.TheVariants.{Attach, Submit, Reap, Leave, Dispatch, Finish, Requeue, GroupMake, GroupDrop, SetWeight, Freeze, Thaw, Switch, Tick}
use Rattle.plain.specs.Opening.{Limits}
use Rattle.plain.specs.Tests.{accepted, accepted_if}
use Rattle.plain.specs.Steps.Attach.{attached, attach}
use Rattle.plain.specs.Sessions.{is_session, has_session, with_unreaped, unreaped}
use Rattle.plain.specs.Steps.Submit.{payload_length, submitted, woken, submit}
use Rattle.plain.specs.Steps.Reap.{reaped, reap}
use Rattle.plain.specs.Entities.{without_entity, with_entity, is_weight}
use Rattle.plain.specs.Steps.Leave.{left, leave}
use Rattle.plain.specs.Steps.Dispatch.{next_queue, lowest_free, sent, sent_by_bfq, sent_by, dispatch_to, sent_again, dispatch_of}
use Rattle.plain.specs.Requests.{size_of, range_of, requests_of}
use Rattle.plain.specs.Steps.Finish.{fits, effect_of, after_finish, finished, finish_of, finish}
use Rattle.plain.specs.Steps.Requeue.{requeued, requeue_of, requeue}
use Rattle.plain.specs.Steps.GroupDrop.{is_used, group_drop}
use Rattle.plain.specs.Steps.GroupMake.{free_group, made_group, group_make}
use Rattle.plain.specs.Steps.SetWeight.{set_weight}
use Rattle.plain.specs.Steps.Switch.{switched, switch}
use Rattle.plain.specs.Steps.Tick.{older, ticked}
use Rattle.plain.specs.Step.{step}
use Rattle.plain_laws.specs.Times.{is_switch}
use Rattle.plain_laws.proofs.Puts.{unless-keeps, accepted-keeps, accepted_if-keeps, first_fails, map_is}
use Rattle.plain_laws.proofs.Flights.{find-numbers}
use Rattle.plain_laws.proofs.Sendings.{dispatched, resent, given_back}

-- a bio that passed the tests of a submit
pub record IsSized (op : Op) (range : Range) (payload : List ℕ) : Type 0 where
  pub some_sectors : 1 ≤ range.count
  pub few_sectors : range.count ≤ 64
  pub bytes : length payload ≡ payload_length op range.count

-- the first bio of an outbox is handed out
abbrev pub reaped_at : Plain → ℕ → List Bio → Plain
reaped_at m seat bios = record m {
  seat = put m.seat seat (option_map (with_unreaped (unreaped m seat - 1)) (m.seat seat));
  outbox = put m.outbox seat bios;
}

-- a group, made under its parent
abbrev pub made : Limits → ℕ → ℕ → ℕ → Bfq → Bfq
made l group parent weight b = put_vtimes group (same_times l.first_vtime) (with_entity l (entity_of group) parent BestEffort weight b)

-- Where `P` stands after steps with serials below a number, `Q` stands after one more, accepted or not. Of a switch that is asked only with
-- a proof of `Switches`: with ⊥ in its place a law leaves switches out.
pub record Steps (l : Limits) (Switches : Type 0) (P Q : ℕ → Plain → Type 0) : Type 0 where
  pub later : (n n' : ℕ) (m : Plain) → n ≤ n' → Q n m → Q n' m
  pub stays : (n : ℕ) (m : Plain) → P n m → Q n m
  pub attaches : (n : ℕ) (m : Plain) (seat group prio : ℕ) (class : Class) → seat < 16 → m.seat seat ≡ None → stands m.bfq group ≡ true → prio ≤ 7 → P n m → Q (n + 1) (attached l m n seat group prio class)
  pub submits : (n : ℕ) (m : Plain) (seat session : ℕ) (op : Op) (range : Range) (payload : List ℕ) (next : Plain) → seat < 16 → is_session session (m.seat seat) ≡ true → IsSized op range payload
      → woken m seat (submitted m n seat session op range payload) ≡ Some next → P n m → Q (n + 1) next
  pub reaps : (n : ℕ) (m : Plain) (seat : ℕ) (bio : Bio) (bios : List Bio) → m.outbox seat ≡ bio ∷ bios → P n m → Q n (reaped_at m seat bios)
  pub leaves : (n : ℕ) (m : Plain) (seat : ℕ) → seat < 16 → has_session (m.seat seat) ≡ true → P n m → Q n (left l m seat)
  pub takes_turns : (n : ℕ) (m : Plain) (seat tag : ℕ) (r : WholeRequest) (rest : List WholeRequest) → m.scheduler ≡ PlainScheduler → m.queue seat ≡ r ∷ rest → tag < l.tags → m.flight tag ≡ None
      → P n m → Q n (dispatched m n seat tag r rest seat m.head m.bfq)
  pub sends : (n : ℕ) (m : Plain) (tag : ℕ) (o : Plain × Reply) → m.scheduler ≡ BfqScheduler → sent_by_bfq l m n tag ≡ Some o → tag < l.tags → m.flight tag ≡ None → P n m → Q (n + 1) o.0
  pub resends : (n : ℕ) (m : Plain) (tag : ℕ) (r : WholeRequest) (rest : List WholeRequest) → m.requeued ≡ r ∷ rest → tag < l.tags → m.flight tag ≡ None → P n m → Q n (resent m n tag r rest)
  pub finishes : (n : ℕ) (m : Plain) (tag : ℕ) (f : Flight) (outcome : Outcome) → tag < l.tags → m.flight tag ≡ Some f → fits f.request.op (size_of f.request.bios) outcome ≡ true
      → P n m → Q n (after_finish l m tag (effect_of outcome f.request.op) f.request)
  pub gives_back : (n : ℕ) (m : Plain) (tag : ℕ) (f : Flight) → tag < l.tags → m.flight tag ≡ Some f → P n m → Q n (given_back m tag f.request)
  pub makes : (n : ℕ) (m : Plain) (group parent weight : ℕ) → stands m.bfq parent ≡ true → is_weight weight ≡ true → nat_le most_levels (depth m.bfq.parent parent) ≡ false
      → free_group m.bfq ≡ Some group → P n m → Q n (record m { bfq = made l group parent weight m.bfq })
  pub drops : (n : ℕ) (m : Plain) (group : ℕ) → stands m.bfq group ≡ true → (group == 0) ≡ false → is_used m.bfq group ≡ false → P n m → Q n (record m { bfq = without_entity (entity_of group) m.bfq })
  pub weighs : (n : ℕ) (m : Plain) (group weight : ℕ) → stands m.bfq group ≡ true → (group == 0) ≡ false → is_weight weight ≡ true
      → P n m → Q n (record m { bfq = record m.bfq { pending = put m.bfq.pending (entity_of group) weight } })
  pub freezes : (n : ℕ) (m : Plain) (frozen : Bool) → P n m → Q n (record m { frozen = frozen })
  pub switches : Switches → (n : ℕ) (m : Plain) (scheduler : Scheduler) → nat_lt 0 (requests_of l m) ≡ false → P n m → Q n (switched l m scheduler)
  pub ticks : (n : ℕ) (m : Plain) (slot : InService) → m.bfq.in_service ≡ Some slot → P n m → Q (n + 1) (record m { bfq = record m.bfq { in_service = Some (older slot) } })

-- what stands after steps with serials below a number, each step keeps
abbrev pub Leads : Limits → (ℕ → Plain → Type 0) → Type 0
Leads l P = Steps l (Unit {0}) P P

not_some : {A : Type 0} (o : Option A) → is_some o ≡ false → o ≡ None
not_some None h = refl
not_some (Some v) h = cc

is_nothing : {A : Type 0} (o : Option A) → is_none o ≡ true → o ≡ None
is_nothing None h = refl
is_nothing (Some v) h = cc

-- a number that is not 0, by the test
some_count : (a : ℕ) → (a == 0) ≡ false → 1 ≤ a
some_count zero e = cc
some_count (suc a) e = omega arith

next-serial : (l : Limits) (S : Type 0) (P Q : ℕ → Plain → Type 0) → Steps l S P Q → (n : ℕ) (m : Plain) → Q n m → Q (n + 1) m
next-serial l S P Q k n m h = k.later n (n + 1) m (omega arith) h

kept-serial : (l : Limits) (S : Type 0) (P Q : ℕ → Plain → Type 0) → Steps l S P Q → (n : ℕ) (m : Plain) → P n m → Q (n + 1) m
kept-serial l S P Q k n m h = next-serial l S P Q k n m (k.stays n m h)

attach-leads : (l : Limits) (S : Type 0) (P Q : ℕ → Plain → Type 0) → Steps l S P Q → (m : Plain) (n : ℕ) (room : Bool) (seat group prio : ℕ) (class : Class) → P n m → Q (n + 1) (attach l m n room seat group prio class).0
attach-leads l S P Q k m n room seat group prio class h =
    let next : Plain = attached l m n seat group prio class in
    unless-keeps (Q (n + 1)) _ m (accepted room m next (Attached n)) (kept-serial l S P Q k n m h)
    (λ e.
    let within = first_fails (nat_le 16 seat) _ _ e in
    let free = first_fails (is_some (m.seat seat)) _ _ within.1 in
    let known = first_fails (not (stands m.bfq group)) _ _ free.1 in
    let few = first_fails (nat_lt 7 prio) _ _ known.1 in
    accepted-keeps (Q (n + 1)) room m next (Attached n) (kept-serial l S P Q k n m h)
    (k.attaches n m seat group prio class (leb-false 16 seat within.0) (not_some (m.seat seat) free.0) (not-false (stands m.bfq group) known.0) (ltb-false 7 prio few.0) h))

submit-leads : (l : Limits) (S : Type 0) (P Q : ℕ → Plain → Type 0) → Steps l S P Q → (m : Plain) (n : ℕ) (room : Bool) (seat session : ℕ) (op : Op) (range : Range) (payload : List ℕ)
    → P n m → Q (n + 1) (submit l m n room seat session op range payload).0
submit-leads l S P Q k m n room seat session op range payload h =
    let next : Plain = submitted m n seat session op range payload in
    let waits = option_map (λ next. (next, Queued n)) (woken m seat next) in
    unless-keeps (Q (n + 1)) _ m (accepted_if room m waits) (kept-serial l S P Q k n m h)
    (λ e.
    let within = first_fails (nat_le 16 seat) _ _ e in
    let there = first_fails (not (has_session (m.seat seat))) _ _ within.1 in
    let its = first_fails (not (is_session session (m.seat seat))) _ _ there.1 in
    let count = first_fails (range.count == 0 || nat_lt 64 range.count) _ _ its.1 in
    let parts = or_parts (range.count == 0) (nat_lt 64 range.count) count.0 in
    let bytes = first_fails (not (length payload == payload_length op range.count)) _ _ count.1 in
    let sized : IsSized op range payload = record {
      some_sectors = some_count range.count parts.0;
      few_sectors = ltb-false 64 range.count parts.1;
      bytes = eqb-true (length payload) (payload_length op range.count) (not-false (length payload == payload_length op range.count) bytes.0);
    } in
    accepted_if-keeps (Q (n + 1)) room m waits (kept-serial l S P Q k n m h)
    (λ o f.
    let w = map_is (λ (next : Plain). (next, Queued n)) (woken m seat next) o f in
    let R : Plain × Reply → Type 0 = λ x. Q (n + 1) x.0 in
    subst R w.2 (k.submits n m seat session op range payload w.0 (leb-false 16 seat within.0) (not-false (is_session session (m.seat seat)) its.0) sized w.1 h)))

reaped-leads : (l : Limits) (S : Type 0) (P Q : ℕ → Plain → Type 0) → Steps l S P Q → (m : Plain) (n : ℕ) (room : Bool) (seat : ℕ) (bios : List Bio) → m.outbox seat ≡ bios → P n m → Q n (reaped room m seat bios).0
reaped-leads l S P Q k m n room seat [] is h = k.stays n m h
reaped-leads l S P Q k m n room seat (bio ∷ bios) is h =
    accepted-keeps (Q n) room m (reaped_at m seat bios) (Completed bio.serial (unwrap_or bio.result Written)) (k.stays n m h) (k.reaps n m seat bio bios is h)

reap-leads : (l : Limits) (S : Type 0) (P Q : ℕ → Plain → Type 0) → Steps l S P Q → (m : Plain) (n : ℕ) (room : Bool) (seat session : ℕ) → P n m → Q n (reap m room seat session).0
reap-leads l S P Q k m n room seat session h = unless-keeps (Q n) _ m (reaped room m seat (m.outbox seat)) (k.stays n m h) (λ _. reaped-leads l S P Q k m n room seat (m.outbox seat) refl h)

leave-leads : (l : Limits) (S : Type 0) (P Q : ℕ → Plain → Type 0) → Steps l S P Q → (m : Plain) (n : ℕ) (room : Bool) (seat : ℕ) → P n m → Q n (leave l m room seat).0
leave-leads l S P Q k m n room seat h =
    unless-keeps (Q n) _ m (accepted room m (left l m seat) Left) (k.stays n m h)
    (λ e.
    let within = first_fails (nat_le 16 seat) _ _ e in
    let there = first_fails (not (has_session (m.seat seat))) _ _ within.1 in
    accepted-keeps (Q n) room m (left l m seat) Left (k.stays n m h) (k.leaves n m seat (leb-false 16 seat within.0) (not-false (has_session (m.seat seat)) there.0) h))

-- Dispatch
sent-leads : (l : Limits) (S : Type 0) (P Q : ℕ → Plain → Type 0) → Steps l S P Q → (m : Plain) (n : ℕ) (room : Bool) (seat tag : ℕ) (requests : List WholeRequest)
    → m.scheduler ≡ PlainScheduler → m.queue seat ≡ requests → tag < l.tags → m.flight tag ≡ None → P n m → Q (n + 1) (sent m n room seat tag requests).0
sent-leads l S P Q k m n room seat tag [] none is low free h = kept-serial l S P Q k n m h
sent-leads l S P Q k m n room seat tag (r ∷ rest) none is low free h =
    let next : Plain = dispatched m n seat tag r rest seat m.head m.bfq in
    next-serial l S P Q k n _ (accepted-keeps (Q n) room m next (Issued tag n r.op (range_of r.bios)) (k.stays n m h) (k.takes_turns n m seat tag r rest none is low free h))

sent_by-leads : (l : Limits) (S : Type 0) (P Q : ℕ → Plain → Type 0) → Steps l S P Q → (m : Plain) (n : ℕ) (room : Bool) (seat tag : ℕ) (scheduler : Scheduler)
    → m.scheduler ≡ scheduler → tag < l.tags → m.flight tag ≡ None → P n m → Q (n + 1) (sent_by l m n room seat tag scheduler).0
sent_by-leads l S P Q k m n room seat tag PlainScheduler is low free h = sent-leads l S P Q k m n room seat tag (m.queue seat) is refl low free h
sent_by-leads l S P Q k m n room seat tag BfqScheduler is low free h = accepted_if-keeps (Q (n + 1)) room m (sent_by_bfq l m n tag) (kept-serial l S P Q k n m h) (λ o e. k.sends n m tag o is e low free h)

dispatch_to-leads : (l : Limits) (S : Type 0) (P Q : ℕ → Plain → Type 0) → Steps l S P Q → (m : Plain) (n : ℕ) (room : Bool) (seat tag : Option ℕ) → lowest_free l m ≡ tag → P n m → Q (n + 1) (dispatch_to l m n room seat tag).0
dispatch_to-leads l S P Q k m n room None tag is h = kept-serial l S P Q k n m h
dispatch_to-leads l S P Q k m n room (Some seat) None is h = kept-serial l S P Q k n m h
dispatch_to-leads l S P Q k m n room (Some seat) (Some tag) is h =
    let found = find-numbers (λ t. is_none (m.flight t)) 0 l.tags tag is in
    sent_by-leads l S P Q k m n room seat tag m.scheduler refl (omega (arith, found.1)) (is_nothing (m.flight tag) found.2) h

sent_again-leads : (l : Limits) (S : Type 0) (P Q : ℕ → Plain → Type 0) → Steps l S P Q → (m : Plain) (n : ℕ) (room : Bool) (r : WholeRequest) (rest : List WholeRequest) (tag : Option ℕ)
    → m.requeued ≡ r ∷ rest → lowest_free l m ≡ tag → P n m → Q (n + 1) (sent_again m n room r rest tag).0
sent_again-leads l S P Q k m n room r rest None first is h = kept-serial l S P Q k n m h
sent_again-leads l S P Q k m n room r rest (Some tag) first is h =
    let found = find-numbers (λ t. is_none (m.flight t)) 0 l.tags tag is in
    let next : Q n (resent m n tag r rest) = k.resends n m tag r rest first (omega (arith, found.1)) (is_nothing (m.flight tag) found.2) h in
    next-serial l S P Q k n _ (accepted-keeps (Q n) room m (resent m n tag r rest) (Issued tag n r.op (range_of r.bios)) (k.stays n m h) next)

dispatch_of-leads : (l : Limits) (S : Type 0) (P Q : ℕ → Plain → Type 0) → Steps l S P Q → (m : Plain) (n : ℕ) (room : Bool) (requests : List WholeRequest) → m.requeued ≡ requests → P n m → Q (n + 1) (dispatch_of l m n room requests).0
dispatch_of-leads l S P Q k m n room [] is h = dispatch_to-leads l S P Q k m n room (next_queue m) (lowest_free l m) refl h
dispatch_of-leads l S P Q k m n room (r ∷ rest) is h = sent_again-leads l S P Q k m n room r rest (lowest_free l m) is refl h

-- Finish
finish_of-leads : (l : Limits) (S : Type 0) (P Q : ℕ → Plain → Type 0) → Steps l S P Q → (m : Plain) (n : ℕ) (room : Bool) (tag issue : ℕ) (outcome : Outcome) (o : Option Flight) → tag < l.tags → m.flight tag ≡ o
    → P n m → Q n (finish_of l m room tag issue outcome o).0
finish_of-leads l S P Q k m n room tag issue outcome None low is h = k.stays n m h
finish_of-leads l S P Q k m n room tag issue outcome (Some f) low is h =
    unless-keeps (Q n) _ m (finished l m room tag (effect_of outcome f.request.op) f.request) (k.stays n m h)
    (λ e.
    let its = first_fails (not (f.issue == issue)) _ _ e in
    let fit = first_fails (not (fits f.request.op (size_of f.request.bios) outcome)) _ _ its.1 in
    accepted-keeps (Q n) room m (after_finish l m tag (effect_of outcome f.request.op) f.request) (Finished (length f.request.bios)) (k.stays n m h)
    (k.finishes n m tag f outcome low is (not-false (fits f.request.op (size_of f.request.bios) outcome) fit.0) h))

finish-leads : (l : Limits) (S : Type 0) (P Q : ℕ → Plain → Type 0) → Steps l S P Q → (m : Plain) (n : ℕ) (room : Bool) (tag issue : ℕ) (outcome : Outcome) → P n m → Q n (finish l m room tag issue outcome).0
finish-leads l S P Q k m n room tag issue outcome h =
    unless-keeps (Q n) _ m (finish_of l m room tag issue outcome (m.flight tag)) (k.stays n m h)
    (λ e. let low = first_fails (nat_le l.tags tag) _ _ e in finish_of-leads l S P Q k m n room tag issue outcome (m.flight tag) (leb-false l.tags tag low.0) refl h)

-- Requeue
requeue_of-leads : (l : Limits) (S : Type 0) (P Q : ℕ → Plain → Type 0) → Steps l S P Q → (m : Plain) (n : ℕ) (room : Bool) (tag issue : ℕ) (o : Option Flight) → tag < l.tags → m.flight tag ≡ o
    → P n m → Q n (requeue_of m room tag issue o).0
requeue_of-leads l S P Q k m n room tag issue None low is h = k.stays n m h
requeue_of-leads l S P Q k m n room tag issue (Some f) low is h =
    unless-keeps (Q n) _ m (requeued m room tag f.request) (k.stays n m h)
    (λ _. accepted-keeps (Q n) room m (given_back m tag f.request) Requeued (k.stays n m h) (k.gives_back n m tag f low is h))

requeue-leads : (l : Limits) (S : Type 0) (P Q : ℕ → Plain → Type 0) → Steps l S P Q → (m : Plain) (n : ℕ) (room : Bool) (tag issue : ℕ) → P n m → Q n (requeue l m room tag issue).0
requeue-leads l S P Q k m n room tag issue h =
    unless-keeps (Q n) _ m (requeue_of m room tag issue (m.flight tag)) (k.stays n m h)
    (λ e. let low = first_fails (nat_le l.tags tag) _ _ e in requeue_of-leads l S P Q k m n room tag issue (m.flight tag) (leb-false l.tags tag low.0) refl h)

-- Groups
made_group-leads : (l : Limits) (S : Type 0) (P Q : ℕ → Plain → Type 0) → Steps l S P Q → (m : Plain) (n : ℕ) (room : Bool) (parent weight : ℕ) (found : Option ℕ)
    → stands m.bfq parent ≡ true → is_weight weight ≡ true → nat_le most_levels (depth m.bfq.parent parent) ≡ false → free_group m.bfq ≡ found → P n m → Q n (made_group l m room parent weight found).0
made_group-leads l S P Q k m n room parent weight None known weighs few is h = k.stays n m h
made_group-leads l S P Q k m n room parent weight (Some group) known weighs few is h =
    accepted-keeps (Q n) room m (record m { bfq = made l group parent weight m.bfq }) (Group group) (k.stays n m h) (k.makes n m group parent weight known weighs few is h)

group_make-leads : (l : Limits) (S : Type 0) (P Q : ℕ → Plain → Type 0) → Steps l S P Q → (m : Plain) (n : ℕ) (room : Bool) (parent weight : ℕ) → P n m → Q n (group_make l m room parent weight).0
group_make-leads l S P Q k m n room parent weight h =
    unless-keeps (Q n) _ m (made_group l m room parent weight (free_group m.bfq)) (k.stays n m h)
    (λ e.
    let known = first_fails (not (stands m.bfq parent)) _ _ e in
    let weighs = first_fails (not (is_weight weight)) _ _ known.1 in
    let few = first_fails (nat_le most_levels (depth m.bfq.parent parent)) _ _ weighs.1 in
    made_group-leads l S P Q k m n room parent weight (free_group m.bfq) (not-false (stands m.bfq parent) known.0) (not-false (is_weight weight) weighs.0) few.0 refl h)

group_drop-leads : (l : Limits) (S : Type 0) (P Q : ℕ → Plain → Type 0) → Steps l S P Q → (m : Plain) (n : ℕ) (room : Bool) (group : ℕ) → P n m → Q n (group_drop m room group).0
group_drop-leads l S P Q k m n room group h =
    let next : Plain = record m { bfq = without_entity (entity_of group) m.bfq } in
    unless-keeps (Q n) _ m (accepted room m next Done) (k.stays n m h)
    (λ e.
    let known = first_fails (not (stands m.bfq group)) _ _ e in
    let other = first_fails (group == 0) _ _ known.1 in
    let unused = first_fails (is_used m.bfq group) _ _ other.1 in
    accepted-keeps (Q n) room m next Done (k.stays n m h) (k.drops n m group (not-false (stands m.bfq group) known.0) other.0 unused.0 h))

set_weight-leads : (l : Limits) (S : Type 0) (P Q : ℕ → Plain → Type 0) → Steps l S P Q → (m : Plain) (n : ℕ) (room : Bool) (group weight : ℕ) → P n m → Q n (set_weight m room group weight).0
set_weight-leads l S P Q k m n room group weight h =
    let next : Plain = record m { bfq = record m.bfq { pending = put m.bfq.pending (entity_of group) weight } } in
    unless-keeps (Q n) _ m (accepted room m next Done) (k.stays n m h)
    (λ e.
    let known = first_fails (not (stands m.bfq group)) _ _ e in
    let other = first_fails (group == 0) _ _ known.1 in
    let weighs = first_fails (not (is_weight weight)) _ _ other.1 in
    accepted-keeps (Q n) room m next Done (k.stays n m h) (k.weighs n m group weight (not-false (stands m.bfq group) known.0) other.0 (not-false (is_weight weight) weighs.0) h))

-- Freeze, Thaw, Switch and Tick
frozen-leads : (l : Limits) (S : Type 0) (P Q : ℕ → Plain → Type 0) → Steps l S P Q → (m : Plain) (n : ℕ) (room frozen : Bool) → P n m → Q n (accepted room m (record m { frozen = frozen }) Done).0
frozen-leads l S P Q k m n room frozen h = accepted-keeps (Q n) room m (record m { frozen = frozen }) Done (k.stays n m h) (k.freezes n m frozen h)

switch-leads : (l : Limits) (S : Type 0) (P Q : ℕ → Plain → Type 0) → Steps l S P Q → S → (m : Plain) (n : ℕ) (room : Bool) (scheduler : Scheduler) → P n m → Q n (switch l m room scheduler).0
switch-leads l S P Q k may m n room scheduler h =
    let next : Plain = switched l m scheduler in
    unless-keeps (Q n) _ m (accepted room m next Done) (k.stays n m h)
    (λ e.
    let frozen = first_fails (not m.frozen) _ _ e in
    let none = first_fails (nat_lt 0 (requests_of l m)) _ _ frozen.1 in
    accepted-keeps (Q n) room m next Done (k.stays n m h) (k.switches may n m scheduler none.0 h))

ticked-leads : (l : Limits) (S : Type 0) (P Q : ℕ → Plain → Type 0) → Steps l S P Q → (m : Plain) (n : ℕ) (room : Bool) (o : Option InService) → m.bfq.in_service ≡ o → P n m → Q (n + 1) (ticked m room o).0
ticked-leads l S P Q k m n room None is h = kept-serial l S P Q k n m h
ticked-leads l S P Q k m n room (Some slot) is h =
    accepted-keeps (Q (n + 1)) room m (record m { bfq = record m.bfq { in_service = Some (older slot) } }) Done (kept-serial l S P Q k n m h) (k.ticks n m slot is h)

-- every step
pub step-steps : (l : Limits) (S : Type 0) (P Q : ℕ → Plain → Type 0) → Steps l S P Q → (m : Plain) (n : ℕ) (room : Bool) (s : Step) → (is_switch s ≡ true → S) → P n m → Q (n + 1) (step l m n room s).0
step-steps l S P Q k m n room (Attach seat group prio class) may h = attach-leads l S P Q k m n room seat group prio class h
step-steps l S P Q k m n room (Submit seat session op range payload) may h = submit-leads l S P Q k m n room seat session op range payload h
step-steps l S P Q k m n room (Reap seat session) may h = next-serial l S P Q k n _ (reap-leads l S P Q k m n room seat session h)
step-steps l S P Q k m n room (Leave seat why) may h = next-serial l S P Q k n _ (leave-leads l S P Q k m n room seat h)
step-steps l S P Q k m n room Dispatch may h = dispatch_of-leads l S P Q k m n room m.requeued refl h
step-steps l S P Q k m n room (Finish tag issue outcome) may h = next-serial l S P Q k n _ (finish-leads l S P Q k m n room tag issue outcome h)
step-steps l S P Q k m n room (Requeue tag issue) may h = next-serial l S P Q k n _ (requeue-leads l S P Q k m n room tag issue h)
step-steps l S P Q k m n room (GroupMake parent weight) may h = next-serial l S P Q k n _ (group_make-leads l S P Q k m n room parent weight h)
step-steps l S P Q k m n room (GroupDrop group) may h = next-serial l S P Q k n _ (group_drop-leads l S P Q k m n room group h)
step-steps l S P Q k m n room (SetWeight group weight) may h = next-serial l S P Q k n _ (set_weight-leads l S P Q k m n room group weight h)
step-steps l S P Q k m n room Freeze may h = next-serial l S P Q k n _ (unless-keeps (Q n) _ m (accepted room m (record m { frozen = true }) Done) (k.stays n m h) (λ _. frozen-leads l S P Q k m n room true h))
step-steps l S P Q k m n room Thaw may h = next-serial l S P Q k n _ (unless-keeps (Q n) _ m (accepted room m (record m { frozen = false }) Done) (k.stays n m h) (λ _. frozen-leads l S P Q k m n room false h))
step-steps l S P Q k m n room (Switch scheduler) may h = next-serial l S P Q k n _ (switch-leads l S P Q k (may refl) m n room scheduler h)
step-steps l S P Q k m n room Tick may h = ticked-leads l S P Q k m n room m.bfq.in_service refl h

-- one statement, before the step and after it
pub step-leads : (l : Limits) (P : ℕ → Plain → Type 0) → Leads l P → (m : Plain) (n : ℕ) (room : Bool) (s : Step) → P n m → P (n + 1) (step l m n room s).0
step-leads l P k m n room s h = step-steps l (Unit {0}) P P k m n room s (λ _. tt) h
