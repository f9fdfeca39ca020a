-- No weight is 0, on the machine of every keeper.
use Rattle.std.proofs.Common.{true, false, ◌≡◌, inl, inr, ℕ, zero, suc, ◌+◌, ◌≤◌, List, ◌∷◌, Option, Some, None, All, is_some, unwrap_or, refl, sym, ap, ◌∙◌, subst, arith}
use Rattle.std.proofs.lemmas.Bool.{cases_eq}
use Rattle.std.proofs.lemmas.List.Elements.{All-nil, All-cons}
use Rattle.plain.specs.declared.member.Member.{Member}
use Rattle.plain.specs.declared.member.State.{State}
use Rattle.plain.specs.declared.member.State.TheVariants.{Idle, Active, Serving}
use Rattle.sector_core.specs.declared.config.Scheduler.{Scheduler}
use Rattle.sector_core.specs.declared.class.Class.{Class}
use Rattle.sector_core.specs.declared.class.Class.TheVariants.{BestEffort}
use Rattle.plain.specs.declared.member.Vtimes.{Vtimes}
use Rattle.plain.specs.Classes.{same_times}
use Rattle.plain.specs.Groups.{entity_of, climb, most_levels, path}
use Rattle.plain.specs.declared.seat.InService.{InService}
use Rattle.plain.specs.Machine.{Bfq, Plain, put}
use Rattle.plain.specs.Rules.{absent, group_of, member_in, member_of, put_member, put_vtimes, is_idle, picked, in_service}
use Rattle.plain.specs.declared.call.Call.{Call}
use Rattle.plain.specs.Opening.{Limits, opening}
use Rattle.plain.specs.Entities.{is_weight, with_entity}
use Rattle.plain.specs.Steps.Attach.{prio_weight}
use Rattle.plain.specs.Steps.Submit.{submitted}
use Rattle.plain.specs.Steps.Switch.{begun_again}
use Rattle.bfq_laws.specs.Weights.{WeighEnough, WeightsArePositive}
use Rattle.plain_laws.proofs.Puts.{put_here, put_other, some_is}
use Rattle.plain_laws.proofs.Placed.{placed, put_place, placed-vtime, placed-either}
use Rattle.plain_laws.proofs.Rules.{Any, all_any, StampsKeep, Changes, woken-bfq, sent_by_bfq-rules}
use Rattle.plain_laws.proofs.Begun.{begun-keeps}
use Rattle.bfq_laws.proofs.Walk.{Keeps, machine-keeps}
use Rattle.bfq_laws.proofs.Tree.{idle}
use Rattle.bfq_laws.proofs.Busy.{opening-none}
use Rattle.bfq_laws.proofs.Picks.{picked-is}
use Rattle.bfq_laws.proofs.Shape.{In, Levels, Stands, parent-stands, stands-low, climbing, At, parent-at, group-at, member-at, own-at, move-at, vtime-at}
use Rattle.bfq_laws.proofs.Alive.{Up, Alive, not_idle}
use Rattle.bfq_laws.proofs.Sound.{timed-at, Sound, opening-sound, keeps-sound}

-- each member of each group's tree has a weight
abbrev AllWeigh : Bfq → Type 0
AllWeigh b = (group entity : ℕ) (member : Member) → placed b group entity ≡ Some member → 1 ≤ member.weight

-- an entity changes, or goes
member-weighs : (b : Bfq) (group k : ℕ) (new : Option Member) → ((member : Member) → new ≡ Some member → 1 ≤ member.weight) → AllWeigh b → AllWeigh (put_place group k new b)
member-weighs b group k new le h g e member is = elim (placed-either b group k new g e) [
  | inl now ↦ le member (sym now ∙ is)
  | inr was ↦ h g e member (sym was ∙ is)
]

some-weighs : (new : Member) → 1 ≤ new.weight → (member : Member) → Some new ≡ Some member → 1 ≤ member.weight
some-weighs new le member e = subst (λ (m : Member). 1 ≤ m.weight) (some_is new member e) le

-- virtual times are other ones
vtime-weighs : (b : Bfq) (group : ℕ) (vtimes : Vtimes) → AllWeigh b → AllWeigh (put_vtimes group vtimes b)
vtime-weighs b group vtimes h g e member is = h g e member (sym (placed-vtime b group vtimes g e) ∙ is)

put-weighs : (pending : ℕ → ℕ) (entity v : ℕ) → 1 ≤ v → ((e : ℕ) → 1 ≤ pending e) → (e : ℕ) → 1 ≤ put pending entity v e
put-weighs pending entity v le h e = elim (cases_eq e entity) [
  | inl same ↦ let now : put pending entity v e ≡ v = put_here pending entity v e same in omega (arith, now, le)
  | inr other ↦ let now : put pending entity v e ≡ pending e = put_other pending entity v e other in omega (arith, now, h e)
]

some_member : (o : Option Member) → is_some o ≡ true → (m : Member) × (o ≡ Some m)
some_member None e = cc
some_member (Some m) e = (m, refl)

-- an entity's member weighs in, or is written over by one that does
put_member-weighs : (group k : ℕ) (new : Member) (b : Bfq) → 1 ≤ new.weight → WeighEnough b → WeighEnough (put_member group k new b)
put_member-weighs group k new b le h = (h.0, member-weighs b group k (Some new) (some-weighs new le) h.1)

put_vtimes-weighs : (group : ℕ) (vtimes : Vtimes) (b : Bfq) → WeighEnough b → WeighEnough (put_vtimes group vtimes b)
put_vtimes-weighs group vtimes b h = (h.0, vtime-weighs b group vtimes h.1)

-- what an entity weighs in its own group
abbrev weight_in : Bfq → ℕ → ℕ
weight_in b e = (member_of b e).weight

-- who stands in a tree weighs in
there-weighs : (b : Bfq) (group e : ℕ) → is_some (placed b group e) ≡ true → WeighEnough b → 1 ≤ (member_in b group e).weight
there-weighs b group e there h =
    let m = some_member (placed b group e) there in
    let W : Option Member → Type 0 = λ o. 1 ≤ (unwrap_or o absent).weight in
    let now : W (placed b group e) = subst W (sym m.1) (h.1 group e m.0 m.1) in
    now

-- stamping, of any entity
stamps-weigh : StampsKeep Any WeighEnough
stamps-weigh b start e _ le h = put_member-weighs (group_of b e) e _ b (h.0 e) h

-- above an entity that is not idle nobody is
awake-above : (above : ℕ → Option ℕ) (levels : Levels above) (st : ℕ → State) → Up above st → (n g : ℕ) → levels.level g ≤ n → Stands above g
    → (e : ℕ) → above e ≡ Some g → is_idle (st e) ≡ false → (i : ℕ) → In i (climb n above (Some g)) → is_idle (st i) ≡ false
awake-above above levels st up n g = climbing above levels
    (λ j (ways : List ℕ). (e : ℕ) → above e ≡ Some j → is_idle (st e) ≡ false → (i : ℕ) → In i ways → is_idle (st i) ≡ false)
    (λ e is awake i within. absurd within)
    (λ j h ways ne lt parent more e is awake i within.
    let here : is_idle (st (16 + j)) ≡ false = up e j is awake ne ne in
    elim within [
      | inl same ↦ ap (λ x. is_idle (st x)) same ∙ here
      | inr later ↦ more (16 + j) parent here i later
    ]) n g

-- so who is on the path of the queue in service is not idle
pub path-awake : (b : Bfq) (h : Alive b) (k : ℕ) → idle b k ≡ false → (i : ℕ) → In i (path b.parent k) → is_idle (h.st i) ≡ false
path-awake b h k awake i within =
    let above : ℕ → Option ℕ = h.above in
    let st : ℕ → State = h.st in
    let awake_k : is_idle (st k) ≡ false = ap is_idle (sym (h.at.are k)) ∙ awake in
    let m = member-at above st b k h.at (not_idle (st k) awake_k) in
    let g : ℕ = group_of b k in
    let up_k : above k ≡ Some g = m.3 in
    let stands : Stands above g = parent-stands above h.levels k g up_k in
    let same : path b.parent k ≡ k ∷ climb most_levels above (Some g) = ap (λ (f : ℕ → Option ℕ). path f k) h.at.parents ∙ ap (λ o. k ∷ climb most_levels above o) up_k in
    let way : In i (k ∷ climb most_levels above (Some g)) = subst (In i) same within in
    elim way [
      | inl one ↦ ap (λ x. is_idle (st x)) one ∙ awake_k
      | inr later ↦ awake-above above h.levels st h.up most_levels g (stands-low above h.levels g stands) stands k up_k awake_k i later
    ]

in-weighs : (above : ℕ → Option ℕ) (st : ℕ → State) (b : Bfq) (e g : ℕ) → above e ≡ Some g → At above st b → WeighEnough b → 1 ≤ weight_in b e
in-weighs above st b e g up at h = there-weighs b (group_of b e) e (ap (λ j. is_some (placed b j e)) (group-at above st b e g at up) ∙ at.places.there g e up) h

-- who is on the path of an entity that is in a group is in one
abbrev pub InGroup : (ℕ → Option ℕ) → ℕ → Type 0
InGroup above e = (g : ℕ) × (above e ≡ Some g)

path-in : (above : ℕ → Option ℕ) (levels : Levels above) (k : ℕ) → InGroup above k → All (InGroup above) (path above k)
path-in above levels k its =
    let g : ℕ = its.0 in
    let E : ℕ → Type 0 = InGroup above in
    let stands : Stands above g = parent-stands above levels k g its.1 in
    let ways : All E (climb most_levels above (Some g)) =
    climbing above levels (λ j way. All E way) (All-nil E) (λ j h way ne lt parent more. All-cons E (16 + j) way (h, parent) more) most_levels g (stands-low above levels g stands) stands in
    All-cons E k (climb most_levels above (above k)) its (subst (λ o. All E (climb most_levels above o)) (sym its.1) ways)

-- no weight is 0, each entity is in the group that is said, and the queue in service, if one is, is in one
pub record WeighAt (above : ℕ → Option ℕ) (b : Bfq) : Type 0 where
  pub weigh : WeighEnough b
  pub st : ℕ → State
  pub at : At above st b
  pub seated : (slot : InService) → b.in_service ≡ Some slot → InGroup above slot.seat

-- budgets and the slot change
slot-weighs_at : (above : ℕ → Option ℕ) (b : Bfq) (budget : ℕ → ℕ) (o : Option InService) → ((slot : InService) → o ≡ Some slot → InGroup above slot.seat)
    → WeighAt above b → WeighAt above (record b { budget = budget; in_service = o })
slot-weighs_at above b budget o its h = record { weigh = h.weigh; st = h.st; at = record { parents = h.at.parents; places = h.at.places; are = h.at.are }; seated = its }

one-in : (above : ℕ → Option ℕ) (new : InService) → InGroup above new.seat → (slot : InService) → Some new ≡ Some slot → InGroup above slot.seat
one-in above new its slot e = subst (λ (s : InService). InGroup above s.seat) (some_is new slot e) its

-- who is picked is in the group, and is in service now
served-weighs_at : (above : ℕ → Option ℕ) (levels : Levels above) (b : Bfq) (group : ℕ) (class : Class) (e : ℕ) → picked b group class ≡ Some e → WeighAt above b → InGroup above e × WeighAt above (in_service group e b)
served-weighs_at above levels b group class e is h =
    let there : is_some (placed b group e) ≡ true = ap is_some (picked-is b group class e is).1 in
    let up : above e ≡ Some group = h.at.places.known group e there in (
      (group, up),
      record {
        weigh = put_member-weighs group e _ b (there-weighs b group e there h.weigh) h.weigh;
        st = put h.st e Serving;
        at = move-at above levels h.st b e group _ h.at up;
        seated = h.seated;
      },
    )

vtime-weighs_at : (above : ℕ → Option ℕ) (b : Bfq) (group : ℕ) (vtimes : Vtimes) → WeighAt above b → WeighAt above (put_vtimes group vtimes b)
vtime-weighs_at above b group vtimes h = record { weigh = put_vtimes-weighs group vtimes b h.weigh; st = h.st; at = vtime-at above h.st b group vtimes h.at; seated = h.seated }

-- each change of a rule
pub weigh_at-changes : (most : ℕ) (above : ℕ → Option ℕ) → Levels above → Changes most (InGroup above) (WeighAt above)
weigh_at-changes most above levels = record {
  paths = λ b slot is h. subst (λ (f : ℕ → Option ℕ). All (InGroup above) (path f slot.seat)) (sym h.at.parents) (path-in above levels slot.seat (h.seated slot is));
  stamps = λ b start e its le h. record {
    weigh = put_member-weighs (group_of b e) e _ b (h.weigh.0 e) h.weigh;
    st = put h.st e Active;
    at = own-at above levels h.st b e its.0 _ h.at its.1;
    seated = h.seated;
  };
  selects = record {
    jumps = λ b group class start nobody is h. vtime-weighs_at above b group _ h;
    passes = λ b group class e is high h. (served-weighs_at above levels b group class e is h).1;
    begins = λ b group class seat is small h.
        let now = served-weighs_at above levels b group class seat is h in
        slot-weighs_at above (in_service group seat b) b.budget _ (one-in above (record { seat = seat; service = 0; age = 0 }) now.0) now.1;
  };
  charges = λ b slot sectors is h. slot-weighs_at above b b.budget _ (one-in above (record slot { service = slot.service + sectors }) (h.seated slot is)) h;
  rises = λ b group class vtime rise le h. vtime-weighs_at above b group _ h;
  ends = λ b slot cause is h. slot-weighs_at above b _ None (λ other e. cc) h;
  rests = λ b finish e its le h. record {
    weigh = put_member-weighs (group_of b e) e _ b (in-weighs above h.st b e its.0 its.1 h.at h.weigh) h.weigh;
    st = put h.st e Idle;
    at = own-at above levels h.st b e its.0 _ h.at its.1;
    seated = h.seated;
  };
}

-- so it is where the queue in service is, as then it is in a group
pub weigh_at-alive : (b : Bfq) (h : Alive b) → WeighEnough b → WeighAt h.above b
weigh_at-alive b h weighs = record {
  weigh = weighs;
  st = h.st;
  at = h.at;
  seated = λ slot is.
      let on : h.st slot.seat ≡ Serving = h.served slot is slot.seat (inl refl) in
      let m = member-at h.above h.st b slot.seat h.at (λ rests. let bad : Idle ≡ Serving = sym rests ∙ on in cc) in
      (group_of b slot.seat, m.3);
}

-- a new entity
entity-weighs : (l : Limits) (entity group : ℕ) (class : Class) (weight : ℕ) (b : Bfq) → 1 ≤ weight → WeighEnough b → WeighEnough (with_entity l entity group class weight b)
entity-weighs l entity group class weight b le h = (put-weighs b.pending entity weight le h.0, member-weighs b group entity _ (some-weighs _ le) h.1)

prio-weighs : (prio : ℕ) → prio ≤ 7 → 1 ≤ prio_weight prio
prio-weighs prio le = omega (arith, le)

weight-weighs : (weight : ℕ) → is_weight weight ≡ true → 1 ≤ weight
weight-weighs zero e = cc
weight-weighs (suc weight) e = omega arith

gone-weighs : (member : Member) → None ≡ Some member → 1 ≤ member.weight
gone-weighs member e = cc

-- Switch: a member has other times, and weighs as it did.
begun-weighs : (l : Limits) (scheduler : Scheduler) (b : Bfq) → Alive b → WeighEnough b → WeighEnough (begun_again l scheduler b)
begun-weighs l scheduler b alive h =
    let Q : Bfq → Type 0 = λ c. At alive.above alive.st c × WeighEnough c in
    let last : Q (begun_again l scheduler b) = begun-keeps l Q (record {
      times = λ c e g up q. (timed-at l alive.above alive.levels alive.st c e g up q.0, put_member-weighs (group_of c e) e _ c (in-weighs alive.above alive.st c e g (sym (parent-at alive.above alive.st c e q.0) ∙ up) q.0 q.1) q.1);
      vtimes = λ c g q. (vtime-at alive.above alive.st c g (same_times l.first_vtime) q.0, put_vtimes-weighs g (same_times l.first_vtime) c q.1);
      budgets = λ c q. (record { parents = q.0.parents; places = q.0.places; are = q.0.are }, q.1);
    }) scheduler b (alive.at, h) in
    last.1

-- every step
abbrev pub Weighs : Plain → Type 0
Weighs m = WeighEnough m.bfq × Sound m

pub keeps-weighs : (l : Limits) → Keeps l Weighs
keeps-weighs l = record {
  attaches = λ m n seat group prio class small free stand high h.
      (entity-weighs l seat group class (prio_weight prio) m.bfq (prio-weighs prio high) h.0, (keeps-sound l).attaches m n seat group prio class small free stand high h.1);
  submits = λ m n seat session op range payload next small its e h.
      (woken-bfq Any WeighEnough stamps-weigh m seat (submitted m n seat session op range payload) next (all_any (path m.bfq.parent seat)) e h.0 h.0, (keeps-sound l).submits m n seat session op range payload next small its e h.1);
  enters = λ m seat f outbox stays h. (h.0, (keeps-sound l).enters m seat f outbox stays h.1);
  goes = λ m seat small last h.
      ((h.0.0, member-weighs m.bfq (group_of m.bfq seat) seat None gone-weighs h.0.1), (keeps-sound l).goes m seat small last h.1);
  takes_turns = λ m n seat tag request requests plain its h. (h.0, (keeps-sound l).takes_turns m n seat tag request requests plain its h.1);
  sends = λ m n tag o its whole e h.
      let alive : Alive m.bfq = h.1.alive in
      let last = sent_by_bfq-rules l (InGroup alive.above) (WeighAt alive.above) (weigh_at-changes l.max_budget alive.above alive.levels) m n tag o e (weigh_at-alive m.bfq alive h.0) in
      (last.weigh, (keeps-sound l).sends m n tag o its whole e h.1);
  moves = λ m overlay requests outbox flight frozen h. (h.0, (keeps-sound l).moves m overlay requests outbox flight frozen h.1);
  makes = λ m group parent weight stand weighs few free h.
      let now : WeighEnough (with_entity l (entity_of group) parent BestEffort weight m.bfq) = entity-weighs l (entity_of group) parent BestEffort weight m.bfq (weight-weighs weight weighs) h.0 in
      ((now.0, vtime-weighs (with_entity l (entity_of group) parent BestEffort weight m.bfq) group (same_times l.first_vtime) now.1), (keeps-sound l).makes m group parent weight stand weighs few free h.1);
  drops = λ m group stand other unused h.
      ((h.0.0, member-weighs m.bfq (group_of m.bfq (entity_of group)) (entity_of group) None gone-weighs h.0.1), (keeps-sound l).drops m group stand other unused h.1);
  weighs = λ m group weight fits h.
      ((put-weighs m.bfq.pending (entity_of group) weight (weight-weighs weight fits) h.0.0, h.0.1), (keeps-sound l).weighs m group weight fits h.1);
  ticks = λ m slot is h. (h.0, (keeps-sound l).ticks m slot is h.1);
  switches = λ m scheduler drained h. (begun-weighs l scheduler m.bfq h.1.alive h.0, (keeps-sound l).switches m scheduler drained h.1);
}

-- before the first step
pub opening-weighs : (l : Limits) → WeighEnough (opening l).bfq
opening-weighs l = (λ e. omega arith, λ g e member is. gone-weighs member (sym (opening-none l g e) ∙ is))

-- the law
pub weights-positive : (l : Limits) (most : ℕ) (journal : List Call) → WeightsArePositive l most journal
weights-positive l most journal =
    (machine-keeps l most journal Weighs (keeps-weighs l) (opening-weighs l, opening-sound l)).0
