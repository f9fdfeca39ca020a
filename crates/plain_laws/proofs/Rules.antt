-- What each change that the rules of BFQ make keeps, the rules keep.
use Rattle.std.proofs.Common.{true, false, Bool, ◌≡◌, ℕ, zero, suc, ◌+◌, ◌-◌, ◌<◌, ◌≤◌, nat_le, nat_lt, ◌&&◌, List, [], ◌∷◌, Option, Some, None, All, is_some, cond, refl, subst, arith}
use Rattle.std.specs.Option.{is_none, option_map, option_map_or, option_and_then}
use Rattle.std.proofs.lemmas.Bool.{leb-true, ltb-true, ltb-false}
use Rattle.std.proofs.lemmas.List.Elements.{All-nil, All-cons, All-head, All-tail}
use Rattle.sector_core.specs.declared.class.Class.{Class}
use Rattle.plain.specs.Lists.{is_empty}
use Rattle.plain.specs.Groups.{has_entity, entity_of, climb, path}
use Rattle.plain.specs.declared.seat.InService.{InService}
use Rattle.plain.specs.Machine.{WholeRequest, Bfq, Plain}
use Rattle.plain.specs.declared.seat.Expiry.{Expiry}
use Rattle.plain.specs.declared.seat.Expiry.TheVariants.{Exhaustion, Timeout, Emptying}
use Rattle.plain.specs.Rules.{top, group_of, member_of, vtime_of, put_vtime, is_idle, along, finish_from, stamped, stamp, start_from, activate_path, activate, picked, jumped, in_service, on_pick, on_class, class_in, class_of, chosen_in, service_in, taken, select_from, select, risen, charge_one, served_more, charge, ended, is_backlogged, rested, expire_one, out_of_service, expire}
use Rattle.plain.specs.declared.answer.Reply.{Reply}
use Rattle.plain.specs.Opening.{Limits}
use Rattle.plain.specs.Entities.{is_bfq}
use Rattle.plain.specs.Steps.Submit.{woken}
use Rattle.plain.specs.Requests.{range_of}
use Rattle.plain.specs.Steps.Dispatch.{has_queued, next_size, with_budget_in, with_selected, without_empty, sent_by_bfq}
use Rattle.plain_laws.proofs.Puts.{some_is, and_then_is, map_is}
use Rattle.plain_laws.proofs.Sent.{rest_of, sent-is}
use Rattle.plain_laws.proofs.Placed.{least_of}

-- an entity of which nothing need be known
abbrev pub Any : ℕ → Type 0
Any entity = Unit {0}

pub all_any : (entities : List ℕ) → All Any entities
all_any [] = All-nil Any
all_any (entity ∷ entities) = All-cons Any entity entities tt (all_any entities)

-- an entity that is a group's, as are those above any entity
abbrev pub High : ℕ → Type 0
High entity = 16 ≤ entity

pub climb-high : (levels : ℕ) (above : ℕ → Option ℕ) (group : Option ℕ) → All High (climb levels above group)
unfolding climb
climb-high zero above group = All-nil High
climb-high (suc levels) above None = All-nil High
climb-high (suc levels) above (Some group) = elim (has_entity group) as (λ t. All High (cond t (entity_of group ∷ climb levels above (above (entity_of group))) [])) [
  | true ↦ All-cons High (entity_of group) (climb levels above (above (entity_of group))) (omega arith) (climb-high levels above (above (entity_of group)))
  | false ↦ All-nil High
]

-- Each kind of change keeps `Q`, with what its rule has found. Of each entity on a path `E` is known, which does not speak of the machine:
-- the path is fixed before a rule goes along it.
abbrev pub StampsKeep : (ℕ → Type 0) → (Bfq → Type 0) → Type 0
StampsKeep E Q = (b : Bfq) (start entity : ℕ) → E entity → finish_from start entity b ≤ top → Q b → Q (stamped start entity b)

abbrev pub RestsKeep : (ℕ → Type 0) → (Bfq → Type 0) → Type 0
RestsKeep E Q = (b : Bfq) (finish entity : ℕ) → E entity → finish ≤ top → Q b → Q (rested finish entity b)

abbrev pub JumpsKeep : (Bfq → Type 0) → Type 0
JumpsKeep Q = (b : Bfq) (group : ℕ) (class : Class) (start : ℕ) → picked b group class ≡ None → least_of b group class ≡ Some start → Q b → Q (put_vtime group class start b)

abbrev pub RisesKeep : (Bfq → Type 0) → Type 0
RisesKeep Q = (b : Bfq) (group : ℕ) (class : Class) (vtime : ℕ) → vtime_of b group class ≤ vtime → vtime ≤ top → Q b → Q (put_vtime group class vtime b)

-- a session's queue has just been selected in its group
abbrev pub selected : ℕ → ℕ → Bfq → Bfq
selected group seat b = record (in_service group seat b) { in_service = Some (record { seat = seat; service = 0; age = 0 }) }

-- Each change that select makes keeps this. That a session is picked is known of the machine before, so its entity and the slot change in
-- one field.
pub record Selects (Q : Bfq → Type 0) : Type 0 where
  pub jumps : JumpsKeep Q
  pub passes : (b : Bfq) (group : ℕ) (class : Class) (entity : ℕ) → picked b group class ≡ Some entity → 16 ≤ entity → Q b → Q (in_service group entity b)
  pub begins : (b : Bfq) (group : ℕ) (class : Class) (seat : ℕ) → picked b group class ≡ Some seat → seat < 16 → Q b → Q (selected group seat b)

-- each change that a rule makes keeps this, where the greatest budget is so much, and `E` holds on the path of the queue in service
pub record Changes (most : ℕ) (E : ℕ → Type 0) (Q : Bfq → Type 0) : Type 0 where
  pub paths : (b : Bfq) (slot : InService) → b.in_service ≡ Some slot → Q b → All E (path b.parent slot.seat)
  pub stamps : StampsKeep E Q
  pub selects : Selects Q
  pub charges : (b : Bfq) (slot : InService) (sectors : ℕ) → b.in_service ≡ Some slot → Q b → Q (served_more sectors slot b)
  pub rises : RisesKeep Q
  pub ends : (b : Bfq) (slot : InService) (cause : Expiry) → b.in_service ≡ Some slot → Q b → Q (out_of_service cause most slot b)
  pub rests : RestsKeep E Q

-- a rule along a path
along-keeps : (E : ℕ → Type 0) (Q : Bfq → Type 0) (rule : ℕ → Bfq → Option Bfq) → ((entity : ℕ) (b c : Bfq) → E entity → rule entity b ≡ Some c → Q b → Q c)
    → (entities : List ℕ) (b c : Bfq) → All E entities → along rule entities b ≡ Some c → Q b → Q c
along-keeps E Q rule each [] b c all e h = subst Q (some_is b c e) h
along-keeps E Q rule each (entity ∷ entities) b c all e h =
    let first = and_then_is (along rule entities) (rule entity b) c e in
    along-keeps E Q rule each entities first.0 c (All-tail E entity entities all) first.2 (each entity b first.0 (All-head E entity entities all) first.1 h)

-- what a rule gives that may be refused
pub unrefused : (test : Bool) (made b : Bfq) → cond test (Some made) None ≡ Some b → (test ≡ true) × (made ≡ b)
unrefused true made b e = (refl, some_is made b e)
unrefused false made b e = cc

stamp-keeps : (E : ℕ → Type 0) (Q : Bfq → Type 0) → StampsKeep E Q → (start entity : ℕ) (b c : Bfq) → E entity → stamp start entity b ≡ Some c → Q b → Q c
stamp-keeps E Q k start entity b c on e h =
    let made = unrefused (nat_le (finish_from start entity b) top) (stamped start entity b) c e in
    subst Q made.1 (k b start entity on (leb-true (finish_from start entity b) top made.0) h)

-- Activate
pub activate_path-keeps : (E : ℕ → Type 0) (Q : Bfq → Type 0) → StampsKeep E Q → (entities : List ℕ) (b c : Bfq) → All E entities → activate_path entities b ≡ Some c → Q b → Q c
activate_path-keeps E Q k [] b c all e h = subst Q (some_is b c e) h
activate_path-keeps E Q k (entity ∷ entities) b c all e h =
    elim (is_idle (member_of b entity).state) as (λ t. cond t (option_and_then (activate_path entities) (stamp (start_from b entity) entity b)) (Some b) ≡ Some c → Q c) [
      | true ↦ λ f.
          let first = and_then_is (activate_path entities) (stamp (start_from b entity) entity b) c f in
          activate_path-keeps E Q k entities first.0 c (All-tail E entity entities all) first.2
          (stamp-keeps E Q k (start_from b entity) entity b first.0 (All-head E entity entities all) first.1 h)
      | false ↦ λ f. subst Q (some_is b c f) h
    ] e

-- Select
pub jumped-keeps : (Q : Bfq → Type 0) → JumpsKeep Q → (group : ℕ) (class : Class) (b : Bfq) → Q b → Q (jumped group class b)
jumped-keeps Q k group class b h =
    let least : Option ℕ = least_of b group class in
    elim (picked b group class) as (λ o. picked b group class ≡ o → Q (cond (is_some o) b (option_map_or (λ start. put_vtime group class start b) least b))) [
      | None ↦ λ nobody. elim least as (λ o. least ≡ o → Q (option_map_or (λ start. put_vtime group class start b) o b)) [
        | None ↦ λ _. h
        | Some start ↦ λ is. k b group class start nobody is h
      ] refl
      | Some entity ↦ λ _. h
    ] refl

taken-keeps : (Q : Bfq → Type 0) → Selects Q → (choose : ℕ → Bfq → Bfq) → ((g : ℕ) (c : Bfq) → Q c → Q (choose g c))
    → (group : ℕ) (class : Class) (b : Bfq) (entity : ℕ) → picked b group class ≡ Some entity → Q b → Q (taken choose group b entity)
taken-keeps Q k choose goes group class b entity is h =
    elim (nat_lt entity 16) as (λ t. nat_lt entity 16 ≡ t → Q (cond t (selected group entity b) (choose (entity - 16) (in_service group entity b)))) [
      | true ↦ λ small. k.begins b group class entity is (ltb-true entity 16 small) h
      | false ↦ λ high. goes (entity - 16) (in_service group entity b) (k.passes b group class entity is (ltb-false entity 16 high) h)
    ] refl

on_pick-keeps : (Q : Bfq → Type 0) (found : Option ℕ) (b : Bfq) (next : ℕ → Bfq) → Q b → ((entity : ℕ) → found ≡ Some entity → Q (next entity)) → Q (on_pick found b next)
on_pick-keeps Q None b next h each = h
on_pick-keeps Q (Some entity) b next h each = each entity refl

chosen_in-keeps : (Q : Bfq → Type 0) → Selects Q → (choose : ℕ → Bfq → Bfq) → ((g : ℕ) (c : Bfq) → Q c → Q (choose g c)) → (group : ℕ) (b : Bfq) (class : Class) → Q b → Q (chosen_in choose group b class)
chosen_in-keeps Q k choose goes group b class h =
    let c : Bfq = jumped group class b in
    let jump : Q c = jumped-keeps Q k.jumps group class b h in
    on_pick-keeps Q (picked c group class) c (taken choose group c) jump (λ entity is. taken-keeps Q k choose goes group class c entity is jump)

on_class-keeps : (Q : Bfq → Type 0) (found : Option Class) (b : Bfq) (next : Class → Bfq) → Q b → ((class : Class) → Q (next class)) → Q (on_class found b next)
on_class-keeps Q None b next h each = h
on_class-keeps Q (Some class) b next h each = each class

pub select_from-keeps : (Q : Bfq → Type 0) → Selects Q → (levels group : ℕ) (b : Bfq) → Q b → Q (select_from levels group b)
unfolding select_from
select_from-keeps Q k zero group b h = h
select_from-keeps Q k (suc levels) group b h =
    let choose : ℕ → Bfq → Bfq = λ g d. select_from levels g d in
    on_class-keeps Q (class_in b group) b (chosen_in choose group b) h (λ class. chosen_in-keeps Q k choose (λ g d. select_from-keeps Q k levels g d) group b class h)

pub select-keeps : (Q : Bfq → Type 0) → Selects Q → (b : Bfq) → Q b → Q (select b)
select-keeps Q k b h = select_from-keeps Q k 5 0 b h

-- Charge: the queue in service has more, and then the virtual times of its path rise
pub charge-is : (sectors : ℕ) (b c : Bfq) → charge sectors b ≡ Some c
    → (slot : InService) × (b.in_service ≡ Some slot) × (along (charge_one sectors) (path b.parent slot.seat) (served_more sectors slot b) ≡ Some c)
charge-is sectors b c e = and_then_is (λ slot. along (charge_one sectors) (path b.parent slot.seat) (served_more sectors slot b)) b.in_service c e

pub charges-keep : (Q : Bfq → Type 0) → RisesKeep Q → (sectors : ℕ) (entities : List ℕ) (b c : Bfq) → along (charge_one sectors) entities b ≡ Some c → Q b → Q c
charges-keep Q k sectors entities b c e h =
    along-keeps Any Q (charge_one sectors)
    (λ entity x y _ f i.
    let group : ℕ = group_of x entity in
    let class : Class = class_of x entity in
    let made = unrefused (nat_le (risen sectors group class x) top) (put_vtime group class (risen sectors group class x) x) y f in
    subst Q made.1 (k x group class (risen sectors group class x) (omega arith) (leb-true (risen sectors group class x) top made.0) i))
    entities b c (all_any entities) e h

pub charge-keeps : (most : ℕ) (E : ℕ → Type 0) (Q : Bfq → Type 0) → Changes most E Q → (sectors : ℕ) (b c : Bfq) → charge sectors b ≡ Some c → Q b → Q c
charge-keeps most E Q k sectors b c e h =
    let slot = charge-is sectors b c e in
    charges-keep Q k.rises sectors (path b.parent slot.0.seat) (served_more sectors slot.0 b) c slot.2 (k.charges b slot.0 sectors slot.1 h)

-- Expire: the queue is out of service, and then each entity of its path waits or rests
pub expire-is : (cause : Expiry) (most : ℕ) (queued : Bool) (b c : Bfq) → expire cause most queued b ≡ Some c
    → (slot : InService) × (b.in_service ≡ Some slot) × (along (expire_one slot.service queued) (path b.parent slot.seat) (out_of_service cause most slot b) ≡ Some c)
expire-is cause most queued b c e = and_then_is (λ slot. along (expire_one slot.service queued) (path b.parent slot.seat) (out_of_service cause most slot b)) b.in_service c e

expire_one-keeps : (E : ℕ → Type 0) (Q : Bfq → Type 0) → StampsKeep E Q → RestsKeep E Q → (service : ℕ) (queued : Bool) (entity : ℕ) (b c : Bfq) → E entity → expire_one service queued entity b ≡ Some c → Q b → Q c
expire_one-keeps E Q stamps rests service queued entity b c on e h =
    let finish : ℕ = ended service entity b in
    elim (nat_le finish top) as (λ t. nat_le finish top ≡ t → cond t (cond (is_backlogged queued entity b) (stamp finish entity b) (Some (rested finish entity b))) None ≡ Some c → Q c) [
      | true ↦ λ fits f. elim (is_backlogged queued entity b) as (λ t. cond t (stamp finish entity b) (Some (rested finish entity b)) ≡ Some c → Q c) [
        | true ↦ λ s. stamp-keeps E Q stamps finish entity b c on s h
        | false ↦ λ s. subst Q (some_is (rested finish entity b) c s) (rests b finish entity on (leb-true finish top fits) h)
      ] f
      | false ↦ λ _ f. cc
    ] refl e

pub expires-keep : (E : ℕ → Type 0) (Q : Bfq → Type 0) → StampsKeep E Q → RestsKeep E Q → (service : ℕ) (queued : Bool) (entities : List ℕ) (b c : Bfq)
    → All E entities → along (expire_one service queued) entities b ≡ Some c → Q b → Q c
expires-keep E Q stamps rests service queued = along-keeps E Q (expire_one service queued) (expire_one-keeps E Q stamps rests service queued)

pub expire-keeps : (most : ℕ) (E : ℕ → Type 0) (Q : Bfq → Type 0) → Changes most E Q → (cause : Expiry) (queued : Bool) (b c : Bfq) → expire cause most queued b ≡ Some c → Q b → Q c
expire-keeps most E Q k cause queued b c e h =
    let slot = expire-is cause most queued b c e in
    expires-keep E Q k.stamps k.rests slot.0.service queued (path b.parent slot.0.seat) (out_of_service cause most slot.0 b) c (k.paths b slot.0 slot.1 h) slot.2
    (k.ends b slot.0 cause slot.1 h)

-- Submit
pub woken-bfq : (E : ℕ → Type 0) (Q : Bfq → Type 0) → StampsKeep E Q → (m : Plain) (seat : ℕ) (next o : Plain) → All E (path m.bfq.parent seat) → woken m seat next ≡ Some o → Q m.bfq → Q next.bfq → Q o.bfq
woken-bfq E Q k m seat next o all e h same =
    let P : Plain → Type 0 = λ x. Q x.bfq in
    elim (is_bfq m.scheduler && is_empty (m.queue seat)) as (λ t. cond t (option_map (λ b. record next { bfq = b }) (activate seat m.bfq)) (Some next) ≡ Some o → Q o.bfq) [
      | true ↦ λ is.
          let a = map_is (λ b. record next { bfq = b }) (activate seat m.bfq) o is in
          subst P a.2 (activate_path-keeps E Q k (path m.bfq.parent seat) m.bfq a.0 all a.1 h)
      | false ↦ λ is. subst P (some_is next o is) same
    ] e

-- Dispatch
pub with_budget_in-keeps : (l : Limits) (E : ℕ → Type 0) (Q : Bfq → Type 0) → Changes l.max_budget E Q → (m : Plain) (slot : Option InService) (b : Bfq) → with_budget_in l m slot ≡ Some b → Q m.bfq → Q b
with_budget_in-keeps l E Q k m None b e h = subst Q (some_is m.bfq b e) h
with_budget_in-keeps l E Q k m (Some slot) b e h =
    let full : Bool = nat_lt (m.bfq.budget slot.seat) (slot.service + next_size m slot.seat) in
    let queued : Bool = has_queued m slot.seat in
    elim (nat_le l.timeout slot.age) as (λ t. cond t (expire Timeout l.max_budget queued m.bfq) (cond full (expire Exhaustion l.max_budget queued m.bfq) (Some m.bfq)) ≡ Some b → Q b) [
      | true ↦ λ late. expire-keeps l.max_budget E Q k Timeout queued m.bfq b late h
      | false ↦ λ early. elim full as (λ t. cond t (expire Exhaustion l.max_budget queued m.bfq) (Some m.bfq) ≡ Some b → Q b) [
        | true ↦ λ over. expire-keeps l.max_budget E Q k Exhaustion queued m.bfq b over h
        | false ↦ λ fits. subst Q (some_is m.bfq b fits) h
      ] early
    ] e

pub with_selected-keeps : (Q : Bfq → Type 0) → Selects Q → (b : Bfq) → Q b → Q (with_selected b)
with_selected-keeps Q k b h = elim (is_none b.in_service) as (λ t. Q (cond t (select b) b)) [ true ↦ select-keeps Q k b h | false ↦ h ]

without_empty-keeps : (l : Limits) (E : ℕ → Type 0) (Q : Bfq → Type 0) → Changes l.max_budget E Q → (queue : List WholeRequest) (b c : Bfq) → without_empty l queue b ≡ Some c → Q b → Q c
without_empty-keeps l E Q k queue b c e h = elim (is_empty queue) as (λ t. cond t (expire Emptying l.max_budget false b) (Some b) ≡ Some c → Q c) [
  | true ↦ λ f. expire-keeps l.max_budget E Q k Emptying false b c f h
  | false ↦ λ f. subst Q (some_is b c f) h
] e

pub sent_by_bfq-rules : (l : Limits) (E : ℕ → Type 0) (Q : Bfq → Type 0) → Changes l.max_budget E Q → (m : Plain) (n tag : ℕ) (o : Plain × Reply) → sent_by_bfq l m n tag ≡ Some o → Q m.bfq → Q o.0.bfq
sent_by_bfq-rules l E Q k m n tag o e h =
    let s = sent-is l m n tag o e in
    let chosen : Q (with_selected s.ready) = with_selected-keeps Q k.selects s.ready (with_budget_in-keeps l E Q k m m.bfq.in_service s.ready s.readies h) in
    let charged : Q s.charged = charge-keeps l.max_budget E Q k (range_of s.request.bios).count (with_selected s.ready) s.charged s.charges chosen in
    let P : Plain × Reply → Type 0 = λ x. Q x.0.bfq in
    subst P s.made (without_empty-keeps l E Q k (rest_of m s.slot.seat s.request) s.charged s.last s.ends charged)
