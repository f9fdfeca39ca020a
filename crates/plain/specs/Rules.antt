-- The four rules of BFQ, on the plain machine: activate, select, charge and expire.
use Rattle.std.specs.Prelude.{ℕ, zero, suc, ◌+◌, ◌-◌, ◌*◌, ◌/◌, ◌^◌, ◌==◌, nat_le, nat_lt, min, max, Bool, true, false, List, [], ◌∷◌, Option, None, Some, is_some, unwrap_or, if◌then◌else◌, slice_index_or}
use Rattle.std.specs.Option.{option_and_then, option_map_or}
use Rattle.sector_core.specs.declared.class.Class.{Class}
use Rattle.sector_core.specs.declared.class.Class.TheVariants.{BestEffort}
use Rattle.plain.specs.declared.member.State.{State}
use Rattle.plain.specs.declared.member.State.TheVariants.{Idle, Active, Serving}
use Rattle.plain.specs.declared.member.Member.{Member}
use Rattle.plain.specs.declared.member.Vtimes.{Vtimes}
use Rattle.plain.specs.Classes.{first_class, of_class, with_time, with_member, with_vtimes}
use Rattle.plain.specs.Members.{weight_sum, least_start, pick, Service}
use Rattle.plain.specs.Groups.{path, has_entity}
use Rattle.plain.specs.declared.seat.InService.{InService}
use Rattle.plain.specs.Machine.{Bfq, put}
use Rattle.plain.specs.declared.seat.Expiry.{Expiry}
use Rattle.plain.specs.declared.seat.Expiry.TheVariants.{Exhaustion, Timeout, Emptying}

-- no time is greater; a rule that would make a greater one is refused (our profile)
abbrev pub top : ℕ
top = 2 ^ 62

-- the virtual time that the service of some sectors takes at a weight (B-WF2Q+; the scale is our profile; for weight 0, which no entity
-- has, it is 0)
abbrev pub delta : ℕ → ℕ → ℕ
delta sectors weight = if weight == 0 then 0 else sectors * 2 ^ 22 / weight

-- What is known of an entity and of a group.

-- the group that an entity is in; the root if it is in none (bfq; the root for none is our profile)
abbrev pub group_of : Bfq → ℕ → ℕ
group_of b entity = unwrap_or (b.parent entity) 0

-- what is known of an entity that is no member (our profile)
abbrev pub absent : Member
absent = record { class = BestEffort; state = Idle; start = 0; finish = 0; weight = 0 }

-- what a group knows of an entity (B-WF2Q+)
abbrev pub member_in : Bfq → ℕ → ℕ → Member
member_in b group entity = unwrap_or (slice_index_or (b.service group).members entity None) absent

-- what its own group knows of an entity (B-WF2Q+)
abbrev pub member_of : Bfq → ℕ → Member
member_of b entity = member_in b (group_of b entity) entity

-- the class of an entity (bfq)
abbrev pub class_of : Bfq → ℕ → Class
class_of b entity = (member_of b entity).class

-- a class of a group: its virtual time, and its members by number (B-WF2Q+ in each class; the classes are bfq's)
abbrev pub service_in : Bfq → ℕ → Class → Service
service_in b group class = of_class class (b.service group)

-- the virtual time of a class of a group (B-WF2Q+)
abbrev pub vtime_of : Bfq → ℕ → Class → ℕ
vtime_of b group class = (service_in b group class).vtime

-- the sum of the weights in a class of a group, at its virtual time (B-WF2Q+; who counts is our profile)
abbrev pub wsum : Bfq → ℕ → Class → ℕ
wsum b group class = weight_sum (vtime_of b group class) (service_in b group class).members

-- a group with this member at an entity's place (B-WF2Q+)
abbrev pub put_member : ℕ → ℕ → Member → Bfq → Bfq
put_member group entity member b = record b { service = put b.service group (with_member (b.service group) entity (Some member)) }

-- a group with these virtual times of its classes (B-WF2Q+)
abbrev pub put_vtimes : ℕ → Vtimes → Bfq → Bfq
put_vtimes group vtimes b = record b { service = put b.service group (with_vtimes (b.service group) vtimes) }

-- a group with this virtual time of one class (B-WF2Q+)
abbrev pub put_vtime : ℕ → Class → ℕ → Bfq → Bfq
put_vtime group class vtime b = put_vtimes group (with_time (b.service group).vtimes class vtime) b

-- an entity in this state has nothing to send (B-WF2Q+: not backlogged)
abbrev pub is_idle : State → Bool
is_idle Idle = true
is_idle Active = false
is_idle Serving = false

-- a rule at each entity of a path, the leaf first, until one is refused (our profile)
abbrev pub along : (ℕ → Bfq → Option Bfq) → List ℕ → Bfq → Option Bfq
along rule [] b = Some b
along rule (entity ∷ entities) b = option_and_then (along rule entities) (rule entity b)

-- Stamping: an entity gets a weight, a start and a finish, and waits to be picked (B-WF2Q+).

-- the finish of an entity: its start, and the virtual time that its budget takes at its pending weight (B-WF2Q+)
abbrev pub finish_from : ℕ → ℕ → Bfq → ℕ
finish_from start entity b = start + delta (b.budget entity) (b.pending entity)

-- an entity with this start, and with its pending weight in effect from now on (B-WF2Q+; pending weights are our profile)
abbrev pub stamped : ℕ → ℕ → Bfq → Bfq
stamped start entity b =
    put_member (group_of b entity) entity (record (member_of b entity) { state = Active; start = start; finish = finish_from start entity b; weight = b.pending entity }) b

-- an entity is stamped if its finish is no time too great (B-WF2Q+; the refusal is our profile)
abbrev pub stamp : ℕ → ℕ → Bfq → Option Bfq
stamp start entity b = if nat_le (finish_from start entity b) top then Some (stamped start entity b) else None

-- Activate: a session with something to send waits to be picked, and so do the groups above it (B-WF2Q+; bfq has the groups).

-- the start of an entity that was idle: the later of its last finish and the virtual time of its class in its group (B-WF2Q+)
abbrev pub start_from : Bfq → ℕ → ℕ
start_from b entity = max (vtime_of b (group_of b entity) (class_of b entity)) (member_of b entity).finish

-- the entities of a path are stamped, the first one first, up to one that is not idle (B-WF2Q+; the refusal is our profile)
abbrev pub activate_path : List ℕ → Bfq → Option Bfq
activate_path [] b = Some b
activate_path (entity ∷ entities) b =
    if is_idle (member_of b entity).state then option_and_then (activate_path entities) (stamp (start_from b entity) entity b) else Some b

-- the path of a session is stamped, from the session up (B-WF2Q+)
abbrev pub activate : ℕ → Bfq → Option Bfq
activate seat b = activate_path (path b.parent seat) b

-- Select: from the root down to a session, at each level the highest class with an active child (bfq), and of that class the pick (B-WF2Q+).
-- The session's queue is in service then, with no sector sent yet (bfq).

-- the class from which a group's next entity is taken: its highest with an active member, if there is one (bfq)
abbrev pub class_in : Bfq → ℕ → Option Class
class_in b group = first_class (b.service group).members

-- the entity to be taken from a class of a group, if one of the class is eligible (B-WF2Q+)
abbrev pub picked : Bfq → ℕ → Class → Option ℕ
picked b group class = pick (vtime_of b group class) (service_in b group class).members

-- the virtual time of a class becomes the least start of its active members if nobody of it is eligible (B-WF2Q+)
abbrev pub jumped : ℕ → Class → Bfq → Bfq
jumped group class b =
    if is_some (picked b group class) then b else option_map_or (λ start. put_vtime group class start b) (least_start (service_in b group class).members) b

-- an entity of a group is served from now on (B-WF2Q+)
abbrev pub in_service : ℕ → ℕ → Bfq → Bfq
in_service group entity b = put_member group entity (record (member_in b group entity) { state = Serving }) b

-- what follows if an entity was picked; else nothing changes (our profile)
abbrev pub on_pick : Option ℕ → Bfq → (ℕ → Bfq) → Bfq
on_pick None b taken = b
on_pick (Some entity) b taken = taken entity

-- an entity is taken: a session's queue is in service now; in a group the choice goes on (bfq)
abbrev pub taken : (ℕ → Bfq → Bfq) → ℕ → Bfq → ℕ → Bfq
taken choose group b entity =
    if nat_lt entity 16 then record (in_service group entity b) { in_service = Some (record { seat = entity; service = 0; age = 0 }) }
    else choose (entity - 16) (in_service group entity b)

-- the choice in one class of a group, after its virtual time has jumped if it has to (B-WF2Q+)
abbrev pub chosen_in : (ℕ → Bfq → Bfq) → ℕ → Bfq → Class → Bfq
chosen_in choose group b class = on_pick (picked (jumped group class b) group class) (jumped group class b) (taken choose group (jumped group class b))

-- what follows if a class has an active member; else nothing changes (our profile)
abbrev pub on_class : Option Class → Bfq → (Class → Bfq) → Bfq
on_class None b chosen = b
on_class (Some class) b chosen = chosen class

-- the choice in a group, and then in the groups under it, over so many levels at most (bfq; a greatest number is our profile)
unfoldable pub select_from : ℕ → ℕ → Bfq → Bfq
select_from zero group b = b
select_from (suc levels) group b = on_class (class_in b group) b (chosen_in (λ h c. select_from levels h c) group b)

-- the choice over the root and four levels of groups under it (bfq; the four are our profile)
abbrev pub select : Bfq → Bfq
select b = select_from 5 0 b

-- Charge: what has been sent counts for the queue in service, and the virtual times on its path rise (B-WF2Q+).

-- the virtual time of a class of a group, with the share of these sectors in its sum of weights as it was before (B-WF2Q+)
abbrev pub risen : ℕ → ℕ → Class → Bfq → ℕ
risen sectors group class b = vtime_of b group class + delta sectors (wsum b group class)

-- the virtual time of an entity's class in its group rises, if it is no time too great then (B-WF2Q+; the refusal is our profile)
abbrev pub charge_one : ℕ → ℕ → Bfq → Option Bfq
charge_one sectors entity b =
    if nat_le (risen sectors (group_of b entity) (class_of b entity) b) top
    then Some (put_vtime (group_of b entity) (class_of b entity) (risen sectors (group_of b entity) (class_of b entity) b) b)
    else None

-- the queue in service has been sent these sectors too (bfq)
abbrev pub served_more : ℕ → InService → Bfq → Bfq
served_more sectors current b = record b { in_service = Some (record current { service = current.service + sectors }) }

-- some sectors are charged to the queue in service and to each entity of its path, the session first; with no queue it is refused (B-WF2Q+; the
-- refusal is our profile)
abbrev pub charge : ℕ → Bfq → Option Bfq
charge sectors b = option_and_then (λ current. along (charge_one sectors) (path b.parent current.seat) (served_more sectors current b)) b.in_service

-- Expire: the session gets a new budget, by the cause (bfq), and its path leaves the service (B-WF2Q+).

-- a queue's new budget: four or two times as great, up to the greatest, if it was used up or its time was over; and what was served, but at least
-- 256 sectors, if the queue is empty (bfq; the numbers are our profile)
abbrev pub budget_after : Expiry → ℕ → ℕ → ℕ → ℕ
budget_after Exhaustion budget service most = min (4 * budget) most
budget_after Timeout budget service most = min (2 * budget) most
budget_after Emptying budget service most = max service 256

-- the start with what the service took, at the weight in effect (B-WF2Q+)
abbrev pub ended : ℕ → ℕ → Bfq → ℕ
ended service entity b = (member_of b entity).start + delta service (member_of b entity).weight

-- there is more to serve: the session's queue is not empty, or the group has an active child, of whatever class (B-WF2Q+; the classes are bfq's)
abbrev pub is_backlogged : Bool → ℕ → Bfq → Bool
is_backlogged queued entity b = if nat_lt entity 16 then queued else is_some (class_in b (entity - 16))

-- an entity with no more to serve is idle, its start and its finish at this time (B-WF2Q+; the start is our profile)
abbrev pub rested : ℕ → ℕ → Bfq → Bfq
rested finish entity b = put_member (group_of b entity) entity (record (member_of b entity) { state = Idle; start = finish; finish = finish }) b

-- an entity comes to the finish of what it was really served, and is stamped anew from there, or idle (B-WF2Q+; the refusal is our profile)
abbrev pub expire_one : ℕ → Bool → ℕ → Bfq → Option Bfq
expire_one service queued entity b =
    if nat_le (ended service entity b) top
    then if is_backlogged queued entity b then stamp (ended service entity b) entity b else Some (rested (ended service entity b) entity b)
    else None

-- no queue is in service any more, and the one that was has its new budget (bfq)
abbrev pub out_of_service : Expiry → ℕ → InService → Bfq → Bfq
out_of_service cause most current b = record b { budget = put b.budget current.seat (budget_after cause (b.budget current.seat) current.service most); in_service = None }

-- the queue in service expires for a cause, and each entity of its path leaves the service; with no queue it is refused (bfq; B-WF2Q+ for the times;
-- the refusal is our profile)
abbrev pub expire : Expiry → ℕ → Bool → Bfq → Option Bfq
expire cause most queued b =
    option_and_then (λ current. along (expire_one current.service queued) (path b.parent current.seat) (out_of_service cause most current b)) b.in_service

-- a group stands: the root always, another one if its entity is in a group (bfq; the numbers are our profile)
abbrev pub stands : Bfq → ℕ → Bool
stands b group = if group == 0 then true else if has_entity group then is_some (b.parent (16 + group)) else false
