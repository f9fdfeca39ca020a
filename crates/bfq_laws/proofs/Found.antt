-- On the machine of every keeper a dispatch under BFQ finds a queue and a request, a session's entity waits or is served exactly where,
-- under BFQ, its queue is not empty, a group's tree has just the entities that are in the group, and a queue the requests of its session.
use Rattle.std.proofs.Common.{true, false, Bool, not, ◌&&◌, cond, ◌≡◌, ℕ, List, [], Option, Some, None, is_some, refl, sym, ap, ◌∙◌}
use Rattle.plain.specs.Lists.{is_empty}
use Rattle.plain.specs.declared.seat.InService.{InService}
use Rattle.plain.specs.Machine.{WholeRequest, Plain}
use Rattle.plain.specs.Rules.{member_of, is_idle}
use Rattle.plain.specs.declared.call.Call.{Call}
use Rattle.plain.specs.Opening.{Limits}
use Rattle.plain.specs.Entities.{is_bfq}
use Rattle.plain.specs.Steps.Dispatch.{with_selected}
use Rattle.plain.specs.Keeper.{machine_of}
use Rattle.plain.specs.Headline.{replay}
use Rattle.bfq_laws.specs.Found.{DispatchFindsARequest, EachDispatchFindsARequest}
use Rattle.bfq_laws.specs.Busy.{BusySessionsWaitOrAreServed}
use Rattle.bfq_laws.specs.Members.{AreMembers, EntitiesAreMembers}
use Rattle.bfq_laws.specs.Queues.{QueuesAreOfTheirSessions}
use Rattle.bfq_laws.proofs.Tree.{idle}
use Rattle.bfq_laws.proofs.Busy.{Busy, Tidy, with_budget_in-busy, with_selected-busy}
use Rattle.bfq_laws.proofs.Shape.{parent-at}
use Rattle.bfq_laws.proofs.Calm.{Calm, calm-tidy}
use Rattle.bfq_laws.proofs.Choosing.{slot-found}
use Rattle.bfq_laws.proofs.Upcoming.{next-some, next_queue-is}
use Rattle.bfq_laws.proofs.Sound.{Sound, with_budget_in-alive, machine-sound}

-- a queue and its request are found
some_slot : (o : Option InService) → is_some o ≡ true → (slot : InService) × (o ≡ Some slot)
some_slot None e = cc
some_slot (Some slot) e = (slot, refl)

finds : (l : Limits) (m : Plain) → Sound m → DispatchFindsARequest l m
finds l m h under some b e =
    let tidy : Tidy m = calm-tidy m under h.calm in
    let next = next_queue-is m some in
    let k : ℕ = next.0 in
    let full : is_empty (m.queue k) ≡ false = next.2 in
    let taken : is_some (m.seat k) ≡ true = elim (is_some (m.seat k)) as (λ t. is_some (m.seat k) ≡ t → t ≡ true) [
      | true ↦ λ _. refl
      | false ↦ λ no. let empty : is_empty (m.queue k) ≡ true = tidy.free k no in cc
    ] refl in
    let busy : Busy m.seat m.queue b = with_budget_in-busy l m m.bfq.in_service b refl e tidy.busy in
    let awake : idle b k ≡ false = busy.rests k next.1 taken ∙ full in
    let slot = some_slot (with_selected b).in_service (slot-found b (with_budget_in-alive l m m.bfq.in_service b e tidy h.alive) k awake) in
    let ready : Busy m.seat m.queue (with_selected b) = with_selected-busy m.seat m.queue b busy in
    (slot.0, slot.1, next-some m slot.0.seat (ready.serves slot.0 slot.1).2)

-- the laws
pub dispatch-finds : (l : Limits) (most : ℕ) (journal : List Call) → EachDispatchFindsARequest l most journal
dispatch-finds l most journal = finds l (machine_of (replay l most journal)) (machine-sound l most journal)

-- where this queue is known or not
seen-busy : (known idle : Bool) (xs : List WholeRequest) → idle ≡ is_empty (cond known xs []) → not idle ≡ (known && not (is_empty xs))
seen-busy true idle xs e = ap not e
seen-busy false idle xs e = ap not e

seen-served : (known : Bool) (xs : List WholeRequest) → is_empty (cond known xs []) ≡ false → (known ≡ true) × (is_empty xs ≡ false)
seen-served true xs e = (refl, e)
seen-served false xs e = cc

pub busy-not-idle : (l : Limits) (most : ℕ) (journal : List Call) → BusySessionsWaitOrAreServed l most journal
busy-not-idle l most journal =
    let m : Plain = machine_of (replay l most journal) in
    let calm : Calm m = (machine-sound l most journal).calm in (
      λ seat lt sits. seen-busy (is_bfq m.scheduler) (is_idle (member_of m.bfq seat).state) (m.queue seat) (calm.busy.rests seat lt sits),
      λ slot at. seen-served (is_bfq m.scheduler) (m.queue slot.seat) (calm.busy.serves slot at).2,
    )

members-are : (m : Plain) → Sound m → AreMembers m.bfq
members-are m h =
    let above : ℕ → Option ℕ = h.alive.above in
    let same : (e : ℕ) → m.bfq.parent e ≡ above e = λ e. parent-at above h.alive.st m.bfq e h.alive.at in (
      λ group e there. same e ∙ h.alive.at.places.known group e there,
      λ group e up. h.alive.at.places.there group e (sym (same e) ∙ up),
    )

pub entities-members : (l : Limits) (most : ℕ) (journal : List Call) → EntitiesAreMembers l most journal
entities-members l most journal = members-are (machine_of (replay l most journal)) (machine-sound l most journal)

pub queues-owned : (l : Limits) (most : ℕ) (journal : List Call) → QueuesAreOfTheirSessions l most journal
queues-owned l most journal = (machine-sound l most journal).owned
