-- Without room in the history no step is accepted.
use Rattle.std.proofs.Common.{ℕ, List, [], ◌∷◌, ◌++◌, Option, Some, None, Bool, true, false, cond}
use Rattle.plain.specs.Lists.{first_of}
use Rattle.sector_core.specs.declared.bio.Outcome.{Outcome}
use Rattle.sector_core.specs.declared.bio.BioFields.{BioFields as Bio}
use Rattle.plain.specs.Machine.{Plain, Flight, WholeRequest}
use Rattle.plain.specs.declared.seat.InService.{InService}
use Rattle.plain.specs.declared.answer.Answer.{Answer}
use Rattle.plain.specs.declared.step.Step.{Step}
use Rattle.plain.specs.declared.step.Step.TheVariants.{Attach, Submit, Reap, Leave, Dispatch, Finish, Requeue, GroupMake, GroupDrop, SetWeight, Freeze, Thaw, Switch, Tick}
use Rattle.plain.specs.declared.answer.Code.TheVariants.{BadSeat, SeatTaken, NoGroup, BadPrio, BadCount, BadLength, OutOfRange, TooManyBios, NothingOwed, BadTag, NotInFlight, BadOutcome, BadWeight, TooDeep, GroupInUse, AlreadyFrozen, NotFrozen, NotDrained, SameScheduler, HistoryFull}
use Rattle.plain.specs.declared.answer.Cause.TheVariants.{Frozen, RequestsFull}
use Rattle.plain.specs.declared.answer.Answer.TheVariants.{Refused, NotYet}
use Rattle.std.specs.Prelude.{◌+◌, ◌==◌, nat_le, nat_lt, not, ◌||◌, ◌&&◌, is_some, length}
use Rattle.plain.specs.Opening.{Limits}
use Rattle.plain.specs.Tests.{StepResult, unless, accepted_if}
use Rattle.plain.specs.Sessions.{seat_tests, unreaped, session_tests}
use Rattle.plain.specs.Steps.Submit.{payload_length, needs_request, woken, submitted}
use Rattle.plain.specs.Requests.{requests_of, size_of}
use Rattle.plain.specs.Steps.Switch.{is_same}
use Rattle.plain.specs.Steps.Requeue.{requeue_of, requeued}
use Rattle.plain.specs.Steps.Dispatch.{dispatch_of, sent_again, sent, sent_by, sent_by_bfq, dispatch_to, next_queue, lowest_free}
use Rattle.plain.specs.Steps.Tick.{ticked}
use Rattle.plain.specs.Steps.Finish.{effect_of, fits, finished, finish_of}
use Rattle.plain.specs.Steps.Reap.{reaped}
use Rattle.plain.specs.Steps.GroupMake.{made_group, free_group}
use Rattle.plain.specs.Entities.{group_tests, is_weight}
use Rattle.plain.specs.Steps.GroupDrop.{is_used}
use Rattle.plain.specs.Step.{step, IsAccepted}
use Rattle.std.specs.Option.{option_map}
use Rattle.sector_core.specs.declared.config.Scheduler.{Scheduler}
use Rattle.sector_core.specs.declared.config.Scheduler.TheVariants.{Plain as PlainScheduler, Bfq as BfqScheduler}
use Rattle.plain.specs.Groups.{depth, most_levels}
use Rattle.plain.specs.Rules.{stands}
use Rattle.plain.specs.declared.answer.Reply.{Reply}
use Rattle.plain.specs.declared.answer.Reply.TheVariants.{Queued}

-- no test of the list accepts
abbrev AllRefuse : List (Bool × Answer) → Type 0
AllRefuse [] = Unit {0}
AllRefuse (x ∷ xs) = (IsAccepted x.1 → ⊥) × AllRefuse xs

-- where every test refuses, what follows them does not accept either
refuses : (tests : List (Bool × Answer)) (m : Plain) (o : StepResult) → AllRefuse tests → (IsAccepted o.1 → ⊥) → IsAccepted (unless tests m o).1 → ⊥
refuses [] m o h none = none
refuses (x ∷ xs) m o h none =
    elim x.0 as (λ b. IsAccepted (elim (cond b (Some x.1) (first_of xs)) as (λ _. StepResult) [ None ↦ o | Some answer ↦ (m, answer) ]).1 → ⊥) [
      | true ↦ h.0
      | false ↦ refuses xs m o h.1 none
    ]

no_reap : (m : Plain) (seat : ℕ) (bios : List Bio) → IsAccepted (reaped false m seat bios).1 → ⊥
no_reap m seat [] h = h
no_reap m seat (bio ∷ bios) h = h

no_send : (m : Plain) (n seat tag : ℕ) (requests : List WholeRequest) → IsAccepted (sent m n false seat tag requests).1 → ⊥
no_send m n seat tag [] h = h
no_send m n seat tag (r ∷ rs) h = h

-- nor is one with a rule
no_rule : (m : Plain) (o : Option (Plain × Reply)) → IsAccepted (accepted_if false m o).1 → ⊥
no_rule m None h = h
no_rule m (Some next) h = h

no_scheduler : (l : Limits) (m : Plain) (n seat tag : ℕ) (scheduler : Scheduler) → IsAccepted (sent_by l m n false seat tag scheduler).1 → ⊥
no_scheduler l m n seat tag PlainScheduler h = no_send m n seat tag (m.queue seat) h
no_scheduler l m n seat tag BfqScheduler h = no_rule m (sent_by_bfq l m n tag) h

no_dispatch : (l : Limits) (m : Plain) (n : ℕ) (seat tag : Option ℕ) → IsAccepted (dispatch_to l m n false seat tag).1 → ⊥
no_dispatch l m n None tag h = h
no_dispatch l m n (Some seat) None h = h
no_dispatch l m n (Some seat) (Some tag) h = no_scheduler l m n seat tag m.scheduler h

no_group : (l : Limits) (m : Plain) (parent weight : ℕ) (group : Option ℕ) → IsAccepted (made_group l m false parent weight group).1 → ⊥
no_group l m parent weight None h = h
no_group l m parent weight (Some group) h = h

no_finish : (l : Limits) (m : Plain) (tag issue : ℕ) (outcome : Outcome) (f : Option Flight) → IsAccepted (finish_of l m false tag issue outcome f).1 → ⊥
no_finish l m tag issue outcome None h = h
no_finish l m tag issue outcome (Some f) h = refuses (
    (not (f.issue == issue), Refused NotInFlight)
    ∷ (not (fits f.request.op (size_of f.request.bios) outcome), Refused BadOutcome)
    ∷ []) m (finished l m false tag (effect_of outcome f.request.op) f.request) ((λ h. h), ((λ h. h), tt)) (λ h. h) h

no_requeue : (m : Plain) (tag issue : ℕ) (f : Option Flight) → IsAccepted (requeue_of m false tag issue f).1 → ⊥
no_requeue m tag issue None h = h
no_requeue m tag issue (Some f) h = refuses ((not (f.issue == issue), Refused NotInFlight) ∷ []) m (requeued m false tag f.request) ((λ h. h), tt) (λ h. h) h

no_sent_again : (m : Plain) (n : ℕ) (request : WholeRequest) (requests : List WholeRequest) (tag : Option ℕ) → IsAccepted (sent_again m n false request requests tag).1 → ⊥
no_sent_again m n request requests None h = h
no_sent_again m n request requests (Some tag) h = h

no_dispatch_of : (l : Limits) (m : Plain) (n : ℕ) (requests : List WholeRequest) → IsAccepted (dispatch_of l m n false requests).1 → ⊥
no_dispatch_of l m n [] h = no_dispatch l m n (next_queue m) (lowest_free l m) h
no_dispatch_of l m n (request ∷ requests) h = no_sent_again m n request requests (lowest_free l m) h

no_tick : (m : Plain) (slot : Option InService) → IsAccepted (ticked m false slot).1 → ⊥
no_tick m None h = h
no_tick m (Some slot) h = h

pub no_room : (l : Limits) (m : Plain) (n : ℕ) (s : Step) → IsAccepted (step l m n false s).1 → ⊥
no_room l m n (Attach seat group prio class) h = refuses (
    (nat_le 16 seat, Refused BadSeat)
    ∷ (is_some (m.seat seat), Refused SeatTaken)
    ∷ (not (stands m.bfq group), Refused NoGroup)
    ∷ (nat_lt 7 prio, Refused BadPrio)
    ∷ []) m (m, Refused HistoryFull) ((λ h. h), ((λ h. h), ((λ h. h), ((λ h. h), tt)))) (λ h. h) h
no_room l m n (Submit seat session op range payload) h = refuses (seat_tests m seat session ++ (
    (range.count == 0 || nat_lt 64 range.count, Refused BadCount)
    ∷ (not (length payload == payload_length op range.count), Refused BadLength)
    ∷ (nat_lt l.sectors (range.start + range.count), Refused OutOfRange)
    ∷ (m.frozen, NotYet Frozen)
    ∷ (nat_le 32 (unreaped m seat), Refused TooManyBios)
    ∷ (needs_request m seat session op range && nat_le l.requests (requests_of l m), NotYet RequestsFull)
    ∷ [])) m (accepted_if false m (option_map (λ next. (next, Queued n)) (woken m seat (submitted m n seat session op range payload))))
    ((λ h. h), ((λ h. h), ((λ h. h), ((λ h. h), ((λ h. h), ((λ h. h), ((λ h. h), ((λ h. h), ((λ h. h), tt))))))))) (no_rule m _) h
no_room l m n (Reap seat session) h = refuses (seat_tests m seat session ++ (
    (unreaped m seat == 0, Refused NothingOwed)
    ∷ [])) m (reaped false m seat (m.outbox seat)) ((λ h. h), ((λ h. h), ((λ h. h), ((λ h. h), tt)))) (no_reap m seat (m.outbox seat)) h
no_room l m n (Leave seat why) h = refuses (session_tests m seat) m (m, Refused HistoryFull) ((λ h. h), ((λ h. h), tt)) (λ h. h) h
no_room l m n Dispatch h = no_dispatch_of l m n m.requeued h
no_room l m n (Finish tag issue outcome) h = refuses ((nat_le l.tags tag, Refused BadTag) ∷ []) m (finish_of l m false tag issue outcome (m.flight tag)) ((λ h. h), tt) (no_finish l m tag issue outcome (m.flight tag)) h
no_room l m n (Requeue tag issue) h = refuses ((nat_le l.tags tag, Refused BadTag) ∷ []) m (requeue_of m false tag issue (m.flight tag)) ((λ h. h), tt) (no_requeue m tag issue (m.flight tag)) h
no_room l m n (GroupMake parent weight) h = refuses (
    (not (stands m.bfq parent), Refused NoGroup)
    ∷ (not (is_weight weight), Refused BadWeight)
    ∷ (nat_le most_levels (depth m.bfq.parent parent), Refused TooDeep)
    ∷ []) m (made_group l m false parent weight (free_group m.bfq)) ((λ h. h), ((λ h. h), ((λ h. h), tt))) (no_group l m parent weight (free_group m.bfq)) h
no_room l m n (GroupDrop group) h = refuses (group_tests m group ++ (
    (is_used m.bfq group, Refused GroupInUse)
    ∷ [])) m (m, Refused HistoryFull) ((λ h. h), ((λ h. h), ((λ h. h), tt))) (λ h. h) h
no_room l m n (SetWeight group weight) h = refuses (group_tests m group ++ (
    (not (is_weight weight), Refused BadWeight)
    ∷ [])) m (m, Refused HistoryFull) ((λ h. h), ((λ h. h), ((λ h. h), tt))) (λ h. h) h
no_room l m n Freeze h = refuses ((m.frozen, Refused AlreadyFrozen) ∷ []) m (m, Refused HistoryFull) ((λ h. h), tt) (λ h. h) h
no_room l m n Thaw h = refuses ((not m.frozen, Refused NotFrozen) ∷ []) m (m, Refused HistoryFull) ((λ h. h), tt) (λ h. h) h
no_room l m n (Switch scheduler) h = refuses (
    (not m.frozen, Refused NotFrozen)
    ∷ (nat_lt 0 (requests_of l m), Refused NotDrained)
    ∷ (is_same scheduler m.scheduler, Refused SameScheduler)
    ∷ []) m (m, Refused HistoryFull) ((λ h. h), ((λ h. h), ((λ h. h), tt))) (λ h. h) h
no_room l m n Tick h = no_tick m m.bfq.in_service h
