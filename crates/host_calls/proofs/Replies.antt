-- What a call is answered is the reply of its own kind, or a refusal, or why it has to wait.
use Rattle.std.proofs.Common.{true, false, Bool, ◌≡◌, inl, inr, ℕ, ◌+◌, ◌-◌, ◌≤◌, ◌==◌, ◌||◌, ◌&&◌, nat_le, nat_lt, not, length, is_some, List, [], ◌∷◌, ◌++◌, All, Option, Some, None, cond, unwrap_or, refl, sym, subst, ap}
use Rattle.std.specs.Option.{option_map}
use Rattle.std.proofs.lemmas.List.Elements.{All-head}
use Rattle.plain.specs.Lists.{first_of}
use Rattle.sector_core.specs.declared.bio.BioFields.{BioFields as Bio}
use Rattle.sector_core.specs.declared.bio.BioResult.{BioResult}
use Rattle.sector_core.specs.declared.bio.BioResult.TheVariants.{Read, Written, Discarded, IoError}
use Rattle.sector_core.specs.declared.bio.Outcome.{Outcome}
use Rattle.sector_core.specs.declared.config.Scheduler.{Scheduler}
use Rattle.sector_core.specs.declared.config.Scheduler.TheVariants.{Plain as PlainScheduler, Bfq as BfqScheduler}
use Rattle.plain.specs.Groups.{depth, most_levels}
use Rattle.plain.specs.Rules.{stands}
use Rattle.plain.specs.declared.seat.InService.{InService}
use Rattle.plain.specs.Machine.{WholeRequest, Flight, Plain}
use Rattle.plain.specs.declared.answer.Reply.{Reply}
use Rattle.plain.specs.declared.answer.Reply.TheVariants.{Attached, Queued, Completed, Left, Issued, Finished, Requeued, Group, Done, Moved}
use Rattle.plain.specs.declared.answer.Answer.{Answer}
use Rattle.plain.specs.declared.answer.Answer.TheVariants.{Accepted, Refused, NotYet}
use Rattle.plain.specs.declared.answer.Code.TheVariants.{BadSeat, SeatTaken, NoGroup, BadPrio, BadCount, BadLength, OutOfRange, TooManyBios, NothingOwed, BadTag, NotInFlight, BadOutcome, BadWeight, TooDeep, GroupInUse, AlreadyFrozen, NotFrozen, NotDrained, SameScheduler, NotHeld, AlreadyHeld, ZeroCount, NothingToUndo, NothingToRedo, HistoryFull}
use Rattle.plain.specs.declared.answer.Cause.TheVariants.{Held, Frozen, RequestsFull}
use Rattle.plain.specs.declared.answer.Cause.{Cause}
use Rattle.plain.specs.declared.step.Step.{Step}
use Rattle.plain.specs.declared.step.Step.TheVariants.{Attach, Submit, Reap, Leave, Dispatch, Finish, Requeue, GroupMake, GroupDrop, SetWeight, Freeze, Thaw, Switch, Tick}
use Rattle.plain.specs.declared.call.Call.{Call}
use Rattle.plain.specs.declared.call.Call.TheVariants.{Do, Hold, Release, Undo, Redo}
use Rattle.plain.specs.Opening.{Limits}
use Rattle.plain.specs.Tests.{unless, accepted, accepted_if}
use Rattle.plain.specs.Steps.Attach.{attached}
use Rattle.plain.specs.Steps.Submit.{submitted, woken, payload_length, needs_request}
use Rattle.plain.specs.Sessions.{session_tests, seat_tests, unreaped}
use Rattle.plain.specs.Requests.{requests_of, range_of, size_of}
use Rattle.plain.specs.Steps.Reap.{reaped}
use Rattle.plain.specs.Steps.Leave.{left}
use Rattle.plain.specs.Steps.Dispatch.{next_queue, lowest_free, sent, sent_by_bfq, sent_by, dispatch_to, sent_again, dispatch_of}
use Rattle.plain.specs.Steps.Finish.{effect_of, fits, after_finish, finished, finish_of}
use Rattle.plain.specs.Steps.Requeue.{requeued, requeue_of}
use Rattle.plain.specs.Steps.GroupMake.{free_group, made_group}
use Rattle.plain.specs.Entities.{is_weight, group_tests}
use Rattle.plain.specs.Steps.GroupDrop.{is_used}
use Rattle.plain.specs.Steps.Switch.{switched, is_same}
use Rattle.plain.specs.Steps.Tick.{ticked}
use Rattle.plain.specs.Step.{step}
use Rattle.plain.specs.Keeper.{State, machine_of, has_room, entered, did, called}
use Rattle.plain.specs.Headline.{replay}
use Rattle.plain_laws.proofs.Puts.{map_is}
use Rattle.plain_laws.proofs.Sent.{sent-is as bfq-sent}
use Rattle.host_calls.specs.Frames.{ResultHasFrame}
use Rattle.host_calls.specs.Lengths.{FitsSectors, HasFittingResult}
use Rattle.host_calls.specs.Answered.{IsReplyOf, IsReplyTo, StepWaits, CallWaits, IsAnswer, CallsAreAnswered}
use Rattle.host_calls.proofs.Fillings.{Filled, machine-filled}

-- a test that accepts nothing
abbrev Refuses : (Cause → Type 0) → Answer → Type 0
Refuses W (Accepted reply) = ⊥
Refuses W (Refused code) = Unit {0}
Refuses W (NotYet cause) = W cause

abbrev AllRefuse : (Cause → Type 0) → List (Bool × Answer) → Type 0
AllRefuse W [] = Unit {0}
AllRefuse W (test ∷ tests) = Refuses W test.1 × AllRefuse W tests

refusal-is : (R : Reply → Type 0) (W : Cause → Type 0) (answer : Answer) → Refuses W answer → IsAnswer R W answer
refusal-is R W (Accepted reply) h = absurd h
refusal-is R W (Refused code) h = tt
refusal-is R W (NotYet cause) h = h

-- so what some tests may refuse is answered as it is else
pub first-is : {M : Type 0} (R : Reply → Type 0) (W : Cause → Type 0) (tests : List (Bool × Answer)) (m : M) (outcome : M × Answer) → AllRefuse W tests → IsAnswer R W outcome.1
    → IsAnswer R W (elim (first_of tests) as (λ _. M × Answer) [ None ↦ outcome | Some answer ↦ (m, answer) ]).1
first-is R W [] m outcome e h = h
first-is {M} R W (test ∷ tests) m outcome e h =
    elim test.0 as (λ t. IsAnswer R W (elim (cond t (Some test.1) (first_of tests)) as (λ _. M × Answer) [ None ↦ outcome | Some answer ↦ (m, answer) ]).1) [
      | true ↦ refusal-is R W test.1 e.0
      | false ↦ first-is R W tests m outcome e.1 h
    ]

pub accepted-is : (R : Reply → Type 0) (W : Cause → Type 0) (room : Bool) (m next : Plain) (reply : Reply) → R reply → IsAnswer R W (accepted room m next reply).1
accepted-is R W true m next reply h = h
accepted-is R W false m next reply h = tt

accepted_if-is : (R : Reply → Type 0) (W : Cause → Type 0) (room : Bool) (m : Plain) (o : Option (Plain × Reply)) → ((next : Plain × Reply) → o ≡ Some next → R next.1)
    → IsAnswer R W (accepted_if room m o).1
accepted_if-is R W room m None h = tt
accepted_if-is R W room m (Some next) h = accepted-is R W room m next.0 next.1 (h next refl)

-- no cause: what never waits
abbrev Never : Cause → Type 0
Never cause = ⊥

-- Submit
queued-is : (o : Option Plain) (n : ℕ) (next : Plain × Reply) → option_map (λ next. (next, Queued n)) o ≡ Some next → (bio : ℕ) × (next.1 ≡ Queued bio)
queued-is o n next e =
    let w = map_is (λ (next : Plain). (next, Queued n)) o next e in
    let Q : Plain × Reply → Type 0 = λ x. (bio : ℕ) × (x.1 ≡ Queued bio) in
    subst Q w.2 (n, refl)

-- Reap
result-frame : (bio : Bio) (o : Option BioResult) → (1 ≤ bio.range.count) × (bio.range.count ≤ 64) → FitsSectors bio.range.count o → ResultHasFrame (unwrap_or o Written)
result-frame bio None sectors fits = absurd fits
result-frame bio (Some (Read bytes)) sectors fits = (bio.range.count, sectors.0, sectors.1, fits)
result-frame bio (Some Written) sectors fits = tt
result-frame bio (Some Discarded) sectors fits = tt
result-frame bio (Some (IoError kind)) sectors fits = tt

reaped-is : (room : Bool) (m : Plain) (seat session at : ℕ) (bios : List Bio) → All HasFittingResult bios → IsAnswer (IsReplyOf (Reap seat session)) (StepWaits (Reap seat session)) (reaped room m at bios).1
reaped-is room m seat session at [] h = refl
reaped-is room m seat session at (bio ∷ bios) h =
    let its : HasFittingResult bio = All-head HasFittingResult bio bios h in
    let result : BioResult = unwrap_or bio.result Written in
    accepted-is (IsReplyOf (Reap seat session)) (StepWaits (Reap seat session)) room m _ (Completed bio.serial result) (bio.serial, result, refl, result-frame bio bio.result its.0 its.1)

-- Dispatch
abbrev IsIssued : Reply → Type 0
IsIssued = IsReplyOf Dispatch

sent-is : (m : Plain) (n : ℕ) (room : Bool) (seat tag : ℕ) (requests : List WholeRequest) → IsAnswer IsIssued Never (sent m n room seat tag requests).1
sent-is m n room seat tag [] = tt
sent-is m n room seat tag (r ∷ rest) = accepted-is IsIssued Never room m _ (Issued tag n r.op (range_of r.bios)) (tag, n, r.op, range_of r.bios, refl)

sent_by_bfq-is : (l : Limits) (m : Plain) (n tag : ℕ) (o : Plain × Reply) → sent_by_bfq l m n tag ≡ Some o → IsIssued o.1
sent_by_bfq-is l m n tag o e =
    let s = bfq-sent l m n tag o e in
    let Q : Plain × Reply → Type 0 = λ x. IsIssued x.1 in
    subst Q s.made (tag, n, s.request.op, range_of s.request.bios, refl)

sent_by-is : (l : Limits) (m : Plain) (n : ℕ) (room : Bool) (seat tag : ℕ) (scheduler : Scheduler) → IsAnswer IsIssued Never (sent_by l m n room seat tag scheduler).1
sent_by-is l m n room seat tag PlainScheduler = sent-is m n room seat tag (m.queue seat)
sent_by-is l m n room seat tag BfqScheduler = accepted_if-is IsIssued Never room m (sent_by_bfq l m n tag) (sent_by_bfq-is l m n tag)

dispatch_to-is : (l : Limits) (m : Plain) (n : ℕ) (room : Bool) (seat tag : Option ℕ) → IsAnswer IsIssued Never (dispatch_to l m n room seat tag).1
dispatch_to-is l m n room None tag = tt
dispatch_to-is l m n room (Some seat) None = tt
dispatch_to-is l m n room (Some seat) (Some tag) = sent_by-is l m n room seat tag m.scheduler

sent_again-is : (m : Plain) (n : ℕ) (room : Bool) (r : WholeRequest) (rest : List WholeRequest) (tag : Option ℕ) → IsAnswer IsIssued Never (sent_again m n room r rest tag).1
sent_again-is m n room r rest None = tt
sent_again-is m n room r rest (Some tag) = accepted-is IsIssued Never room m _ (Issued tag n r.op (range_of r.bios)) (tag, n, r.op, range_of r.bios, refl)

dispatch_of-is : (l : Limits) (m : Plain) (n : ℕ) (room : Bool) (requests : List WholeRequest) → IsAnswer IsIssued Never (dispatch_of l m n room requests).1
dispatch_of-is l m n room [] = dispatch_to-is l m n room (next_queue m) (lowest_free l m)
dispatch_of-is l m n room (r ∷ rest) = sent_again-is m n room r rest (lowest_free l m)

-- Finish and Requeue
finish_of-is : (l : Limits) (m : Plain) (room : Bool) (tag issue : ℕ) (outcome : Outcome) (o : Option Flight)
    → IsAnswer (IsReplyOf (Finish tag issue outcome)) Never (finish_of l m room tag issue outcome o).1
finish_of-is l m room tag issue outcome None = tt
finish_of-is l m room tag issue outcome (Some f) =
    let R : Reply → Type 0 = IsReplyOf (Finish tag issue outcome) in
    let tests : List (Bool × Answer) =
    (not (f.issue == issue), Refused NotInFlight) ∷ (not (fits f.request.op (size_of f.request.bios) outcome), Refused BadOutcome) ∷ [] in
    first-is R Never tests m (finished l m room tag (effect_of outcome f.request.op) f.request) (tt, (tt, tt))
    (accepted-is R Never room m (after_finish l m tag (effect_of outcome f.request.op) f.request) (Finished (length f.request.bios)) (length f.request.bios, refl))

requeue_of-is : (m : Plain) (room : Bool) (tag issue : ℕ) (o : Option Flight) → IsAnswer (λ reply. reply ≡ Requeued) Never (requeue_of m room tag issue o).1
requeue_of-is m room tag issue None = tt
requeue_of-is m room tag issue (Some f) =
    first-is (λ reply. reply ≡ Requeued) Never ((not (f.issue == issue), Refused NotInFlight) ∷ []) m (requeued m room tag f.request) (tt, tt)
    (accepted-is (λ reply. reply ≡ Requeued) Never room m _ Requeued refl)

-- Groups and Tick
made_group-is : (l : Limits) (m : Plain) (room : Bool) (parent weight : ℕ) (o : Option ℕ) → IsAnswer (IsReplyOf (GroupMake parent weight)) Never (made_group l m room parent weight o).1
made_group-is l m room parent weight None = tt
made_group-is l m room parent weight (Some group) = accepted-is (IsReplyOf (GroupMake parent weight)) Never room m _ (Group group) (group, refl)

abbrev IsDone : Reply → Type 0
IsDone reply = reply ≡ Done

ticked-is : (m : Plain) (room : Bool) (o : Option InService) → IsAnswer IsDone Never (ticked m room o).1
ticked-is m room None = tt
ticked-is m room (Some slot) = accepted-is IsDone Never room m _ Done refl

done-is : (tests : List (Bool × Answer)) (m next : Plain) (room : Bool) → AllRefuse Never tests → IsAnswer IsDone Never (unless tests m (accepted room m next Done)).1
done-is tests m next room e = first-is IsDone Never tests m (accepted room m next Done) e (accepted-is IsDone Never room m next Done refl)

-- every step
step-is : (l : Limits) (m : Plain) (n : ℕ) (room : Bool) (s : Step) → Filled m → IsAnswer (IsReplyOf s) (StepWaits s) (step l m n room s).1
step-is l m n room (Attach seat group prio class) h =
    let next : Plain = attached l m n seat group prio class in
    let tests : List (Bool × Answer) =
    (nat_le 16 seat, Refused BadSeat) ∷ (is_some (m.seat seat), Refused SeatTaken) ∷ (not (stands m.bfq group), Refused NoGroup) ∷ (nat_lt 7 prio, Refused BadPrio) ∷ [] in
    let R : Reply → Type 0 = IsReplyOf (Attach seat group prio class) in
    first-is R Never tests m (accepted room m next (Attached n)) (tt, (tt, (tt, (tt, tt)))) (accepted-is R Never room m next (Attached n) (n, refl))
step-is l m n room (Submit seat session op range payload) h =
    let next : Plain = submitted m n seat session op range payload in
    let waits = option_map (λ next. (next, Queued n)) (woken m seat next) in
    let tests : List (Bool × Answer) =
    seat_tests m seat session ++ (
    (range.count == 0 || nat_lt 64 range.count, Refused BadCount)
    ∷ (not (length payload == payload_length op range.count), Refused BadLength)
    ∷ (nat_lt l.sectors (range.start + range.count), Refused OutOfRange)
    ∷ (m.frozen, NotYet Frozen)
    ∷ (nat_le 32 (unreaped m seat), Refused TooManyBios)
    ∷ (needs_request m seat session op range && nat_le l.requests (requests_of l m), NotYet RequestsFull)
    ∷ []) in
    let s : Step = Submit seat session op range payload in
    first-is (IsReplyOf s) (StepWaits s) tests m (accepted_if room m waits) (tt, (tt, (tt, (tt, (tt, (tt, (inl refl, (tt, (inr refl, tt)))))))))
    (accepted_if-is (IsReplyOf s) (StepWaits s) room m waits (queued-is (woken m seat next) n))
step-is l m n room (Reap seat session) h =
    let tests : List (Bool × Answer) = seat_tests m seat session ++ ((unreaped m seat == 0, Refused NothingOwed) ∷ []) in
    first-is (IsReplyOf (Reap seat session)) (StepWaits (Reap seat session)) tests m (reaped room m seat (m.outbox seat)) (tt, (tt, (tt, (tt, tt)))) (reaped-is room m seat session seat (m.outbox seat) (h.2 seat))
step-is l m n room (Leave seat why) h =
    let R : Reply → Type 0 = IsReplyOf (Leave seat why) in
    first-is R Never (session_tests m seat) m (accepted room m (left l m seat) Left) (tt, (tt, tt)) (accepted-is R Never room m (left l m seat) Left refl)
step-is l m n room Dispatch h = dispatch_of-is l m n room m.requeued
step-is l m n room (Finish tag issue outcome) h =
    first-is (IsReplyOf (Finish tag issue outcome)) Never ((nat_le l.tags tag, Refused BadTag) ∷ []) m (finish_of l m room tag issue outcome (m.flight tag)) (tt, tt)
    (finish_of-is l m room tag issue outcome (m.flight tag))
step-is l m n room (Requeue tag issue) h =
    first-is (λ reply. reply ≡ Requeued) Never ((nat_le l.tags tag, Refused BadTag) ∷ []) m (requeue_of m room tag issue (m.flight tag)) (tt, tt) (requeue_of-is m room tag issue (m.flight tag))
step-is l m n room (GroupMake parent weight) h =
    let tests : List (Bool × Answer) =
    (not (stands m.bfq parent), Refused NoGroup) ∷ (not (is_weight weight), Refused BadWeight) ∷ (nat_le most_levels (depth m.bfq.parent parent), Refused TooDeep) ∷ [] in
    first-is (IsReplyOf (GroupMake parent weight)) Never tests m (made_group l m room parent weight (free_group m.bfq)) (tt, (tt, (tt, tt))) (made_group-is l m room parent weight (free_group m.bfq))
step-is l m n room (GroupDrop group) h = done-is (group_tests m group ++ ((is_used m.bfq group, Refused GroupInUse) ∷ [])) m _ room (tt, (tt, (tt, tt)))
step-is l m n room (SetWeight group weight) h = done-is (group_tests m group ++ ((not (is_weight weight), Refused BadWeight) ∷ [])) m _ room (tt, (tt, (tt, tt)))
step-is l m n room Freeze h = done-is ((m.frozen, Refused AlreadyFrozen) ∷ []) m _ room (tt, tt)
step-is l m n room Thaw h = done-is ((not m.frozen, Refused NotFrozen) ∷ []) m _ room (tt, tt)
step-is l m n room (Switch scheduler) h =
    let tests : List (Bool × Answer) =
    (not m.frozen, Refused NotFrozen) ∷ (nat_lt 0 (requests_of l m), Refused NotDrained) ∷ (is_same scheduler m.scheduler, Refused SameScheduler) ∷ [] in
    done-is tests m (switched l m scheduler) room (tt, (tt, (tt, tt)))
step-is l m n room Tick h = ticked-is m room m.bfq.in_service

pub did-is : (R : Reply → Type 0) (W : Cause → Type 0) (k : State) (s : Step) (answer : Answer) → IsAnswer R W answer → IsAnswer R W (did k s answer).1
did-is R W k s (Accepted reply) h = h
did-is R W k s (Refused code) h = tt
did-is R W k s (NotYet cause) h = h

-- a step waits on a held host besides
step-waits : (s : Step) (answer : Answer) → IsAnswer (IsReplyOf s) (StepWaits s) answer → IsAnswer (IsReplyOf s) (CallWaits (Do s)) answer
step-waits s (Accepted reply) h = h
step-waits s (Refused code) h = h
step-waits s (NotYet cause) h = inr h

abbrev IsMoved : Reply → Type 0
IsMoved reply = (cursor : ℕ) × (steps : ℕ) × (reply ≡ Moved cursor steps)

moved-is : (tests : List (Bool × Answer)) (k next : State) (call : Call) (cursor steps : ℕ) → AllRefuse Never tests → IsAnswer IsMoved Never (entered k tests next call (Moved cursor steps)).1
moved-is tests k next call cursor steps e =
    first-is IsMoved Never tests k (record next { journal = k.journal ++ call ∷ [] }, Accepted (Moved cursor steps)) e (cursor, steps, refl)

-- every call of the keeper
called-is : (k : State) (call : Call) → Filled (machine_of k) → IsAnswer (IsReplyTo call) (CallWaits call) (called k call).1
called-is k (Do s) h =
    let answer : Answer = (step k.limits (machine_of k) (k.last + 1) (has_room k) s).1 in
    elim k.held as (λ t. IsAnswer (IsReplyOf s) (CallWaits (Do s)) (cond t (k, NotYet Held) (did k s answer)).1) [
      | true ↦ inl refl
      | false ↦ did-is (IsReplyOf s) (CallWaits (Do s)) k s answer (step-waits s answer (step-is k.limits (machine_of k) (k.last + 1) (has_room k) s h))
    ]
called-is k Hold h =
    moved-is ((k.held, Refused AlreadyHeld) ∷ (not (has_room k), Refused HistoryFull) ∷ []) k (record k { held = true }) Hold k.cursor (length k.line) (tt, (tt, tt))
called-is k Release h =
    let tests : List (Bool × Answer) = (not k.held, Refused NotHeld) ∷ (not (has_room k), Refused HistoryFull) ∷ [] in
    first-is IsDone Never tests k (record k { held = false; journal = k.journal ++ Release ∷ [] }, Accepted Done) (tt, (tt, tt)) refl
called-is k (Undo n) h =
    let tests : List (Bool × Answer) =
    (not k.held, Refused NotHeld) ∷ (n == 0, Refused ZeroCount) ∷ (nat_lt k.cursor n, Refused NothingToUndo) ∷ (not (has_room k), Refused HistoryFull) ∷ [] in
    moved-is tests k (record k { cursor = k.cursor - n }) (Undo n) (k.cursor - n) (length k.line) (tt, (tt, (tt, (tt, tt))))
called-is k (Redo n) h =
    let tests : List (Bool × Answer) =
    (not k.held, Refused NotHeld) ∷ (n == 0, Refused ZeroCount) ∷ (nat_lt (length k.line) (k.cursor + n), Refused NothingToRedo) ∷ (not (has_room k), Refused HistoryFull) ∷ [] in
    moved-is tests k (record k { cursor = k.cursor + n }) (Redo n) (k.cursor + n) (length k.line) (tt, (tt, (tt, (tt, tt))))

-- and what it may answer for want of memory
pub calls-answered : (l : Limits) (most : ℕ) (journal : List Call) → CallsAreAnswered l most journal
calls-answered l most journal call answer next may =
    let k : State = replay l most journal in
    elim may [
      | inl plain ↦
          let same : answer ≡ (called k call).1 = ap (λ (o : State × Answer). o.1) plain in
          subst (IsAnswer (IsReplyTo call) (CallWaits call)) (sym same) (called-is k call (machine-filled l most journal))
      | inr wants ↦ subst (IsAnswer (IsReplyTo call) (CallWaits call)) (sym wants.2) tt
    ]
