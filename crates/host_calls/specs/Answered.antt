-- What a call is answered: the reply of its own kind, or a refusal, or why it has to wait.
use Rattle.std.specs.Prelude.{◌≡◌, ◌⊎◌, ℕ, List, Some}
use Rattle.sector_core.specs.declared.range.Range.{Range}
use Rattle.sector_core.specs.declared.bio.Op.{Op}
use Rattle.sector_core.specs.declared.bio.BioResult.{BioResult}
use Rattle.plain.specs.declared.answer.Reply.{Reply}
use Rattle.plain.specs.declared.answer.Reply.TheVariants.{Attached, Queued, Completed, Left, Issued, Finished, Requeued, Group, Done, Moved}
use Rattle.plain.specs.declared.answer.Cause.{Cause}
use Rattle.plain.specs.declared.answer.Cause.TheVariants.{Held, Frozen, RequestsFull, NotCompleted}
use Rattle.plain.specs.declared.answer.Answer.{Answer}
use Rattle.plain.specs.declared.answer.Answer.TheVariants.{Accepted, Refused, NotYet}
use Rattle.plain.specs.declared.step.Step.{Step}
use Rattle.plain.specs.declared.step.Step.TheVariants.{Attach, Submit, Reap, Leave, Dispatch, Finish, Requeue, GroupMake, GroupDrop, SetWeight, Freeze, Thaw, Switch, Tick}
use Rattle.plain.specs.declared.call.Call.{Call}
use Rattle.plain.specs.declared.call.Call.TheVariants.{Do, Hold, Release, Undo, Redo}
use Rattle.plain.specs.Opening.{Limits}
use Rattle.plain.specs.Keeper.{State}
use Rattle.plain.specs.Headline.{replay, MayCall}
use Rattle.host_calls.specs.declared.client.ClientCall.{ClientCall}
use Rattle.host_calls.specs.declared.operator.OperatorCall.{OperatorCall}
use Rattle.host_calls.specs.Asked.{client_call, operator_call}
use Rattle.host_calls.specs.Frames.{ResultHasFrame, IfAccepted, AnswerHasFrame}
use Rattle.host_calls.specs.Kinds.{IsForClient, IsForOperator}

-- what a step gives where it is accepted: each has a reply of its own, and what is completed can be sent (our profile)
abbrev pub IsReplyOf : Step → Reply → Type 0
IsReplyOf (Attach seat group prio class) reply = (session : ℕ) × (reply ≡ Attached session)
IsReplyOf (Submit seat session op range payload) reply = (bio : ℕ) × (reply ≡ Queued bio)
IsReplyOf (Reap seat session) reply = (bio : ℕ) × (result : BioResult) × (reply ≡ Completed bio result) × ResultHasFrame result
IsReplyOf (Leave seat why) reply = reply ≡ Left
IsReplyOf Dispatch reply = (tag : ℕ) × (issue : ℕ) × (op : Op) × (range : Range) × (reply ≡ Issued tag issue op range)
IsReplyOf (Finish tag issue outcome) reply = (bios : ℕ) × (reply ≡ Finished bios)
IsReplyOf (Requeue tag issue) reply = reply ≡ Requeued
IsReplyOf (GroupMake parent weight) reply = (number : ℕ) × (reply ≡ Group number)
IsReplyOf (GroupDrop group) reply = reply ≡ Done
IsReplyOf (SetWeight group weight) reply = reply ≡ Done
IsReplyOf Freeze reply = reply ≡ Done
IsReplyOf Thaw reply = reply ≡ Done
IsReplyOf (Switch scheduler) reply = reply ≡ Done
IsReplyOf Tick reply = reply ≡ Done

-- and so each call of the keeper
abbrev pub IsReplyTo : Call → Reply → Type 0
IsReplyTo (Do s) reply = IsReplyOf s reply
IsReplyTo Hold reply = (cursor : ℕ) × (steps : ℕ) × (reply ≡ Moved cursor steps)
IsReplyTo Release reply = reply ≡ Done
IsReplyTo (Undo n) reply = (cursor : ℕ) × (steps : ℕ) × (reply ≡ Moved cursor steps)
IsReplyTo (Redo n) reply = (cursor : ℕ) × (steps : ℕ) × (reply ≡ Moved cursor steps)

-- why a step has to wait on a host that is not held: a submit while the host is frozen, or for a free request; a reap for a completion
-- (our profile)
abbrev pub StepWaits : Step → Cause → Type 0
StepWaits (Attach seat group prio class) cause = ⊥
StepWaits (Submit seat session op range payload) cause = (cause ≡ Frozen) ⊎ (cause ≡ RequestsFull)
StepWaits (Reap seat session) cause = cause ≡ NotCompleted
StepWaits (Leave seat why) cause = ⊥
StepWaits Dispatch cause = ⊥
StepWaits (Finish tag issue outcome) cause = ⊥
StepWaits (Requeue tag issue) cause = ⊥
StepWaits (GroupMake parent weight) cause = ⊥
StepWaits (GroupDrop group) cause = ⊥
StepWaits (SetWeight group weight) cause = ⊥
StepWaits Freeze cause = ⊥
StepWaits Thaw cause = ⊥
StepWaits (Switch scheduler) cause = ⊥
StepWaits Tick cause = ⊥

-- why a call has to wait: on a held host every step does, and no other call ever (our profile)
abbrev pub CallWaits : Call → Cause → Type 0
CallWaits (Do s) cause = (cause ≡ Held) ⊎ StepWaits s cause
CallWaits Hold cause = ⊥
CallWaits Release cause = ⊥
CallWaits (Undo n) cause = ⊥
CallWaits (Redo n) cause = ⊥

-- an answer is such a reply, or a refusal, or such a cause
abbrev pub IsAnswer : (Reply → Type 0) → (Cause → Type 0) → Answer → Type 0
IsAnswer R W (Accepted reply) = R reply
IsAnswer R W (Refused code) = Unit {0}
IsAnswer R W (NotYet cause) = W cause

-- whatever the keeper of a journal is asked, it answers so
abbrev pub CallsAreAnswered : Limits → ℕ → List Call → Type 0
CallsAreAnswered l most journal =
    (call : Call) (answer : Answer) (next : State) → MayCall (replay l most journal) call answer next → IsAnswer (IsReplyTo call) (CallWaits call) answer

-- whatever a client asks of it, at whatever seat, the answer has a frame, and it is a client's
abbrev pub ClientsAreAnswered : Limits → ℕ → List Call → Type 0
ClientsAreAnswered l most journal =
    (call : ClientCall) (seat : ℕ) (answer : Answer) (next : State) → MayCall (replay l most journal) (client_call seat call) answer next
    → AnswerHasFrame answer × IfAccepted IsForClient answer

-- whatever the operator asks of it, the answer has a frame, it is the operator's, and it is 'not yet' on a held host alone
abbrev pub OperatorIsAnswered : Limits → ℕ → List Call → Type 0
OperatorIsAnswered l most journal =
    (asked : OperatorCall) (call : Call) (answer : Answer) (next : State) → operator_call asked ≡ Some call → MayCall (replay l most journal) call answer next
    → AnswerHasFrame answer × IsAnswer IsForOperator (λ cause. cause ≡ Held) answer
