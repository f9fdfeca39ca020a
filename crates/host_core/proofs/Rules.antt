-- What the core answers may be told: it has a frame, and only the operator hears that it is not yet time.
use Rattle.std.proofs.Common.{true, false, ◌≡◌, ℕ, List, refl, sym, ◌∙◌, Option, Some}
use Rattle.std.proofs.lemmas.Bool.{false≢true}
use Rattle.plain.specs.declared.answer.Answer.{Answer}
use Rattle.plain.specs.declared.answer.Answer.TheVariants.{Accepted, Refused, NotYet}
use Rattle.plain.specs.declared.answer.Cause.TheVariants.{Held}
use Rattle.plain.specs.declared.call.Call.{Call}
use Rattle.plain.specs.declared.call.Call.TheVariants.{Do, Hold, Release, Undo, Redo}
use Rattle.plain.specs.declared.step.Step.{Step}
use Rattle.plain.specs.declared.step.Step.TheVariants.{Attach, Submit, Reap, Leave, Dispatch, Finish, Requeue, GroupMake, GroupDrop, SetWeight, Freeze, Thaw, Switch, Tick}
use Rattle.plain.specs.Opening.{Limits}
use Rattle.host_calls.specs.Answered.{IsAnswer, ClientsAreAnswered, OperatorIsAnswered}
use Rattle.host_calls.specs.Asked.{client_call, operator_call}
use Rattle.host_calls.specs.Kinds.{IsForOperator}
use Rattle.host_calls.specs.declared.client.ClientCall.{ClientCall}
use Rattle.host_calls.specs.declared.client.ClientCall.TheVariants as client
use Rattle.host_calls.specs.declared.operator.OperatorCall.{OperatorCall}
use Rattle.host_calls.specs.declared.operator.OperatorCall.TheVariants as operator
use Rattle.host_calls.specs.declared.ring.RingReply.TheVariants.{Answer as Answered}
use Rattle.host_calls.specs.declared.seat.SeatName.{SeatName}
use Rattle.host_calls.specs.declared.seat.SeatName.TheVariants.{Client, Device, Operator}
use Rattle.host_calls.specs.Frames.{HasFrame}
use Rattle.host_core.specs.Journal.{Entry, calls_of}
use Rattle.host_core.specs.Kinds.{is_client_step, is_client_call, is_operator_step, is_operator_call, IsOfKind}
use Rattle.host_core.specs.Rules.{IsFinal, IsForClients}
use Rattle.host_core.specs.declared.asked.Asked.{Asked}
use Rattle.host_core.specs.declared.asked.Asked.TheVariants.{Ask, Take, Stop}
use Rattle.host_core.specs.Judging.{JudgedBy, is_kept, keeps_calls, MayGet}
use Rattle.host_core.specs.Visits.{MayTell}

-- a client's step is one of its calls at some seat
clients-step : (s : Step) → is_client_step s ≡ true → (seat : ℕ) × (c : ClientCall) × (client_call seat c ≡ Do s)
clients-step (Attach seat group prio class) h = (seat, client.Attach group prio class, refl)
clients-step (Submit seat session op range payload) h = (seat, client.Submit session op range payload, refl)
clients-step (Reap seat session) h = (seat, client.Reap session, refl)
clients-step (Leave seat why) h = (seat, client.Leave why, refl)
clients-step Dispatch h = absurd (false≢true h)
clients-step (Finish tag issue outcome) h = absurd (false≢true h)
clients-step (Requeue tag issue) h = absurd (false≢true h)
clients-step (GroupMake parent weight) h = absurd (false≢true h)
clients-step (GroupDrop group) h = absurd (false≢true h)
clients-step (SetWeight group weight) h = absurd (false≢true h)
clients-step Freeze h = absurd (false≢true h)
clients-step Thaw h = absurd (false≢true h)
clients-step (Switch scheduler) h = absurd (false≢true h)
clients-step Tick h = absurd (false≢true h)

clients-call : (call : Call) → is_client_call call ≡ true → (seat : ℕ) × (c : ClientCall) × (client_call seat c ≡ call)
clients-call (Do s) h = clients-step s h
clients-call Hold h = absurd (false≢true h)
clients-call Release h = absurd (false≢true h)
clients-call (Undo k) h = absurd (false≢true h)
clients-call (Redo k) h = absurd (false≢true h)

-- the operator's step, and its other calls, are calls of its own
operators-step : (s : Step) → is_operator_step s ≡ true → (o : OperatorCall) × (operator_call o ≡ Some (Do s))
operators-step (Attach seat group prio class) h = absurd (false≢true h)
operators-step (Submit seat session op range payload) h = absurd (false≢true h)
operators-step (Reap seat session) h = absurd (false≢true h)
operators-step (Leave seat why) h = absurd (false≢true h)
operators-step Dispatch h = absurd (false≢true h)
operators-step (Finish tag issue outcome) h = absurd (false≢true h)
operators-step (Requeue tag issue) h = absurd (false≢true h)
operators-step (GroupMake parent weight) h = (operator.GroupMake parent weight, refl)
operators-step (GroupDrop group) h = (operator.GroupDrop group, refl)
operators-step (SetWeight group weight) h = (operator.SetWeight group weight, refl)
operators-step Freeze h = (operator.Freeze, refl)
operators-step Thaw h = (operator.Thaw, refl)
operators-step (Switch scheduler) h = (operator.Switch scheduler, refl)
operators-step Tick h = (operator.Tick, refl)

operators-call : (call : Call) → is_operator_call call ≡ true → (o : OperatorCall) × (operator_call o ≡ Some call)
operators-call (Do s) h = operators-step s h
operators-call Hold h = (operator.Hold, refl)
operators-call Release h = (operator.Release, refl)
operators-call (Undo k) h = (operator.Undo k, refl)
operators-call (Redo k) h = (operator.Redo k, refl)

-- an answer for which a call of a seat other than the operator's does not wait on is final
unkept : (name : SeatName) (answer : Answer) → keeps_calls name ≡ true → is_kept name answer ≡ false → IsFinal answer × MayGet name answer
unkept name (Accepted reply) waits h = (tt, tt)
unkept name (Refused code) waits h = (tt, tt)
unkept name (NotYet cause) waits h = absurd (false≢true (sym h ∙ waits))

-- what the operator may hear
heard : (answer : Answer) → IsAnswer IsForOperator (λ cause. cause ≡ Held) answer → MayGet Operator answer
heard (Accepted reply) h = tt
heard (Refused code) h = tt
heard (NotYet cause) h = h

client-hears : ((l : Limits) (most : ℕ) (journal : List Call) → ClientsAreAnswered l most journal) → (n : ℕ) (l : Limits) (most : ℕ) (lasts : List (Option ℕ))
    (entries : List Entry) (call : Asked) (answer : Answer) → IsOfKind (Client n) call → JudgedBy l most (Client n) lasts entries call answer
    → is_kept (Client n) answer ≡ false → IsForClients (Answered answer) × MayGet (Client n) answer
client-hears law n l most lasts entries (Ask call) answer kind j kept =
    let c = clients-call call kind in
    let final = unkept (Client n) answer refl kept in
    (((law l most (calls_of entries) c.1 c.0 answer j.0 (rw c.2 j.1)).0, final.0), final.1)
client-hears law n l most lasts entries (Take worker) answer kind j kept = absurd (false≢true kind)
client-hears law n l most lasts entries Stop answer kind j kept = absurd (false≢true kind)

pub client-told : ((l : Limits) (most : ℕ) (journal : List Call) → ClientsAreAnswered l most journal) → (n : ℕ) → MayTell (Client n) (λ _ reply. IsForClients reply)
client-told law n = λ before l most lasts entries call answer kind j kept. client-hears law n l most lasts entries call answer kind j kept

operator-hears : ((l : Limits) (most : ℕ) (journal : List Call) → OperatorIsAnswered l most journal) → (l : Limits) (most : ℕ) (lasts : List (Option ℕ))
    (entries : List Entry) (call : Asked) (answer : Answer) → IsOfKind Operator call → JudgedBy l most Operator lasts entries call answer
    → HasFrame (Answered answer) × MayGet Operator answer
operator-hears law l most lasts entries (Ask call) answer kind j =
    let o = operators-call call kind in
    let told = law l most (calls_of entries) o.0 call answer j.0 o.1 j.1 in
    (told.0, heard answer told.1)
operator-hears law l most lasts entries (Take worker) answer kind j = absurd (false≢true kind)
operator-hears law l most lasts entries Stop answer kind j = absurd j

pub operator-told : ((l : Limits) (most : ℕ) (journal : List Call) → OperatorIsAnswered l most journal) → MayTell Operator (λ _ reply. HasFrame reply)
operator-told law = λ before l most lasts entries call answer kind j kept. operator-hears law l most lasts entries call answer kind j
