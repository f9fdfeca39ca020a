-- What clients and the operator are answered has a frame of the host, and is of a kind of theirs.
use Rattle.std.proofs.Common.{◌≡◌, ◌⊎◌, inl, inr, ℕ, List, Some, sym, subst}
use Rattle.plain.specs.declared.answer.Reply.{Reply}
use Rattle.plain.specs.declared.answer.Answer.{Answer}
use Rattle.plain.specs.declared.answer.Answer.TheVariants.{Accepted, Refused, NotYet}
use Rattle.plain.specs.declared.answer.Cause.{Cause}
use Rattle.plain.specs.declared.answer.Cause.TheVariants.{Held}
use Rattle.plain.specs.declared.call.Call.{Call}
use Rattle.plain.specs.Opening.{Limits}
use Rattle.plain_laws.proofs.Puts.{some_is}
use Rattle.host_calls.specs.declared.client.ClientCall.{ClientCall}
use Rattle.host_calls.specs.declared.client.ClientCall.TheVariants as client
use Rattle.host_calls.specs.declared.operator.OperatorCall.{OperatorCall}
use Rattle.host_calls.specs.declared.operator.OperatorCall.TheVariants.{GroupMake, GroupDrop, SetWeight, Freeze, Thaw, Switch, Tick, Hold, Release, Undo, Redo, Stop}
use Rattle.host_calls.specs.Asked.{client_call, operator_call}
use Rattle.host_calls.specs.Frames.{ReplyHasFrame, IfAccepted, AnswerHasFrame}
use Rattle.host_calls.specs.Kinds.{IsForClient, IsForOperator}
use Rattle.host_calls.specs.Answered.{IsReplyTo, CallWaits, IsAnswer, ClientsAreAnswered, OperatorIsAnswered}
use Rattle.host_calls.proofs.Replies.{calls-answered}

-- what a client is replied
abbrev IsClients : Reply → Type 0
IsClients reply = ReplyHasFrame reply × IsForClient reply

client-reply : (call : ClientCall) (seat : ℕ) (reply : Reply) → IsReplyTo (client_call seat call) reply → IsClients reply
client-reply (client.Attach group prio class) seat reply is = subst IsClients (sym is.1) (tt, tt)
client-reply (client.Submit session op range payload) seat reply is = subst IsClients (sym is.1) (tt, tt)
client-reply (client.Reap session) seat reply is = subst IsClients (sym is.2) (is.3, tt)
client-reply (client.Leave why) seat reply is = subst IsClients (sym is) (tt, tt)

client-answer : (call : ClientCall) (seat : ℕ) (answer : Answer) → IsAnswer (IsReplyTo (client_call seat call)) (CallWaits (client_call seat call)) answer
    → AnswerHasFrame answer × IfAccepted IsForClient answer
client-answer call seat (Accepted reply) is = client-reply call seat reply is
client-answer call seat (Refused code) is = (tt, tt)
client-answer call seat (NotYet cause) is = (tt, tt)

pub clients-answered : (l : Limits) (most : ℕ) (journal : List Call) → ClientsAreAnswered l most journal
clients-answered l most journal call seat answer next may = client-answer call seat answer (calls-answered l most journal (client_call seat call) answer next may)

-- what the operator is replied, and why its calls wait
abbrev IsOperators : Reply → Type 0
IsOperators reply = ReplyHasFrame reply × IsForOperator reply

abbrev IsFrom : Call → Type 0
IsFrom call = ((reply : Reply) → IsReplyTo call reply → IsOperators reply) × ((cause : Cause) → CallWaits call cause → cause ≡ Held)

step-waits : (cause : Cause) → (cause ≡ Held) ⊎ ⊥ → cause ≡ Held
step-waits cause (inl held) = held
step-waits cause (inr none) = absurd none

from-operator : (asked : OperatorCall) (call : Call) → operator_call asked ≡ Some call → IsFrom call
from-operator (GroupMake parent weight) call e = subst IsFrom (some_is _ call e) (λ reply is. subst IsOperators (sym is.1) (tt, tt), step-waits)
from-operator (GroupDrop group) call e = subst IsFrom (some_is _ call e) (λ reply is. subst IsOperators (sym is) (tt, tt), step-waits)
from-operator (SetWeight group weight) call e = subst IsFrom (some_is _ call e) (λ reply is. subst IsOperators (sym is) (tt, tt), step-waits)
from-operator Freeze call e = subst IsFrom (some_is _ call e) (λ reply is. subst IsOperators (sym is) (tt, tt), step-waits)
from-operator Thaw call e = subst IsFrom (some_is _ call e) (λ reply is. subst IsOperators (sym is) (tt, tt), step-waits)
from-operator (Switch scheduler) call e = subst IsFrom (some_is _ call e) (λ reply is. subst IsOperators (sym is) (tt, tt), step-waits)
from-operator Tick call e = subst IsFrom (some_is _ call e) (λ reply is. subst IsOperators (sym is) (tt, tt), step-waits)
from-operator Hold call e = subst IsFrom (some_is _ call e) (λ reply is. subst IsOperators (sym is.2) (tt, tt), λ cause waits. absurd waits)
from-operator Release call e = subst IsFrom (some_is _ call e) (λ reply is. subst IsOperators (sym is) (tt, tt), λ cause waits. absurd waits)
from-operator (Undo k) call e = subst IsFrom (some_is _ call e) (λ reply is. subst IsOperators (sym is.2) (tt, tt), λ cause waits. absurd waits)
from-operator (Redo k) call e = subst IsFrom (some_is _ call e) (λ reply is. subst IsOperators (sym is.2) (tt, tt), λ cause waits. absurd waits)
from-operator Stop call e = cc

operator-answer : (call : Call) (answer : Answer) → IsFrom call → IsAnswer (IsReplyTo call) (CallWaits call) answer → AnswerHasFrame answer × IsAnswer IsForOperator (λ cause. cause ≡ Held) answer
operator-answer call (Accepted reply) from is = from.0 reply is
operator-answer call (Refused code) from is = (tt, tt)
operator-answer call (NotYet cause) from is = (tt, from.1 cause is)

pub operator-answered : (l : Limits) (most : ℕ) (journal : List Call) → OperatorIsAnswered l most journal
operator-answered l most journal asked call answer next e may = operator-answer call answer (from-operator asked call e) (calls-answered l most journal call answer next may)
