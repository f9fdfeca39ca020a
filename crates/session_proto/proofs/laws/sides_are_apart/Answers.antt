use Rattle.std.proofs.Common.{◌≡◌, Err, refl}
use Rattle.sector_core.specs.declared.bio.BioResult.TheVariants.{Read}
use Rattle.sector_core.specs.declared.bio.Op.TheVariants.{Fetch}
use Rattle.plain.specs.declared.answer.Answer.TheVariants.{Accepted}
use Rattle.plain.specs.declared.answer.Reply.TheVariants.{Completed}
use Rattle.sector_core.specs.declared.class.Class.TheVariants.{RealTime, BestEffort, Idle}
use Rattle.host_calls.specs.declared.client.ClientCall.{ClientCall}
use Rattle.host_calls.specs.declared.client.ClientCall.TheVariants.{Attach, Submit}
use Rattle.host_calls.specs.declared.operator.OperatorCall.{OperatorCall}
use Rattle.host_calls.specs.declared.operator.OperatorCall.TheVariants.{Stop}
use Rattle.host_calls.specs.declared.ring.RingReply.{RingReply}
use Rattle.host_calls.specs.declared.ring.RingReply.TheVariants.{Answer}
use Rattle.session_proto.specs.declared.fault.Fault.TheVariants.{BadKind}
use Rattle.session_proto.specs.declared.version.Version.{Version}
use Rattle.session_proto.specs.declared.version.Version.TheVariants.{One, Two}
use Rattle.session_proto.specs.Client.{client_body, client_at}
use Rattle.session_proto.specs.Operator.{operator_body, operator_at}
use Rattle.session_proto.specs.Host.{host_body, host_at}
use Rattle.session_proto.proofs.laws.sides_are_apart.Goals as goal

client_of_operator : (n : Version) (call : OperatorCall) → client_at n (operator_body call) ≡ Err BadKind
unfolding client_at
client_of_operator One Stop = refl
client_of_operator One _ = refl
client_of_operator Two Stop = refl
client_of_operator Two _ = refl

client_of_host : (n : Version) (reply : RingReply) → client_at n (host_body reply) ≡ Err BadKind
unfolding client_at
client_of_host One (Answer (Accepted (Completed bio (Read bytes)))) = refl
client_of_host One _ = refl
client_of_host Two (Answer (Accepted (Completed bio (Read bytes)))) = refl
client_of_host Two _ = refl

operator_of_client : (call : ClientCall) → operator_at (client_body call) ≡ Err BadKind
unfolding operator_at
operator_of_client (Attach group prio RealTime) = refl
operator_of_client (Attach group prio BestEffort) = refl
operator_of_client (Attach group prio Idle) = refl
operator_of_client (Submit session Fetch range payload) = refl
operator_of_client _ = refl

operator_of_host : (reply : RingReply) → operator_at (host_body reply) ≡ Err BadKind
unfolding operator_at
operator_of_host (Answer (Accepted (Completed bio (Read bytes)))) = refl
operator_of_host _ = refl

host_of_client : (call : ClientCall) → host_at (client_body call) ≡ Err BadKind
unfolding host_at
host_of_client (Attach group prio RealTime) = refl
host_of_client (Attach group prio BestEffort) = refl
host_of_client (Attach group prio Idle) = refl
host_of_client (Submit session Fetch range payload) = refl
host_of_client _ = refl

host_of_operator : (call : OperatorCall) → host_at (operator_body call) ≡ Err BadKind
unfolding host_at
host_of_operator Stop = refl
host_of_operator _ = refl

pub returns-clause-client_of_operator : goal.returns-clause-client_of_operator
returns-clause-client_of_operator c = client_of_operator

pub returns-clause-client_of_host : goal.returns-clause-client_of_host
returns-clause-client_of_host c = client_of_host

pub returns-clause-operator_of_client : goal.returns-clause-operator_of_client
returns-clause-operator_of_client c = operator_of_client

pub returns-clause-operator_of_host : goal.returns-clause-operator_of_host
returns-clause-operator_of_host c = operator_of_host

pub returns-clause-host_of_client : goal.returns-clause-host_of_client
returns-clause-host_of_client c = host_of_client

pub returns-clause-host_of_operator : goal.returns-clause-host_of_operator
returns-clause-host_of_operator c = host_of_operator
