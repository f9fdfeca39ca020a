-- What the calls of clients and of the operator ask of the keeper.
use Rattle.std.specs.Prelude.{ℕ, Option, None, Some}
use Rattle.plain.specs.declared.call.Call.{Call}
use Rattle.plain.specs.declared.call.Call.TheVariants as call
use Rattle.plain.specs.declared.step.Step.TheVariants as step
use Rattle.host_calls.specs.declared.client.ClientCall.{ClientCall}
use Rattle.host_calls.specs.declared.client.ClientCall.TheVariants.{Attach, Submit, Reap, Leave}
use Rattle.host_calls.specs.declared.operator.OperatorCall.{OperatorCall}
use Rattle.host_calls.specs.declared.operator.OperatorCall.TheVariants.{GroupMake, GroupDrop, SetWeight, Freeze, Thaw, Switch, Tick, Hold, Release, Undo, Redo, Stop}

-- a client's call, made at a seat (our profile: a client names no seat, so it can make no call at another's)
abbrev pub client_call : ℕ → ClientCall → Call
client_call seat (Attach group prio class) = call.Do (step.Attach seat group prio class)
client_call seat (Submit session op range payload) = call.Do (step.Submit seat session op range payload)
client_call seat (Reap session) = call.Do (step.Reap seat session)
client_call seat (Leave why) = call.Do (step.Leave seat why)

-- the operator's call, and none for Stop, which ends the host and asks nothing of the keeper (our profile)
abbrev pub operator_call : OperatorCall → Option Call
operator_call (GroupMake parent weight) = Some (call.Do (step.GroupMake parent weight))
operator_call (GroupDrop group) = Some (call.Do (step.GroupDrop group))
operator_call (SetWeight group weight) = Some (call.Do (step.SetWeight group weight))
operator_call Freeze = Some (call.Do step.Freeze)
operator_call Thaw = Some (call.Do step.Thaw)
operator_call (Switch scheduler) = Some (call.Do (step.Switch scheduler))
operator_call Tick = Some (call.Do step.Tick)
operator_call Hold = Some call.Hold
operator_call Release = Some call.Release
operator_call (Undo k) = Some (call.Undo k)
operator_call (Redo k) = Some (call.Redo k)
operator_call Stop = None
