-- What is asked at a seat is of its kind.
use Rattle.std.specs.Prelude.{ℕ, refl}
use Rattle.plain.specs.declared.call.DeviceCall.{DeviceCall}
use Rattle.plain.specs.declared.call.DeviceCall.TheVariants.{Take, Finish, Requeue}
use Rattle.host_calls.specs.declared.client.ClientCall.{ClientCall}
use Rattle.host_calls.specs.declared.client.ClientCall.TheVariants.{Attach, Submit, Reap, Leave}
use Rattle.host_calls.specs.declared.operator.OperatorCall.{OperatorCall}
use Rattle.host_calls.specs.declared.operator.OperatorCall.TheVariants.{GroupMake, GroupDrop, SetWeight, Freeze, Thaw, Switch, Tick, Hold, Release, Undo, Redo, Stop}
use Rattle.host_calls.specs.declared.seat.SeatName.TheVariants.{Client, Device, Operator}
use Rattle.host_core.specs.Asked.{client_asked, device_asked, operator_asked}
use Rattle.host_core.specs.Kinds.{IsOfKind}

pub client_asks : (seat : ℕ) (call : ClientCall) → IsOfKind (Client seat) (client_asked seat call)
client_asks seat (Attach group prio class) = refl
client_asks seat (Submit session op range payload) = refl
client_asks seat (Reap session) = refl
client_asks seat (Leave why) = refl

pub device_asks : (seat : ℕ) (call : DeviceCall) → IsOfKind (Device seat) (device_asked seat call)
device_asks seat (Take worker) = refl
device_asks seat (Finish tag issue outcome) = refl
device_asks seat (Requeue tag issue) = refl

pub operator_asks : (seat : ℕ) (call : OperatorCall) → IsOfKind Operator (operator_asked seat call)
operator_asks seat (GroupMake parent weight) = refl
operator_asks seat (GroupDrop group) = refl
operator_asks seat (SetWeight group weight) = refl
operator_asks seat Freeze = refl
operator_asks seat Thaw = refl
operator_asks seat (Switch scheduler) = refl
operator_asks seat Tick = refl
operator_asks seat Hold = refl
operator_asks seat Release = refl
operator_asks seat (Undo k) = refl
operator_asks seat (Redo k) = refl
operator_asks seat Stop = refl
