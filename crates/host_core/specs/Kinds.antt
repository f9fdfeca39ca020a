-- What is asked at the seats of each kind: none asks what is another's.
use Rattle.std.specs.Prelude.{◌≡◌, Bool, true, false, ◌&&◌, List, [], ◌∷◌}
use Rattle.plain.specs.declared.call.Call.{Call}
use Rattle.plain.specs.declared.call.Call.TheVariants.{Do}
use Rattle.plain.specs.declared.step.Step.{Step}
use Rattle.plain.specs.declared.step.Step.TheVariants.{Attach, Submit, Reap, Leave, Finish, Requeue, GroupMake, GroupDrop, SetWeight, Freeze, Thaw, Switch, Tick}
use Rattle.host_calls.specs.declared.seat.SeatName.{SeatName}
use Rattle.host_calls.specs.declared.seat.SeatName.TheVariants.{Client, Device, Operator, Core}
use Rattle.host_core.specs.declared.asked.Asked.{Asked}
use Rattle.host_core.specs.declared.asked.Asked.TheVariants.{Ask, Take, Stop}

-- a client sits down, submits, reaps and leaves (our profile)
abbrev pub is_client_step : Step → Bool
is_client_step (Attach seat group prio class) = true
is_client_step (Submit seat session op range payload) = true
is_client_step (Reap seat session) = true
is_client_step (Leave seat why) = true
is_client_step other = false

abbrev pub is_client_call : Call → Bool
is_client_call (Do step) = is_client_step step
is_client_call other = false

abbrev pub is_clients : Asked → Bool
is_clients (Ask call) = is_client_call call
is_clients (Take worker) = false
is_clients Stop = false

-- a device takes work, ends it, and gives it back (our profile)
abbrev pub is_device_step : Step → Bool
is_device_step (Finish tag issue outcome) = true
is_device_step (Requeue tag issue) = true
is_device_step other = false

abbrev pub is_device_call : Call → Bool
is_device_call (Do step) = is_device_step step
is_device_call other = false

abbrev pub is_devices : Asked → Bool
is_devices (Ask call) = is_device_call call
is_devices (Take worker) = true
is_devices Stop = false

-- the operator changes groups, weights, the freeze and the scheduler, ticks, steps the host back and forth, and ends it (our profile)
abbrev pub is_operator_step : Step → Bool
is_operator_step (GroupMake parent weight) = true
is_operator_step (GroupDrop group) = true
is_operator_step (SetWeight group weight) = true
is_operator_step Freeze = true
is_operator_step Thaw = true
is_operator_step (Switch scheduler) = true
is_operator_step Tick = true
is_operator_step other = false

abbrev pub is_operator_call : Call → Bool
is_operator_call (Do step) = is_operator_step step
is_operator_call other = true

abbrev pub is_operators : Asked → Bool
is_operators (Ask call) = is_operator_call call
is_operators (Take worker) = false
is_operators Stop = true

-- what is asked at the seat of a name; nothing is asked under the core's own
abbrev pub is_of_kind : SeatName → Asked → Bool
is_of_kind (Client n) asked = is_clients asked
is_of_kind (Device n) asked = is_devices asked
is_of_kind Operator asked = is_operators asked
is_of_kind Core asked = false

abbrev pub IsOfKind : SeatName → Asked → Type 0
IsOfKind name asked = is_of_kind name asked ≡ true

-- and so all of this
abbrev pub are_of_kind : SeatName → List Asked → Bool
are_of_kind name [] = true
are_of_kind name (asked ∷ others) = is_of_kind name asked && are_of_kind name others

abbrev pub AreOfKind : SeatName → List Asked → Type 0
AreOfKind name all = are_of_kind name all ≡ true
