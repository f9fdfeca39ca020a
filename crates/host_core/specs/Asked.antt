-- What the seats of each kind ask of the core, with their numbers put in.
use Rattle.std.specs.Prelude.{ℕ, Option, None, Some}
use Rattle.plain.specs.declared.call.Call.{Call}
use Rattle.plain.specs.declared.call.Call.TheVariants.{Do}
use Rattle.plain.specs.declared.call.DeviceCall.{DeviceCall}
use Rattle.plain.specs.declared.call.DeviceCall.TheVariants as device
use Rattle.plain.specs.declared.step.Step.TheVariants as step
use Rattle.host_calls.specs.Asked.{client_call, operator_call}
use Rattle.host_calls.specs.declared.client.ClientCall.{ClientCall}
use Rattle.host_calls.specs.declared.operator.OperatorCall.{OperatorCall}
use Rattle.host_core.specs.declared.asked.Asked.{Asked}
use Rattle.host_core.specs.declared.asked.Asked.TheVariants.{Ask, Take, Stop}

-- a client's call of the keeper, at its seat (our profile)
abbrev pub client_asked : ℕ → ClientCall → Asked
client_asked seat call = Ask (client_call seat call)

-- a device's step, or work for it, under the number that it gives itself (our profile)
abbrev pub device_asked : ℕ → DeviceCall → Asked
device_asked seat (device.Take worker) = Take worker
device_asked seat (device.Finish tag issue outcome) = Ask (Do (step.Finish tag issue outcome))
device_asked seat (device.Requeue tag issue) = Ask (Do (step.Requeue tag issue))

-- the operator's call of the keeper, or the end of the core (our profile)
abbrev pub asked_or_stop : Option Call → Asked
asked_or_stop None = Stop
asked_or_stop (Some call) = Ask call

abbrev pub operator_asked : ℕ → OperatorCall → Asked
operator_asked seat call = asked_or_stop (operator_call call)
