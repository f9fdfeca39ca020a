-- The entry of a call under the name of its seat.
use Rattle.std.specs.Prelude.{◌≡◌, ℕ, Option, Some}
use Rattle.std.specs.Option.{option_map}
use Rattle.plain.specs.declared.call.Call.{Call}
use Rattle.plain.specs.declared.call.Call.TheVariants.{Do}
use Rattle.plain.specs.declared.step.Step.TheVariants as step
use Rattle.host_calls.specs.declared.seat.SeatName.{SeatName}
use Rattle.host_calls.specs.declared.seat.SeatName.TheVariants as name
use Rattle.host_calls.specs.Asked.{client_call, operator_call}
use Rattle.run_record.specs.Entry.{EntryFits}
use Rattle.run_record.specs.declared.entry.Entry.{Entry}
use Rattle.run_record.specs.declared.entry.Entry.TheVariants.{Client, Leave, Finish, Requeue, Operator, Dispatch}

-- whose entry it is, and the call; Stop is no call of the keeper (our profile)
abbrev pub parts_of : Entry → Option (SeatName × Call)
parts_of (Client seat call) = Some (name.Client seat, client_call seat call.0)
parts_of (Leave seat why) = Some (name.Client seat, Do (step.Leave seat why))
parts_of (Finish worker tag issue outcome) = Some (name.Device worker, Do (step.Finish tag issue outcome))
parts_of (Requeue worker tag issue) = Some (name.Device worker, Do (step.Requeue tag issue))
parts_of (Operator call) = option_map (λ c. (name.Operator, c)) (operator_call call.0)
parts_of Dispatch = Some (name.Core, Do step.Dispatch)

-- an entry that has a frame is that of a call under this name (our profile)
abbrev pub IsEntryOf : SeatName → Call → Entry → Type 0
IsEntryOf seat call entry = EntryFits entry × (parts_of entry ≡ Some (seat, call))

-- no entry that has a frame is that of the call under this name (our profile)
abbrev pub HasNoEntry : SeatName → Call → Type 0
HasNoEntry seat call = (entry : Entry) → IsEntryOf seat call entry → ⊥
