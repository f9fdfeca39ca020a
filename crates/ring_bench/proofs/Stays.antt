-- Seats that wait to be settled, while the core is settled with another.
use Rattle.std.proofs.Common.{List}
use Rattle.host_calls.specs.declared.client.ClientCall.{ClientCall}
use Rattle.plain.specs.declared.call.DeviceCall.{DeviceCall}
use Rattle.host_core.below.rtrb.specs.declared.AnyItems.{AnyItems}
use Rattle.host_core.specs.declared.judges.Judges as journal
use Rattle.host_core.specs.declared.seat_rules.ClientReplies.{ClientReplies}
use Rattle.host_core.specs.declared.seat.Seat.{Seat}
use Rattle.host_core.specs.Cores.{SameSeats}
use Rattle.host_core.specs.Settling.{core_of, AreCallersOf, AreDevicesOf}
use Rattle.host_core.specs.declared.settling.CoreEnd.{CoreEnd}
use Rattle.host_core.proofs.Seated.{caller-stays, device-stays, seats-twice}

-- of what was the core first, what before this seat, and what is it now
module _ {B : Type 0} {j : journal.Ghosts B} (first before now : CoreEnd B j) where
  pub callers-stay : (seats : List (Seat ClientCall ClientReplies)) → AreCallersOf (core_of before) seats → SameSeats (core_of first) (core_of before)
      → SameSeats (core_of before) (core_of now) → AreCallersOf (core_of now) seats × SameSeats (core_of first) (core_of now)
  callers-stay seats are was same =
      ((λ i s at. caller-stays (core_of before) (core_of now) s (are i s at) same), seats-twice (core_of first) (core_of before) (core_of now) was same)

  pub devices-stay : (seats : List (Seat DeviceCall AnyItems)) → AreDevicesOf (core_of before) seats → SameSeats (core_of first) (core_of before)
      → SameSeats (core_of before) (core_of now) → AreDevicesOf (core_of now) seats × SameSeats (core_of first) (core_of now)
  devices-stay seats are was same =
      ((λ i s at. device-stays (core_of before) (core_of now) s (are i s at) same), seats-twice (core_of first) (core_of before) (core_of now) was same)
