-- A host before its first turn.
use Rattle.std.specs.Prelude.{◌≡◌, ℕ, false, List, [], Some, slice_get}
use Rattle.host_calls.specs.declared.client.ClientCall.{ClientCall}
use Rattle.host_calls.specs.declared.operator.OperatorCall.{OperatorCall}
use Rattle.plain.specs.declared.call.DeviceCall.{DeviceCall}
use Rattle.rtrb.specs.declared.AnyItems.{AnyItems}
use Rattle.host_core.specs.Seats.{IsFresh, staged, collected, is_closed}
use Rattle.host_core.specs.declared.seat_rules.ClientReplies.{ClientReplies}
use Rattle.host_core.specs.declared.seat_rules.OperatorReplies.{OperatorReplies}
use Rattle.host_core.specs.declared.seat.Seat.{Seat}
use Rattle.host_core.specs.declared.judges.Judges as journal
use Rattle.host_core.specs.RowOpening.{AreFresh}
use Rattle.host_core.specs.declared.turns.Core.{Core}

module _ {C P : Type 0} where
  -- nothing was staged at a seat, and nothing collected
  abbrev pub IsIdle : Seat C P → Type 0
  IsIdle s = (staged s ≡ []) × (collected s ≡ []) × (is_closed s ≡ false)

  abbrev pub AreIdle : List (Seat C P) → Type 0
  AreIdle seats = (i : ℕ) (s : Seat C P) → slice_get seats i ≡ Some s → IsIdle s

-- each seat and the desk of its number share two rings, through which nothing has come
pub record ArePaired {B : Type 0} {j : journal.Ghosts B} (workers : ℕ) (core : Core B j) (callers : List (Seat ClientCall ClientReplies)) (devices : List (Seat DeviceCall AnyItems))
    (operator : Seat OperatorCall OperatorReplies) : Type 0 where
  pub callers_are : AreFresh 16 callers core.desks.callers.items
  pub devices_are : AreFresh workers devices core.desks.devices.items
  pub operator_is : IsFresh operator core.desks.operator 0
