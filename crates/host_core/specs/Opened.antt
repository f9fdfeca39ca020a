-- The rows of a core before its first turn.
use Rattle.std.specs.Prelude.{◌≡◌, ℕ, ◌+◌, ◌<◌, false, List, [], length, Some, slice_get, ◌⊎◌}
use Rattle.host_calls.specs.declared.seat.SeatName.{SeatName}
use Rattle.host_calls.specs.declared.seat.SeatName.TheVariants.{Client, Device, Operator}
use Rattle.host_core.specs.Rows.{Row}
use Rattle.host_core.specs.Seats.{IsFresh}
use Rattle.host_core.specs.RowOpening.{AreFresh}
use Rattle.host_core.specs.declared.desks.Desks.{Desks}
use Rattle.host_core.specs.declared.row_opening.Seats.{Seats}

-- whose the seat at a place is: so many clients, then so many devices, then the operator (our profile)
abbrev pub IsNameAt : ℕ → ℕ → ℕ → SeatName → Type 0
IsNameAt callers devices i name =
    ((i < callers) × (name ≡ Client i))
    ⊎ (((k : ℕ) × (k < devices) × (i ≡ callers + k) × (name ≡ Device k))
    ⊎ ((i ≡ callers + devices) × (name ≡ Operator)))

-- nothing has come to a seat
abbrev pub IsFreshRow : Row → Type 0
IsFreshRow r = (r.taken ≡ []) × (r.waiting ≡ []) × (r.replied ≡ []) × (r.closed ≡ false)

-- and so at each of them
pub record AreOpened (callers devices : ℕ) (rows : List Row) : Type 0 where
  pub long : length rows ≡ callers + devices + 1
  pub names : (i : ℕ) (r : Row) → slice_get rows i ≡ Some r → IsNameAt callers devices i r.name
  pub fresh : (i : ℕ) (r : Row) → slice_get rows i ≡ Some r → IsFreshRow r

-- the seats and the desks of the same rings, so many of clients and so few of devices
pub record ArePairs (many few : ℕ) (desks : Desks) (seats : Seats) : Type 0 where
  pub callers : AreFresh many seats.callers.items desks.callers.items
  pub devices : AreFresh few seats.devices.items desks.devices.items
  pub operator : IsFresh seats.operator desks.operator 0
