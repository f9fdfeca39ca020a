-- The names of seats.
use Rattle.std.specs.Prelude.{◌≡◌, ◌≢◌, ℕ, ◌==◌, Bool, true, false, List, Some, slice_get}
use Rattle.host_calls.specs.declared.seat.SeatName.{SeatName}
use Rattle.host_calls.specs.declared.seat.SeatName.TheVariants.{Client, Device, Operator, Core}
use Rattle.host_core.specs.Rows.{Row}

abbrev pub same_name : SeatName → SeatName → Bool
same_name (Client a) (Client b) = a == b
same_name (Device a) (Device b) = a == b
same_name Operator Operator = true
same_name Core Core = true
same_name a b = false

-- no two seats have one name, and none has the core's own
abbrev pub AreNamed : List Row → Type 0
AreNamed rows =
    ((i j : ℕ) (r s : Row) → slice_get rows i ≡ Some r → slice_get rows j ≡ Some s → i ≢ j → same_name r.name s.name ≡ false)
    × ((i : ℕ) (r : Row) → slice_get rows i ≡ Some r → same_name r.name Core ≡ false)
