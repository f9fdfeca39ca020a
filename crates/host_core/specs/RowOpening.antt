-- Seats of one kind and their desks, before the first call.
use Rattle.std.specs.Prelude.{◌≡◌, ℕ, List, length, Some, slice_get}
use Rattle.host_core.specs.Seats.{IsFresh}
use Rattle.host_core.specs.declared.desk.Desk.{Desk}
use Rattle.host_core.specs.declared.seat.Seat.{Seat}

-- so many of them, and each seat with the desk of its place and its number
pub record AreFresh {C P : Type 0} (count : ℕ) (seats : List (Seat C P)) (desks : List (Desk C P)) : Type 0 where
  pub seats_are : length seats ≡ count
  pub desks_are : length desks ≡ count
  pub fresh : (i : ℕ) (s : Seat C P) → slice_get seats i ≡ Some s → (d : Desk C P) × (slice_get desks i ≡ Some d) × IsFresh s d i
