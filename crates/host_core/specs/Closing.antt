-- The end of all seats.
use Rattle.std.specs.Prelude.{◌≡◌, ℕ, true, false, List, [], ◌∷◌, ◌++◌, length, Some, slice_get}
use Rattle.host_calls.specs.declared.ring.RingReply.TheVariants.{Closed as Ended}
use Rattle.host_core.specs.Rows.{Row}

-- no seat has heard the end
abbrev pub AllOpen : List Row → Type 0
AllOpen rows = (i : ℕ) (r : Row) → slice_get rows i ≡ Some r → r.closed ≡ false

-- a seat has heard the end, and nothing else came to it
abbrev pub Closes : Row → Row → Type 0
Closes r s = (r.closed ≡ false) × (s ≡ record r { closed = true; replied = r.replied ++ Ended ∷ [] })

-- and so each seat
pub record AllClose (xs ys : List Row) : Type 0 where
  pub long : length ys ≡ length xs
  pub closes : (i : ℕ) (s : Row) → slice_get ys i ≡ Some s → (r : Row) × (slice_get xs i ≡ Some r) × Closes r s
