-- Desks over the same rings.
use Rattle.std.specs.Prelude.{◌≡◌, ℕ, List, Some, slice_get}
use Rattle.host_core.specs.Seats.{SameDesk}
use Rattle.host_core.specs.declared.desk.Desk.{Desk}
use Rattle.host_core.specs.declared.desks.Desks.{Desks}

module _ {C P : Type 0} where
  -- the desk at each place
  abbrev pub SameEach : List (Desk C P) → List (Desk C P) → Type 0
  SameEach xs ys = (i : ℕ) (d : Desk C P) → slice_get xs i ≡ Some d → (e : Desk C P) × (slice_get ys i ≡ Some e) × SameDesk d e

-- all desks of a core
abbrev pub SameDesks : Desks → Desks → Type 0
SameDesks a b = SameEach a.callers.items b.callers.items × SameEach a.devices.items b.devices.items × SameDesk a.operator b.operator
