-- A round over the seats.
use Rattle.std.specs.Prelude.{◌≡◌, ℕ, ◌<◌, ◌≤◌, List, length, Option, None, Some, slice_get, ◌⊎◌}
use Rattle.host_core.specs.Journal.{Pages}
use Rattle.host_core.specs.Rows.{Row, Took}
use Rattle.host_core.specs.Visits.{SamePages, MustWait, AllReady, Changes}
use Rattle.host_core.specs.Visited.{VisitsSeat}
use Rattle.host_core.specs.declared.visit.Came.{Came}

-- at each seat a call may have been taken, and nothing else
pub record AllTook (xs ys : List Row) : Type 0 where
  pub long : length ys ≡ length xs
  pub took : (i : ℕ) (s : Row) → slice_get ys i ≡ Some s → (r : Row) × (slice_get xs i ≡ Some r) × Took r s

-- what waits at these places is not yet right to answer
abbrev pub AreWaiting : List (Option ℕ) → Pages → ℕ → ℕ → List Row → Type 0
AreWaiting lasts p from upto rows = (i : ℕ) (r : Row) → from ≤ i → i < upto → slice_get rows i ≡ Some r → MustWait lasts p r.name r.waiting

-- nobody was answered at these places, and the others are as they were
pub record Passes (lasts : List (Option ℕ)) (from upto : ℕ) (p : Pages) (xs : List Row) (q : Pages) (ys : List Row) : Type 0 where
  pub pages : SamePages p q
  pub took : AllTook xs ys
  pub ready : AllReady ys
  pub waits : AreWaiting lasts p from upto ys
  pub beyond : (i : ℕ) → (i < from) ⊎ (upto ≤ i) → slice_get ys i ≡ slice_get xs i

-- nobody was answered at first, and then this came at a place
pub record Comes (lasts : List (Option ℕ)) (place : ℕ) (came : Came) (p : Pages) (xs : List Row) (q : Pages) (ys : List Row) : Type 0 where
  pub between : List Row
  pub took : AllTook xs between
  pub ready : AllReady between
  pub visits : Changes place (λ r s. VisitsSeat (Some came) lasts p r q s) between ys

-- a round over these places: nobody was answered, or this came at that place
abbrev pub RoundOver : List (Option ℕ) → ℕ → ℕ → Pages → List Row → Pages → List Row → Option (ℕ × Came) → Type 0
RoundOver lasts from upto p xs q ys None = Passes lasts from upto p xs q ys
RoundOver lasts from upto p xs q ys (Some v) = Comes lasts v.0 v.1 p xs q ys
