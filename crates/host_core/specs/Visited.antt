-- A visit, by what it came to.
use Rattle.std.specs.Prelude.{◌≡◌, ℕ, List, Option, None, Some}
use Rattle.host_core.specs.Journal.{Pages}
use Rattle.host_core.specs.Rows.{Row}
use Rattle.host_core.specs.Visits.{Serves, Idles, Stops, IsReady}
use Rattle.host_core.specs.declared.visit.Came.{Came}
use Rattle.host_core.specs.declared.visit.Came.TheVariants.{Answered, Stopped}

-- nobody was answered, or the seat of a name, or its owner asks for the end
abbrev pub Visited : Option Came → List (Option ℕ) → Pages → Row → Pages → Row → Type 0
Visited None lasts p r q s = Idles lasts p r q s
Visited (Some (Answered name)) lasts p r q s = (name ≡ r.name) × Serves lasts p r q s
Visited (Some Stopped) lasts p r q s = Stops p r q s

-- the seat is ready for the next visit; after Stop there is none
abbrev pub ReadyUnless : Option Came → Row → Type 0
ReadyUnless None s = IsReady s
ReadyUnless (Some (Answered name)) s = IsReady s
ReadyUnless (Some Stopped) s = Unit {0}

abbrev pub VisitsSeat : Option Came → List (Option ℕ) → Pages → Row → Pages → Row → Type 0
VisitsSeat came lasts p r q s = Visited came lasts p r q s × ReadyUnless came s
