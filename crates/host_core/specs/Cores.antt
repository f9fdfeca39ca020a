-- What is seen of a core.
use Rattle.std.specs.Prelude.{ℕ, Bool, List, Option}
use Rattle.host_core.specs.Journal.{Pages}
use Rattle.host_core.specs.declared.judges.Judges as journal
use Rattle.host_core.specs.Rows.{Row}
use Rattle.host_core.specs.Desks.{rows, lasts}
use Rattle.host_core.specs.Same.{SameDesks}
use Rattle.host_core.specs.declared.turns.Core.{Core}

module _ {B : Type 0} {j : journal.Ghosts B} where
  -- whoever keeps its journal
  abbrev pub keeper : Core B j → B
  keeper core = core.book

  -- its journal
  abbrev pub pages : Core B j → Pages
  pages core = j.pages core.book

  -- its seats: the clients, the devices, the operator
  abbrev pub seats_of : Core B j → List Row
  seats_of core = rows core.desks

  -- the issue that each device took last, by its number
  abbrev pub last_works : Core B j → List (Option ℕ)
  last_works core = lasts core.desks

  abbrev pub has_ended : Core B j → Bool
  has_ended core = core.ended

  -- whether its last Dispatch found no memory
  abbrev pub is_starving : Core B j → Bool
  is_starving core = core.starved

  -- it speaks to the same seats
  abbrev pub SameSeats : Core B j → Core B j → Type 0
  SameSeats a b = SameDesks a.desks b.desks
