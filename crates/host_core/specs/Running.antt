-- The turns of a core, one after the other.
use Rattle.std.specs.Prelude.{◌≡◌, ℕ, zero, suc, Bool, true, false, Option}
use Rattle.host_calls.specs.declared.seat.SeatName.{SeatName}
use Rattle.host_core.specs.declared.judges.Judges as journal
use Rattle.host_core.specs.Turns.{is_starved, IsTurn, IsLastTurn}
use Rattle.host_core.specs.Cores.{pages, seats_of, last_works, has_ended, is_starving, SameSeats}
use Rattle.host_core.specs.Keeping.{AreKept}
use Rattle.host_core.specs.declared.turns.Core.{Core}

module _ {B : Type 0} {j : journal.Ghosts B} where
  -- a turn of a core that had not ended (our profile)
  pub record Turns (a b : Core B j) : Type 0 where
    pub answered : Option SeatName
    pub dispatched : Bool
    pub was_open : has_ended a ≡ false
    pub turn : has_ended b ≡ false → (t : IsTurn (last_works a) (pages a) (seats_of a) (pages b) (seats_of b) answered dispatched)
        × (is_starving b ≡ is_starved t.dispatch.answer)
    pub last : has_ended b ≡ true → IsLastTurn (pages a) (seats_of a) (pages b) (seats_of b) answered dispatched
    pub kept : ∥ AreKept (pages b) (seats_of b) ∥₁
    pub same : SameSeats a b

  -- so many turns, one after the other
  abbrev pub AreTurns : ℕ → Core B j → Core B j → Type 0
  AreTurns zero a b = b ≡ a
  AreTurns (suc n) a b = (between : Core B j) × AreTurns n a between × Turns between b
