-- One turn more.
use Rattle.std.proofs.Common.{true, false, Bool, ◌≡◌, ℕ, suc, refl, sym, subst, Option}
use Rattle.host_calls.specs.declared.seat.SeatName.{SeatName}
use Rattle.host_core.specs.declared.judges.Judges as journal
use Rattle.host_core.specs.Turns.{is_starved, IsTurn, IsLastTurn}
use Rattle.host_core.specs.Cores.{pages, seats_of, last_works, has_ended, is_starving, SameSeats}
use Rattle.host_core.specs.Keeping.{AreKept}
use Rattle.host_core.specs.Running.{AreTurns}
use Rattle.host_core.specs.declared.turns.Core.{Core}

module _ {B : Type 0} {j : journal.Ghosts B} where
  -- a core that has ended takes none
  more-turns : (n : ℕ) (a b c : Core B j) (was : Bool) (answered : Option SeatName) (dispatched : Bool) → has_ended b ≡ was → AreTurns n a b
      → (has_ended b ≡ true → c ≡ b)
      → (has_ended b ≡ false → has_ended c ≡ false → (t : IsTurn (last_works b) (pages b) (seats_of b) (pages c) (seats_of c) answered dispatched) × (is_starving c ≡ is_starved t.dispatch.answer))
      → (has_ended b ≡ false → has_ended c ≡ true → IsLastTurn (pages b) (seats_of b) (pages c) (seats_of c) answered dispatched)
      → ∥ AreKept (pages c) (seats_of c) ∥₁ → SameSeats b c
      → (m : ℕ) × AreTurns m a c
  more-turns n a b c true answered dispatched e h stays turn last kept same = (n, subst (AreTurns n a) (sym (stays e)) h)
  more-turns n a b c false answered dispatched e h stays turn last kept same =
      (suc n, (b, h, record { answered = answered; dispatched = dispatched; was_open = e; turn = turn e; last = last e; kept = kept; same = same }))

  pub turns-more : (a b c : Core B j) (answered : Option SeatName) (dispatched : Bool) → (n : ℕ) × AreTurns n a b
      → (has_ended b ≡ true → c ≡ b)
      → (has_ended b ≡ false → has_ended c ≡ false → (t : IsTurn (last_works b) (pages b) (seats_of b) (pages c) (seats_of c) answered dispatched) × (is_starving c ≡ is_starved t.dispatch.answer))
      → (has_ended b ≡ false → has_ended c ≡ true → IsLastTurn (pages b) (seats_of b) (pages c) (seats_of c) answered dispatched)
      → ∥ AreKept (pages c) (seats_of c) ∥₁ → SameSeats b c
      → (m : ℕ) × AreTurns m a c
  turns-more a b c answered dispatched h stays turn last kept same = more-turns h.0 a b c (has_ended b) answered dispatched refl h.1 stays turn last kept same
