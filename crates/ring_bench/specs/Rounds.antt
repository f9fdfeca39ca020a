-- Four clients and the operator that work in threads of their own.
use Rattle.std.specs.Prelude.{◌≡◌, ℕ, List, Some, slice_get}
use Rattle.host_calls.specs.declared.client.ClientCall.{ClientCall}
use Rattle.host_core.specs.declared.judges.Judges as journal
use Rattle.host_core.specs.Seats.{SameSeat}
use Rattle.host_core.specs.declared.seat_rules.ClientReplies.{ClientReplies}
use Rattle.host_core.specs.declared.seat.Seat.{Seat}
use Rattle.host_core.specs.Opening.{IsIdle}
use Rattle.host_core.specs.Settling.{IsCallerOf, IsOperatorOf}
use Rattle.host_core.specs.declared.turns.Core.{Core}
use Rattle.ring_bench.specs.declared.rounds.Fresh.{Fresh}
use Rattle.ring_bench.specs.declared.rounds.Done.{Done}

-- nothing has come to them
abbrev pub AreFresh : Fresh → Type 0
AreFresh s = IsIdle s.first × IsIdle s.second × IsIdle s.third × IsIdle s.fourth × IsIdle s.operator

-- they are the same seats as these, which have worked
abbrev pub AreSame : Fresh → Done → Type 0
AreSame s d = SameSeat s.first d.first.0.seat × SameSeat s.second d.first.1.seat × SameSeat s.third d.second.0.seat × SameSeat s.fourth d.second.1.seat
    × SameSeat s.operator d.operator

module _ {B : Type 0} {j : journal.Ghosts B} where
  -- a seat of this core's host to which nothing has come, and every seat of these
  abbrev pub IsFreshOf : Core B j → Seat ClientCall ClientReplies → Type 0
  IsFreshOf core s = IsIdle s × IsCallerOf core s

  abbrev pub AreFreshOf : Core B j → List (Seat ClientCall ClientReplies) → Type 0
  AreFreshOf core seats = (i : ℕ) (s : _) → slice_get seats i ≡ Some s → IsFreshOf core s

  -- all are of this core's host
  abbrev pub AreOf : Core B j → Done → Type 0
  AreOf core d = IsCallerOf core d.first.0.seat × IsCallerOf core d.first.1.seat × IsCallerOf core d.second.0.seat × IsCallerOf core d.second.1.seat
      × IsOperatorOf core d.operator
