-- A seat stays one of its host's, whatever it and the core do.
use Rattle.std.proofs.Common.{◌≡◌, List, Some, slice_get, subst, sym}
use Rattle.host_calls.specs.declared.client.ClientCall.{ClientCall}
use Rattle.host_calls.specs.declared.operator.OperatorCall.{OperatorCall}
use Rattle.plain.specs.declared.call.DeviceCall.{DeviceCall}
use Rattle.rtrb.specs.declared.AnyItems.{AnyItems}
use Rattle.host_core.specs.Seats.{seat_number, SameSeat, SameDesk, AreBeside}
use Rattle.host_core.specs.declared.desk.Desk.{Desk}
use Rattle.host_core.specs.declared.seat_rules.ClientReplies.{ClientReplies}
use Rattle.host_core.specs.declared.seat_rules.OperatorReplies.{OperatorReplies}
use Rattle.host_core.specs.declared.seat.Seat.{Seat}
use Rattle.host_core.specs.declared.judges.Judges as journal
use Rattle.host_core.specs.Same.{SameEach}
use Rattle.host_core.specs.RowSettling.{IsSeatedIn}
use Rattle.host_core.proofs.Same.{desks-twice}
use Rattle.host_core.specs.Cores.{SameSeats}
use Rattle.host_core.specs.Settling.{IsCallerOf, IsDeviceOf, IsOperatorOf}
use Rattle.host_core.specs.declared.turns.Core.{Core}

module _ {C P : Type 0} where
  pub beside-desk : (s : Seat C P) (d e : Desk C P) → AreBeside s d → SameDesk d e → AreBeside s e
  beside-desk s d e h same = search

  pub beside-seat : (s t : Seat C P) (d : Desk C P) → AreBeside s d → SameSeat s t → AreBeside t d
  beside-seat s t d h same = search

  -- the core has worked
  pub seated-desks : (s : Seat C P) (xs ys : List (Desk C P)) → IsSeatedIn s xs → SameEach xs ys → IsSeatedIn s ys
  seated-desks s xs ys h same =
      let e = same (seat_number s) h.0 h.1 in (e.0, e.1, beside-desk s h.0 e.0 h.2 e.2)

  -- the seat has worked
  pub seated-seat : (s t : Seat C P) (xs : List (Desk C P)) → IsSeatedIn s xs → SameSeat s t → IsSeatedIn t xs
  seated-seat s t xs h same =
      (h.0, subst (λ n. slice_get xs n ≡ Some h.0) (sym same.2) h.1, beside-seat s t h.0 h.2 same)

module _ {B : Type 0} {j : journal.Ghosts B} where
  pub seats-twice : (a b c : Core B j) → SameSeats a b → SameSeats b c → SameSeats a c
  seats-twice a b c first then = desks-twice a.desks b.desks c.desks first then

  -- seats of this core's host, by their kind, after it has worked
  pub caller-stays : (a b : Core B j) (s : Seat ClientCall ClientReplies) → IsCallerOf a s → SameSeats a b → IsCallerOf b s
  caller-stays a b s h same = seated-desks s a.desks.callers.items b.desks.callers.items h same.0

  pub device-stays : (a b : Core B j) (s : Seat DeviceCall AnyItems) → IsDeviceOf a s → SameSeats a b → IsDeviceOf b s
  device-stays a b s h same = seated-desks s a.desks.devices.items b.desks.devices.items h same.1

  pub operator-stays : (a b : Core B j) (s : Seat OperatorCall OperatorReplies) → IsOperatorOf a s → SameSeats a b → IsOperatorOf b s
  operator-stays a b s h same = beside-desk s a.desks.operator b.desks.operator h same.2

  -- and after the seat has
  pub caller-works : (a : Core B j) (s t : Seat ClientCall ClientReplies) → IsCallerOf a s → SameSeat s t → IsCallerOf a t
  caller-works a s t h same = seated-seat s t a.desks.callers.items h same

  pub device-works : (a : Core B j) (s t : Seat DeviceCall AnyItems) → IsDeviceOf a s → SameSeat s t → IsDeviceOf a t
  device-works a s t h same = seated-seat s t a.desks.devices.items h same

  pub operator-works : (a : Core B j) (s t : Seat OperatorCall OperatorReplies) → IsOperatorOf a s → SameSeat s t → IsOperatorOf a t
  operator-works a s t h same = beside-seat s t a.desks.operator h same
