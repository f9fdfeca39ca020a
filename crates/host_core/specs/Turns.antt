-- A turn of the core: at most one call is answered, and then one Dispatch is tried (our profile).
use Rattle.std.specs.Prelude.{◌≡◌, ℕ, Bool, true, false, List, length, Option, None, Some}
use Rattle.plain.specs.declared.answer.Answer.{Answer}
use Rattle.plain.specs.declared.answer.Answer.TheVariants.{Accepted, Refused, NotYet}
use Rattle.plain.specs.declared.answer.Code.TheVariants.{OutOfMemory}
use Rattle.plain.specs.declared.call.Call.TheVariants.{Do}
use Rattle.plain.specs.declared.step.Step.TheVariants.{Dispatch}
use Rattle.host_calls.specs.declared.seat.SeatName.{SeatName}
use Rattle.host_calls.specs.declared.seat.SeatName.TheVariants.{Operator, Core}
use Rattle.host_core.specs.Journal.{Pages, Allows, calls_of, entered_by}
use Rattle.host_core.specs.Rows.{Row}
use Rattle.host_core.specs.Closing.{AllClose}
use Rattle.host_core.specs.Visits.{Serves, Stops, Changes}
use Rattle.host_core.specs.Rounds.{AllTook, Passes}

abbrev pub is_accepted : Answer → Bool
is_accepted (Accepted reply) = true
is_accepted (Refused code) = false
is_accepted (NotYet cause) = false

-- whether it was refused for want of memory
abbrev pub is_starved : Answer → Bool
is_starved (Accepted reply) = false
is_starved (Refused OutOfMemory) = true
is_starved (Refused other) = false
is_starved (NotYet cause) = false

-- the seat at a place was answered, and at the others a call may have been taken
pub record Answers (lasts : List (Option ℕ)) (place : ℕ) (p : Pages) (xs : List Row) (q : Pages) (ys : List Row) : Type 0 where
  pub between : List Row
  pub took : AllTook xs between
  pub changes : Changes place (λ r s. Serves lasts p r q s) between ys

-- the round: what waits at every seat is not yet right to answer, or the seat of this name was answered
abbrev pub RoundBy : List (Option ℕ) → Pages → List Row → Pages → List Row → Option SeatName → Type 0
RoundBy lasts p xs q ys None = Passes lasts 0 (length xs) p xs q ys
RoundBy lasts p xs q ys (Some name) = (place : ℕ) × (a : Answers lasts place p xs q ys) × (name ≡ a.changes.before.name)

-- one Dispatch was tried; if it was accepted it is the next entry, under the core's own name, and else it leaves no trace
pub record Dispatches (p q : Pages) (dispatched : Bool) : Type 0 where
  pub answer : Answer
  pub allows : Allows p.limits p.most (calls_of p.entries) (Do Dispatch) answer
  pub entries : q.entries ≡ entered_by p.entries Core (Do Dispatch) answer
  pub limits : q.limits ≡ p.limits
  pub most : q.most ≡ p.most
  pub told : dispatched ≡ is_accepted answer

-- a turn in which nobody asked for the end
pub record IsTurn (lasts : List (Option ℕ)) (p : Pages) (xs : List Row) (q : Pages) (ys : List Row) (answered : Option SeatName) (dispatched : Bool) : Type 0 where
  pub between : Pages
  pub round : RoundBy lasts p xs between ys answered
  pub dispatch : Dispatches between q dispatched

-- the operator's seat stands at a place and asks for the end, and nobody was answered
pub record Ends (place : ℕ) (p : Pages) (xs : List Row) (q : Pages) (ys : List Row) : Type 0 where
  pub between : List Row
  pub took : AllTook xs between
  pub changes : Changes place (λ r s. Stops p r q s) between ys

-- the turn in which the operator asked for the end: every seat hears it, and nothing is dispatched
pub record IsLastTurn (p : Pages) (xs : List Row) (q : Pages) (ys : List Row) (answered : Option SeatName) (dispatched : Bool) : Type 0 where
  pub between : List Row
  pub place : ℕ
  pub ends : Ends place p xs q between
  pub closes : AllClose between ys
  pub answered_is : answered ≡ Some Operator
  pub dispatched_is : dispatched ≡ false
