-- What a desk has had, whatever its kind: its calls with the seat's number put in, what waits, and its replies.
use Rattle.std.specs.Prelude.{◌≡◌, ℕ, Bool, List, ◌++◌, Option, None, Some}
use Rattle.std.specs.List.{fold}
use Rattle.plain.specs.declared.answer.Answer.TheVariants.{Accepted, Refused, NotYet}
use Rattle.plain.specs.declared.answer.Reply.{Reply}
use Rattle.plain.specs.declared.answer.Reply.TheVariants.{Taken}
use Rattle.host_calls.specs.declared.ring.RingReply.{RingReply}
use Rattle.host_calls.specs.declared.ring.RingReply.TheVariants.{Answer as Answered, Closed as Closing}
use Rattle.host_calls.specs.declared.seat.SeatName.{SeatName}
use Rattle.host_core.specs.Kinds.{AreOfKind}
use Rattle.host_core.specs.declared.asked.Asked.{Asked}

pub record Row : Type 0 where
  pub name : SeatName
  pub taken : List Asked
  pub waiting : List Asked
  pub replied : List RingReply
  pub closed : Bool

-- the issue of the work that a reply hands out, or else the one before
abbrev pub taken_in : Option ℕ → Reply → Option ℕ
taken_in last (Taken work) = Some work.issue
taken_in last other = last

abbrev pub taken_by : Option ℕ → RingReply → Option ℕ
taken_by last (Answered (Accepted reply)) = taken_in last reply
taken_by last (Answered (Refused code)) = last
taken_by last (Answered (NotYet cause)) = last
taken_by last Closing = last

-- the issue of the work that was handed out last; it stays when that work has ended (our profile)
abbrev pub last_taken : List RingReply → Option ℕ
last_taken replies = fold taken_by None replies

-- at most one call was taken, and nothing else has changed: what was taken is what was answered by then, and what waits; what waits is
-- of the seat's kind, as it was before (our profile)
pub record Took (r s : Row) : Type 0 where
  pub name : s.name ≡ r.name
  pub replied : s.replied ≡ r.replied
  pub closed : s.closed ≡ r.closed
  pub kind : AreOfKind r.name r.waiting → AreOfKind s.name s.waiting
  pub taken_is : (done : List Asked) → r.taken ≡ done ++ r.waiting → s.taken ≡ done ++ s.waiting
