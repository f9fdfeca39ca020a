-- What the core answers to what waits at a seat.
use Rattle.std.specs.Prelude.{◌≡◌, ℕ, Bool, true, false, List, Option}
use Rattle.plain.specs.declared.answer.Answer.{Answer}
use Rattle.plain.specs.declared.answer.Answer.TheVariants.{Accepted, Refused, NotYet}
use Rattle.plain.specs.declared.answer.Cause.{Cause}
use Rattle.plain.specs.declared.answer.Cause.TheVariants.{Held}
use Rattle.plain.specs.Headline.{replay}
use Rattle.plain.specs.Opening.{Limits}
use Rattle.host_calls.specs.declared.seat.SeatName.{SeatName}
use Rattle.host_calls.specs.declared.seat.SeatName.TheVariants.{Device, Operator}
use Rattle.host_core.specs.Journal.{Entry, calls_of, entered_by, Allows}
use Rattle.host_core.specs.Takes.{TakeRule}
use Rattle.host_core.specs.declared.asked.Asked.{Asked}
use Rattle.host_core.specs.declared.asked.Asked.TheVariants.{Ask, Take, Stop}

-- the number of a device's seat
abbrev pub own_number : SeatName → ℕ
own_number (Device n) = n
own_number other = 0

-- what the core may answer to what is asked at the seat of a name, after these entries; nothing to Stop
abbrev pub JudgedBy : Limits → ℕ → SeatName → List (Option ℕ) → List Entry → Asked → Answer → Type 0
JudgedBy l most name lasts entries (Ask call) answer = Allows l most (calls_of entries) call answer
JudgedBy l most name lasts entries (Take worker) answer = TakeRule (replay l most (calls_of entries)) (own_number name) worker lasts answer
JudgedBy l most name lasts entries Stop answer = ⊥

-- the entries after that: a Take is none
abbrev pub entered_at : List Entry → SeatName → Asked → Answer → List Entry
entered_at entries name (Ask call) answer = entered_by entries name call answer
entered_at entries name (Take worker) answer = entries
entered_at entries name Stop answer = entries

-- the operator's calls do not wait
abbrev pub keeps_calls : SeatName → Bool
keeps_calls Operator = false
keeps_calls other = true

-- whether a call that would get this answer waits on
abbrev pub is_kept : SeatName → Answer → Bool
is_kept name (Accepted reply) = false
is_kept name (Refused code) = false
is_kept name (NotYet cause) = keeps_calls name

-- who is told that it is not yet time: the operator alone, and only while the host is held (our profile)
abbrev pub MayHear : SeatName → Cause → Type 0
MayHear Operator cause = cause ≡ Held
MayHear other cause = ⊥

abbrev pub MayGet : SeatName → Answer → Type 0
MayGet name (Accepted reply) = Unit {0}
MayGet name (Refused code) = Unit {0}
MayGet name (NotYet cause) = MayHear name cause
