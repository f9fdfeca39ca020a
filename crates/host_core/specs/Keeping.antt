-- The accounts of all seats against one journal.
use Rattle.std.specs.Prelude.{◌≡◌, ℕ, filter, ◌≤◌, Bool, true, false, List, [], ◌∷◌, length, Option, Some, slice_get}
use Rattle.plain.specs.declared.call.Call.{Call}
use Rattle.plain.specs.declared.call.Call.TheVariants.{Hold}
use Rattle.plain.specs.declared.answer.Answer.{Answer}
use Rattle.plain.specs.Opening.{Limits}
use Rattle.host_calls.specs.declared.ring.RingReply.{RingReply}
use Rattle.host_calls.specs.declared.ring.RingReply.TheVariants.{Answer as Answered, Closed as Ended}
use Rattle.host_calls.specs.declared.seat.SeatName.{SeatName}
use Rattle.host_calls.specs.declared.seat.SeatName.TheVariants.{Device}
use Rattle.host_core.specs.Journal.{Pages, Entry}
use Rattle.host_core.specs.Rows.{Row}
use Rattle.host_core.specs.declared.asked.Asked.{Asked}
use Rattle.host_core.specs.declared.asked.Asked.TheVariants.{Ask, Take, Stop}
use Rattle.host_core.specs.Account.{IsAccount}
use Rattle.host_core.specs.Judging.{JudgedBy}
use Rattle.host_core.specs.Turns.{is_accepted}
use Rattle.host_core.specs.Names.{same_name}

-- how many of these seats are a device's
abbrev pub is_device : SeatName → Bool
is_device (Device number) = true
is_device other = false

abbrev pub devices_among : List Row → ℕ
devices_among rows = length (filter (λ r. is_device r.name) rows)

-- an answer is right after some entries, for some choice of what each of so many devices took last (our profile)
abbrev pub judges : ℕ → Limits → ℕ → SeatName → List Entry → Asked → Answer → Type 0
judges devices l most name entries call answer = (lasts : List (Option ℕ)) × (length lasts ≡ devices) × JudgedBy l most name lasts entries call answer

-- an accepted call of the keeper is an entry; a Take is none (our profile)
abbrev pub is_entry : Asked → Answer → Bool
is_entry (Ask call) answer = is_accepted answer
is_entry (Take worker) answer = false
is_entry Stop answer = false

-- the call of an entry; of what is none, any
abbrev pub call_asked : Asked → Call
call_asked (Ask call) = call
call_asked (Take worker) = Hold
call_asked Stop = Hold

-- which entry
abbrev pub entry_under : SeatName → Asked → Entry
entry_under name call = record { name = name; call = call_asked call }

-- whose
abbrev pub is_own : SeatName → Entry → Bool
is_own name entry = same_name name entry.name

-- what the replies end with
abbrev pub closing : Bool → List RingReply
closing true = Ended ∷ []
closing false = []

-- the calls that were taken at a seat and its answers fit the journal, where there are so many devices
abbrev pub IsKept : ℕ → Pages → Row → Type 0
IsKept devices p r = IsAccount (judges devices p.limits p.most r.name) is_entry (entry_under r.name) (is_own r.name) Answered p.entries r.taken r.waiting r.replied (closing r.closed)

-- and so at each seat
abbrev pub AreKeptFor : ℕ → Pages → List Row → Type 0
AreKeptFor devices p rows = (i : ℕ) (r : Row) → slice_get rows i ≡ Some r → IsKept devices p r

-- where the devices are those among these seats
abbrev pub AreKept : Pages → List Row → Type 0
AreKept p rows = AreKeptFor (devices_among rows) p rows

-- at most one call of a seat was taken and is not answered yet
abbrev pub AreSingle : List Row → Type 0
AreSingle rows = (i : ℕ) (r : Row) → slice_get rows i ≡ Some r → length r.waiting ≤ 1

-- every seat has heard the end
abbrev pub AreShut : List Row → Type 0
AreShut rows = (i : ℕ) (r : Row) → slice_get rows i ≡ Some r → r.closed ≡ true
