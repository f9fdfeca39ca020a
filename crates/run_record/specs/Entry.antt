-- The entries of a record: each is a call of the journal under the name of its seat, and how it is spelled.
use Rattle.std.specs.Prelude.{◌≡◌, ℕ, ◌+◌, ◌-◌, ◌<◌, ◌≤◌, ◌^◌, Bool, true, false, List, [], ◌∷◌, ◌++◌, length, Option, None, Some, Result, Ok, Err, nat_le, nat_lt, ◌==◌, ◌&&◌, if◌then◌else◌}
use Rattle.std.specs.Int.{w8, w64}
use Rattle.sector_core.specs.declared.bio.Outcome.{Outcome}
use Rattle.sector_core.specs.declared.bio.Outcome.TheVariants as outcome
use Rattle.plain.specs.declared.step.Why.{Why}
use Rattle.plain.specs.declared.step.Why.TheVariants.{Ended, ReadFault, WriteFault, BadFrame, FrameLimit}
use Rattle.host_calls.specs.declared.operator.OperatorCall.{OperatorCall}
use Rattle.host_calls.specs.declared.operator.OperatorCall.TheVariants.{Stop}
use Rattle.session_proto.specs.declared.fault.Fault.{Fault}
use Rattle.session_proto.specs.declared.fault.Fault.TheVariants.{BadKind, BadBody}
use Rattle.session_proto.specs.Fields.{◌>>=◌, big_endian, number_at, ended, named}
use Rattle.session_proto.specs.declared.version.Version.TheVariants.{Two}
use Rattle.session_proto.specs.Kinds.{read_by}
use Rattle.session_proto.specs.Client.{client_body, ClientFits, client_at}
use Rattle.session_proto.specs.Operator.{operator_body, OperatorFits, operator_at}
use Rattle.session_proto.specs.Host.{fail_number, fail_of_number}
use Rattle.run_record.specs.declared.entry.Entry.{Entry}
use Rattle.run_record.specs.declared.entry.Entry.TheVariants.{Client, Leave, Finish, Requeue, Operator, Dispatch}

-- ---- how an entry is spelled

-- the number of a cause to leave (our format: that its client has ended is spelled by the client's own kind alone)
abbrev pub why_number : Why → ℕ
why_number Ended = 1
why_number ReadFault = 2
why_number WriteFault = 3
why_number BadFrame = 4
why_number FrameLimit = 5

-- the cause whose number it is, but for the client's end (our format)
unfoldable pub why_of_number : ℕ → Option Why
why_of_number n =
    if n == 2 then Some ReadFault else if n == 3 then Some WriteFault else if n == 4 then Some BadFrame else if n == 5 then Some FrameLimit else None

-- whose entry it is: a client by its seat, a device by its number, the operator, or the host's core (our format)
abbrev pub who_number : Entry → ℕ
who_number (Client seat call) = seat
who_number (Leave seat why) = seat
who_number (Finish worker tag issue o) = 0x40 + worker
who_number (Requeue worker tag issue) = 0x40 + worker
who_number (Operator call) = 0x80
who_number Dispatch = 0xc0

-- a tag and an issue (our format)
unfoldable pub flight_bytes : ℕ → ℕ → List ℕ
flight_bytes tag issue = big_endian w8 tag ++ big_endian w64 issue

-- what a device said of a request, by its kinds (our format)
abbrev pub finish_body : ℕ → ℕ → Outcome → List ℕ
finish_body tag issue outcome.Stored = 0x21 ∷ flight_bytes tag issue
finish_body tag issue (outcome.Fetched bytes) = 0x22 ∷ flight_bytes tag issue ++ bytes
finish_body tag issue (outcome.Failed kind) = 0x23 ∷ flight_bytes tag issue ++ big_endian w8 (fail_number kind)

-- the call of an entry: a client's and the operator's are spelled as on their sockets, a client's in version 2 (our format)
abbrev pub call_body : Entry → List ℕ
call_body (Client seat call) = client_body call.0
call_body (Leave seat why) = 0x09 ∷ big_endian w8 (why_number why)
call_body (Finish worker tag issue o) = finish_body tag issue o
call_body (Requeue worker tag issue) = 0x24 ∷ flight_bytes tag issue
call_body (Operator call) = operator_body call.0
call_body Dispatch = 0x31 ∷ []

-- an entry: whose it is, and its call (our format)
abbrev pub entry_body : Entry → List ℕ
entry_body entry = who_number entry ∷ call_body entry

-- ---- which entries have a frame

-- the operator's call is none for the keeper (our profile)
abbrev pub is_stop : OperatorCall → Bool
is_stop Stop = true
is_stop _ = false

-- what a device fetched is at most the bytes of 256 sectors (our format)
abbrev pub OutcomeFits : Outcome → Type 0
OutcomeFits outcome.Stored = Unit {0}
OutcomeFits (outcome.Fetched bytes) = length bytes ≤ 131072
OutcomeFits (outcome.Failed kind) = Unit {0}

-- the call of an entry fits its fields; what the client's own kinds spell has no other spelling (our format)
abbrev pub CallFits : Entry → Type 0
CallFits (Client seat call) = ClientFits Two call.0
CallFits (Leave seat why) = why_of_number (why_number why) ≡ Some why
CallFits (Finish worker tag issue o) = (tag < 2 ^ 8) × (issue < 2 ^ 64) × OutcomeFits o
CallFits (Requeue worker tag issue) = (tag < 2 ^ 8) × (issue < 2 ^ 64)
CallFits (Operator call) = OperatorFits call.0 × (is_stop call.0 ≡ false)
CallFits Dispatch = Unit {0}

-- there are 16 seats of clients and 4 devices (our profile)
abbrev pub WhoFits : Entry → Type 0
WhoFits (Client seat call) = seat < 16
WhoFits (Leave seat why) = seat < 16
WhoFits (Finish worker tag issue o) = worker < 4
WhoFits (Requeue worker tag issue) = worker < 4
WhoFits (Operator call) = Unit {0}
WhoFits Dispatch = Unit {0}

-- an entry has a frame (our format)
abbrev pub EntryFits : Entry → Type 0
EntryFits entry = WhoFits entry × CallFits entry

-- ---- how it is read

-- a Leave: a byte of its cause (our format)
unfoldable pub leave_at : ℕ → List ℕ → Result Entry Fault
leave_at seat fields = do
  number ← number_at w8 fields
  why ← named (why_of_number number.0)
  ended (Leave seat why) number.1

-- a client's call as on its socket, in version 2 (our format)
unfoldable pub client_entry_at : ℕ → List ℕ → Result Entry Fault
client_entry_at seat body = do
  call ← client_at Two body
  Ok (Client seat call)

-- a client's entry: the kind that its socket does not have, or one of its socket (our format)
abbrev pub seat_at : ℕ → List ℕ → Result Entry Fault
seat_at seat [] = Err BadKind
seat_at seat (kind ∷ fields) = if kind == 0x09 then leave_at seat fields else client_entry_at seat (kind ∷ fields)

-- a tag and an issue, and what follows them (our format)
unfoldable pub flight_at : List ℕ → Result (ℕ × ℕ × List ℕ) Fault
flight_at fields = do
  tag ← number_at w8 fields
  issue ← number_at w64 tag.1
  Ok (tag.0, issue.0, issue.1)

-- a Finish of a store: nothing follows (our format)
unfoldable pub stored_at : ℕ → List ℕ → Result Entry Fault
stored_at worker fields = do
  flight ← flight_at fields
  ended (Finish worker flight.0 flight.1 outcome.Stored) flight.2

-- a Finish of a fetch: all that follows are the device's bytes, of at most 256 sectors (our format)
unfoldable pub fetched_at : ℕ → List ℕ → Result Entry Fault
fetched_at worker fields = do
  flight ← flight_at fields
  if nat_le (length flight.2) 131072 then Ok (Finish worker flight.0 flight.1 (outcome.Fetched flight.2)) else Err BadBody

-- a Finish that tells a failure, by its number (our format)
unfoldable pub failed_at : ℕ → List ℕ → Result Entry Fault
failed_at worker fields = do
  flight ← flight_at fields
  number ← number_at w8 flight.2
  kind ← named (fail_of_number number.0)
  ended (Finish worker flight.0 flight.1 (outcome.Failed kind)) number.1

-- a Requeue: nothing follows (our format)
unfoldable pub requeue_at : ℕ → List ℕ → Result Entry Fault
requeue_at worker fields = do
  flight ← flight_at fields
  ended (Requeue worker flight.0 flight.1) flight.2

-- a device's kinds (our format)
abbrev pub device_kinds : ℕ → List (ℕ × (List ℕ → Result Entry Fault))
device_kinds worker = (0x21, stored_at worker) ∷ (0x22, fetched_at worker) ∷ (0x23, failed_at worker) ∷ (0x24, requeue_at worker) ∷ []

-- an operator's entry: a call as on its socket, but for Stop (our format)
unfoldable pub operator_entry_at : List ℕ → Result Entry Fault
operator_entry_at body = do
  call ← operator_at body
  if is_stop call.0 then Err BadKind else Ok (Operator call)

-- the core's kind (our format)
abbrev pub core_kinds : List (ℕ × (List ℕ → Result Entry Fault))
core_kinds = (0x31, ended Dispatch) ∷ []

-- an entry of whom a number names, by the bytes of its call (our format)
abbrev pub entry_of_who : ℕ → List ℕ → Result Entry Fault
entry_of_who who body =
    if nat_lt who 16 then seat_at who body
    else if nat_le 0x40 who && nat_lt who 0x44 then read_by (device_kinds (who - 0x40)) body
    else if who == 0x80 then operator_entry_at body
    else if who == 0xc0 then read_by core_kinds body
    else Err BadBody

-- what a body says of an entry (our format)
abbrev pub entry_at : List ℕ → Result Entry Fault
entry_at [] = Err BadKind
entry_at (who ∷ body) = entry_of_who who body
