-- What a client sends, and how it is spelled in each version.
use Rattle.std.specs.Prelude.{◌≡◌, ℕ, ◌<◌, ◌≤◌, ◌^◌, List, [], ◌∷◌, ◌++◌, length, Result, Ok, Err, Option, Some, None, ◌==◌, nat_le, if◌then◌else◌}
use Rattle.std.specs.Int.{w8, w16, w64}
use Rattle.sector_core.specs.declared.bio.Op.TheVariants.{Fetch, Store, Discard}
use Rattle.sector_core.specs.declared.class.Class.{Class}
use Rattle.sector_core.specs.declared.class.Class.TheVariants.{RealTime, BestEffort, Idle}
use Rattle.sector_core.specs.declared.range.Range.{Range}
use Rattle.plain.specs.declared.step.Why.TheVariants.{Ended}
use Rattle.host_calls.specs.declared.client.ClientCall.{ClientCall}
use Rattle.host_calls.specs.declared.client.ClientCall.TheVariants.{Attach, Submit, Reap, Leave}
use Rattle.session_proto.specs.declared.fault.Fault.{Fault}
use Rattle.session_proto.specs.declared.fault.Fault.TheVariants.{BadBody}
use Rattle.session_proto.specs.declared.version.Version.{Version}
use Rattle.session_proto.specs.declared.version.Version.TheVariants.{One, Two}
use Rattle.session_proto.specs.declared.client.Client.{Client}
use Rattle.session_proto.specs.Fields.{◌>>=◌, big_endian, number_at, ended, named}
use Rattle.session_proto.specs.Kinds.{read_by}

-- a submit's session, first sector and count of sectors (our format)
unfoldable pub span_bytes : ℕ → Range → List ℕ
span_bytes session range = big_endian w64 session ++ big_endian w64 range.start ++ big_endian w16 range.count

-- the number of a class (our format: best effort is not sent, as kind 01 spells it)
abbrev pub class_number : Class → ℕ
class_number RealTime = 1
class_number BestEffort = 2
class_number Idle = 3

-- an Attach's group, priority and the number of its class (our format)
unfoldable pub class_bytes : ℕ → ℕ → ℕ → List ℕ
class_bytes group prio number = big_endian w8 group ++ (big_endian w8 prio ++ big_endian w8 number)

-- a client's calls, by their kinds; an Attach of best effort does not say its class (our format)
abbrev pub client_body : ClientCall → List ℕ
client_body (Attach group prio BestEffort) = 0x01 ∷ big_endian w8 group ++ big_endian w8 prio
client_body (Attach group prio RealTime) = 0x08 ∷ class_bytes group prio (class_number RealTime)
client_body (Attach group prio Idle) = 0x08 ∷ class_bytes group prio (class_number Idle)
client_body (Submit session Fetch range payload) = 0x02 ∷ span_bytes session range
client_body (Submit session Store range payload) = 0x03 ∷ span_bytes session range ++ payload
client_body (Submit session Discard range payload) = 0x06 ∷ span_bytes session range
client_body (Reap session) = 0x04 ∷ big_endian w64 session
client_body (Leave why) = 0x05 ∷ []

-- the numbers of a submit fit their fields (our format: a count has two bytes)
abbrev pub SpanFits : ℕ → Range → Type 0
SpanFits session range = (session < 2 ^ 64) × (range.start < 2 ^ 64) × (range.count < 2 ^ 16)

-- an Attach of this class has a frame: of best effort in each version, of another in version 2 (our format)
abbrev pub ClassFits : Version → Class → Type 0
ClassFits One RealTime = ⊥
ClassFits One BestEffort = Unit {0}
ClassFits One Idle = ⊥
ClassFits Two class = Unit {0}

-- a discard has a frame in version 2 (our format)
abbrev pub DiscardFits : Version → Type 0
DiscardFits One = ⊥
DiscardFits Two = Unit {0}

-- a fetch or a discard has no payload, and a store at most that of 64 sectors, whatever its count; a client only says that it has ended
-- (our format)
abbrev pub ClientFits : Version → ClientCall → Type 0
ClientFits version (Attach group prio class) = (group < 2 ^ 8) × (prio < 2 ^ 8) × ClassFits version class
ClientFits version (Submit session Fetch range payload) = SpanFits session range × (payload ≡ [])
ClientFits version (Submit session Store range payload) = SpanFits session range × (length payload ≤ 32768)
ClientFits version (Submit session Discard range payload) = SpanFits session range × (payload ≡ []) × DiscardFits version
ClientFits version (Reap session) = session < 2 ^ 64
ClientFits version (Leave why) = why ≡ Ended

-- an Attach of best effort: a byte of group and one of priority (our format)
unfoldable pub attach_at : List ℕ → Result ClientCall Fault
attach_at fields = do
  group ← number_at w8 fields
  prio ← number_at w8 group.1
  ended (Attach group.0 prio.0 BestEffort) prio.1

-- the class whose number it is; best effort has none, as its Attach does not say it (our format)
unfoldable pub class_of_number : ℕ → Option Class
class_of_number n = if n == 1 then Some RealTime else if n == 3 then Some Idle else None

-- an Attach of another class: a byte of group, one of priority and one of class (our format)
unfoldable pub class_attach_at : List ℕ → Result ClientCall Fault
class_attach_at fields = do
  group ← number_at w8 fields
  prio ← number_at w8 group.1
  number ← number_at w8 prio.1
  class ← named (class_of_number number.0)
  ended (Attach group.0 prio.0 class) number.1

-- a submit's session and sectors, and what follows them (our format)
unfoldable pub span_at : List ℕ → Result (ℕ × Range × List ℕ) Fault
span_at fields = do
  session ← number_at w64 fields
  start ← number_at w64 session.1
  count ← number_at w16 start.1
  Ok (session.0, record { start = start.0; count = count.0 }, count.1)

-- a fetch: no payload follows (our format)
unfoldable pub fetch_at : List ℕ → Result ClientCall Fault
fetch_at fields = do
  span ← span_at fields
  ended (Submit span.0 Fetch span.1 []) span.2

-- a store: all that follows is the payload, of at most 64 sectors (our format)
unfoldable pub store_at : List ℕ → Result ClientCall Fault
store_at fields = do
  span ← span_at fields
  if nat_le (length span.2) 32768 then Ok (Submit span.0 Store span.1 span.2) else Err BadBody

-- a discard: no payload follows (our format)
unfoldable pub discard_at : List ℕ → Result ClientCall Fault
discard_at fields = do
  span ← span_at fields
  ended (Submit span.0 Discard span.1 []) span.2

-- a Reap: the session's name (our format)
unfoldable pub reap_at : List ℕ → Result ClientCall Fault
reap_at fields = do
  session ← number_at w64 fields
  ended (Reap session.0) session.1

-- a client's kinds in each version (our format)
abbrev pub client_kinds : Version → List (ℕ × (List ℕ → Result ClientCall Fault))
client_kinds One = (0x01, attach_at) ∷ (0x02, fetch_at) ∷ (0x03, store_at) ∷ (0x04, reap_at) ∷ (0x05, ended (Leave Ended)) ∷ []
client_kinds Two =
    (0x01, attach_at) ∷ (0x02, fetch_at) ∷ (0x03, store_at) ∷ (0x04, reap_at) ∷ (0x05, ended (Leave Ended)) ∷
    (0x06, discard_at) ∷ (0x08, class_attach_at) ∷ []

-- what a body says that a client sent (our format)
unfoldable pub client_at : Version → List ℕ → Result Client Fault
client_at version body = do
  call ← read_by (client_kinds version) body
  Ok (record { 0 = call })
