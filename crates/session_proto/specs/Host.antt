-- What the host sends, and how it is spelled, the same in each version.
use Rattle.std.specs.Prelude.{ℕ, ◌<◌, ◌^◌, ◌%◌, ◌&&◌, List, [], ◌∷◌, ◌++◌, length, Bool, Option, None, Some, Result, Ok, Err, nat_lt, nat_le, ◌==◌, if◌then◌else◌}
use Rattle.std.specs.Int.{w8, w32, w64}
use Rattle.sector_core.specs.declared.bio.BioResult.{BioResult}
use Rattle.sector_core.specs.declared.bio.BioResult.TheVariants.{Read, Written, Discarded, IoError}
use Rattle.sector_core.specs.declared.bio.FailKind.{FailKind}
use Rattle.sector_core.specs.declared.bio.FailKind.TheVariants.{Short, Fault as Faulty}
use Rattle.plain.specs.Numbers.{code_number, code_of_number, cause_number, cause_of_number}
use Rattle.plain.specs.declared.answer.Reply.{Reply}
use Rattle.plain.specs.declared.answer.Reply.TheVariants.{Attached, Queued, Completed, Left, Issued, Finished, Requeued, Group, Done, Moved, Taken}
use Rattle.plain.specs.declared.answer.Answer.TheVariants.{Accepted, Refused, NotYet}
use Rattle.host_calls.specs.Frames.{IfAccepted, HasFrame}
use Rattle.host_calls.specs.declared.ring.RingReply.{RingReply}
use Rattle.host_calls.specs.declared.ring.RingReply.TheVariants.{Answer, Closed}
use Rattle.session_proto.specs.declared.fault.Fault.{Fault}
use Rattle.session_proto.specs.declared.fault.Fault.TheVariants.{BadBody}
use Rattle.session_proto.specs.declared.host.Host.{Host}
use Rattle.session_proto.specs.Fields.{◌>>=◌, big_endian, number_at, ended, named}
use Rattle.session_proto.specs.Kinds.{read_by}

-- the number of how a device failed (our format)
abbrev pub fail_number : FailKind → ℕ
fail_number Short = 1
fail_number Faulty = 2

-- how a device failed, by its number, or none (our format)
unfoldable pub fail_of_number : ℕ → Option FailKind
fail_of_number n = if n == 1 then Some Short else if n == 2 then Some Faulty else None

-- what became of a bio, by its kind (our format)
abbrev pub result_body : ℕ → BioResult → List ℕ
result_body bio (Read bytes) = 0x83 ∷ big_endian w64 bio ++ bytes
result_body bio Written = 0x84 ∷ big_endian w64 bio
result_body bio (IoError kind) = 0x85 ∷ big_endian w64 bio ++ big_endian w8 (fail_number kind)
result_body bio Discarded = 0x87 ∷ big_endian w64 bio

-- the replies to clients and to the operator, by their kinds; the others have no frame, and so no body (our format)
abbrev pub reply_body : Reply → List ℕ
reply_body (Attached session) = 0x81 ∷ big_endian w64 session
reply_body (Queued bio) = 0x82 ∷ big_endian w64 bio
reply_body (Completed bio result) = result_body bio result
reply_body Left = 0x86 ∷ []
reply_body (Issued tag issue op range) = []
reply_body (Finished bios) = []
reply_body Requeued = []
reply_body (Group number) = 0x91 ∷ big_endian w8 number
reply_body Done = 0x92 ∷ []
reply_body (Moved cursor steps) = 0x93 ∷ big_endian w32 cursor ++ big_endian w32 steps
reply_body (Taken work) = []

-- the host's answers, by their kinds (our format)
abbrev pub host_body : RingReply → List ℕ
host_body (Answer (Accepted reply)) = reply_body reply
host_body (Answer (Refused code)) = 0xe0 ∷ big_endian w8 (code_number code)
host_body (Answer (NotYet cause)) = 0xe1 ∷ big_endian w8 (cause_number cause)
host_body Closed = 0x9f ∷ []

-- each number fits its field, as its type has it (our format)
abbrev pub ReplyNumbersFit : Reply → Type 0
ReplyNumbersFit (Attached session) = session < 2 ^ 64
ReplyNumbersFit (Queued bio) = bio < 2 ^ 64
ReplyNumbersFit (Completed bio result) = bio < 2 ^ 64
ReplyNumbersFit Left = Unit {0}
ReplyNumbersFit (Issued tag issue op range) = Unit {0}
ReplyNumbersFit (Finished bios) = Unit {0}
ReplyNumbersFit Requeued = Unit {0}
ReplyNumbersFit (Group number) = number < 2 ^ 8
ReplyNumbersFit Done = Unit {0}
ReplyNumbersFit (Moved cursor steps) = (cursor < 2 ^ 32) × (steps < 2 ^ 32)
ReplyNumbersFit (Taken work) = Unit {0}

-- so it is with the reply of an accepted call, and no other answer has a number of any size
abbrev pub NumbersFit : RingReply → Type 0
NumbersFit (Answer answer) = IfAccepted ReplyNumbersFit answer
NumbersFit Closed = Unit {0}

-- it has a frame of the host, and its numbers fit (our profile)
abbrev pub HostFits : RingReply → Type 0
HostFits reply = HasFrame reply × NumbersFit reply

-- the answer that a call is accepted
abbrev pub accepted : Reply → RingReply
accepted reply = Answer (Accepted reply)

-- an Attached: the session's name (our format)
unfoldable pub attached_at : List ℕ → Result RingReply Fault
attached_at fields = do
  session ← number_at w64 fields
  ended (accepted (Attached session.0)) session.1

-- a Queued: the bio's name (our format)
unfoldable pub queued_at : List ℕ → Result RingReply Fault
queued_at fields = do
  bio ← number_at w64 fields
  ended (accepted (Queued bio.0)) bio.1

-- these are the bytes of 1 to 64 sectors, of 512 bytes each (our format)
unfoldable pub is_sectors : List ℕ → Bool
is_sectors bytes = nat_lt 0 (length bytes) && nat_le (length bytes) 32768 && length bytes % 512 == 0

-- a Completed, read: the bio's name, and all that follows are the bytes that were read (our format)
unfoldable pub read_at : List ℕ → Result RingReply Fault
read_at fields = do
  bio ← number_at w64 fields
  if is_sectors bio.1 then Ok (accepted (Completed bio.0 (Read bio.1))) else Err BadBody

-- a Completed, written: the bio's name (our format)
unfoldable pub written_at : List ℕ → Result RingReply Fault
written_at fields = do
  bio ← number_at w64 fields
  ended (accepted (Completed bio.0 Written)) bio.1

-- a Completed, error: the bio's name, and how the device failed in a byte (our format)
unfoldable pub error_at : List ℕ → Result RingReply Fault
error_at fields = do
  bio ← number_at w64 fields
  number ← number_at w8 bio.1
  kind ← named (fail_of_number number.0)
  ended (accepted (Completed bio.0 (IoError kind))) number.1

-- a Completed, discarded: the bio's name (our format)
unfoldable pub discarded_at : List ℕ → Result RingReply Fault
discarded_at fields = do
  bio ← number_at w64 fields
  ended (accepted (Completed bio.0 Discarded)) bio.1

-- a Group: its number in a byte (our format)
unfoldable pub group_at : List ℕ → Result RingReply Fault
group_at fields = do
  number ← number_at w8 fields
  ended (accepted (Group number.0)) number.1

-- a Moved: four bytes of cursor and four of the length of the line (our format)
unfoldable pub moved_at : List ℕ → Result RingReply Fault
moved_at fields = do
  cursor ← number_at w32 fields
  steps ← number_at w32 cursor.1
  ended (accepted (Moved cursor.0 steps.0)) steps.1

-- a Refused: the code's number in a byte (our format)
unfoldable pub refused_at : List ℕ → Result RingReply Fault
refused_at fields = do
  number ← number_at w8 fields
  code ← named (code_of_number number.0)
  ended (Answer (Refused code)) number.1

-- a NotYet: the cause's number in a byte (our format)
unfoldable pub not_yet_at : List ℕ → Result RingReply Fault
not_yet_at fields = do
  number ← number_at w8 fields
  cause ← named (cause_of_number number.0)
  ended (Answer (NotYet cause)) number.1

-- the host's kinds (our format)
abbrev pub host_kinds : List (ℕ × (List ℕ → Result RingReply Fault))
host_kinds =
    (0x81, attached_at) ∷ (0x82, queued_at) ∷ (0x83, read_at) ∷ (0x84, written_at) ∷ (0x85, error_at) ∷ (0x86, ended (accepted Left)) ∷ (0x87, discarded_at) ∷
    (0x91, group_at) ∷ (0x92, ended (accepted Done)) ∷ (0x93, moved_at) ∷ (0x9f, ended Closed) ∷ (0xe0, refused_at) ∷ (0xe1, not_yet_at) ∷ []

-- what a body says that the host sent (our format)
unfoldable pub host_at : List ℕ → Result Host Fault
host_at body = do
  reply ← read_by host_kinds body
  Ok (record { 0 = reply })
