-- Which answers have a frame of the host: what it can send over a socket (our profile).
use Rattle.std.specs.Prelude.{◌≡◌, ℕ, ◌*◌, ◌≤◌, length}
use Rattle.sector_core.specs.declared.bio.BioResult.{BioResult}
use Rattle.sector_core.specs.declared.bio.BioResult.TheVariants.{Read, Written, Discarded, IoError}
use Rattle.plain.specs.declared.answer.Reply.{Reply}
use Rattle.plain.specs.declared.answer.Reply.TheVariants.{Attached, Queued, Completed, Left, Issued, Finished, Requeued, Group, Done, Moved, Taken}
use Rattle.plain.specs.declared.answer.Answer.{Answer}
use Rattle.plain.specs.declared.answer.Answer.TheVariants.{Accepted, Refused, NotYet}
use Rattle.host_calls.specs.declared.ring.RingReply.{RingReply}
use Rattle.host_calls.specs.declared.ring.RingReply.TheVariants as ring

-- a result has one: of a read, where its bytes are those of 1 to 64 sectors of 512 bytes
abbrev pub ResultHasFrame : BioResult → Type 0
ResultHasFrame (Read bytes) = (count : ℕ) × (1 ≤ count) × (count ≤ 64) × (length bytes ≡ 512 * count)
ResultHasFrame Written = Unit {0}
ResultHasFrame Discarded = Unit {0}
ResultHasFrame (IoError kind) = Unit {0}

-- the replies to clients and to the operator have one; those to the dispatcher and to devices are never sent, and have none
abbrev pub ReplyHasFrame : Reply → Type 0
ReplyHasFrame (Attached session) = Unit {0}
ReplyHasFrame (Queued bio) = Unit {0}
ReplyHasFrame (Completed bio result) = ResultHasFrame result
ReplyHasFrame Left = Unit {0}
ReplyHasFrame (Issued tag issue op range) = ⊥
ReplyHasFrame (Finished bios) = ⊥
ReplyHasFrame Requeued = ⊥
ReplyHasFrame (Group number) = Unit {0}
ReplyHasFrame Done = Unit {0}
ReplyHasFrame (Moved cursor steps) = Unit {0}
ReplyHasFrame (Taken work) = ⊥

-- this holds of the reply, if the answer is that the call is accepted
abbrev pub IfAccepted : (Reply → Type 0) → Answer → Type 0
IfAccepted R (Accepted reply) = R reply
IfAccepted R (Refused code) = Unit {0}
IfAccepted R (NotYet cause) = Unit {0}

-- every refusal has one, and every NotYet
abbrev pub AnswerHasFrame : Answer → Type 0
AnswerHasFrame answer = IfAccepted ReplyHasFrame answer

-- and so has that the host has ended
abbrev pub HasFrame : RingReply → Type 0
HasFrame (ring.Answer answer) = AnswerHasFrame answer
HasFrame ring.Closed = Unit {0}
