-- What is printed for an answer, and for what a seat is answered. Numbers are in decimal, sectors in hexadecimal.
use Rattle.std.specs.Prelude.{ℕ, ◌/◌, List, ◌∷◌, ◌++◌, length, codes}
use Rattle.std.specs.Fmt.{decimal}
use Rattle.sector_core.specs.declared.range.Range.{Range}
use Rattle.sector_core.specs.declared.bio.Op.{Op}
use Rattle.sector_core.specs.declared.bio.Op.TheVariants.{Fetch, Store, Discard}
use Rattle.sector_core.specs.declared.bio.BioResult.{BioResult}
use Rattle.sector_core.specs.declared.bio.BioResult.TheVariants.{Read, Written, Discarded, IoError}
use Rattle.sector_core.specs.declared.bio.FailKind.{FailKind}
use Rattle.sector_core.specs.declared.bio.FailKind.TheVariants.{Short, Fault}
use Rattle.sector_text.specs.Hex.{hex_words}
use Rattle.plain.specs.Numbers.{code_number, cause_number}
use Rattle.plain.specs.declared.answer.Reply.{Reply}
use Rattle.plain.specs.declared.answer.Reply.TheVariants.{Attached, Queued, Completed, Left, Issued, Finished, Requeued, Group, Done, Moved, Taken}
use Rattle.plain.specs.declared.answer.Answer.{Answer}
use Rattle.plain.specs.declared.answer.Answer.TheVariants.{Accepted, Refused, NotYet}
use Rattle.host_calls.specs.declared.ring.RingReply.{RingReply}
use Rattle.host_calls.specs.declared.ring.RingReply.TheVariants as ring

abbrev pub op_text : Op → List ℕ
op_text Fetch = codes "fetch"
op_text Store = codes "store"
op_text Discard = codes "discard"

-- the tag, the issue, what the device is asked for, and where
abbrev pub sent_text : ℕ → ℕ → Op → Range → List ℕ
sent_text tag issue op range =
    decimal tag ++ 32 ∷ (decimal issue ++ 32 ∷ (op_text op ++ 32 ∷ (decimal range.start ++ 32 ∷ decimal range.count)))

abbrev pub kind_text : FailKind → List ℕ
kind_text Short = codes "short"
kind_text Fault = codes "fault"

-- what became of a bio: each sector that was read after one space
abbrev pub result_text : BioResult → List ℕ
result_text (Read bytes) = codes "read" ++ hex_words (length bytes / 512) bytes
result_text Written = codes "written"
result_text Discarded = codes "discarded"
result_text (IoError kind) = codes "error " ++ kind_text kind

abbrev pub reply_text : Reply → List ℕ
reply_text (Attached session) = codes "attached " ++ decimal session
reply_text (Queued bio) = codes "queued " ++ decimal bio
reply_text (Completed bio result) = codes "completed " ++ (decimal bio ++ 32 ∷ result_text result)
reply_text Left = codes "left"
reply_text (Issued tag issue op range) = codes "issued " ++ sent_text tag issue op range
reply_text (Finished bios) = codes "finished " ++ decimal bios
reply_text Requeued = codes "requeued"
reply_text (Group number) = codes "group " ++ decimal number
reply_text Done = codes "done"
reply_text (Moved cursor length) = codes "moved " ++ (decimal cursor ++ 32 ∷ decimal length)
reply_text (Taken work) = codes "taken " ++ sent_text work.tag work.issue work.op work.range

abbrev pub text_of : Answer → List ℕ
text_of (Accepted reply) = reply_text reply
text_of (Refused code) = codes "refused " ++ decimal (code_number code)
text_of (NotYet cause) = codes "notyet " ++ decimal (cause_number cause)

-- what a seat is answered: the keeper's answer, or that the host has ended (our format)
abbrev pub ring_text : RingReply → List ℕ
ring_text (ring.Answer answer) = text_of answer
ring_text ring.Closed = codes "closed"
