-- How a seat of a host answers a client (our profile).
use Rattle.std.specs.Prelude.{◌≡◌, true, false, [], ◌∷◌, ◌++◌, length, Result, Ok, Err}
use Rattle.plain.specs.declared.answer.Answer.{Answer}
use Rattle.host_calls.specs.Frames.{AnswerHasFrame}
use Rattle.host_calls.specs.declared.client.ClientCall.{ClientCall}
use Rattle.host_calls.specs.declared.ring.Closed.{Closed}
use Rattle.host_calls.specs.declared.ring.RingReply.{RingReply}
use Rattle.host_calls.specs.declared.ring.RingReply.TheVariants.{Answer as Answered, Closed as Closing}
use Rattle.host_core.specs.Rules.{IsFinal}
use Rattle.host_core.specs.Seats.{staged, collected, is_closed, SameSeat}
use Rattle.host_core.specs.declared.seat_rules.ClientReplies.{ClientReplies}
use Rattle.host_core.specs.declared.seat.Seat.{Seat}

-- the seat of a client
abbrev pub Caller : Type 0
Caller = Seat ClientCall ClientReplies

-- if the host has not ended, each call of the seat was answered
abbrev pub IsBetween : Caller → Type 0
IsBetween s = is_closed s ≡ false → length (staged s) ≡ length (collected s)

-- one call was staged, and one reply collected
abbrev pub Exchanged : Caller → ClientCall → RingReply → Caller → Type 0
Exchanged s call reply t = (staged t ≡ staged s ++ call ∷ []) × (collected t ≡ collected s ++ reply ∷ [])

-- nothing was staged, and nothing collected
abbrev pub IsUnasked : Caller → Caller → Type 0
IsUnasked s t = (staged t ≡ staged s) × (collected t ≡ collected s)

-- the call gets an answer, which has a frame and is final; or it finds that the host ends, or that it had ended before
abbrev pub AsksSeat : Caller → ClientCall → Result Answer Closed → Caller → Type 0
AsksSeat s call (Ok answer) t =
    SameSeat s t × (is_closed s ≡ false) × (is_closed t ≡ false) × Exchanged s call (Answered answer) t × AnswerHasFrame answer × IsFinal answer
AsksSeat s call (Err closed) t =
    SameSeat s t × (is_closed t ≡ true) × (is_closed s ≡ false → Exchanged s call Closing t) × (is_closed s ≡ true → IsUnasked s t)
