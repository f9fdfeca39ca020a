-- Which replies may go to a seat, by its kind.
use Rattle.plain.specs.declared.answer.Answer.{Answer}
use Rattle.plain.specs.declared.answer.Answer.TheVariants.{Accepted, Refused, NotYet}
use Rattle.host_calls.specs.Frames.{AnswerHasFrame}
use Rattle.host_calls.specs.declared.ring.RingReply.{RingReply}
use Rattle.host_calls.specs.declared.ring.RingReply.TheVariants as ring

-- a final answer: the call does not wait (our profile)
abbrev pub IsFinal : Answer → Type 0
IsFinal (Accepted reply) = Unit {0}
IsFinal (Refused code) = Unit {0}
IsFinal (NotYet cause) = ⊥

-- to a client: Closed, or a final answer that has a frame; so a client is never told that it is not yet time (our profile)
abbrev pub IsForClients : RingReply → Type 0
IsForClients (ring.Answer answer) = AnswerHasFrame answer × IsFinal answer
IsForClients ring.Closed = Unit {0}
