-- How a keeper on one thread answers a client.
use Rattle.std.specs.Prelude.{Result, Ok, Err}
use Rattle.plain.specs.declared.answer.Answer.{Answer}
use Rattle.plain.specs.Keeper.{State}
use Rattle.plain.specs.Headline.{MayCall}
use Rattle.host_calls.specs.Asked.{client_call}
use Rattle.host_calls.specs.Frames.{AnswerHasFrame}
use Rattle.host_calls.specs.declared.client.ClientCall.{ClientCall}
use Rattle.host_calls.specs.declared.ring.Closed.{Closed}

-- with the keeper's own answer to the call, made at seat 0, which has a frame of the host; it never ends (our profile)
abbrev pub AsksKeeper : State → ClientCall → Result Answer Closed → State → Type 0
AsksKeeper k call (Ok answer) next = MayCall k (client_call 0 call) answer next × AnswerHasFrame answer
AsksKeeper k call (Err closed) next = ⊥
