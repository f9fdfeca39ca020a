-- A keeper that is the replay of its journal answers a client with what has a frame.
use Rattle.std.proofs.Common.{◌≡◌, subst}
use Rattle.plain.specs.declared.answer.Answer.{Answer}
use Rattle.plain.specs.declared.call.Call.{Call}
use Rattle.plain.specs.Keeper.{State}
use Rattle.plain.specs.Headline.{MayCall, replay}
use Rattle.host_calls.specs.Answered.{ClientsAreAnswered}
use Rattle.host_calls.specs.Asked.{client_call}
use Rattle.host_calls.specs.Frames.{AnswerHasFrame}
use Rattle.host_calls.specs.declared.client.ClientCall.{ClientCall}

pub has_frame : (k : State) (call : ClientCall) (asked : Call) (answer : Answer) (next : State)
    → k ≡ replay k.limits k.most k.journal → ClientsAreAnswered k.limits k.most k.journal → asked ≡ client_call 0 call → MayCall k asked answer next
    → MayCall k (client_call 0 call) answer next × AnswerHasFrame answer
has_frame k call asked answer next is law e may =
    let here : MayCall k (client_call 0 call) answer next = subst (λ (x : Call). MayCall k x answer next) e may in
    (here, (law call 0 answer next (subst (λ (s : State). MayCall s (client_call 0 call) answer next) is here)).0)
