use Rattle.host_calls.proofs.Replies.{calls-answered}
use Rattle.host_calls.proofs.laws.calls_are_answered.Goals as goal

pub returns : goal.returns
returns c = calls-answered
