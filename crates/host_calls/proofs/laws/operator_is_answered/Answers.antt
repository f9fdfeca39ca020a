use Rattle.host_calls.proofs.Frames.{operator-answered}
use Rattle.host_calls.proofs.laws.operator_is_answered.Goals as goal

pub returns : goal.returns
returns c = operator-answered
