use Rattle.host_calls.proofs.Frames.{clients-answered}
use Rattle.host_calls.proofs.laws.clients_are_answered.Goals as goal

pub returns : goal.returns
returns c = clients-answered
