use Rattle.bfq_laws.proofs.Found.{dispatch-finds}
use Rattle.bfq_laws.proofs.laws.dispatch_finds_a_request.Goals as goal

pub returns : goal.returns
returns c = dispatch-finds
