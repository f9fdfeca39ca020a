use Rattle.bfq_laws.proofs.Weighing.{weights-positive}
use Rattle.bfq_laws.proofs.laws.weights_are_positive.Goals as goal

pub returns : goal.returns
returns c = weights-positive
