use Rattle.bfq_laws.proofs.Summing.{sums-positive}
use Rattle.bfq_laws.proofs.laws.sums_are_positive.Goals as goal

pub returns : goal.returns
returns c = sums-positive
