use Rattle.bfq_laws.proofs.Enough.{budgets-enough}
use Rattle.bfq_laws.proofs.laws.budgets_are_enough.Goals as goal

pub returns : goal.returns
returns c = budgets-enough
