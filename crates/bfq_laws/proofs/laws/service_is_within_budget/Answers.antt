use Rattle.bfq_laws.proofs.Within.{service-within}
use Rattle.bfq_laws.proofs.laws.service_is_within_budget.Goals as goal

pub returns : goal.returns
returns c = service-within
