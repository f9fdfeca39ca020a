use Rattle.host_calls.proofs.Fillings.{results-fit-out}
use Rattle.host_calls.proofs.laws.results_fit.Goals as goal

pub returns : goal.returns
returns c = results-fit-out
