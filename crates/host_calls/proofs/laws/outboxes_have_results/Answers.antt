use Rattle.host_calls.proofs.Outcomes.{results-out}
use Rattle.host_calls.proofs.laws.outboxes_have_results.Goals as goal

pub returns : goal.returns
returns c = results-out
