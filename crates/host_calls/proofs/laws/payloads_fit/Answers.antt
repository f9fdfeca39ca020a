use Rattle.host_calls.proofs.Fillings.{payloads-fit}
use Rattle.host_calls.proofs.laws.payloads_fit.Goals as goal

pub returns : goal.returns
returns c = payloads-fit
