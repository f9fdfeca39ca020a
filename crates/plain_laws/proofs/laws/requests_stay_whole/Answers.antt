use Rattle.plain_laws.proofs.Wholes.{step-whole}
use Rattle.plain_laws.proofs.laws.requests_stay_whole.Goals as goal

pub returns : goal.returns
returns c = step-whole
