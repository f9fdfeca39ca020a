use Rattle.plain_laws.proofs.Wholes.{requests-whole}
use Rattle.plain_laws.proofs.laws.requests_are_whole.Goals as goal

pub returns : goal.returns
returns c = requests-whole
