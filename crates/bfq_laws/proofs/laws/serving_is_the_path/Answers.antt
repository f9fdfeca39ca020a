use Rattle.bfq_laws.proofs.Serving.{the-path-served}
use Rattle.bfq_laws.proofs.laws.serving_is_the_path.Goals as goal

pub returns : goal.returns
returns c = the-path-served
