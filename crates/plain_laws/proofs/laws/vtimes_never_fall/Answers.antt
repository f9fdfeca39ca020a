use Rattle.plain_laws.proofs.Monotonic.{step-vtimes}
use Rattle.plain_laws.proofs.laws.vtimes_never_fall.Goals as goal

pub returns : goal.returns
returns c = step-vtimes
