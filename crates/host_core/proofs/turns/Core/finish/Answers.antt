use Rattle.std.proofs.Common.{refl}
use Rattle.host_core.proofs.turns.Core.finish.Goals as goal

pub returns : goal.returns
returns g c = refl
