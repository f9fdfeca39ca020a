use Rattle.host_calls.proofs.Sittings.{sessions-apart}
use Rattle.host_calls.proofs.laws.sessions_sit_apart.Goals as goal

pub returns : goal.returns
returns c = sessions-apart
