use Rattle.host_calls.proofs.Reaped.{reaps-tell}
use Rattle.host_calls.proofs.laws.reaps_tell_results.Goals as goal

pub returns : goal.returns
returns c = reaps-tell
