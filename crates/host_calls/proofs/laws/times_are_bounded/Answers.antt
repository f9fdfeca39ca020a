use Rattle.host_calls.proofs.Timely.{times-bounded}
use Rattle.host_calls.proofs.laws.times_are_bounded.Goals as goal

pub returns : goal.returns
returns c = times-bounded
