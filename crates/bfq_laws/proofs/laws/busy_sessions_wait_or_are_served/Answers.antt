use Rattle.bfq_laws.proofs.Found.{busy-not-idle}
use Rattle.bfq_laws.proofs.laws.busy_sessions_wait_or_are_served.Goals as goal

pub returns : goal.returns
returns c = busy-not-idle
