use Rattle.bfq_laws.proofs.Found.{queues-owned}
use Rattle.bfq_laws.proofs.laws.queues_are_of_their_sessions.Goals as goal

pub returns : goal.returns
returns c = queues-owned
