use Rattle.bfq_laws.proofs.Serving.{taken-seats-in}
use Rattle.bfq_laws.proofs.laws.seats_are_in_groups.Goals as goal

pub returns : goal.returns
returns c = taken-seats-in
