use Rattle.bfq_laws.proofs.Found.{entities-members}
use Rattle.bfq_laws.proofs.laws.entities_are_members.Goals as goal

pub returns : goal.returns
returns c = entities-members
