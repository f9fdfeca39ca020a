use Rattle.plain_laws.proofs.Stepped.{unreaped-owed}
use Rattle.plain_laws.proofs.laws.unreaped_is_owed.Goals as goal

pub returns : goal.returns
returns c = unreaped-owed
