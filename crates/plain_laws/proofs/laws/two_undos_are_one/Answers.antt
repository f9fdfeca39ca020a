use Rattle.plain_laws.proofs.Undone.{two_undos}
use Rattle.plain_laws.proofs.laws.two_undos_are_one.Goals as goal

pub returns : goal.returns
returns c = λ k. two_undos k c.args.first c.args.second
