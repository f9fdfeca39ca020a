use Rattle.plain_laws.proofs.Undone.{gives_back}
use Rattle.plain_laws.proofs.laws.redo_gives_back.Goals as goal

pub returns : goal.returns
returns c = λ k. gives_back k c.args.count
