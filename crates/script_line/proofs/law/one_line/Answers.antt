use Rattle.script_line.proofs.Same.{one_spelling}
use Rattle.script_line.proofs.law.one_line.Goals as goal

pub returns : goal.returns
returns c = one_spelling
