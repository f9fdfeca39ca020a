use Rattle.operator_words.proofs.Same.{one}
use Rattle.operator_words.proofs.law.one_call.Goals as goal

pub returns : goal.returns
returns c = one
