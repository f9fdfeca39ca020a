use Rattle.operator_words.proofs.Words.{is_word}
use Rattle.operator_words.proofs.read.with_two.Goals as goal

pub returns-then-eq : goal.returns-then-eq
returns-then-eq c = rw (is_word c.args.name.now c.as_slice.result.now _ c.if-eq.ensures c.as_slice.ensures) c.group_make.ensures

pub returns-then-eq-2 : goal.returns-then-eq-2
returns-then-eq-2 c = rw (is_word c.args.name.now c.as_slice-else-eq.result.now _ c.if-eq-2.ensures c.as_slice-else-eq.ensures) c.set_weight.ensures
