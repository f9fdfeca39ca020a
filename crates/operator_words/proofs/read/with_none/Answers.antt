use Rattle.std.proofs.Common.{[], ◌∷◌, ap}
use Rattle.operator_words.proofs.Words.{is_word, is_other, no_name}
use Rattle.operator_words.proofs.read.with_none.Goals as goal

pub returns-then-eq-2 : goal.returns-then-eq-2
returns-then-eq-2 c = (tt, ap (λ name. name ∷ []) (is_word c.args.name.now c.as_slice-else-eq.result.now _ c.if-eq-2.ensures c.as_slice-else-eq.ensures))

pub returns-then-eq-3 : goal.returns-then-eq-3
returns-then-eq-3 c = (tt, ap (λ name. name ∷ []) (is_word c.args.name.now c.as_slice-else-eq-2.result.now _ c.if-eq-3.ensures c.as_slice-else-eq-2.ensures))

pub returns-then-eq-5 : goal.returns-then-eq-5
returns-then-eq-5 c = (tt, ap (λ name. name ∷ []) (is_word c.args.name.now c.as_slice-else-eq-4.result.now _ c.if-eq-5.ensures c.as_slice-else-eq-4.ensures))

pub returns-then-eq-6 : goal.returns-then-eq-6
returns-then-eq-6 c = (tt, ap (λ name. name ∷ []) (is_word c.args.name.now c.as_slice-else-eq-5.result.now _ c.if-eq-6.ensures c.as_slice-else-eq-5.ensures))

pub returns-else-eq-6 : goal.returns-else-eq-6
returns-else-eq-6 c = no_name c.args.name.now
    (is_other c.args.name.now c.as_slice.result.now _ c.if-eq.ensures c.as_slice.ensures)
    (is_other c.args.name.now c.as_slice-else-eq.result.now _ c.if-eq-2.ensures c.as_slice-else-eq.ensures)
    (is_other c.args.name.now c.as_slice-else-eq-2.result.now _ c.if-eq-3.ensures c.as_slice-else-eq-2.ensures)
    (is_other c.args.name.now c.as_slice-else-eq-3.result.now _ c.if-eq-4.ensures c.as_slice-else-eq-3.ensures)
    (is_other c.args.name.now c.as_slice-else-eq-4.result.now _ c.if-eq-5.ensures c.as_slice-else-eq-4.ensures)
    (is_other c.args.name.now c.as_slice-else-eq-5.result.now _ c.if-eq-6.ensures c.as_slice-else-eq-5.ensures)
