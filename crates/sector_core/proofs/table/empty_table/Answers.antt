use Rattle.std.proofs.Common.{◌≡◌, Option, None, ◌∷◌, [], ◌++◌, replicate, ap, ◌∙◌, arith}
use Rattle.std.proofs.lemmas.List.{replicate_more}
use Rattle.sector_core.proofs.table.empty_table.Goals as goal

-- search comes late to the lemma that a place more is one at the end
pub loop-preserved : goal.loop-preserved
loop-preserved g c = c.in_ok-push.ensures.items ∙ ap (λ items. items ++ None ∷ []) c.loop.invariant ∙ replicate_more {X = Option g.row.T.Denot} c.loop.counter None

pub returns : goal.returns
returns g c =
    let whole : c.loop.counter ≡ c.args.len = omega (arith, c.loop-test.false, c.loop.auto.counter-end) in
    c.loop.invariant ∙ ap (λ n. replicate {A = Option g.row.T.Denot} n None) whole
