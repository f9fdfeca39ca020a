-- The lemma of each goal by name: a search finds it late.
use Rattle.std.proofs.Common.{◌≡◌, ◌∙◌, codes, rules}
use Rattle.std.proofs.lemmas.Bool.Decides.{Decides-eqb}
use Rattle.std.proofs.lemmas.Slice.Eq.{slice_eq-Decides}
use Rattle.script_line.proofs.Sources.{marked_write, marked_other}
use Rattle.script_line.proofs.sourced.marked.Goals as goal

pub returns-then-eq : goal.returns-then-eq
returns-then-eq c =
    let is : c.args.word.now ≡ codes "write" = (slice_eq-Decides Decides-eqb _ _ _ c.eq.ensures).0 c.if-eq.true ∙ c.as_slice.ensures in
    marked_write c.args.word.now c.args.text.now c.sourced.result is c.sourced.ensures

pub returns-else-eq : goal.returns-else-eq
returns-else-eq c =
    marked_other c.args.word.now c.args.text.now c.classed.result (search rules) c.classed.ensures
