use Rattle.std.proofs.lemmas.Bool.Decides.{Decides-eqb}
use Rattle.std.proofs.lemmas.Slice.Eq.{strip_suffix_is}
use Rattle.script_line.proofs.Named.{if_ends, unless_ends}
use Rattle.script_line.proofs.classed.before.Goals as goal

pub returns-clause-found : goal.returns-clause-found
returns-clause-found c =
    if_ends c.args.text.now c.args.end.now c.strip_suffix.result (strip_suffix_is Decides-eqb c.args.text.now c.args.end.now c.strip_suffix.result c.strip_suffix.ensures.cases)

pub returns-clause-none : goal.returns-clause-none
returns-clause-none c =
    unless_ends c.args.text.now c.args.end.now c.strip_suffix.result (strip_suffix_is Decides-eqb c.args.text.now c.args.end.now c.strip_suffix.result c.strip_suffix.ensures.cases)
