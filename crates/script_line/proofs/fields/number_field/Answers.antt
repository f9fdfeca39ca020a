-- A text is cut in one way only, so where the word is no number, no number stands there.
use Rattle.std.proofs.Common.{rules}
use Rattle.script_line.proofs.Cuts.{no_number}
use Rattle.script_line.proofs.fields.number_field.Goals as goal

pub returns-in-None-clause-none : goal.returns-in-None-clause-none
returns-in-None-clause-none c = λ n rest fits tail e.
    no_number c.args.text.now c.cut.result.0.now c.cut.result.1.now n rest c.cut.ensures.word c.cut.ensures.tail fits tail (search rules) e c.in-None.ensures.none
