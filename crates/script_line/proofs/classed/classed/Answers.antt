use Rattle.script_line.proofs.Named.{no_end, no_front, read_classed}
use Rattle.script_line.proofs.classed.classed.Goals as goal

pub returns-in-None : goal.returns-in-None
returns-in-None c = no_end c.args.word.now c.args.text.now c.in-None.ensures.none

pub returns-in-Some-number_fields : goal.returns-in-Some-number_fields
returns-in-Some-number_fields c =
    let given_is = c.as_slice.ensures.value in
    let found = c.in-Some-number_fields.ensures in
    read_classed c.args.word.now c.args.text.now c.in-Some.found.0.now c.as_slice.result.now c.in-Some.found.1 c.class_line.result
    c.in-Some.ensures.found (rw given_is found.found) (rw given_is found.fits) c.class_line.ensures

pub returns-in-None-number_fields : goal.returns-in-None-number_fields
returns-in-None-number_fields c =
    no_front c.args.word.now c.args.text.now c.in-Some.found.0.now c.in-Some.found.1 c.in-Some.ensures.found c.in-None-number_fields.ensures.none
