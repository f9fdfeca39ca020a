use Rattle.std.proofs.Common.{rules}
use Rattle.script_line.proofs.Plains.{no_plain, no_numbers, none_read}
use Rattle.script_line.proofs.Sources.{if_marked}
use Rattle.script_line.proofs.read.line_of.Goals as goal

pub returns-in-Some-clause-none : goal.returns-in-Some-clause-none
returns-in-Some-clause-none c =
    let given_is = c.as_slice-in-Some.ensures.value in
    none_read c.cut.result.0.now c.as_slice-in-Some.result.now c.plain_line.result c.plain_line.ensures
    (no_plain c.args.text.now c.cut.result.0.now c.cut.result.1.now c.as_slice-in-Some.result.now
    c.cut.ensures.whole c.cut.ensures.word c.cut.ensures.tail (search rules) (search rules) (search rules)
    (rw given_is c.in-Some.ensures.fits) (rw given_is c.in-Some.ensures.found))

pub returns-in-None-clause-none : goal.returns-in-None-clause-none
returns-in-None-clause-none c =
    if_marked c.cut.result.0.now c.cut.result.1.now c.marked.result c.marked.ensures
    (no_numbers c.args.text.now c.cut.result.0.now c.cut.result.1.now
    c.cut.ensures.whole c.cut.ensures.word c.cut.ensures.tail (search rules) (search rules) (search rules) c.in-None.ensures.none)
