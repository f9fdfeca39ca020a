use Rattle.std.proofs.Common.{rules}
use Rattle.script_line.proofs.Looks.{none_given, none_shown}
use Rattle.script_line.proofs.show.show.Goals as goal

pub returns-in-None : goal.returns-in-None
returns-in-None c =
    none_given c.args.text.now c.in_ok-space.after.now c.cut.result.0.now c.cut.result.1.now
    (search rules) c.cut.ensures.whole c.cut.ensures.word c.cut.ensures.tail c.in-None.ensures.none

pub returns-in-None-look_of : goal.returns-in-None-look_of
returns-in-None-look_of c =
    let given_is = c.as_slice.ensures.value in
    none_shown c.args.text.now c.in_ok-space.after.now c.cut.result.0.now c.cut.result.1.now c.as_slice.result.now
    (search rules) c.cut.ensures.whole c.cut.ensures.word c.cut.ensures.tail
    (rw given_is c.in-Some.ensures.fits) (rw given_is c.in-Some.ensures.found) c.in-None-look_of.ensures
