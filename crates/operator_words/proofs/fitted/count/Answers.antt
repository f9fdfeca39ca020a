use Rattle.std.proofs.Common.{◌^◌, lit≤, sym, ap, ◌∙◌}
use Rattle.std.specs.Fmt.{decimal}
use Rattle.operator_words.proofs.Numbers.{not_below, none_below}
use Rattle.operator_words.proofs.fitted.count.Goals as goal

pub returns-in-Err : goal.returns-in-Err
returns-in-Err c = λ n below e.
    let read = c.in_ok-number.ensures in
    not_below (2 ^ 32) c.in_ok-number.field-0 n c.args.word.now (lit≤ tt) read.fits c.in-Err.ensures read.found below e

pub returns-in-Ok : goal.returns-in-Ok
returns-in-Ok c = (rw c.in-Ok.ensures.1 c.in-Ok.ensures.0, c.in_ok-number.ensures.found ∙ ap decimal (sym c.in-Ok.ensures.1))

pub returns-in_err-number : goal.returns-in_err-number
returns-in_err-number c = rw c.from_residual.ensures (none_below (2 ^ 32) c.args.word.now (lit≤ tt) c.in_err-number.ensures.none)
