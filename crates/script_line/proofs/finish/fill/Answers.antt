use Rattle.std.proofs.Common.{rules, arith}
use Rattle.script_line.proofs.Finishes.{filled, front_of, not_empty}
use Rattle.script_line.proofs.finish.fill.Goals as goal

pub returns-then-not-is_empty : goal.returns-then-not-is_empty
returns-then-not-is_empty c = λ byte small same.
    let whole = front_of c.args.text.now c.split_at.result.0.now c.split_at.result.1.now c.split_at.ensures.front c.split_at.ensures.back (search rules) in
    let found = c.in-Some.ensures in
    let is = filled c.args.text.now c.split_at.result.1.now c.in-Some.found.1.now c.in-Some.found.0 byte whole found.fits found.tail found.found small same in
    let end = is.1 in
    not_empty c.in-Some.found.1.now end (search rules)

pub returns-in-Err : goal.returns-in-Err
returns-in-Err c = λ byte small same.
    let whole = front_of c.args.text.now c.split_at.result.0.now c.split_at.result.1.now c.split_at.ensures.front c.split_at.ensures.back (search rules) in
    let found = c.in-Some.ensures in
    let is = filled c.args.text.now c.split_at.result.1.now c.in-Some.found.1.now c.in-Some.found.0 byte whole found.fits found.tail found.found small same in
    c.in-Err.ensures (omega (arith, is.0, small))
