use Rattle.script_line.proofs.Finishes.{no_second, no_ending, no_tag}
use Rattle.script_line.proofs.finish.finish.Goals as goal

pub returns-in-None-number_field : goal.returns-in-None-number_field
returns-in-None-number_field c =
    let first = c.in-Some.ensures in
    no_second c.args.text.now c.in-Some.found.1.now c.in-Some.found.0 first.fits first.tail first.found c.in-None-number_field.ensures.none

pub returns-in-None-ending_of : goal.returns-in-None-ending_of
returns-in-None-ending_of c =
    let first = c.in-Some.ensures in
    let second = c.in-Some-number_field.ensures in
    no_ending c.args.text.now c.in-Some.found.1.now c.in-Some-number_field.found.1.now c.in-Some.found.0 c.in-Some-number_field.found.0
    first.fits second.fits first.tail second.tail first.found second.found c.in-None-ending_of.ensures

pub returns-in-Err : goal.returns-in-Err
returns-in-Err c =
    let first = c.in-Some.ensures in
    let second = c.in-Some-number_field.ensures in
    no_tag c.args.text.now c.in-Some.found.1.now c.in-Some-number_field.found.1.now c.in-Some.found.0 c.in-Some-number_field.found.0
    first.fits second.fits first.tail second.tail first.found second.found c.in-Err.ensures
