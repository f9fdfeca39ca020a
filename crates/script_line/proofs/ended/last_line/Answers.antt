use Rattle.std.proofs.Common.{[], refl, inr, arith, length, ◌≡◌, ◌<◌}
use Rattle.std.proofs.lemmas.Grind.{common_steps}
use Rattle.std.proofs.lemmas.List.{nil_from_length}
use Rattle.script_line.proofs.Ends.{done_last, done_none, last_end}
use Rattle.script_line.proofs.ended.last_line.Goals as goal

pub returns-in-Some-clause-ended : goal.returns-in-Some-clause-ended
returns-in-Some-clause-ended g c = λ r0 r1 w0 c0 s at_end.
    let some : 0 < length c.args.held.now.begun.items = grind (arith, common_steps) in
    c.in-Some.ensures.ran r0 r1 w0 c0 [] s (inr (refl, some, at_end))

pub returns-in-None-clause-ended : goal.returns-in-None-clause-ended
returns-in-None-clause-ended g c = λ r0 r1 w0 c0 s at_end.
    let some : 0 < length c.args.held.now.begun.items = grind (arith, common_steps) in
    done_last g.C.Console.prints r0 r1 w0 _ c0 _ _ c.args.held.now.begun.items
    (c.in-None.ensures.ran r0 r1 w0 c0 [] s (inr (refl, some, at_end))) at_end some

pub returns-then-is_empty-clause-ended : goal.returns-then-is_empty-clause-ended
returns-then-is_empty-clause-ended g c = λ r0 r1 w0 c0 s at_end.
    let none : length c.args.held.now.begun.items ≡ 0 = grind (arith, common_steps) in
    done_none g.C.Console.prints r0 r1 w0 _ c0 _ _ _ (nil_from_length c.args.held.now.begun.items none) s at_end

pub end_line-requires : goal.end_line-requires
end_line-requires g c = c.requires (grind (arith, common_steps))

pub returns-in-Some-clause-cause : goal.returns-in-Some-clause-cause
returns-in-Some-clause-cause g c = last_end c.in-Some.end c.in-Some.ensures.cause
