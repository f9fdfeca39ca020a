use Rattle.std.proofs.Common.{◌≡◌, ◌+◌, ◌-◌, ◌*◌, ℕ, suc, nat_lt, true, false, sym, ◌∙◌, arith, rules}
use Rattle.change_record.specs.Machine.{bfq_of}
use Rattle.bfq_select.specs.Course.{Exchanges}
use Rattle.bfq_select.proofs.Courses.{course_more}
use Rattle.bfq_select.proofs.Levels.{select_end, select_idle, select_none, select_session, select_group}
use Rattle.bfq_select.proofs.rules.select.Goals as goal

pub loop-level-preserved : goal.loop-level-preserved
loop-level-preserved c =
    let v = c.loop-level.invariant in
    let level : ℕ = c.loop-level._level in
    let x : ℕ = c.in-Some-jump.entity in
    let more : 5 - level ≡ suc (5 - (level + 1)) = omega arith in
    let group : nat_lt x 16 ≡ false = search rules in
    let level_done : Exchanges 2 c.loop-level.parts.tables c.loop-level.tape c.serve.new.parts.tables c.serve.new.tape =
    course_more 1 1 2 c.loop-level.parts.tables c.jump.new.parts.tables c.serve.new.parts.tables c.loop-level.tape c.jump.new.tape c.serve.new.tape c.jump.ensures.course c.serve.ensures.course (omega arith) in
    record {
      rest = sym (select_group (5 - level) (5 - (level + 1)) c.loop-level.group x c.in-Some.class (bfq_of c.loop-level.parts.tables) (bfq_of c.jump.new.parts.tables) (bfq_of c.serve.new.parts.tables) more c.in-Some.ensures c.jump.ensures.made c.in-Some-jump.ensures.picked c.serve.ensures.made group) ∙ v.rest;
      group = omega (arith, c.in-Some-jump.ensures.within, c.if-entity-lt-SEATS.false);
      sized = c.serve.ensures.sized;
      bounded = c.serve.ensures.bounded;
      course = course_more (2 * level) 2 (2 * (level + 1)) c.args.parts.now.tables c.loop-level.parts.tables c.serve.new.parts.tables c.args.tape.now c.loop-level.tape c.serve.new.tape v.course level_done (omega arith);
    }

pub returns-in_default-jump-clause-made : goal.returns-in_default-jump-clause-made
returns-in_default-jump-clause-made c =
    let level : ℕ = c.loop-level._level in
    let more : 5 - level ≡ suc (5 - (level + 1)) = omega arith in
    sym (select_none (5 - level) (5 - (level + 1)) c.loop-level.group c.in-Some.class (bfq_of c.loop-level.parts.tables) (bfq_of c.jump.new.parts.tables) more c.in-Some.ensures c.jump.ensures.made c.in_default-jump.ensures.picked) ∙ c.loop-level.invariant.rest

pub returns-then-entity-lt-SEATS-clause-made : goal.returns-then-entity-lt-SEATS-clause-made
returns-then-entity-lt-SEATS-clause-made c =
    let level : ℕ = c.loop-level._level in
    let x : ℕ = c.in-Some-jump.entity in
    let more : 5 - level ≡ suc (5 - (level + 1)) = omega arith in
    let seat : nat_lt x 16 ≡ true = search rules in
    sym (select_session (5 - level) (5 - (level + 1)) c.loop-level.group x c.in-Some.class (bfq_of c.loop-level.parts.tables) (bfq_of c.jump.new.parts.tables) (bfq_of c.serve.new.parts.tables) (bfq_of c.set_slot.new.parts.tables) more c.in-Some.ensures c.jump.ensures.made c.in-Some-jump.ensures.picked c.serve.ensures.made seat c.set_slot.ensures.made) ∙ c.loop-level.invariant.rest

pub returns-clause-made : goal.returns-clause-made
returns-clause-made c =
    let over : 5 - c.loop-level._level ≡ 0 = omega (arith, c.loop-level-test.false) in
    sym (select_end (5 - c.loop-level._level) c.loop-level.group (bfq_of c.loop-level.parts.tables) over) ∙ c.loop-level.invariant.rest

pub returns-in_default-clause-made : goal.returns-in_default-clause-made
returns-in_default-clause-made c =
    let level : ℕ = c.loop-level._level in
    let more : 5 - level ≡ suc (5 - (level + 1)) = omega arith in
    sym (select_idle (5 - level) (5 - (level + 1)) c.loop-level.group (bfq_of c.loop-level.parts.tables) more c.in_default.ensures) ∙ c.loop-level.invariant.rest
