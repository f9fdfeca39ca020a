use Rattle.std.proofs.Common.{length, ◌≡◌, ◌+◌, ℕ, Some, true, get_or, ◌∙◌, arith, rules}
use Rattle.plain.specs.Machine.{Bfq}
use Rattle.change_record.specs.Machine.{bfq_of}
use Rattle.plain.specs.Rules.{is_idle, member_of, start_from, stamp}
use Rattle.bfq_select.proofs.Courses.{course_more, course_most}
use Rattle.bfq_select.proofs.Paths.{activate_more}
use Rattle.bfq_select.proofs.activating.activate_path.Goals as goal

pub loop-entity-preserved : goal.loop-entity-preserved
loop-entity-preserved c =
    let v = c.loop-entity.invariant in
    let k = c.in_ok-stamp.ensures in
    let e : ℕ = get_or c.args.path.now c.loop-entity.entity-index 0 in
    let b : Bfq = bfq_of c.loop-entity.parts.tables in
    let idle : is_idle (member_of b e).state ≡ true = search rules in
    let made : stamp (start_from b e) e b ≡ Some (bfq_of c.stamp.new.parts.tables) = search rules in
    record {
      rest = activate_more c.args.path.now c.loop-entity.entity-index 0 b (bfq_of c.stamp.new.parts.tables) c.loop-entity-test.true idle made ∙ v.rest;
      sized = k.sized;
      bounded = k.bounded;
      course = course_more c.loop-entity.entity-index 1 (c.loop-entity.entity-index + 1) c.args.parts.now.tables c.loop-entity.parts.tables c.stamp.new.parts.tables c.args.tape.now c.loop-entity.tape c.stamp.new.tape v.course k.course (omega arith);
    }

pub returns-in_err-stamp-clause-course : goal.returns-in_err-stamp-clause-course
returns-in_err-stamp-clause-course c =
    course_more c.loop-entity.entity-index 1 (length c.args.path.now) c.args.parts.now.tables c.loop-entity.parts.tables c.stamp.new.parts.tables c.args.tape.now c.loop-entity.tape c.stamp.new.tape c.loop-entity.invariant.course c.stamp.ensures.course (omega (arith, c.loop-entity-test.true))

pub returns-clause-course : goal.returns-clause-course
returns-clause-course c =
    course_most c.loop-entity.entity-index (length c.args.path.now) c.args.parts.now.tables c.loop-entity.parts.tables c.args.tape.now c.loop-entity.tape c.loop-entity.invariant.course c.loop-entity.auto.entity-index-end

pub returns-then-not-is_idle-clause-course : goal.returns-then-not-is_idle-clause-course
returns-then-not-is_idle-clause-course c =
    course_most c.loop-entity.entity-index (length c.args.path.now) c.args.parts.now.tables c.loop-entity.parts.tables c.args.tape.now c.loop-entity.tape c.loop-entity.invariant.course c.loop-entity.auto.entity-index-end
