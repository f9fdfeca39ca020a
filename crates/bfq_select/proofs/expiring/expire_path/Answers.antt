use Rattle.std.proofs.Common.{refl, length, ◌+◌, ◌∙◌, arith}
use Rattle.change_record.specs.Machine.{bfq_of}
use Rattle.plain.specs.Rules.{expire_one}
use Rattle.bfq_select.proofs.Courses.{course_more, course_most, course_none}
use Rattle.bfq_select.proofs.Paths.{along_more}
use Rattle.bfq_select.proofs.expiring.expire_path.Goals as goal

pub loop-entity-preserved : goal.loop-entity-preserved
loop-entity-preserved c =
    let v = c.loop-entity.invariant in
    let k = c.in_ok-expire_one.ensures in
    record {
      rest = along_more (expire_one c.args.service c.args.queued) c.args.path.now c.loop-entity.entity-index 0 (bfq_of c.loop-entity.parts.tables) (bfq_of c.expire_one.new.parts.tables) c.loop-entity-test.true k.made ∙ v.rest;
      sized = k.sized;
      bounded = k.bounded;
      course = course_more c.loop-entity.entity-index 1 (c.loop-entity.entity-index + 1) c.args.parts.now.tables c.loop-entity.parts.tables c.expire_one.new.parts.tables c.args.tape.now c.loop-entity.tape c.expire_one.new.tape v.course k.course (omega arith);
    }

pub loop-entity-init : goal.loop-entity-init
loop-entity-init c = record {
  rest = refl;
  sized = c.requires.sized;
  bounded = c.requires.bounded;
  course = course_none 0 c.args.parts.now.tables c.args.tape.now;
}

pub returns-in_err-expire_one-clause-course : goal.returns-in_err-expire_one-clause-course
returns-in_err-expire_one-clause-course c =
    course_more c.loop-entity.entity-index 1 (length c.args.path.now) c.args.parts.now.tables c.loop-entity.parts.tables c.expire_one.new.parts.tables c.args.tape.now c.loop-entity.tape c.expire_one.new.tape c.loop-entity.invariant.course c.expire_one.ensures.course (omega (arith, c.loop-entity-test.true))

pub returns-clause-course : goal.returns-clause-course
returns-clause-course c =
    course_most c.loop-entity.entity-index (length c.args.path.now) c.args.parts.now.tables c.loop-entity.parts.tables c.args.tape.now c.loop-entity.tape c.loop-entity.invariant.course c.loop-entity.auto.entity-index-end
