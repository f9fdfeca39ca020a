use Rattle.std.proofs.Common.{length, ◌+◌, ◌∙◌, arith}
use Rattle.change_record.specs.Machine.{bfq_of}
use Rattle.plain.specs.Rules.{charge_one}
use Rattle.bfq_select.proofs.Courses.{course_more, course_most}
use Rattle.bfq_select.proofs.Paths.{along_more}
use Rattle.bfq_select.proofs.charging.charge_path.Goals as goal

pub loop-entity-preserved : goal.loop-entity-preserved
loop-entity-preserved c =
    let v = c.loop-entity.invariant in
    let k = c.in_ok-charge_one.ensures in
    record {
      rest = along_more (charge_one c.args.sectors) c.args.path.now c.loop-entity.entity-index 0 (bfq_of c.loop-entity.parts.tables) (bfq_of c.charge_one.new.parts.tables) c.loop-entity-test.true k.made ∙ v.rest;
      sized = k.sized;
      bounded = k.bounded;
      course = course_more c.loop-entity.entity-index 1 (c.loop-entity.entity-index + 1) c.args.parts.now.tables c.loop-entity.parts.tables c.charge_one.new.parts.tables c.args.tape.now c.loop-entity.tape c.charge_one.new.tape v.course k.course (omega arith);
    }

pub returns-in_err-charge_one-clause-course : goal.returns-in_err-charge_one-clause-course
returns-in_err-charge_one-clause-course c =
    course_more c.loop-entity.entity-index 1 (length c.args.path.now) c.args.parts.now.tables c.loop-entity.parts.tables c.charge_one.new.parts.tables c.args.tape.now c.loop-entity.tape c.charge_one.new.tape c.loop-entity.invariant.course c.charge_one.ensures.course (omega (arith, c.loop-entity-test.true))

pub returns-clause-course : goal.returns-clause-course
returns-clause-course c =
    course_most c.loop-entity.entity-index (length c.args.path.now) c.args.parts.now.tables c.loop-entity.parts.tables c.args.tape.now c.loop-entity.tape c.loop-entity.invariant.course c.loop-entity.auto.entity-index-end
