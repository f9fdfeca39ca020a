use Rattle.std.proofs.Common.{◌≡◌, ◌+◌, ◌≤◌, Some, None, sym, ap, ◌∙◌, length, arith}
use Rattle.plain.specs.Groups.{parent, path}
use Rattle.plain.specs.declared.seat.InService.{InService}
use Rattle.plain.specs.Machine.{Bfq}
use Rattle.change_record.specs.Machine.{bfq_of}
use Rattle.plain.specs.Rules.{served_more}
use Rattle.bfq_select.specs.Course.{Exchanges}
use Rattle.bfq_select.proofs.Courses.{course_more}
use Rattle.bfq_select.proofs.Slots.{one_slot, charge_all}
use Rattle.bfq_select.proofs.rules.charge.Goals as goal

pub overflow_add-served : goal.overflow_add-served
overflow_add-served c =
    let b : Bfq = bfq_of c.args.parts.now.tables in
    let s : InService = c.in-Some.slot in
    let there : b.in_service ≡ Some s = sym c.slot.ensures ∙ c.in-Some.is in
    omega (arith, c.requires.fits s there, c.requires.bounded.most_budgets s.seat)

pub charge_path-requires-clause-bounded : goal.charge_path-requires-clause-bounded
charge_path-requires-clause-bounded c =
    let b : Bfq = bfq_of c.args.parts.now.tables in
    let s : InService = c.in-Some.slot in
    let there : b.in_service ≡ Some s = sym c.slot.ensures ∙ c.in-Some.is in
    let small : s.service + c.args.sectors ≤ 65536 = omega (arith, c.requires.fits s there, c.requires.bounded.most_budgets s.seat) in
    let more : InService = record { seat = s.seat; service = s.service + c.args.sectors; age = s.age } in
    c.set_slot.ensures.bounded c.requires.bounded (λ served e. one_slot more served e small)

pub returns-in-Ok-clause-made : goal.returns-in-Ok-clause-made
returns-in-Ok-clause-made c =
    let b : Bfq = bfq_of c.args.parts.now.tables in
    let s : InService = c.in-Some.slot in
    let there : b.in_service ≡ Some s = sym c.slot.ensures ∙ c.in-Some.is in
    let way : c.as_slice.result.now ≡ path b.parent s.seat = c.as_slice.ensures.value ∙ c.path-path.ensures ∙ ap (λ p. path (parent p) s.seat) c.groups.ensures in
    let more : bfq_of c.set_slot.new.parts.tables ≡ served_more c.args.sectors s b = c.set_slot.ensures.made in
    charge_all c.args.sectors b (bfq_of c.set_slot.new.parts.tables) s c.as_slice.result.now (Some (bfq_of c.charge_path.new.parts.tables)) there way more c.in-Ok.ensures.made

pub returns-in-Err-clause-made : goal.returns-in-Err-clause-made
returns-in-Err-clause-made c =
    let b : Bfq = bfq_of c.args.parts.now.tables in
    let s : InService = c.in-Some.slot in
    let there : b.in_service ≡ Some s = sym c.slot.ensures ∙ c.in-Some.is in
    let way : c.as_slice.result.now ≡ path b.parent s.seat = c.as_slice.ensures.value ∙ c.path-path.ensures ∙ ap (λ p. path (parent p) s.seat) c.groups.ensures in
    let more : bfq_of c.set_slot.new.parts.tables ≡ served_more c.args.sectors s b = c.set_slot.ensures.made in
    charge_all c.args.sectors b (bfq_of c.set_slot.new.parts.tables) s c.as_slice.result.now None there way more c.in-Err.ensures.made

-- what the whole does beside BFQ's tables, and to the tape
whole-Ok : (c : goal.In-Ok) → Exchanges 6 c.args.parts.now.tables c.args.tape.now c.charge_path.new.parts.tables c.charge_path.new.tape
whole-Ok c =
    course_more 1 (length c.as_slice.result.now) 6 c.args.parts.now.tables c.set_slot.new.parts.tables c.charge_path.new.parts.tables c.args.tape.now c.set_slot.new.tape c.charge_path.new.tape c.set_slot.ensures.course c.charge_path.ensures.course (omega (arith, c.as_slice.ensures.fits))

pub returns-in-Ok-clause-others : goal.returns-in-Ok-clause-others
returns-in-Ok-clause-others c = (whole-Ok c).others

pub returns-in-Ok-clause-trail : goal.returns-in-Ok-clause-trail
returns-in-Ok-clause-trail c = (whole-Ok c).trail

pub returns-in-Ok-clause-steps : goal.returns-in-Ok-clause-steps
returns-in-Ok-clause-steps c = (whole-Ok c).steps

pub returns-in-Ok-clause-room : goal.returns-in-Ok-clause-room
returns-in-Ok-clause-room c = (whole-Ok c).room

pub returns-in-Ok-clause-spare : goal.returns-in-Ok-clause-spare
returns-in-Ok-clause-spare c = (whole-Ok c).spare

pub returns-in-Ok-clause-some : goal.returns-in-Ok-clause-some
returns-in-Ok-clause-some c = (whole-Ok c).some

pub returns-in-Ok-clause-few : goal.returns-in-Ok-clause-few
returns-in-Ok-clause-few c = (whole-Ok c).few

-- what the whole does beside BFQ's tables, and to the tape
whole-Err : (c : goal.In-Err) → Exchanges 6 c.args.parts.now.tables c.args.tape.now c.charge_path.new.parts.tables c.charge_path.new.tape
whole-Err c =
    course_more 1 (length c.as_slice.result.now) 6 c.args.parts.now.tables c.set_slot.new.parts.tables c.charge_path.new.parts.tables c.args.tape.now c.set_slot.new.tape c.charge_path.new.tape c.set_slot.ensures.course c.charge_path.ensures.course (omega (arith, c.as_slice.ensures.fits))

pub returns-in-Err-clause-others : goal.returns-in-Err-clause-others
returns-in-Err-clause-others c = (whole-Err c).others

pub returns-in-Err-clause-trail : goal.returns-in-Err-clause-trail
returns-in-Err-clause-trail c = (whole-Err c).trail

pub returns-in-Err-clause-steps : goal.returns-in-Err-clause-steps
returns-in-Err-clause-steps c = (whole-Err c).steps

pub returns-in-Err-clause-room : goal.returns-in-Err-clause-room
returns-in-Err-clause-room c = (whole-Err c).room

pub returns-in-Err-clause-spare : goal.returns-in-Err-clause-spare
returns-in-Err-clause-spare c = (whole-Err c).spare

pub returns-in-Err-clause-some : goal.returns-in-Err-clause-some
returns-in-Err-clause-some c = (whole-Err c).some

pub returns-in-Err-clause-few : goal.returns-in-Err-clause-few
returns-in-Err-clause-few c = (whole-Err c).few
