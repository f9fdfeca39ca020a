use Rattle.std.proofs.Common.{◌≡◌, ◌≤◌, subst, Some, None, sym, ap, ◌∙◌, length, arith, rules}
use Rattle.plain.specs.Groups.{parent, path}
use Rattle.plain.specs.declared.seat.InService.{InService}
use Rattle.plain.specs.Machine.{Bfq}
use Rattle.change_record.specs.Machine.{bfq_of}
use Rattle.plain.specs.Rules.{out_of_service, budget_after}
use Rattle.bfq_select.proofs.Bounds.{least_after, most_after}
use Rattle.bfq_select.specs.Course.{Exchanges}
use Rattle.bfq_select.proofs.Courses.{course_more}
use Rattle.bfq_select.proofs.Slots.{expire_all}
use Rattle.bfq_select.proofs.rules.expire.Goals as goal

pub returns-in-Ok-clause-made : goal.returns-in-Ok-clause-made
returns-in-Ok-clause-made c =
    let b : Bfq = bfq_of c.args.parts.now.tables in
    let s : InService = c.in-Some.slot in
    let there : b.in_service ≡ Some s = sym c.slot.ensures ∙ c.in-Some.is in
    let way : c.as_slice.result.now ≡ path b.parent s.seat = c.as_slice.ensures.value ∙ c.path-path.ensures ∙ ap (λ p. path (parent p) s.seat) c.groups.ensures in
    let out : bfq_of c.set_slot.new.parts.tables ≡ out_of_service c.args.cause c.args.most s b = search rules in
    expire_all c.args.cause c.args.most c.args.queued b (bfq_of c.set_slot.new.parts.tables) s c.as_slice.result.now (Some (bfq_of c.expire_path.new.parts.tables)) there way out c.in-Ok.ensures.made

pub returns-in-Err-clause-made : goal.returns-in-Err-clause-made
returns-in-Err-clause-made c =
    let b : Bfq = bfq_of c.args.parts.now.tables in
    let s : InService = c.in-Some.slot in
    let there : b.in_service ≡ Some s = sym c.slot.ensures ∙ c.in-Some.is in
    let way : c.as_slice.result.now ≡ path b.parent s.seat = c.as_slice.ensures.value ∙ c.path-path.ensures ∙ ap (λ p. path (parent p) s.seat) c.groups.ensures in
    let out : bfq_of c.set_slot.new.parts.tables ≡ out_of_service c.args.cause c.args.most s b = search rules in
    expire_all c.args.cause c.args.most c.args.queued b (bfq_of c.set_slot.new.parts.tables) s c.as_slice.result.now None there way out c.in-Err.ensures.made

-- what the whole does beside BFQ's tables, and to the tape
whole-Ok : (c : goal.In-Ok) → Exchanges 7 c.args.parts.now.tables c.args.tape.now c.expire_path.new.parts.tables c.expire_path.new.tape
whole-Ok c =
    let first = course_more 1 1 2 c.args.parts.now.tables c.set_budget.new.parts.tables c.set_slot.new.parts.tables c.args.tape.now c.set_budget.new.tape c.set_slot.new.tape c.set_budget.ensures.course c.set_slot.ensures.course (omega arith) in
    course_more 2 (length c.as_slice.result.now) 7 c.args.parts.now.tables c.set_slot.new.parts.tables c.expire_path.new.parts.tables c.args.tape.now c.set_slot.new.tape c.expire_path.new.tape first c.expire_path.ensures.course (omega (arith, c.as_slice.ensures.fits))

pub returns-in-Ok-clause-others : goal.returns-in-Ok-clause-others
returns-in-Ok-clause-others c = (whole-Ok c).others

pub returns-in-Ok-clause-trail : goal.returns-in-Ok-clause-trail
returns-in-Ok-clause-trail c = (whole-Ok c).trail

pub returns-in-Ok-clause-steps : goal.returns-in-Ok-clause-steps
returns-in-Ok-clause-steps c = (whole-Ok c).steps

pub returns-in-Ok-clause-room : goal.returns-in-Ok-clause-room
returns-in-Ok-clause-room c = (whole-Ok c).room

pub returns-in-Ok-clause-spare : goal.returns-in-Ok-clause-spare
returns-in-Ok-clause-spare c = (whole-Ok c).spare

pub returns-in-Ok-clause-some : goal.returns-in-Ok-clause-some
returns-in-Ok-clause-some c = (whole-Ok c).some

pub returns-in-Ok-clause-few : goal.returns-in-Ok-clause-few
returns-in-Ok-clause-few c = (whole-Ok c).few

-- what the whole does beside BFQ's tables, and to the tape
whole-Err : (c : goal.In-Err) → Exchanges 7 c.args.parts.now.tables c.args.tape.now c.expire_path.new.parts.tables c.expire_path.new.tape
whole-Err c =
    let first = course_more 1 1 2 c.args.parts.now.tables c.set_budget.new.parts.tables c.set_slot.new.parts.tables c.args.tape.now c.set_budget.new.tape c.set_slot.new.tape c.set_budget.ensures.course c.set_slot.ensures.course (omega arith) in
    course_more 2 (length c.as_slice.result.now) 7 c.args.parts.now.tables c.set_slot.new.parts.tables c.expire_path.new.parts.tables c.args.tape.now c.set_slot.new.tape c.expire_path.new.tape first c.expire_path.ensures.course (omega (arith, c.as_slice.ensures.fits))

pub returns-in-Err-clause-others : goal.returns-in-Err-clause-others
returns-in-Err-clause-others c = (whole-Err c).others

pub returns-in-Err-clause-trail : goal.returns-in-Err-clause-trail
returns-in-Err-clause-trail c = (whole-Err c).trail

pub returns-in-Err-clause-steps : goal.returns-in-Err-clause-steps
returns-in-Err-clause-steps c = (whole-Err c).steps

pub returns-in-Err-clause-room : goal.returns-in-Err-clause-room
returns-in-Err-clause-room c = (whole-Err c).room

pub returns-in-Err-clause-spare : goal.returns-in-Err-clause-spare
returns-in-Err-clause-spare c = (whole-Err c).spare

pub returns-in-Err-clause-some : goal.returns-in-Err-clause-some
returns-in-Err-clause-some c = (whole-Err c).some

pub returns-in-Err-clause-few : goal.returns-in-Err-clause-few
returns-in-Err-clause-few c = (whole-Err c).few

-- search would try each cause, with a minimum or a maximum in it
pub expire_path-requires-clause-bounded : goal.expire_path-requires-clause-bounded
expire_path-requires-clause-bounded c =
    let b : Bfq = bfq_of c.args.parts.now.tables in
    let s : InService = c.in-Some.slot in
    let there : b.in_service ≡ Some s = sym c.slot.ensures ∙ c.in-Some.is in
    let new : c.budget_after-budget.result ≡ budget_after c.args.cause (b.budget s.seat) s.service c.args.most =
    c.budget_after-budget.ensures ∙ ap (λ n. budget_after c.args.cause n s.service c.args.most) c.budget.ensures in
    let least = least_after c.args.cause (b.budget s.seat) s.service c.args.most (c.requires.bounded.least_budgets s.seat) c.requires.least in
    let most = most_after c.args.cause (b.budget s.seat) s.service c.args.most c.requires.most (c.requires.bounded.served s there) in
    c.set_slot.ensures.bounded
    (c.set_budget.ensures.bounded c.requires.bounded (subst (λ n. 256 ≤ n) (sym new) least) (subst (λ n. n ≤ 65536) (sym new) most))
    (λ served is. absurd cc)
