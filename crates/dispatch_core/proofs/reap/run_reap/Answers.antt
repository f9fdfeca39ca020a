use Rattle.std.proofs.Common.{◌≡◌, length, drop, Some, None, ap, arith, rules, List, subst, sym, ◌∙◌}
use Rattle.dispatch_core.proofs.Words.{Bio, outbox_at, meaning, at, reaped_tables}
use Rattle.plain.specs.Step.{of_sizes}
use Rattle.plain.specs.Steps.Reap.{reap}
use Rattle.dispatch_core.proofs.MayReap.{place_taken, one_waits, one_owed, may_give_way, reaped-answers, reaped-well, declined-answers, declined-leaves}
use Rattle.dispatch_core.proofs.Decided.{Answers-err}
use Rattle.change_record.specs.declared.change.Change.{Change}
use Rattle.change_record.specs.Trail.{IsTrail}
use Rattle.dispatch_core.proofs.reap.run_reap.Goals as goal

pub returns-in_err-result-clause-answers : goal.returns-in_err-result-clause-answers
returns-in_err-result-clause-answers c =
    let t = c.args.parts.now.tables in
    let bio : Bio = c.in-Some.bio.now in
    let here : at t.bios c.in-Ok.found.1 ≡ Some bio = search rules in
    Answers-err (λ m. reap m c.args.room c.args.seat c.args.session) t t c.from_residual.result (search rules)
    (may_give_way (of_sizes c.args.sizes) c.args.serial t c.args.room c.args.seat c.args.session c.in-Ok.found.0 c.in-Ok.found.1 c.requires c.in-Ok.ensures bio here)

pub returns-in_err-reserve-clause-answers : goal.returns-in_err-reserve-clause-answers
returns-in_err-reserve-clause-answers c =
    let t = c.args.parts.now.tables in
    let bio : Bio = c.in-Some.bio.now in
    let here : at t.bios c.in-Ok.found.1 ≡ Some bio = search rules in
    Answers-err (λ m. reap m c.args.room c.args.seat c.args.session) t t c.from_residual-in_err-reserve.result (search rules)
    (may_give_way (of_sizes c.args.sizes) c.args.serial t c.args.room c.args.seat c.args.session c.in-Ok.found.0 c.in-Ok.found.1 c.requires c.in-Ok.ensures bio here)

pub returns-clause-answers : goal.returns-clause-answers
returns-clause-answers c =
    let t = c.args.parts.now.tables in
    let bio : Bio = c.in-Some.bio.now in
    let here : at t.bios c.in-Ok.found.1 ≡ Some bio = search rules in
    let now : c.take_out.new.parts.tables ≡ reaped_tables t c.args.seat c.in-Ok.found.0 c.in-Ok.found.1 (drop 1 (outbox_at t.outboxes c.args.seat)) = c.in_ok-take_out.ensures.tables in
    reaped-answers (of_sizes c.args.sizes) c.args.serial t c.args.room c.args.seat c.args.session c.in-Ok.found.0 c.in-Ok.found.1 c.requires c.in-Ok.ensures bio here c.take_out.new.parts.tables now c.in_ok-result.result c.in_ok-result.ensures

pub returns-clause-leaves : goal.returns-clause-leaves
returns-clause-leaves c =
    let t = c.args.parts.now.tables in
    let bio : Bio = c.in-Some.bio.now in
    let here : at t.bios c.in-Ok.found.1 ≡ Some bio = search rules in
    let now : c.take_out.new.parts.tables ≡ reaped_tables t c.args.seat c.in-Ok.found.0 c.in-Ok.found.1 (drop 1 (outbox_at t.outboxes c.args.seat)) = c.in_ok-take_out.ensures.tables in (
      reaped-well (of_sizes c.args.sizes) c.args.serial t c.args.room c.args.seat c.args.session c.in-Ok.found.0 c.in-Ok.found.1 c.requires c.in-Ok.ensures bio here c.take_out.new.parts.tables now,
      omega (arith, c.take_out.ensures.spare, c.in_ok-reserve.ensures.spare),
      omega (arith, c.in_ok-take_out.ensures.count, ap length c.reserve.ensures.current),
      omega (arith, c.in_ok-take_out.ensures.count, ap length c.reserve.ensures.current),
    )

pub returns-clause-trail : goal.returns-clause-trail
returns-clause-trail c = λ origin h.
    let P : List Change → Type 0 = λ changes. IsTrail changes c.args.parts.now.tables origin in
    c.take_out.ensures.trail origin (subst P (sym c.reserve.ensures.current) h)

pub returns-clause-steps : goal.returns-clause-steps
returns-clause-steps c = c.take_out.ensures.steps ∙ c.in_ok-reserve.ensures.steps

pub returns-in-Err-clause-answers : goal.returns-in-Err-clause-answers
returns-in-Err-clause-answers c =
    let m = meaning c.args.parts.now.tables in
    declined-answers m c.in-Err.answer (reap m c.args.room c.args.seat c.args.session) c.in-Err.ensures

pub returns-in-Err-clause-leaves : goal.returns-in-Err-clause-leaves
returns-in-Err-clause-leaves c =
    let t = c.args.parts.now.tables in
    declined-leaves (of_sizes c.args.sizes) c.args.serial 3 0 (meaning t) c.in-Err.answer (reap (meaning t) c.args.room c.args.seat c.args.session) t c.args.tape.now.current c.args.tape.now.spare c.in-Err.ensures

pub unreachable-requires : goal.unreachable-requires
unreachable-requires c =
    let t = c.args.parts.now.tables in
    let none : at t.bios c.in-Ok.found.1 ≡ None = search rules in
    let taken = place_taken (of_sizes c.args.sizes) c.args.serial t c.args.room c.args.seat c.args.session c.in-Ok.found.0 c.in-Ok.found.1 c.requires c.in-Ok.ensures in
    let some : at t.bios c.in-Ok.found.1 ≡ Some taken.0 = taken.1 in
    cc

pub take_out-requires-clause-some : goal.take_out-requires-clause-some
take_out-requires-clause-some c = one_owed c.in-Ok.found.0.unreaped c.in-Ok.ensures.owed

pub take_out-requires-clause-waits : goal.take_out-requires-clause-waits
take_out-requires-clause-waits c = one_waits (outbox_at c.args.parts.now.tables.outboxes c.args.seat) c.in-Ok.found.1 c.in-Ok.ensures.first
