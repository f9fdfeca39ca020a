use Rattle.std.proofs.Common.{◌≡◌, Some, is_some, ap, arith, length, rules}
use Rattle.plain.specs.Step.{of_sizes}
use Rattle.dispatch_core.proofs.Words.{finish, at}
use Rattle.dispatch_core.proofs.MayFinish.{may_give_way, may_ready, may_fit, may_size, may_make, may_make_most, ended-well, ended-answers}
use Rattle.dispatch_core.proofs.Decided.{Answers-err}
use Rattle.dispatch_core.proofs.finish.run_finish.Goals as goal

pub returns-in_err-reserve-clause-answers : goal.returns-in_err-reserve-clause-answers
returns-in_err-reserve-clause-answers c =
    let t = c.args.parts.now.tables in
    Answers-err (λ m. finish (of_sizes c.args.sizes) m c.args.room c.args.tag c.args.issue c.args.outcome.now) t t c.from_residual-in_err-reserve.result (search rules)
    (may_give_way (of_sizes c.args.sizes) c.args.serial t c.args.room c.args.tag c.args.issue c.args.outcome.now c.in-Ok.found.0 c.in-Ok.found.1 c.in-Ok.found.2 c.requires c.in-Ok.ensures)

pub returns-in_err-effect-clause-answers : goal.returns-in_err-effect-clause-answers
returns-in_err-effect-clause-answers c =
    let t = c.args.parts.now.tables in
    Answers-err (λ m. finish (of_sizes c.args.sizes) m c.args.room c.args.tag c.args.issue c.args.outcome.now) t t c.from_residual.result (search rules)
    (may_give_way (of_sizes c.args.sizes) c.args.serial t c.args.room c.args.tag c.args.issue c.args.outcome.now c.in-Ok.found.0 c.in-Ok.found.1 c.in-Ok.found.2 c.requires c.in-Ok.ensures)

pub end_request-requires-clause-ready : goal.end_request-requires-clause-ready
end_request-requires-clause-ready c =
    let t = c.args.parts.now.tables in
    let here : at t.requests c.in-Ok.found.0 ≡ Some c.in-Some.request.now = search rules in
    let read : c.as_slice-slots.result.now ≡ c.in-Some.request.now.bios.items = search rules in
    may_ready (of_sizes c.args.sizes) c.args.serial t c.args.room c.args.tag c.args.issue c.args.outcome.now c.in-Ok.found.0 c.in-Ok.found.1 c.in-Ok.found.2 c.requires c.in-Ok.ensures c.as_slice-slots.result.now c.in-Some.request.now here read c.in_ok-effect.effect c.in_ok-effect.ensures

pub end_request-requires-clause-room : goal.end_request-requires-clause-room
end_request-requires-clause-room c =
    let t = c.args.parts.now.tables in
    let here : at t.requests c.in-Ok.found.0 ≡ Some c.in-Some.request.now = search rules in
    let read : c.as_slice-slots.result.now ≡ c.in-Some.request.now.bios.items = search rules in
    let size = may_size (of_sizes c.args.sizes) c.args.serial t c.args.room c.args.tag c.args.issue c.args.outcome.now c.in-Ok.found.0 c.in-Ok.found.1 c.in-Ok.found.2 c.requires c.in-Ok.ensures c.as_slice-slots.result.now c.in-Some.request.now here read c.in_ok-effect.effect c.in_ok-effect.ensures in
    omega (arith, c.in_ok-reserve.ensures.room, size)

pub end_request-requires-clause-fits : goal.end_request-requires-clause-fits
end_request-requires-clause-fits c =
    let t = c.args.parts.now.tables in
    let here : at t.requests c.in-Ok.found.0 ≡ Some c.in-Some.request.now = search rules in
    let read : c.as_slice-slots.result.now ≡ c.in-Some.request.now.bios.items = search rules in
    may_fit (of_sizes c.args.sizes) c.args.serial t c.args.room c.args.tag c.args.issue c.args.outcome.now c.in-Ok.found.0 c.in-Ok.found.1 c.in-Ok.found.2 c.requires c.in-Ok.ensures c.as_slice-slots.result.now c.in-Some.request.now here read c.in_ok-effect.effect c.in_ok-effect.ensures

pub end_request-requires-clause-sits : goal.end_request-requires-clause-sits
end_request-requires-clause-sits c = ap is_some c.in-Ok.ensures.sits

pub returns-in_err-end_request-clause-answers : goal.returns-in_err-end_request-clause-answers
returns-in_err-end_request-clause-answers c =
    let t = c.args.parts.now.tables in
    Answers-err (λ m. finish (of_sizes c.args.sizes) m c.args.room c.args.tag c.args.issue c.args.outcome.now) t c.end_request.new.parts.tables c.from_residual-in_err-end_request.result (search rules)
    (may_give_way (of_sizes c.args.sizes) c.args.serial t c.args.room c.args.tag c.args.issue c.args.outcome.now c.in-Ok.found.0 c.in-Ok.found.1 c.in-Ok.found.2 c.requires c.in-Ok.ensures)

pub returns-clause-answers : goal.returns-clause-answers
returns-clause-answers c =
    let t = c.args.parts.now.tables in
    let here : at t.requests c.in-Ok.found.0 ≡ Some c.in-Some.request.now = search rules in
    let read : c.as_slice-slots.result.now ≡ c.in-Some.request.now.bios.items = search rules in
    ended-answers (of_sizes c.args.sizes) c.args.serial t c.args.room c.args.tag c.args.issue c.args.outcome.now c.in-Ok.found.0 c.in-Ok.found.1 c.in-Ok.found.2 c.requires c.in-Ok.ensures c.as_slice-slots.result.now c.in-Some.request.now here read c.in_ok-effect.effect c.in_ok-effect.ensures c.end_request.new.parts.tables c.in_ok-end_request.ensures.tables

pub returns-clause-leaves : goal.returns-clause-leaves
returns-clause-leaves c =
    let t = c.args.parts.now.tables in
    let here : at t.requests c.in-Ok.found.0 ≡ Some c.in-Some.request.now = search rules in
    let read : c.as_slice-slots.result.now ≡ c.in-Some.request.now.bios.items = search rules in
    let made = may_make (of_sizes c.args.sizes) c.args.serial t c.args.room c.args.tag c.args.issue c.args.outcome.now c.in-Ok.found.0 c.in-Ok.found.1 c.in-Ok.found.2 c.requires c.in-Ok.ensures c.as_slice-slots.result.now c.in-Some.request.now here read c.in_ok-effect.effect c.in_ok-effect.ensures in
    let most = may_make_most (of_sizes c.args.sizes) c.args.serial t c.args.room c.args.tag c.args.issue c.args.outcome.now c.in-Ok.found.0 c.in-Ok.found.1 c.in-Ok.found.2 c.requires c.in-Ok.ensures c.as_slice-slots.result.now c.in-Some.request.now here read c.in_ok-effect.effect c.in_ok-effect.ensures (length c.end_request.new.tape.current) (length c.reserve.new.self.current) c.in_ok-end_request.ensures.most in (
      ended-well (of_sizes c.args.sizes) c.args.serial t c.args.room c.args.tag c.args.issue c.args.outcome.now c.in-Ok.found.0 c.in-Ok.found.1 c.in-Ok.found.2 c.requires c.in-Ok.ensures c.as_slice-slots.result.now c.in-Some.request.now here read c.in_ok-effect.effect c.in_ok-effect.ensures c.end_request.new.parts.tables c.in_ok-end_request.ensures.tables,
      omega (arith, c.end_request.ensures.spare, c.in_ok-reserve.ensures.spare),
      omega (arith, made, c.in_ok-end_request.ensures.least, ap length c.reserve.ensures.current),
      omega (arith, most, ap length c.reserve.ensures.current),
    )
