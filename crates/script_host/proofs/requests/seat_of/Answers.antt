use Rattle.std.proofs.Common.{◌≡◌, ℕ, Bool, true, false, ◌-◌, sym, ap, ◌∙◌, arith, rules}
use Rattle.std.specs.List.{find}
use Rattle.plain.specs.Lists.{numbers}
use Rattle.soft_queue.proofs.Numbers.{find-numbers, find-numbers_here}
use Rattle.plain.specs.Sessions.{is_session}
use Rattle.dispatch_core.specs.Running.{plain_of}
use Rattle.script_host.proofs.requests.seat_of.Goals as goal
use Rattle.script_host.proofs.requests.seat_of.Goals.{in-Some+else-entry-session, in_default}

pub returns-then-entry-session : goal.returns-then-entry-session
returns-then-entry-session c =
    let P : ℕ → Bool = λ seat. is_session c.args.session ((plain_of c.args.view.now).seat seat) in
    let here : is_session c.args.session ((plain_of c.args.view.now).seat c.loop-seat.seat) ≡ true = search rules in
    sym (c.loop-seat.invariant ∙ find-numbers_here P c.loop-seat.seat 16 c.loop-seat-test.true here)

pub loop-seat-preserved : goal.loop-seat-preserved
loop-seat-preserved c =
    let P : ℕ → Bool = λ seat. is_session c.args.session ((plain_of c.args.view.now).seat seat) in
    let other : is_session c.args.session ((plain_of c.args.view.now).seat c.loop-seat.seat) ≡ false = elim c.match-seat.branch [
      | in-Some+else-entry-session w ↦ search rules
      | in_default w ↦ search rules
    ] in
    c.loop-seat.invariant ∙ find-numbers P c.loop-seat.seat 16 c.loop-seat-test.true other

pub returns : goal.returns
returns c =
    let P : ℕ → Bool = λ seat. is_session c.args.session ((plain_of c.args.view.now).seat seat) in
    let over : 16 - c.loop-seat.seat ≡ 0 = omega (arith, c.loop-seat-test.false) in
    sym (c.loop-seat.invariant ∙ ap (λ k. find P (numbers c.loop-seat.seat k)) over)
