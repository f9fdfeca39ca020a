use Rattle.std.proofs.Common.{◌++◌, sym, ap, ◌∙◌, arith}
use Rattle.dispatch_core.specs.Running.{plain_of}
use Rattle.host_console.specs.State.{taken_text}
use Rattle.script_host.proofs.Told.{more_numbers, no_numbers, one_more, all_told}
use Rattle.script_host.proofs.state.seats.put_seats.Goals as goal

pub loop-seat-preserved : goal.loop-seat-preserved
loop-seat-preserved c =
    let next = more_numbers (taken_text (plain_of c.args.view.now)) c.loop-seat.seat 16 c.loop-seat-test.true in
    one_more c.loop-seat.out.items c.put_seat.new.out.items _ _ _ c.in_ok-put_seat.ensures (ap (λ ys. c.loop-seat.out.items ++ ys) (sym next) ∙ c.loop-seat.invariant)

pub returns : goal.returns
returns c =
    all_told c.loop-seat.out.items _ _ (no_numbers (taken_text (plain_of c.args.view.now)) c.loop-seat.seat 16 (omega (arith, c.loop-seat-test.false))) c.loop-seat.invariant
