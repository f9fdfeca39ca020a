use Rattle.std.proofs.Common.{arith, sym, subst}
use Rattle.std.proofs.lemmas.Option.{slice_get_read}
use Rattle.host_core.specs.SeatSettling.{seat_of}
use Rattle.host_core.specs.Settling.{IsCallerOf}
use Rattle.host_core.proofs.Seated.{caller-stays, caller-works}
use Rattle.host_tests.proofs.settling.left.Goals as goal

pub settle-requires : goal.settle-requires
settle-requires c =
    let opened = c.in_ok-core.ensures in
    let core = c.in_ok-core.core in
    let callers = c.in_ok-core.callers.items in
    let seat = c.swap_remove-seat.result in
    let long = opened.pairs.callers_are.seats_are in
    let first = opened.seated.0 0 seat (slice_get_read callers 16 0 seat (sym long) (omega arith) c.swap_remove-seat.ensures.value) in
    let staged = caller-works core seat c.stage_all.new.seat first c.stage_all.ensures in
    let turned = caller-stays core c.take_turns.new.core c.stage_all.new.seat staged c.take_turns.ensures in
    let collected = caller-works c.take_turns.new.core c.stage_all.new.seat c.collect_all.new.seat turned c.collect_all.ensures in
    subst (λ of. IsCallerOf of (seat_of c.finish.result)) (sym c.finish-2.ensures)
    (subst (IsCallerOf c.take_turns.new.core) (sym c.finish.ensures) collected)
