use Rattle.std.proofs.Common.{arith, sym, subst}
use Rattle.std.proofs.lemmas.Option.{slice_get_read}
use Rattle.host_core.specs.SeatSettling.{seat_of}
use Rattle.host_core.specs.Settling.{IsDeviceOf}
use Rattle.host_core.proofs.Seated.{device-stays, device-works}
use Rattle.host_tests.proofs.settling.left_of_device.Goals as goal

pub settle-requires : goal.settle-requires
settle-requires c =
    let opened = c.in_ok-core.ensures in
    let core = c.in_ok-core.core in
    let devices = c.in_ok-core.devices.items in
    let seat = c.swap_remove-seat.result in
    let long = opened.pairs.devices_are.seats_are in
    let first = opened.seated.1 0 seat (slice_get_read devices 1 0 seat (sym long) (omega arith) c.swap_remove-seat.ensures.value) in
    let staged = device-works core seat c.stage-staged.new.self first c.stage-staged.ensures.seat in
    let turned = device-stays core c.take_turns.new.core c.stage-staged.new.self staged c.take_turns.ensures in
    subst (λ of. IsDeviceOf of (seat_of c.finish.result)) (sym c.finish-2.ensures)
    (subst (IsDeviceOf c.take_turns.new.core) (sym c.finish.ensures) turned)
