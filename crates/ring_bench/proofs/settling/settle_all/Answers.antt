use Rattle.std.proofs.Common.{sym, subst}
use Rattle.host_core.specs.declared.judges.Judges as journal
use Rattle.host_core.specs.Cores.{SameSeats}
use Rattle.host_core.specs.Settling.{core_of, IsCallerOf, IsDeviceOf}
use Rattle.host_core.specs.declared.turns.Core.{Core}
use Rattle.host_core.proofs.Seated.{caller-stays, device-stays, seats-twice}
use Rattle.ring_bench.proofs.settling.settle_all.Goals as goal

pub settle_one-requires : goal.settle_one-requires
settle_one-requires c = subst (λ core. IsCallerOf core c.args.done.first.0.seat) (sym c.finish-end.ensures) c.requires.done.0

pub settle_one-requires-2 : goal.settle_one-requires-2
settle_one-requires-2 c =
    let seat = c.args.done.first.1.seat in
    caller-stays (core_of c.finish-end.result) (core_of c.settle_one.new.core) seat (subst (λ core. IsCallerOf core seat) (sym c.finish-end.ensures) c.requires.done.1)
    c.settle_one.ensures

pub settle_one-requires-3 : goal.settle_one-requires-3
settle_one-requires-3 c =
    let seat = c.args.done.second.0.seat in
    caller-stays (core_of c.settle_one.new.core) (core_of c.settle_one-2.new.core) seat
    (caller-stays (core_of c.finish-end.result) (core_of c.settle_one.new.core) seat (subst (λ core. IsCallerOf core seat) (sym c.finish-end.ensures) c.requires.done.2)
    c.settle_one.ensures) c.settle_one-2.ensures

pub settle_one-requires-4 : goal.settle_one-requires-4
settle_one-requires-4 c =
    let seat = c.args.done.second.1.seat in
    caller-stays (core_of c.settle_one-2.new.core) (core_of c.settle_one-3.new.core) seat
    (caller-stays (core_of c.settle_one.new.core) (core_of c.settle_one-2.new.core) seat
    (caller-stays (core_of c.finish-end.result) (core_of c.settle_one.new.core) seat (subst (λ core. IsCallerOf core seat) (sym c.finish-end.ensures) c.requires.done.3)
    c.settle_one.ensures) c.settle_one-2.ensures) c.settle_one-3.ensures

-- the core after all that asked were settled speaks to the same seats
stays : {B : Type 0} {j : journal.Ghosts B} (a b c d e f : Core B j) → SameSeats a b → SameSeats b c → SameSeats c d → SameSeats d e → SameSeats e f → SameSeats a f
stays a b c d e f one two three four five =
    seats-twice a b f one (seats-twice b c f two (seats-twice c d f three (seats-twice d e f four five)))

pub settle_callers-requires : goal.settle_callers-requires
settle_callers-requires c = λ i s at. caller-stays (core_of c.finish-end.result) (core_of c.settle_operator.new.core) s
    (subst (λ core. IsCallerOf core s) (sym c.finish-end.ensures) (c.requires.callers i s at))
    (stays (core_of c.finish-end.result) (core_of c.settle_one.new.core) (core_of c.settle_one-2.new.core) (core_of c.settle_one-3.new.core)
    (core_of c.settle_one-4.new.core) (core_of c.settle_operator.new.core) c.settle_one.ensures c.settle_one-2.ensures c.settle_one-3.ensures c.settle_one-4.ensures
    c.settle_operator.ensures)

pub settle_devices-requires : goal.settle_devices-requires
settle_devices-requires c = λ i s at. device-stays (core_of c.finish-end.result) (core_of c.settle_callers.new.core) s
    (subst (λ core. IsDeviceOf core s) (sym c.finish-end.ensures) (c.requires.devices i s at))
    (seats-twice (core_of c.finish-end.result) (core_of c.settle_operator.new.core) (core_of c.settle_callers.new.core)
    (stays (core_of c.finish-end.result) (core_of c.settle_one.new.core) (core_of c.settle_one-2.new.core) (core_of c.settle_one-3.new.core)
    (core_of c.settle_one-4.new.core) (core_of c.settle_operator.new.core) c.settle_one.ensures c.settle_one-2.ensures c.settle_one-3.ensures c.settle_one-4.ensures
    c.settle_operator.ensures) c.settle_callers.ensures)
