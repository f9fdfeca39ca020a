use Rattle.std.proofs.Common.{subst, sym}
use Rattle.host_core.specs.Cores.{SameSeats}
use Rattle.host_core.specs.Settling.{core_of, AreCallersOf}
use Rattle.ring_bench.proofs.Stays.{callers-stay}
use Rattle.ring_bench.proofs.settling.settle_callers.Goals as goal
use Rattle.ring_bench.proofs.settling.settle_callers.Goals.{in-Some, in_default}

pub loop-preserved : goal.loop-preserved
loop-preserved c =
    let first = c.args.core.now in
    let seats = c.last_caller.new.callers.items in
    elim c.match-last_caller.branch [
      | in-Some w ↦ subst (λ core. AreCallersOf (core_of core) seats × SameSeats (core_of first) (core_of core)) (sym w.core-is)
          (callers-stay first c.loop.core w.settle_one.new.core seats c.last_caller.ensures.rest c.loop.invariant.1 w.settle_one.ensures)
      | in_default w ↦ subst (λ core. AreCallersOf (core_of core) seats × SameSeats (core_of first) (core_of core)) (sym w.core-is)
          (c.last_caller.ensures.rest, c.loop.invariant.1)
    ]
