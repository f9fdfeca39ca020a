use Rattle.host_core.proofs.Seated.{seats-twice}
use Rattle.host_tests.proofs.settling.take_turns.Goals as goal

pub loop-preserved : goal.loop-preserved
loop-preserved c = seats-twice c.args.core.now c.loop.core c.turn-report.new.self c.loop.invariant c.turn-report.ensures.desks
