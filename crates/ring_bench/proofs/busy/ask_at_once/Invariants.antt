use Rattle.host_core.specs.Opening.{AreIdle}
use Rattle.ring_bench.proofs.busy.ask_at_once.Given as goal

abbrev pub invariant-loop-number : goal.invariant-loop-number
invariant-loop-number g l = AreIdle l.callers.items
