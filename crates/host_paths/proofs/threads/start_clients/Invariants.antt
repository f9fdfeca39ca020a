use Rattle.host_core.specs.Opening.{AreIdle}
use Rattle.host_paths.proofs.threads.start_clients.Given as goal

abbrev pub invariant-loop : goal.invariant-loop
invariant-loop g l = AreIdle l.callers.items
