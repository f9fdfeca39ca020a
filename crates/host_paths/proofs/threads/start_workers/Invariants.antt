use Rattle.host_core.specs.Opening.{AreIdle}
use Rattle.host_paths.proofs.threads.start_workers.Given as goal

abbrev pub invariant-loop : goal.invariant-loop
invariant-loop g l = AreIdle l.devices.items
