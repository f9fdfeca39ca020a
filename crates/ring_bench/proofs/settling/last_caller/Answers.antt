use Rattle.host_core.specs.Settling.{core_of, IsCallerOf}
use Rattle.ring_bench.proofs.Last.{of-rest, of-last}
use Rattle.ring_bench.proofs.settling.last_caller.Goals as goal

pub returns-clause-rest : goal.returns-clause-rest
returns-clause-rest c = of-rest (IsCallerOf (core_of c.args.core.now)) c.args.callers.now.items c.pop.new.self.items c.pop.result c.pop.ensures.items c.requires

pub returns-clause-seat : goal.returns-clause-seat
returns-clause-seat c = of-last (IsCallerOf (core_of c.args.core.now)) c.args.callers.now.items c.pop.new.self.items c.pop.result c.pop.ensures.items c.requires
