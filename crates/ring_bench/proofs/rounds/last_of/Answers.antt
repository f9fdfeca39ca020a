use Rattle.ring_bench.specs.Rounds.{IsFreshOf}
use Rattle.ring_bench.proofs.Last.{of-rest, of-last}
use Rattle.ring_bench.proofs.rounds.last_of.Goals as goal

pub returns-clause-rest : goal.returns-clause-rest
returns-clause-rest c = of-rest (IsFreshOf c.args.core.now) c.args.callers.now.items c.pop.new.self.items c.pop.result c.pop.ensures.items c.requires

pub returns-clause-seat : goal.returns-clause-seat
returns-clause-seat c = of-last (IsFreshOf c.args.core.now) c.args.callers.now.items c.pop.new.self.items c.pop.result c.pop.ensures.items c.requires
