use Rattle.host_core.proofs.Waiting.{one-waits}
use Rattle.host_core.proofs.turns.Core.book.Goals as goal

pub returns-clause-single : goal.returns-clause-single
returns-clause-single g c = one-waits c.args.self.now.desks
