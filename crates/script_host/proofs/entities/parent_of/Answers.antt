use Rattle.script_host.proofs.Told.{none_stands}
use Rattle.script_host.proofs.entities.parent_of.Goals as goal
use Rattle.dispatch_core.specs.Running.{plain_of}

pub returns-then-group-ge32 : goal.returns-then-group-ge32
returns-then-group-ge32 c = λ s. absurd (none_stands (plain_of c.args.view.now).bfq c.args.group c.if-group-ge32.true s)
