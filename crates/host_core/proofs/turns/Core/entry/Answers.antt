use Rattle.host_core.proofs.turns.Core.entry.Goals as goal

pub returns : goal.returns
returns g c = c.entry.ensures
