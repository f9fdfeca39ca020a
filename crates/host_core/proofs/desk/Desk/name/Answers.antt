use Rattle.host_core.proofs.desk.Desk.name.Goals as goal

pub returns : goal.returns
returns g c = c.name.ensures
