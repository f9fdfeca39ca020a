use Rattle.host_console.proofs.run.run_keeper.Goals as goal

pub returns : goal.returns
returns g c = c.run_lines.ensures
