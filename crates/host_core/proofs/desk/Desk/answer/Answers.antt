use Rattle.host_core.proofs.desk.Desk.answer.Goals as goal

pub returns-clause-row : goal.returns-clause-row
returns-clause-row g c = cc
