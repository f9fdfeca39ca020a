use Rattle.host_core.proofs.asked.OperatorCallStaged.asked.Goals as goal

pub returns : goal.returns
returns c = c.asked_by_operator.ensures c.args._seat
