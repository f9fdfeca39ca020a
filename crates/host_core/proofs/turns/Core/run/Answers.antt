use Rattle.host_core.proofs.turns.Core.run.Goals as goal

pub returns-clause-turns : goal.returns-clause-turns
returns-clause-turns g c = search depth 2

pub returns-clause-ended : goal.returns-clause-ended
returns-clause-ended g c = cc

pub returns-clause-kept : goal.returns-clause-kept
returns-clause-kept g c = search depth 2

pub returns-clause-shut : goal.returns-clause-shut
returns-clause-shut g c = search depth 2

pub returns-clause-desks : goal.returns-clause-desks
returns-clause-desks g c = search depth 2
