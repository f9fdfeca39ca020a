use Rattle.host_console.proofs.teller.Teller.look.Goals as goal

pub returns-in-Finish-clause-err : goal.returns-in-Finish-clause-err
returns-in-Finish-clause-err g c = rw c.in-Finish.is c.finish.ensures.err

pub returns-in-Work-clause-err : goal.returns-in-Work-clause-err
returns-in-Work-clause-err g c = rw c.in-Work.is c.work.ensures.err
