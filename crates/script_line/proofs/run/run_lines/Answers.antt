use Rattle.script_line.proofs.Ends.{flushed, unflushed}
use Rattle.script_line.proofs.run.run_lines.Goals as goal

pub returns-in-Ok : goal.returns-in-Ok
returns-in-Ok g c =
    flushed g.C.Console.prints _ _ _ _ _ _ _ c.run_all-end.result c.run_all-end.ensures c.flush.ensures.bytes

pub returns-in-Err : goal.returns-in-Err
returns-in-Err g c =
    unflushed g.C.Console.prints _ _ _ _ _ _ _ c.run_all-end.result c.run_all-end.ensures c.flush.ensures.bytes
