use Rattle.script_line.specs.declared.ending.ScriptEnd.TheVariants.{OutOfMemory}
use Rattle.bfqhost.proofs.replaying.run_over.Goals as goal

pub returns-in-Err : goal.returns-in-Err
returns-in-Err g c = (OutOfMemory, c.no_memory.ensures)
