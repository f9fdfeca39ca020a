use Rattle.std.proofs.Common.{inr}
use Rattle.script_line.specs.declared.ending.ScriptEnd.TheVariants.{OutOfMemory}
use Rattle.bfqhost.proofs.replaying.over_file.Goals as goal

pub returns-in-Err : goal.returns-in-Err
returns-in-Err g c = inr (OutOfMemory, c.no_memory.ensures)
