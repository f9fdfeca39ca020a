use Rattle.host_console.proofs.Renaming.{one_line}
use Rattle.host_console.proofs.law.one_state.Goals as goal

pub returns : goal.returns
returns c = one_line
