use Rattle.std.proofs.Common.{rules}
use Rattle.script_host.proofs.script.run_script.Goals as goal

pub returns : goal.returns
returns g c = search rules
