use Rattle.host_console.proofs.Payloads.{bad_of_length}
use Rattle.host_console.proofs.law.bad_by_length.Goals as goal

pub returns : goal.returns
returns c = bad_of_length
