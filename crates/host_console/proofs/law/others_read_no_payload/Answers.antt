use Rattle.host_console.proofs.Payloads.{other_payload}
use Rattle.host_console.proofs.law.others_read_no_payload.Goals as goal

pub returns : goal.returns
returns c = other_payload
