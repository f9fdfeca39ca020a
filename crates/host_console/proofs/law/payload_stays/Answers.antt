use Rattle.host_console.proofs.Payloads.{same_payload}
use Rattle.host_console.proofs.law.payload_stays.Goals as goal

pub returns : goal.returns
returns c = same_payload
