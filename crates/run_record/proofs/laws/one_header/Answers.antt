use Rattle.run_record.proofs.Headers.{one_line}
use Rattle.run_record.proofs.laws.one_header.Goals as goal

pub returns : goal.returns
returns c = one_line
