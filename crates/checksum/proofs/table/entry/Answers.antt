use Rattle.std.proofs.Common.{refl}
use Rattle.checksum.proofs.table.entry.Goals as goal

pub returns : goal.returns
returns c = c.entry_in.ensures 0 refl
