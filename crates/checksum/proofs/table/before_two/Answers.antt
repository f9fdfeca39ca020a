use Rattle.std.proofs.Common.{refl}
use Rattle.checksum.proofs.table.before_two.Goals as goal

pub returns : goal.returns
returns c = c.entry_in.ensures 2 refl
