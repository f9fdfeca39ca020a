use Rattle.std.proofs.Common.{arith}
use Rattle.ring_bench.proofs.answering.read.Goals as goal

-- 8 sectors
pub returns : goal.returns
returns c = (8, omega arith, omega arith, c.zeros.ensures)
