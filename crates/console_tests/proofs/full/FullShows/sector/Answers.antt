use Rattle.std.proofs.Common.{arith}
use Rattle.std.specs.FinMap.{get-empty}
use Rattle.console_tests.proofs.full.FullShows.sector.Goals as goal

pub returns-then-number-self : goal.returns-then-number-self
returns-then-number-self c = (omega arith, get-empty _ _)
