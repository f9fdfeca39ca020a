use Rattle.host_calls.proofs.Fillings.{blocks-full}
use Rattle.host_calls.proofs.laws.blocks_are_full.Goals as goal

pub returns : goal.returns
returns c = blocks-full
