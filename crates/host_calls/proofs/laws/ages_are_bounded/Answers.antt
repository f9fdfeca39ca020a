use Rattle.host_calls.proofs.Slots.{ages-bounded}
use Rattle.host_calls.proofs.laws.ages_are_bounded.Goals as goal

pub returns : goal.returns
returns c = ages-bounded
