use Rattle.host_calls.proofs.Placings.{one-place}
use Rattle.host_calls.proofs.laws.bios_have_one_place.Goals as goal

pub returns : goal.returns
returns c = one-place
