use Rattle.host_calls.proofs.Sittings.{requests-have-seats}
use Rattle.host_calls.proofs.laws.requests_have_seats.Goals as goal

pub returns : goal.returns
returns c = requests-have-seats
