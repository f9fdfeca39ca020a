use Rattle.host_calls.proofs.Slots.{groups-greatest}
use Rattle.host_calls.proofs.laws.groups_have_the_greatest_budget.Goals as goal

pub returns : goal.returns
returns c = groups-greatest
