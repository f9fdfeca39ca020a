use Rattle.change_record.proofs.Exchanges.{after-after, left_by-after}
use Rattle.change_record.proofs.laws.turned_twice.Goals as goal

pub returns : goal.returns
returns c = λ t d. record { tables = after-after t d; change = left_by-after t d }
