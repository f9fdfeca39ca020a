use Rattle.bfq_laws.proofs.Order.{classes-in-order}
use Rattle.bfq_laws.proofs.laws.classes_are_in_order.Goals as goal

pub returns : goal.returns
returns c = classes-in-order
