use Rattle.std.proofs.Common.{◌<◌, get_or, None, refl, arith}
use Rattle.group_tree.proofs.Kept.{exchanged}
use Rattle.group_tree.proofs.GroupTree.exchange_group.Goals as goal

pub invariant_of-self : goal.invariant_of-self
invariant_of-self c =
    let within : c.args.entity < 48 = (let t = c.if-entity-places.false in let v = c.places-places.ensures.value in omega (arith, t, v)) in
    exchanged c.args.entity c.args.group c.self.inside.parents c.self.inside.sides c.leave.new.sides c.enter.new.sides c.self.inside.ends c.leave.new.ends c.enter.new.ends c.from-row.result
    (get_or c.self.inside.parents c.args.entity None) c.linked.result c.linked-2.result c.self.invariant within
    c.from-row.ensures refl c.linked.ensures c.linked-2.ensures c.leave.ensures.sides c.leave.ensures.ends c.enter.ensures.sides c.enter.ensures.ends
