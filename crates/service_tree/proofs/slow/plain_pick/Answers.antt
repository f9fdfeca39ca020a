use Rattle.std.proofs.Common.{arith}
use Rattle.service_tree.proofs.Compared.{none_picked}
use Rattle.service_tree.proofs.slow.plain_pick.Goals as goal

pub returns : goal.returns
returns c =
    none_picked c.args.vtime c.loop-entity.entity c.args.tree.now.members c.places-entity-end.ensures.length
    (omega (arith, c.places-entity-end.ensures.length, c.places-entity-end.ensures.value, c.loop-entity-test.false)) c.loop-entity.invariant
