use Rattle.std.proofs.Common.{◌+◌, arith, subst, sym, Option, ℕ}
use Rattle.service_tree.proofs.Compared.{IsLeast, least_here, least_is, least_skip}
use Rattle.service_tree.proofs.slow.plain_least_start.Goals as goal
use Rattle.service_tree.proofs.slow.plain_least_start.Goals.{in-Some, in_default}

pub loop-entity-preserved : goal.loop-entity-preserved
loop-entity-preserved c =
    let P : Option ℕ → Type 0 = IsLeast c.args.tree.now.members (c.loop-entity.entity + 1) in
    elim c.match-get_active.branch [
      | in-Some w ↦ subst P (sym w.least-is)
          (least_here c.args.tree.now.members c.loop-entity.entity c.loop-entity.least w.in-Some.member w.least_of.result w.in-Some.ensures w.least_of.ensures c.loop-entity.invariant)
      | in_default w ↦ subst P (sym w.least-is)
          (least_skip c.args.tree.now.members c.loop-entity.entity c.loop-entity.least w.in_default.ensures c.loop-entity.invariant)
    ]

pub returns : goal.returns
returns c =
    least_is c.loop-entity.entity c.args.tree.now.members c.loop-entity.least
    (omega (arith, c.places-entity-end.ensures.length, c.places-entity-end.ensures.value, c.loop-entity-test.false)) c.loop-entity.invariant
