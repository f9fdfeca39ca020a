use Rattle.std.proofs.Common.{◌≡◌, false, arith, rules}
use Rattle.dispatch_core.proofs.Words.{bfq_of, stands}
use Rattle.dispatch_core.proofs.Grouping.{free_is, free_none}
use Rattle.dispatch_core.proofs.groups.free_group.Goals as goal

pub returns-then-not-stands-clause-value : goal.returns-then-not-stands-clause-value
returns-then-not-stands-clause-value c =
    let b = bfq_of c.args.parts.now.tables in
    let free : stands b c.loop-group.group ≡ false = search rules in
    free_is b c.loop-group.group (omega (arith, c.loop-group.auto.group)) (omega (arith, c.loop-group-test.true)) free c.loop-group.invariant

pub returns-clause-value : goal.returns-clause-value
returns-clause-value c =
    free_none (bfq_of c.args.parts.now.tables) (λ j a b. c.loop-group.invariant j a (omega (arith, b, c.loop-group-test.false)))
