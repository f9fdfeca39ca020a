use Rattle.std.proofs.Common.{arith, sym}
use Rattle.service_tree.proofs.Compared.{first_picked, not_eligible, not_soonest}
use Rattle.service_tree.proofs.slow.is_picked.Goals as goal

pub returns-in_default-clause-no : goal.returns-in_default-clause-no
returns-in_default-clause-no c =
    λ _ is. not_eligible c.args.vtime c.args.tree.now.members c.args.entity c.places-places.ensures.length c.in_default.ensures is

pub returns-then-is_sooner-clause-no : goal.returns-then-is_sooner-clause-no
returns-then-is_sooner-clause-no c =
    λ _ is. not_soonest c.args.vtime c.args.tree.now.members c.args.entity c.loop-other.other c.in-Some.member c.in-Some-get_eligible.rival
    c.places-places.ensures.length c.in-Some.ensures c.in-Some-get_eligible.ensures (sym c.if-is_sooner.ensures) is

pub returns-clause-yes : goal.returns-clause-yes
returns-clause-yes c =
    λ _. first_picked c.args.vtime c.loop-other.other c.args.tree.now.members c.args.entity c.in-Some.member
    c.places-places.ensures.length (omega (arith, c.places-places.ensures.length, c.places-places.ensures.value, c.loop-other-test.false)) c.in-Some.ensures c.loop-other.invariant
