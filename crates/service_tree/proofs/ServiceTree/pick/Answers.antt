use Rattle.std.proofs.Common.{◌≡◌, sym, ◌∙◌, ap, subst, Option, ℕ, MatchOption, Some}
use Rattle.service_tree.specs.Orders.{active_order}
use Rattle.plain.specs.Members.{IsPicked, NoneEligible, Service, pick}
use Rattle.service_tree.proofs.Compared.{picked_law}
use Rattle.service_tree.proofs.Answered.{picked_some, picked_nobody}
use Rattle.service_tree.proofs.ServiceTree.pick.Goals as goal

pub returns-in-Some-clause-value : goal.returns-in-Some-clause-value
returns-in-Some-clause-value c =
    sym (picked_some c.self.inside.members (active_order c.self.inside.orders) c.args.vtime c.in-Some.turn c.self.invariant.active c.self.invariant.places c.in-Some.ensures)
    ∙ ap (λ (s : Service). pick c.args.vtime s.members) c.self.view_is

pub returns-in-Some-clause-picked : goal.returns-in-Some-clause-picked
returns-in-Some-clause-picked c =
    let is : pick c.args.vtime c.self.inside.members ≡ Some c.in-Some.turn.number
    = picked_some c.self.inside.members (active_order c.self.inside.orders) c.args.vtime c.in-Some.turn c.self.invariant.active c.self.invariant.places c.in-Some.ensures in
    let law : IsPicked c.args.vtime c.self.inside.members c.in-Some.turn.number
    = subst (λ (o : Option ℕ). MatchOption o (NoneEligible c.args.vtime c.self.inside.members) (IsPicked c.args.vtime c.self.inside.members)) is (picked_law c.args.vtime c.self.inside.members c.self.invariant.places) in
    subst (λ (s : Service). IsPicked c.args.vtime s.members c.in-Some.turn.number) c.self.view_is law

pub returns-in-None-clause-value : goal.returns-in-None-clause-value
returns-in-None-clause-value c =
    picked_nobody c.self.inside.members (active_order c.self.inside.orders) c.args.vtime c.self.invariant.active c.self.invariant.places c.in-None.ensures
    ∙ ap (λ (s : Service). pick c.args.vtime s.members) c.self.view_is

pub returns-in-None-clause-picked : goal.returns-in-None-clause-picked
returns-in-None-clause-picked c =
    let is = picked_nobody c.self.inside.members (active_order c.self.inside.orders) c.args.vtime c.self.invariant.active c.self.invariant.places c.in-None.ensures in
    let law : NoneEligible c.args.vtime c.self.inside.members
    = subst (λ (o : Option ℕ). MatchOption o (NoneEligible c.args.vtime c.self.inside.members) (IsPicked c.args.vtime c.self.inside.members)) (sym is) (picked_law c.args.vtime c.self.inside.members c.self.invariant.places) in
    subst (λ (s : Service). NoneEligible c.args.vtime s.members) c.self.view_is law
