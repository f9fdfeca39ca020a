use Rattle.std.proofs.Common.{ap, subst}
use Rattle.plain.specs.declared.call.Call.TheVariants.{Do}
use Rattle.plain.specs.Keeper.{State}
use Rattle.plain.specs.Headline.{MayCall}
use Rattle.history.specs.Keeping.{state_of}
use Rattle.history.specs.Kept.{Kept}
use Rattle.history.specs.Turns.{Turns}
use Rattle.history.proofs.Calls.{keeper-taken, may-take, turns-taken}
use Rattle.history.proofs.keeper.Keeper.take_step.Goals as goal

pub invariant_of-self : goal.invariant_of-self
invariant_of-self c =
    let i = c.self.inside in
    keeper-taken i.roll c.step.new.self i.held c.has_room-room.result i.most c.args.step.now c.step.result c.if-self.false c.step.ensures.reserved
    c.has_room-room.ensures c.step.ensures.may c.self.invariant

pub returns-clause-may : goal.returns-clause-may
returns-clause-may c =
    let i = c.self.inside in
    let P : State → Type 0 = λ s. MayCall s (Do c.args.step.now) c.step.result (state_of c.step.new.self i.held i.most) in
    subst P (ap (λ v. v.state) c.self.view_is)
    (may-take i.roll c.step.new.self i.held c.has_room-room.result i.most c.args.step.now c.step.result c.if-self.false c.has_room-room.ensures c.step.ensures.may)

pub returns-clause-turns : goal.returns-clause-turns
returns-clause-turns c =
    let i = c.self.inside in
    let now : Kept = record { state = state_of c.step.new.self i.held i.most; lengths = c.step.new.self.lengths; turns = c.step.new.self.turns } in
    let P : Kept → Type 0 = λ k. Turns k (Do c.args.step.now) c.step.result now in
    subst P c.self.view_is (turns-taken i.roll c.step.new.self i.held i.most c.args.step.now c.step.result c.step.ensures.lengths)
