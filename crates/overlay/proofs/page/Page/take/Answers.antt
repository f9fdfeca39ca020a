use Rattle.std.proofs.Common.{true, None, is_some, set, sym, ◌∙◌, ap, arith, subst}
use Rattle.overlay.specs.Pages.{Places, HasBlock}
use Rattle.overlay.proofs.Masks.{bit_of_had, had_is, taken_there}
use Rattle.overlay.proofs.page.Page.take.Goals as goal

pub overflow_sub-self : goal.overflow_sub-self
overflow_sub-self c =
    let had = had_is _ c.args.at c.self.inside.blocks _ _ c.self.invariant c.requires.at c.take-old.ensures.value in
    let bit = bit_of_had _ c.args.at c.self.inside.blocks true c.self.invariant (ap is_some had ∙ sym c.is_some.ensures ∙ c.if-is_some.true) in
    omega (arith, bit)

pub invariant_of-self : goal.invariant_of-self
invariant_of-self c =
    let had = had_is _ c.args.at c.self.inside.blocks _ _ c.self.invariant c.requires.at c.take-old.ensures.value in
    let some = ap is_some had ∙ sym c.is_some.ensures ∙ c.if-is_some.true in
    let bit = bit_of_had _ c.args.at c.self.inside.blocks true c.self.invariant some in
    taken_there c.self.inside.mask _ c.args.at c.self.inside.blocks _ true c.self.invariant c.requires.at c.take-old.ensures.after some
    (omega (arith, bit)) (subst (λ (xs : Places). HasBlock (set xs c.args.at None)) (sym c.self.view_is) c.requires.other)
