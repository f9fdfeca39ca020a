use Rattle.std.proofs.Common.{◌≡◌, true, false, is_some, ◌∙◌, ap, arith}
use Rattle.overlay.proofs.Masks.{bit_fits, had_is, put_there}
use Rattle.overlay.proofs.page.Page.put.Goals as goal

pub overflow_add-self : goal.overflow_add-self
overflow_add-self c =
    let had = had_is _ c.args.at c.self.inside.blocks _ _ c.self.invariant c.requires c.replace-old.ensures.value in
    let none : is_some c.replace-old.result ≡ false = c.if-is_none.ensures in
    let sum = bit_fits _ c.args.at c.self.inside.blocks c.self.invariant c.requires (ap is_some had ∙ none) in
    omega (arith, sum)

pub invariant_of-self : goal.invariant_of-self
invariant_of-self c =
    let had = had_is _ c.args.at c.self.inside.blocks _ _ c.self.invariant c.requires c.replace-old.ensures.value in
    let none : is_some c.replace-old.result ≡ false = c.if-is_none.ensures in
    put_there c.self.inside.mask _ c.args.at c.self.inside.blocks _ false c.self.invariant c.requires (ap is_some c.replace-old.ensures.after) (ap is_some had ∙ none) (omega arith)

pub invariant_of-self-else-is_none : goal.invariant_of-self-else-is_none
invariant_of-self-else-is_none c =
    let had = had_is _ c.args.at c.self.inside.blocks _ _ c.self.invariant c.requires c.replace-old.ensures.value in
    let some : is_some c.replace-old.result ≡ true = c.if-is_none.ensures in
    put_there c.self.inside.mask _ c.args.at c.self.inside.blocks _ true c.self.invariant c.requires (ap is_some c.replace-old.ensures.after) (ap is_some had ∙ some) (omega arith)
