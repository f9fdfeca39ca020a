use Rattle.std.proofs.Common.{None, set, subst, arith}
use Rattle.std.proofs.lemmas.Bool.Decides.{nat_tests}
use Rattle.overlay.specs.Pages.{Places, HasBlock, HasNone}
use Rattle.overlay.proofs.Masks.{others_stay, none_left}
use Rattle.overlay.proofs.page.Page.has_other.Goals as goal

pub returns-clause-other : goal.returns-clause-other
returns-clause-other c = λ h. subst (λ (xs : Places). HasBlock (set xs c.args.at None)) c.self.view_is
    (others_stay c.self.inside.mask c.args.at c.self.inside.blocks c.self.invariant c.requires (grind (arith, nat_tests)))

pub returns-clause-only : goal.returns-clause-only
returns-clause-only c = λ h. subst (λ (xs : Places). HasNone (set xs c.args.at None)) c.self.view_is
    (none_left c.self.inside.mask c.args.at c.self.inside.blocks c.self.invariant (grind (arith, nat_tests)))
