use Rattle.std.proofs.Common.{ℕ, Some, set, subst, sym}
use Rattle.overlay.specs.Pages.{IsPage}
use Rattle.overlay.proofs.Masks.{no_blocks, one_block, one_there}
use Rattle.overlay.proofs.page.Page.new.Goals as goal

pub invariant_of-result : goal.invariant_of-result
invariant_of-result c = subst (λ (n : ℕ). IsPage n (set no_blocks c.args.at (Some c.args.block))) (sym c.bit_of.ensures) (one_block c.args.at c.args.block c.requires)

pub returns : goal.returns
returns c = λ k. one_there c.args.at c.args.block k c.requires
