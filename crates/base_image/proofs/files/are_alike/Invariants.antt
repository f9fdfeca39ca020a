use Rattle.base_image.specs.Kinds.{AreAlikeUpto}
use Rattle.base_image.proofs.files.are_alike.Given as goal

abbrev pub invariant-loop-number : goal.invariant-loop-number
invariant-loop-number l = AreAlikeUpto l.number l.images
