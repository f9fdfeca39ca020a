use Rattle.std.proofs.Common.{length, ap, ◌∙◌}
use Rattle.std.proofs.lemmas.List.{length-take-le}
use Rattle.dispatch_core.proofs.complete.first_block.Goals as goal

pub new-requires : goal.new-requires
new-requires c = ap length c.in_ok-first.ensures.front ∙ length-take-le 512 c.args.bytes.now c.requires
