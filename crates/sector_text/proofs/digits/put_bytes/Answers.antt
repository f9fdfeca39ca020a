use Rattle.std.proofs.Common.{rules}
use Rattle.sector_text.proofs.Glyphs.{one_block}
use Rattle.sector_text.proofs.digits.put_bytes.Goals as goal

pub loop-block-preserved : goal.loop-block-preserved
loop-block-preserved c =
    one_block c.loop-block.out.items c.put_block.new.out.items _ c.loop-block.rest.now c.in-Some.block.now c.in-Some.others.now
    (search rules) (search rules) (search rules) c.loop-block.invariant
