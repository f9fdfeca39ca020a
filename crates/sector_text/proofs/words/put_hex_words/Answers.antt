use Rattle.std.proofs.Common.{rules, arith}
use Rattle.sector_text.proofs.Hexes.{one_more, all_told}
use Rattle.sector_text.proofs.words.put_hex_words.Goals as goal

pub loop-rest-preserved : goal.loop-rest-preserved
loop-rest-preserved c =
    one_more c.loop-rest.out.items c.put_hex.new.out.items _ c.loop-rest.rest.now c.split_at.result.0.now c.split_at.result.1.now
    (omega arith) c.split_at.ensures.front c.split_at.ensures.back (search rules) c.loop-rest.invariant

pub returns : goal.returns
returns c = all_told c.loop-rest.out.items _ c.loop-rest.rest.now (omega arith) c.loop-rest.invariant
