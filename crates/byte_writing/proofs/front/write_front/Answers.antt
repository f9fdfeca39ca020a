use Rattle.byte_writing.proofs.Pieces.{front_more}
use Rattle.byte_writing.proofs.front.write_front.Goals as goal

pub loop-written-preserved : goal.loop-written-preserved
loop-written-preserved g c =
    front_more c.args.bytes.now c.split_at.result.1.now c.loop-written.written c.in-Ok.count _ _ _ c.split_at.ensures.back
    c.loop-written.invariant.0 c.in-Ok.ensures.bound c.loop-written.invariant.1 c.in-Ok.ensures.bytes
