use Rattle.byte_writing.proofs.Pieces.{front_written}
use Rattle.byte_writing.proofs.whole.write_whole.Goals as goal

pub returns : goal.returns
returns g c = front_written c.args.bytes.now c.write_front-written.result _ _ c.write_front-written.ensures.few c.write_front-written.ensures.wrote
