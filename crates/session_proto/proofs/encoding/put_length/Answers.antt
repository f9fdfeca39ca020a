use Rattle.std.proofs.Common.{◌∙◌}
use Rattle.session_proto.proofs.Frames.{length_put}
use Rattle.session_proto.proofs.encoding.put_length.Goals as goal

pub returns : goal.returns
returns c = length_put c.args.frame.now c.copy_from_slice.new.self c.split_at_mut-field.result.1.now (c.copy_from_slice.ensures.after ∙ c.to_be_bytes.ensures) c.split_at_mut-field.ensures.back
