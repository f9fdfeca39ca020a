use Rattle.host_calls.specs.declared.ring.RingReply.TheVariants as ring
use Rattle.session_proto.proofs.FrameLengths.{few_bytes}
use Rattle.session_proto.proofs.answer_frames.answer_frame.Goals as goal

pub returns-clause-few : goal.returns-clause-few
returns-clause-few c = few_bytes (record { 0 = ring.Answer c.args.answer }) c.in_ok-frame.frame.items c.in_ok-frame.ensures
