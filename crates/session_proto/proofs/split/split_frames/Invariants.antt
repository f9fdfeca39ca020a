use Rattle.std.proofs.Common.{◌-◌, length}
use Rattle.session_proto.proofs.Streams.{IsCut}
use Rattle.session_proto.proofs.split.split_frames.Given as goal

abbrev pub invariant-frames : goal.invariant-frames
invariant-frames g l = IsCut g.S.Side.body (g.S.Side.fits l.version) l.bytes l.values.items l.size

abbrev pub decreases-frames : goal.decreases-frames
decreases-frames g l = length l.bytes - l.size
