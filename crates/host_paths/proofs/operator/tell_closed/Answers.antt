use Rattle.std.proofs.Common.{[], ◌∷◌, refl, lit≤}
use Rattle.host_calls.specs.declared.ring.RingReply.TheVariants.{Closed as Closing}
use Rattle.session_proto.specs.Frame.{framed}
use Rattle.host_paths.specs.Operating.{frames_of}
use Rattle.host_paths.proofs.Operated.{Appends-none}
use Rattle.host_paths.proofs.operator.tell_closed.Goals as goal

pub returns-in_default : goal.returns-in_default
unfolding framed
returns-in_default g c = record { told = ([], frames_of (Closing ∷ []), lit≤ tt, refl, Appends-none _) }
