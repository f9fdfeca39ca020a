use Rattle.std.proofs.Common.{refl}
use Rattle.session_proto.specs.Client.{span_at}
use Rattle.session_proto.proofs.span.span_of.Goals as goal

pub returns : goal.returns
unfolding span_at
returns c = rw (c.in_ok-session.ensures, c.in_ok-start.ensures, c.in_ok-count.ensures, c.from-count.ensures) refl
