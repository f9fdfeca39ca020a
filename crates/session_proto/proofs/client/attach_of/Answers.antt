use Rattle.session_proto.specs.Client.{attach_at}
use Rattle.session_proto.proofs.client.attach_of.Goals as goal

pub returns : goal.returns
unfolding attach_at
returns c = rw (c.in_ok-group.ensures, c.in_ok-prio.ensures) c.ended.ensures
