use Rattle.session_proto.proofs.ClientStreams.{version_two}
use Rattle.session_proto.proofs.laws.streams_of_version_two.Goals as goal

pub returns : goal.returns
returns c = version_two
