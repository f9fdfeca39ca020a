use Rattle.session_proto.proofs.ClientStreams.{version_one}
use Rattle.session_proto.proofs.laws.streams_of_version_one.Goals as goal

pub returns : goal.returns
returns c = version_one
