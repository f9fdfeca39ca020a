use Rattle.std.proofs.Common.{refl}
use Rattle.session_proto.proofs.ClientStreams.{no_call_came}
use Rattle.session_proto.proofs.client_feeder.ClientFeeder.new.Goals as goal

pub returns-clause-none_came : goal.returns-clause-none_came
returns-clause-none_came c = no_call_came _ c.new.ensures.items refl refl
