use Rattle.run_replay.proofs.Records.{replayed}
use Rattle.session_proto.specs.declared.version.Version.TheVariants.{One}
use Rattle.run_replay.proofs.laws.record_is_replayed.Goals as goal

pub returns : goal.returns
returns c = replayed c.one_header.ensures (c.one_reading.ensures One)
