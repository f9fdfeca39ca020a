use Rattle.std.proofs.Common.{refl}
use Rattle.session_proto.specs.declared.version.Version.TheVariants.{One}
use Rattle.session_proto.proofs.Streams.{none_came}
use Rattle.session_proto.proofs.feeder.Feeder.new.Goals as goal

pub returns-clause-none_came : goal.returns-clause-none_came
returns-clause-none_came g c = none_came g.S.Side.body (g.S.Side.fits One) (g.S.Side.body_at One) g.S.Side.MOST _ c.new.ensures.items refl
