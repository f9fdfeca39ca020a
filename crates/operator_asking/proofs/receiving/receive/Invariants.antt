use Rattle.std.proofs.Common.{◌+◌, ◌-◌, length}
use Rattle.session_proto.specs.declared.version.Version.TheVariants.{One}
use Rattle.operator_asking.proofs.Waits.{Waits}
use Rattle.operator_asking.proofs.receiving.receive.Given as goal

abbrev pub invariant-pieces : goal.invariant-pieces
invariant-pieces g l = Waits (g.H.Side.body_at One) g.H.Side.MOST (g.R.Read.remaining l.initial.reader) (g.R.Read.remaining l.reader) l.feeder

abbrev pub decreases-pieces : goal.decreases-pieces
decreases-pieces g l = (4 + g.H.Side.MOST) - length l.feeder.bytes
