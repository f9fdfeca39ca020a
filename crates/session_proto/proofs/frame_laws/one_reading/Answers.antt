use Rattle.session_proto.proofs.Nexts.{IsSide}
use Rattle.session_proto.proofs.Streams.{one_cut}
use Rattle.session_proto.proofs.frame_laws.one_reading.Goals as goal

pub returns : goal.returns
returns g c = λ n.
    let laws = g.met.S.Side in
    let side : IsSide g.S.Side.body (g.S.Side.fits n) (g.S.Side.body_at n) g.S.Side.MOST =
    record { few = laws.few; in_limits = laws.in_limits n; again = laws.again n; spelled = laws.spelled n } in
    one_cut g.S.Side.body (g.S.Side.fits n) (g.S.Side.body_at n) g.S.Side.MOST side
