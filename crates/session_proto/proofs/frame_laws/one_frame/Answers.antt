use Rattle.session_proto.proofs.Nexts.{IsSide}
use Rattle.session_proto.proofs.Streams.{frames_apart, frames_no_prefix}
use Rattle.session_proto.proofs.frame_laws.one_frame.Goals as goal

pub returns-clause-apart : goal.returns-clause-apart
returns-clause-apart g c = λ n.
    let laws = g.met.S.Side in
    let side : IsSide g.S.Side.body (g.S.Side.fits n) (g.S.Side.body_at n) g.S.Side.MOST =
    record { few = laws.few; in_limits = laws.in_limits n; again = laws.again n; spelled = laws.spelled n } in
    frames_apart g.S.Side.body (g.S.Side.fits n) (g.S.Side.body_at n) g.S.Side.MOST side

pub returns-clause-prefix : goal.returns-clause-prefix
returns-clause-prefix g c = λ n.
    let laws = g.met.S.Side in
    let side : IsSide g.S.Side.body (g.S.Side.fits n) (g.S.Side.body_at n) g.S.Side.MOST =
    record { few = laws.few; in_limits = laws.in_limits n; again = laws.again n; spelled = laws.spelled n } in
    frames_no_prefix g.S.Side.body (g.S.Side.fits n) (g.S.Side.body_at n) g.S.Side.MOST side
