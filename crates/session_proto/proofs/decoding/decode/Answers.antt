use Rattle.std.proofs.Common.{subst, arith}
use Rattle.session_proto.specs.Reading.{Gives}
use Rattle.session_proto.proofs.Nexts.{IsSide, is_found, frame_whole}
use Rattle.session_proto.proofs.decoding.decode.Goals as goal

pub returns-clause-found : goal.returns-clause-found
returns-clause-found g c =
    let laws = g.met.S.Side in
    let side : IsSide g.S.Side.body (g.S.Side.fits c.args.version) (g.S.Side.body_at c.args.version) g.S.Side.MOST =
    record { few = laws.few; in_limits = laws.in_limits c.args.version; again = laws.again c.args.version; spelled = laws.spelled c.args.version } in
    is_found g.S.Side.body (g.S.Side.fits c.args.version) (g.S.Side.body_at c.args.version) g.S.Side.MOST side c.args.bytes.now c.value_of.result
    (λ i. omega (arith, c.type_inv.bytes i)) c.value_of.ensures

pub returns-clause-only : goal.returns-clause-only
returns-clause-only g c =
    let laws = g.met.S.Side in
    let side : IsSide g.S.Side.body (g.S.Side.fits c.args.version) (g.S.Side.body_at c.args.version) g.S.Side.MOST =
    record { few = laws.few; in_limits = laws.in_limits c.args.version; again = laws.again c.args.version; spelled = laws.spelled c.args.version } in
    λ v is. subst (λ said. Gives c.value_of.result said)
    (frame_whole g.S.Side.body (g.S.Side.fits c.args.version) (g.S.Side.body_at c.args.version) g.S.Side.MOST side c.args.bytes.now v is) c.value_of.ensures
