use Rattle.std.proofs.Common.{◌∙◌, refl, inr}
use Rattle.session_proto.specs.Frame.{framed}
use Rattle.session_proto.specs.declared.version.Version.TheVariants.{One}
use Rattle.operator_asking.proofs.Asks.{written, unwritten, received}
use Rattle.operator_asking.proofs.one_call.ask.Goals as goal

pub returns : goal.returns
returns g c =
    received g.H.Side.body (g.H.Side.fits One) (g.H.Side.body_at One) g.H.Side.MOST _ _ _ _ (framed (g.C.Side.body c.args.call.now)) c.receive.result
    (written _ _ c.as_slice.result.now (framed (g.C.Side.body c.args.call.now)) c.write_flushed.result (c.as_slice.ensures.value ∙ c.in_ok-frame.ensures.1) c.write_flushed.ensures c.if-not-write_flushed.false)
    c.receive.ensures

pub returns-then-not-write_flushed : goal.returns-then-not-write_flushed
returns-then-not-write_flushed g c = inr (
  unwritten _ _ c.as_slice.result.now (framed (g.C.Side.body c.args.call.now)) c.write_flushed.result (c.as_slice.ensures.value ∙ c.in_ok-frame.ensures.1) c.write_flushed.ensures c.if-not-write_flushed.true,
  refl,
)
