use Rattle.std.proofs.Common.{◌<◌, ◌∙◌, ◌++◌, [], sym, ap, refl, length, arith, is_some}
use Rattle.session_proto.specs.Opened.{HeldCalls}
use Rattle.session_proto.proofs.Steps.{begun, may_read, all_come, reads_on, reads_no_more, meets_fault, meets_limit, none_of, some_of}
use Rattle.session_proto.proofs.Steps.{less, empty}
use Rattle.session_proto.proofs.serving.serve_frames.Goals as goal

pub pieces-init : goal.pieces-init
pieces-init g c =
    let new = c.new-feeder.ensures.new in (
      sym (ap (λ (h : HeldCalls). is_some h.fault) new),
      λ sound. omega (arith, ap (λ (h : HeldCalls). length h.bytes) new),
      omega (arith, c.requires.unasked),
      omega (arith, c.requires.unwritten),
      refl,
      begun g.A.Asks.asks _ _ c.new-feeder.result _ _ c.new-feeder.ensures.none_came c.requires.unasked c.requires.unwritten,
    )

pub returns-in-Err-clause-served : goal.returns-in-Err-clause-served
returns-in-Err-clause-served g c =
    let past = c.pieces.invariant.5 in
    let under : c.pieces.counts.calls < c.args.frame_limit = omega (arith, c.pieces.invariant.2, c.if-counts-frame_limit.false) in
    reads_no_more g.A.Asks.asks _ _ _ _ _ _ _ c.pieces.feeder _ _ c.in-Err.cause past under
    (c.in-Err.ensures.reads _ _ (past.asked ++ []) (may_read g.A.Asks.asks _ _ _ _ _ _ past under) (all_come g.A.Asks.asks _ _ _ _ _ _ past))

pub returns-in-Some-clause-served : goal.returns-in-Some-clause-served
returns-in-Some-clause-served g c =
    let past = c.pieces.invariant.5 in
    let under : c.pieces.counts.calls < c.args.frame_limit = omega (arith, c.pieces.invariant.2, c.if-counts-frame_limit.false) in
    c.in-Some.ensures.served _ _ _
    (reads_on g.A.Asks.asks _ _ _ _ _ _ _ _ _ _ c.in-Ok.fed past
    (c.in-Ok.ensures.reads _ _ (past.asked ++ []) (may_read g.A.Asks.asks _ _ _ _ _ _ past under) (all_come g.A.Asks.asks _ _ _ _ _ _ past)))

pub pieces-preserved : goal.pieces-preserved
pieces-preserved g c =
    let past = c.pieces.invariant.5 in
    let under : c.pieces.counts.calls < c.args.frame_limit = omega (arith, c.pieces.invariant.2, c.if-counts-frame_limit.false) in (
      c.is_some-is_bad.ensures ∙ ap is_some c.in-Ok.ensures.fault,
      λ sound. c.in-Ok.ensures.short (none_of c.in-Ok.fed.fault (sym c.is_some-is_bad.ensures ∙ sound)),
      c.answer_all.ensures.within,
      c.answer_all.ensures.small,
      c.read_calls.ensures.length ∙ c.pieces.invariant.4,
      c.in_default.ensures.served _ _ _
          (reads_on g.A.Asks.asks _ _ _ _ _ _ _ _ _ _ c.in-Ok.fed past
          (c.in-Ok.ensures.reads _ _ (past.asked ++ []) (may_read g.A.Asks.asks _ _ _ _ _ _ past under) (all_come g.A.Asks.asks _ _ _ _ _ _ past))),
    )

pub returns-then-is_bad-clause-served : goal.returns-then-is_bad-clause-served
returns-then-is_bad-clause-served g c =
    let past = c.pieces.invariant.5 in
    let under : c.pieces.counts.calls < c.args.frame_limit = omega (arith, c.pieces.invariant.2, c.if-counts-frame_limit.false) in
    let bad = some_of c.pieces.feeder.fault (sym c.pieces.invariant.0 ∙ c.if-is_bad.true) in
    meets_fault g.A.Asks.asks _ _ _ c.pieces.feeder _ _ bad.0 bad.1 under past

pub returns-then-counts-frame_limit-clause-served : goal.returns-then-counts-frame_limit-clause-served
returns-then-counts-frame_limit-clause-served g c =
    meets_limit g.A.Asks.asks _ _ _ c.pieces.feeder _ _ _ c.if-counts-frame_limit.true c.pieces.invariant.5

pub read_calls-requires : goal.read_calls-requires
read_calls-requires g c = record {
  some = omega (arith, c.pieces.invariant.4);
  few = omega (arith, c.pieces.invariant.4);
  sound = none_of c.pieces.feeder.fault (sym c.pieces.invariant.0 ∙ c.if-is_bad.false);
}

pub answer_all-requires : goal.answer_all-requires
answer_all-requires g c = record { within = c.pieces.invariant.2; small = c.pieces.invariant.3 }

pub pieces-smaller : goal.pieces-smaller
pieces-smaller g c =
    let under : c.pieces.counts.calls < c.args.frame_limit = omega (arith, c.pieces.invariant.2, c.if-counts-frame_limit.false) in
    let counted = c.in_default.ensures.counted in
    rw c.if-is_bad.false (less c.is_some-is_bad.result c.args.frame_limit c.pieces.counts.calls c.answer_all.new.counts.calls c.pieces.feeder c.read_calls.new.feeder
    under (omega (arith, counted))
    (λ sound. c.in-Ok.ensures.short (none_of c.in-Ok.fed.fault (sym c.is_some-is_bad.ensures ∙ sound)))
    (λ same sound. c.in-Ok.ensures.grows (empty c.in-Ok.fed.values.items (omega (arith, counted, same))) (none_of c.in-Ok.fed.fault (sym c.is_some-is_bad.ensures ∙ sound))))
