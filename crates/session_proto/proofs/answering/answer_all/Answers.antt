use Rattle.std.proofs.Common.{◌≡◌, ◌+◌, length, sym, ap, arith}
use Rattle.std.proofs.lemmas.List.{nil_from_length}
use Rattle.std.specs.Vec.Iter.{into_iter_items}
use Rattle.session_proto.proofs.Steps.{meets_limit, same_calls}
use Rattle.session_proto.proofs.answering.answer_all.Goals as goal

pub returns-then-counts-frame_limit-clause-served : goal.returns-then-counts-frame_limit-clause-served
returns-then-counts-frame_limit-clause-served g c = λ start input held past.
    meets_limit g.A.Asks.asks _ start _ held _ _ _ c.if-counts-frame_limit.true (c.loop-call.invariant.3 start input held past)

pub returns-in-Some-answer_one-clause-served : goal.returns-in-Some-answer_one-clause-served
returns-in-Some-answer_one-clause-served g c = λ start input held past.
    c.in-Some-answer_one.ensures.served start input _ held _
    (same_calls g.A.Asks.asks _ start _ held _ _ _ _ c.in-Some.ensures.steps.0 (c.loop-call.invariant.3 start input held past))

pub loop-call-init : goal.loop-call-init
loop-call-init g c =
    let all : into_iter_items c.into_iter-call-iterator.result ≡ c.args.calls.items = c.into_iter-call-iterator.ensures.into_iter_gives.0 in (
      c.requires.within,
      c.requires.small,
      ap (λ calls. c.args.counts.now.calls + length calls) all,
      λ start input held past. same_calls g.A.Asks.asks _ start _ held _ _ _ _ (sym all) past,
    )

pub loop-call-preserved : goal.loop-call-preserved
loop-call-preserved g c =
    let so_far = c.loop-call.invariant in
    let next = c.in-Some.ensures.steps.0 in (
      omega (arith, so_far.0, c.if-counts-frame_limit.false, c.in_default.ensures.counted),
      c.in_default.ensures.small,
      omega (arith, so_far.2, ap length next, c.in_default.ensures.counted),
      λ start input held past.
          c.in_default.ensures.served start input _ held _ (same_calls g.A.Asks.asks _ start _ held _ _ _ _ next (so_far.3 start input held past)),
    )

pub returns-clause-served : goal.returns-clause-served
returns-clause-served g c = λ start input held past.
    let none : length (into_iter_items c.loop-call.call-iterator) ≡ 0 = omega (arith, c.in-None.ensures.steps.0, c.loop-call.call-iterator.rest.ok.0) in
    same_calls g.A.Asks.asks _ start _ held _ _ _ _ (nil_from_length _ none) (c.loop-call.invariant.3 start input held past)

pub returns-clause-counted : goal.returns-clause-counted
returns-clause-counted g c =
    let none : length (into_iter_items c.loop-call.call-iterator) ≡ 0 = omega (arith, c.in-None.ensures.steps.0, c.loop-call.call-iterator.rest.ok.0) in
    omega (arith, none, c.loop-call.invariant.2)

pub returns-in-Some-answer_one-clause-within : goal.returns-in-Some-answer_one-clause-within
returns-in-Some-answer_one-clause-within g c =
    omega (arith, c.loop-call.invariant.0, c.if-counts-frame_limit.false, c.in-Some-answer_one.ensures.counted)
