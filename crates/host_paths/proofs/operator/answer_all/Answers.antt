use Rattle.std.proofs.Common.{[], sym, refl, arith}
use Rattle.std.specs.Vec.Iter.{into_iter_items}
use Rattle.host_paths.proofs.Asked.{seat-twice}
use Rattle.host_paths.proofs.Counted.{asked_few, asked_whole_count}
use Rattle.host_paths.proofs.Operated.{asked_none, asks_next, asks_last, same_seat}
use Rattle.host_paths.proofs.operator.answer_all.Goals as goal

pub loop-call-init : goal.loop-call-init
loop-call-init g c = (
  same_seat c.args.seat.now,
  c.requires,
  record { done = []; order = sym c.into_iter-call-iterator.ensures.into_iter_gives.0; asked = asked_none c.args.seat.now (g.W.Write.contents c.args.writer.now) },
  refl,
)

pub returns-then-not-answer-clause-asked : goal.returns-then-not-answer-clause-asked
returns-then-not-answer-clause-asked g c =
    asks_last c.args.seat.now c.loop-call.seat c.answer.new.seat (g.W.Write.contents c.args.writer.now) (g.W.Write.contents c.loop-call.writer) (g.W.Write.contents c.answer.new.writer)
    c.args.calls.items (into_iter_items c.loop-call.call-iterator) (into_iter_items c.next.new.self) c.in-Some.call c.answer.result c.loop-call.invariant.2 c.in-Some.ensures.steps.0 c.answer.ensures.one

pub loop-call-preserved : goal.loop-call-preserved
loop-call-preserved g c = (
  seat-twice c.args.seat.now c.loop-call.seat c.answer.new.seat c.loop-call.invariant.0 c.answer.ensures.seat,
  c.answer.ensures.between,
  asks_next c.args.seat.now c.loop-call.seat c.answer.new.seat (g.W.Write.contents c.args.writer.now) (g.W.Write.contents c.loop-call.writer) (g.W.Write.contents c.answer.new.writer)
      c.args.calls.items (into_iter_items c.loop-call.call-iterator) (into_iter_items c.next.new.self) c.in-Some.call c.answer.result c.loop-call.invariant.2 c.in-Some.ensures.steps.0 c.answer.ensures.one
      c.if-not-answer.false,
  (let counted = c.loop-call.invariant.3 in
      let one = asked_whole_count _ _ _ _ _ _ c.answer.ensures.one c.if-not-answer.false in
      omega (arith, counted, one)),
)

pub returns-then-not-answer-clause-few : goal.returns-then-not-answer-clause-few
returns-then-not-answer-clause-few g c =
    let counted = c.loop-call.invariant.3 in
    let one = asked_few _ _ _ _ _ _ c.answer.ensures.one in
    omega (arith, counted, one)
