use Rattle.std.proofs.Common.{take, sym, ap, refl, ◌∙◌, arith}
use Rattle.host_paths.proofs.Asked.{seat-twice}
use Rattle.host_paths.proofs.Operated.{begins, ends_here, ends_now, ends_unfed, ends_behind, goes_behind, same_seat}
use Rattle.host_paths.proofs.operator.serve_operator.Goals as goal

pub returns-then-left-eq0-clause-seat : goal.returns-then-left-eq0-clause-seat
returns-then-left-eq0-clause-seat g c = c.loop.invariant.0

pub returns-then-left-eq0-clause-between : goal.returns-then-left-eq0-clause-between
returns-then-left-eq0-clause-between g c = c.loop.invariant.1

pub returns-in_default-clause-seat : goal.returns-in_default-clause-seat
returns-in_default-clause-seat g c = c.loop.invariant.0

pub returns-in_default-clause-between : goal.returns-in_default-clause-between
returns-in_default-clause-between g c = c.loop.invariant.1

pub answer_all-requires : goal.answer_all-requires
answer_all-requires g c = c.loop.invariant.1

pub returns-then-not-answer_all-clause-seat : goal.returns-then-not-answer_all-clause-seat
returns-then-not-answer_all-clause-seat g c = seat-twice c.args.seat.now c.loop.seat c.answer_all.new.seat c.loop.invariant.0 c.answer_all.ensures.seat

pub returns-then-not-answer_all-clause-between : goal.returns-then-not-answer_all-clause-between
returns-then-not-answer_all-clause-between g c = c.answer_all.ensures.between

pub returns-clause-seat : goal.returns-clause-seat
returns-clause-seat g c = c.loop.invariant.0

pub returns-clause-between : goal.returns-clause-between
returns-clause-between g c = c.loop.invariant.1

pub loop-init : goal.loop-init
loop-init g c = (
  same_seat c.args.seat.now,
  c.requires,
  refl,
  begins (g.R.Read.remaining c.args.reader.now) (g.W.Write.contents c.args.writer.now) c.args.seat.now c.new-feeder.result c.new-feeder.ensures.none_came (ap (λ h. h.fault) c.new-feeder.ensures.new),
  refl,
)

pub returns-then-left-eq0-clause-operated : goal.returns-then-left-eq0-clause-operated
returns-then-left-eq0-clause-operated g c = ends_now _ _ _ _ _ _ c.loop.feeder c.loop.invariant.3

pub returns-in_default-clause-operated : goal.returns-in_default-clause-operated
returns-in_default-clause-operated g c = ends_here _ _ _ _ _ _ _ c.loop.feeder c.loop.invariant.3 c.in_default.ensures.bytes

pub returns-in_default-feed-clause-operated : goal.returns-in_default-feed-clause-operated
returns-in_default-feed-clause-operated g c = ends_unfed _ _ _ _ _ _ _ c.loop.feeder (take c.in-Ok.count c.read.new.buf) c.loop.invariant.3 c.in-Ok.ensures.bytes.0

pub returns-then-not-answer_all-clause-operated : goal.returns-then-not-answer_all-clause-operated
returns-then-not-answer_all-clause-operated g c =
    ends_behind _ _ _ _ _ _ _ _ _ c.loop.feeder c.feed.new.self (take c.in-Ok.count c.read.new.buf) c.in-Ok-feed.fed.values.items c.answer_all.result c.loop.invariant.3
    c.in-Ok.ensures.bytes.0 c.in-Ok-feed.ensures.came c.answer_all.ensures.asked

pub returns-then-is_some-clause-operated : goal.returns-then-is_some-clause-operated
returns-then-is_some-clause-operated g c =
    ends_behind _ _ _ _ _ _ _ _ _ c.loop.feeder c.feed.new.self (take c.in-Ok.count c.read.new.buf) c.in-Ok-feed.fed.values.items c.answer_all.result c.loop.invariant.3
    c.in-Ok.ensures.bytes.0 c.in-Ok-feed.ensures.came c.answer_all.ensures.asked

pub returns-then-count-eq0-clause-operated : goal.returns-then-count-eq0-clause-operated
returns-then-count-eq0-clause-operated g c =
    ends_behind _ _ _ _ _ _ _ _ _ c.loop.feeder c.feed.new.self (take c.in-Ok.count c.read.new.buf) c.in-Ok-feed.fed.values.items c.answer_all.result c.loop.invariant.3
    c.in-Ok.ensures.bytes.0 c.in-Ok-feed.ensures.came c.answer_all.ensures.asked

pub loop-preserved : goal.loop-preserved
loop-preserved g c = (
  seat-twice c.args.seat.now c.loop.seat c.answer_all.new.seat c.loop.invariant.0 c.answer_all.ensures.seat,
  c.answer_all.ensures.between,
  c.read.auto.buf ∙ c.loop.invariant.2,
  goes_behind _ _ _ _ _ _ _ _ _ c.loop.feeder c.feed.new.self (take c.in-Ok.count c.read.new.buf) c.in-Ok-feed.fed.values.items c.answer_all.result c.in-Ok-feed.fed.fault c.loop.invariant.3
      c.in-Ok.ensures.bytes.0 c.in-Ok-feed.ensures.came c.answer_all.ensures.asked c.if-not-answer_all.false c.in-Ok-feed.ensures.fault (sym c.if-is_some.ensures),
  (let counted = c.loop.invariant.4 in
      let all = c.answer_all.ensures.counted c.if-not-answer_all.false in
      omega (arith, counted, all)),
)

pub returns-then-left-eq0-clause-few : goal.returns-then-left-eq0-clause-few
returns-then-left-eq0-clause-few g c = let counted = c.loop.invariant.4 in omega (arith, counted)

pub returns-in_default-clause-few : goal.returns-in_default-clause-few
returns-in_default-clause-few g c = let counted = c.loop.invariant.4 in omega (arith, counted)

pub returns-in_default-feed-clause-few : goal.returns-in_default-feed-clause-few
returns-in_default-feed-clause-few g c = let counted = c.loop.invariant.4 in omega (arith, counted)

pub returns-then-not-answer_all-clause-few : goal.returns-then-not-answer_all-clause-few
returns-then-not-answer_all-clause-few g c =
    let counted = c.loop.invariant.4 in
    let few = c.answer_all.ensures.few in
    omega (arith, counted, few)

pub returns-then-is_some-clause-few : goal.returns-then-is_some-clause-few
returns-then-is_some-clause-few g c =
    let counted = c.loop.invariant.4 in
    let few = c.answer_all.ensures.few in
    omega (arith, counted, few)

pub returns-then-count-eq0-clause-few : goal.returns-then-count-eq0-clause-few
returns-then-count-eq0-clause-few g c =
    let counted = c.loop.invariant.4 in
    let few = c.answer_all.ensures.few in
    omega (arith, counted, few)
