use Rattle.std.proofs.Common.{subst, arith}
use Rattle.host_core.specs.Desks.{rows}
use Rattle.host_core.proofs.Same.{desks-none, desks-twice}
use Rattle.host_core.specs.Rounds.{Passes}
use Rattle.host_core.proofs.Ranges.{passes-none, passes-more, comes-at}
use Rattle.host_core.proofs.round.visit_range.Goals as goal

pub loop-place-init : goal.loop-place-init
loop-place-init g c = (passes-none c.args.lasts.now c.args.from (g.B.Judges.pages c.args.book.now) (rows c.args.desks.now) c.requires.ready, desks-none c.args.desks.now)

pub loop-place-preserved : goal.loop-place-preserved
loop-place-preserved g c = (
  passes-more c.args.lasts.now c.args.from c.loop-place.place (g.B.Judges.pages c.args.book.now) (g.B.Judges.pages c.loop-place.book) (g.B.Judges.pages c.visit.new.book)
      (rows c.args.desks.now) (rows c.loop-place.desks) (rows c.visit.new.self) c.loop-place.invariant.0 c.in_default.ensures.visited (omega (arith, c.loop-place.auto.place)),
  desks-twice c.args.desks.now c.loop-place.desks c.visit.new.self c.loop-place.invariant.1 c.in_default.ensures.desks,
)

pub returns-in-Some-clause-desks : goal.returns-in-Some-clause-desks
returns-in-Some-clause-desks g c = desks-twice c.args.desks.now c.loop-place.desks c.visit.new.self c.loop-place.invariant.1 c.visit.ensures.desks

pub returns-in-Some-clause-round : goal.returns-in-Some-clause-round
returns-in-Some-clause-round g c = comes-at c.in-Some.came c.args.lasts.now c.args.from c.loop-place.place (g.B.Judges.pages c.args.book.now) (g.B.Judges.pages c.loop-place.book)
    (g.B.Judges.pages c.visit.new.book) (rows c.args.desks.now) (rows c.loop-place.desks) (rows c.visit.new.self) c.loop-place.invariant.0 c.in-Some.ensures.visited

pub returns-clause-round : goal.returns-clause-round
returns-clause-round g c = subst (λ n. Passes c.args.lasts.now c.args.from n (g.B.Judges.pages c.args.book.now) (rows c.args.desks.now) (g.B.Judges.pages c.loop-place.book) (rows c.loop-place.desks))
    (omega (arith, c.loop-place-test.false, c.loop-place.auto.place-end c.requires.ordered)) c.loop-place.invariant.0
