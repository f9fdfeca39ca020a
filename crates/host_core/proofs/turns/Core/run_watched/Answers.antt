use Rattle.std.proofs.Common.{refl, sym, ◌∙◌, of_calls}
use Rattle.host_core.proofs.Same.{desks-none, desks-twice}
use Rattle.host_core.proofs.More.{turns-more}
use Rattle.host_core.proofs.turns.Core.run_watched.Goals as goal

pub loop-init : goal.loop-init
loop-init g c = (c.requires, desks-none c.args.self.now.desks, (0, refl))

pub returns-then-report-clause-turns : goal.returns-then-report-clause-turns
returns-then-report-clause-turns g c = turns-more c.args.self.now c.loop.self c.turn-report.new.self c.turn-report.result.answered c.turn-report.result.dispatched c.loop.invariant.2
    (λ e. (c.turn-report.ensures.stays e).0) c.turn-report.ensures.turn c.turn-report.ensures.last
    c.turn-report.ensures.kept c.turn-report.ensures.desks

pub returns-then-report-clause-ended : goal.returns-then-report-clause-ended
returns-then-report-clause-ended g c = sym c.turn-report.ensures.ended ∙ c.if-report.true

pub returns-then-report-clause-kept : goal.returns-then-report-clause-kept
returns-then-report-clause-kept g c = c.turn-report.ensures.kept

pub returns-then-report-clause-shut : goal.returns-then-report-clause-shut
returns-then-report-clause-shut g c = c.turn-report.ensures.shut (sym c.turn-report.ensures.ended ∙ c.if-report.true)

pub returns-then-report-clause-desks : goal.returns-then-report-clause-desks
returns-then-report-clause-desks g c = desks-twice c.args.self.now.desks c.loop.self.desks c.turn-report.new.self.desks c.loop.invariant.1 c.turn-report.ensures.desks

pub loop-preserved-then-is_idle-2 : goal.loop-preserved-then-is_idle-2
loop-preserved-then-is_idle-2 g c = (
  search of_calls,
  desks-twice c.args.self.now.desks c.loop.self.desks c.turn-report.new.self.desks c.loop.invariant.1 c.turn-report.ensures.desks,
  turns-more c.args.self.now c.loop.self c.turn-report.new.self c.turn-report.result.answered c.turn-report.result.dispatched c.loop.invariant.2
      (λ e. (c.turn-report.ensures.stays e).0) c.turn-report.ensures.turn c.turn-report.ensures.last
      c.turn-report.ensures.kept c.turn-report.ensures.desks,
)

pub loop-preserved-then-did_nothing-2 : goal.loop-preserved-then-did_nothing-2
loop-preserved-then-did_nothing-2 g c = (
  search of_calls,
  desks-twice c.args.self.now.desks c.loop.self.desks c.turn-report.new.self.desks c.loop.invariant.1 c.turn-report.ensures.desks,
  turns-more c.args.self.now c.loop.self c.turn-report.new.self c.turn-report.result.answered c.turn-report.result.dispatched c.loop.invariant.2
      (λ e. (c.turn-report.ensures.stays e).0) c.turn-report.ensures.turn c.turn-report.ensures.last
      c.turn-report.ensures.kept c.turn-report.ensures.desks,
)

pub loop-preserved : goal.loop-preserved
loop-preserved g c = (
  search of_calls,
  desks-twice c.args.self.now.desks c.loop.self.desks c.turn-report.new.self.desks c.loop.invariant.1 c.turn-report.ensures.desks,
  turns-more c.args.self.now c.loop.self c.turn-report.new.self c.turn-report.result.answered c.turn-report.result.dispatched c.loop.invariant.2
      (λ e. (c.turn-report.ensures.stays e).0) c.turn-report.ensures.turn c.turn-report.ensures.last
      c.turn-report.ensures.kept c.turn-report.ensures.desks,
)
