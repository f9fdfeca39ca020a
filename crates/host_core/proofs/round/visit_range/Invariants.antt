use Rattle.host_core.specs.Desks.{rows}
use Rattle.host_core.specs.Same.{SameDesks}
use Rattle.host_core.specs.Rounds.{Passes}
use Rattle.host_core.proofs.round.visit_range.Given as goal

abbrev pub invariant-loop-place : goal.invariant-loop-place
invariant-loop-place g l = Passes l.fn.lasts l.fn.from l.place (g.B.Judges.pages l.fn.book) (rows l.fn.desks) (g.B.Judges.pages l.book) (rows l.desks) × SameDesks l.fn.desks l.desks
