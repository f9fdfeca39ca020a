use Rattle.std.proofs.Common.{subst, length}
use Rattle.host_core.specs.Desks.{rows}
use Rattle.host_core.specs.Rounds.{Passes}
use Rattle.host_core.proofs.Same.{desks-twice}
use Rattle.host_core.proofs.Ranges.{round-both}
use Rattle.host_core.proofs.round.visit_all.Goals as goal

pub returns-clause-round : goal.returns-clause-round
returns-clause-round g c = let xs = rows c.args.desks.now in let ys = rows c.visit_range.new.desks in
    round-both c.args.lasts.now c.args.from (length xs) (g.B.Judges.pages c.args.book.now) (g.B.Judges.pages c.visit_range.new.book) (g.B.Judges.pages c.visit_range-2.new.book) xs ys (rows c.visit_range-2.new.desks) c.visit_range-2.result
    (subst (λ n. Passes c.args.lasts.now c.args.from n (g.B.Judges.pages c.args.book.now) xs (g.B.Judges.pages c.visit_range.new.book) ys) c.len-count.ensures c.in_default.ensures.round)
    c.visit_range-2.ensures.round c.requires.within

pub returns-clause-desks : goal.returns-clause-desks
returns-clause-desks g c = desks-twice c.args.desks.now c.visit_range.new.desks c.visit_range-2.new.desks c.visit_range.ensures.desks c.visit_range-2.ensures.desks
