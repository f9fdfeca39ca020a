use Rattle.std.proofs.Common.{sym, ap, ◌∙◌, subst}
use Rattle.plain.specs.Headline.{replay}
use Rattle.host_core.specs.Journal.{calls_of}
use Rattle.host_core.specs.Takes.{TakeRule}
use Rattle.host_core.specs.Judging.{JudgedBy, entered_at}
use Rattle.host_core.proofs.judging.judge_asked.Goals as goal

pub returns-in-Ask-clause-judged : goal.returns-in-Ask-clause-judged
returns-in-Ask-clause-judged g c =
    let p = g.B.Judges.pages c.args.book.now in
    subst (λ a. JudgedBy p.limits p.most c.args.name c.args.lasts.now p.entries a c.judge.result) (sym c.in-Ask.is) c.judge.ensures.allows

pub returns-in-Ask-clause-entered : goal.returns-in-Ask-clause-entered
returns-in-Ask-clause-entered g c =
    c.judge.ensures.entries ∙ ap (λ a. entered_at (g.B.Judges.pages c.args.book.now).entries c.args.name a c.judge.result) (sym c.in-Ask.is)

pub returns-in-Take-clause-judged : goal.returns-in-Take-clause-judged
returns-in-Take-clause-judged g c =
    let p = g.B.Judges.pages c.args.book.now in
    subst (λ a. JudgedBy p.limits p.most c.args.name c.args.lasts.now p.entries a c.take.result) (sym c.in-Take.is)
    (subst (λ n. TakeRule (replay p.limits p.most (calls_of p.entries)) n c.in-Take.worker c.args.lasts.now c.take.result) c.number_of.ensures c.take.ensures)

pub returns-in-Take-clause-stop : goal.returns-in-Take-clause-stop
returns-in-Take-clause-stop g c = tt

pub returns-in-Stop-clause-judged : goal.returns-in-Stop-clause-judged
returns-in-Stop-clause-judged g c = tt
