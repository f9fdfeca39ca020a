use Rattle.std.proofs.Common.{sym, ap, ◌∙◌}
use Rattle.std.specs.Prelude.{option_to_list}
use Rattle.std.specs.Option.{option_copied}
use Rattle.host_core.specs.Seats.{row_of}
use Rattle.host_core.proofs.Same.{same-twice}
use Rattle.host_core.proofs.Served.{served, unasked, waits-on, stopped}
use Rattle.host_core.proofs.visit.visit_seat.Goals as goal

pub returns-clause-visited : goal.returns-clause-visited
returns-clause-visited g c =
    served g.P.Protocol.allows c.args.lasts.now (g.B.Judges.pages c.args.book.now) (g.B.Judges.pages c.judge_asked.new.book)
    (row_of g.C.Staged.asked_by g.C.Staged.named c.args.desk.now) (row_of g.C.Staged.asked_by g.C.Staged.named c.take.new.self)
    (row_of g.C.Staged.asked_by g.C.Staged.named c.answer-2.new.self) c.name-name.result c.in-Some.asked.now c.in-Some-judge_asked.answer
    c.requires.ready c.requires.rule c.take.ensures.took c.name-name.ensures
    (sym c.waiting.ensures ∙ ap (λ o. option_to_list (option_copied o)) c.in-Some.is)
    c.in-Some-judge_asked.ensures.judged c.in-Some-judge_asked.ensures.entered c.judge_asked.ensures.limits c.judge_asked.ensures.most
    (sym c.keeps.ensures ∙ c.if-keeps.false) c.answer-2.ensures.row

pub returns-clause-desk : goal.returns-clause-desk
returns-clause-desk g c = same-twice c.args.desk.now c.take.new.self c.answer-2.new.self c.take.ensures.desk c.answer-2.ensures.desk

pub returns-in-None-clause-visited : goal.returns-in-None-clause-visited
returns-in-None-clause-visited g c =
    unasked c.args.lasts.now (g.B.Judges.pages c.args.book.now)
    (row_of g.C.Staged.asked_by g.C.Staged.named c.args.desk.now) (row_of g.C.Staged.asked_by g.C.Staged.named c.take.new.self)
    c.requires.ready c.take.ensures.took (sym c.waiting.ensures ∙ ap (λ o. option_to_list (option_copied o)) c.in-None.is)

pub returns-in-None-judge_asked-clause-visited : goal.returns-in-None-judge_asked-clause-visited
returns-in-None-judge_asked-clause-visited g c =
    stopped (g.B.Judges.pages c.args.book.now) (g.B.Judges.pages c.judge_asked.new.book)
    (row_of g.C.Staged.asked_by g.C.Staged.named c.args.desk.now) (row_of g.C.Staged.asked_by g.C.Staged.named c.take.new.self)
    c.in-Some.asked.now c.requires.ready c.take.ensures.took (sym c.waiting.ensures ∙ ap (λ o. option_to_list (option_copied o)) c.in-Some.is)
    c.in-None-judge_asked.ensures.stop c.in-None-judge_asked.ensures.still c.judge_asked.ensures.limits c.judge_asked.ensures.most

pub returns-then-keeps-clause-visited : goal.returns-then-keeps-clause-visited
returns-then-keeps-clause-visited g c =
    waits-on c.args.lasts.now (g.B.Judges.pages c.args.book.now) (g.B.Judges.pages c.judge_asked.new.book)
    (row_of g.C.Staged.asked_by g.C.Staged.named c.args.desk.now) (row_of g.C.Staged.asked_by g.C.Staged.named c.take.new.self)
    c.name-name.result c.in-Some.asked.now c.in-Some-judge_asked.answer
    c.requires.ready c.take.ensures.took c.name-name.ensures
    (sym c.waiting.ensures ∙ ap (λ o. option_to_list (option_copied o)) c.in-Some.is)
    c.in-Some-judge_asked.ensures.judged c.in-Some-judge_asked.ensures.entered c.judge_asked.ensures.limits c.judge_asked.ensures.most
    (sym c.keeps.ensures ∙ c.if-keeps.true)
