use Rattle.std.proofs.Common.{◌<◌, length, sym, subst, ◌∙◌, rules}
use Rattle.std.proofs.lemmas.Bool.{true≢false}
use Rattle.host_core.specs.Desks.{rows, lasts}
use Rattle.host_core.proofs.Same.{desks-twice}
use Rattle.host_core.proofs.TurnEnds.{turn-answers, ready-answers, round-none, ready-none, long-none, open-stopped, place-within, turn-of, last-turn}
use Rattle.host_core.proofs.turn.take_turn.Goals as goal

pub returns-in-None-clause-turn : goal.returns-in-None-clause-turn
returns-in-None-clause-turn g c = λ _. turn-of (lasts c.args.desks.now) _ _ (g.B.Judges.pages c.args.book.now) (g.B.Judges.pages c.visit_all.new.book) (g.B.Judges.pages c.dispatch.new.book) (rows c.args.desks.now)
    (rows c.visit_all.new.desks) _ _ c.dispatch.ensures.answered
    (round-none c.as_slice.result.now (lasts c.args.desks.now) c.visit_all.result (g.B.Judges.pages c.args.book.now) (g.B.Judges.pages c.visit_all.new.book) (rows c.args.desks.now) (rows c.visit_all.new.desks)
    (c.as_slice.ensures.value ∙ c.lasts-lasts.ensures) c.in-None.is c.visit_all.ensures.round)
    c.dispatch.ensures.dispatch

pub returns-in-Some-default-Answered-clause-turn : goal.returns-in-Some-default-Answered-clause-turn
returns-in-Some-default-Answered-clause-turn g c = λ _. turn-of (lasts c.args.desks.now) _ _ (g.B.Judges.pages c.args.book.now) (g.B.Judges.pages c.visit_all.new.book)
    (g.B.Judges.pages c.dispatch-in-Some-default-Answered.new.book) (rows c.args.desks.now) (rows c.visit_all.new.desks) _ _ c.dispatch-in-Some-default-Answered.ensures.answered
    (turn-answers c.as_slice.result.now (lasts c.args.desks.now) c.in-Some-default-Answered.place c.in-Some-default-Answered.field-0-1 c.in-Some-default-Answered.name
    (g.B.Judges.pages c.args.book.now) (g.B.Judges.pages c.visit_all.new.book) (rows c.args.desks.now) (rows c.visit_all.new.desks) (c.as_slice.ensures.value ∙ c.lasts-lasts.ensures)
    c.in-Some-default-Answered.field-0-1-is c.in-Some-default-Answered.ensures.round)
    c.dispatch-in-Some-default-Answered.ensures.dispatch

pub returns-in-Some-default-Answered-clause-ready : goal.returns-in-Some-default-Answered-clause-ready
returns-in-Some-default-Answered-clause-ready g c = λ _. ready-answers c.as_slice.result.now c.in-Some-default-Answered.place c.in-Some-default-Answered.field-0-1
    c.in-Some-default-Answered.name (g.B.Judges.pages c.args.book.now) (g.B.Judges.pages c.visit_all.new.book) (rows c.args.desks.now) (rows c.visit_all.new.desks)
    c.in-Some-default-Answered.field-0-1-is c.in-Some-default-Answered.ensures.round

pub returns-in-Some-default-Stopped-clause-desks : goal.returns-in-Some-default-Stopped-clause-desks
returns-in-Some-default-Stopped-clause-desks g c = desks-twice c.args.desks.now c.visit_all.new.desks c.close.new.self c.visit_all.ensures.desks c.close.ensures.desks

pub returns-in-Some-default-Stopped-clause-turn : goal.returns-in-Some-default-Stopped-clause-turn
returns-in-Some-default-Stopped-clause-turn g c = λ e. absurd (true≢false e)

pub returns-in-Some-default-Stopped-clause-last : goal.returns-in-Some-default-Stopped-clause-last
returns-in-Some-default-Stopped-clause-last g c = λ _. last-turn c.as_slice.result.now c.in-Some-default-Stopped.field-0-0 c.in-Some-default-Stopped.field-0-1
    (g.B.Judges.pages c.args.book.now) (g.B.Judges.pages c.visit_all.new.book) (rows c.args.desks.now) (rows c.visit_all.new.desks) _
    c.in-Some-default-Stopped.field-0-1-is c.in-Some-default-Stopped.ensures.round (search rules)

pub returns-in-Some-default-Stopped-clause-ready : goal.returns-in-Some-default-Stopped-clause-ready
returns-in-Some-default-Stopped-clause-ready g c = λ e. absurd (true≢false e)

pub visit_all-requires-clause-ready : goal.visit_all-requires-clause-ready
visit_all-requires-clause-ready g c = c.requires.ready

pub close-requires : goal.close-requires
close-requires g c = record {
  «open» = open-stopped c.as_slice.result.now c.in-Some-default-Stopped.field-0-0 c.in-Some-default-Stopped.field-0-1 (g.B.Judges.pages c.args.book.now)
      (g.B.Judges.pages c.visit_all.new.book) (rows c.args.desks.now) (rows c.visit_all.new.desks) c.in-Some-default-Stopped.field-0-1-is
      c.in-Some-default-Stopped.ensures.round c.requires.ready;
}

pub place_after-requires : goal.place_after-requires
place_after-requires g c = subst (λ n. c.in-Some-default-Answered.place < n) (sym c.len.ensures) (place-within c.as_slice.result.now c.in-Some-default-Answered.place
    c.in-Some-default-Answered.field-0-1 (g.B.Judges.pages c.args.book.now) (g.B.Judges.pages c.visit_all.new.book) (rows c.args.desks.now) (rows c.visit_all.new.desks)
    c.in-Some-default-Answered.ensures.round)

pub returns-in-None-clause-last : goal.returns-in-None-clause-last
returns-in-None-clause-last g c = λ e. absurd (true≢false (sym e ∙ c.dispatch.ensures.ended))

pub returns-in-None-clause-ready : goal.returns-in-None-clause-ready
returns-in-None-clause-ready g c = λ _. ready-none c.as_slice.result.now c.visit_all.result (length (rows c.args.desks.now)) (g.B.Judges.pages c.args.book.now)
    (g.B.Judges.pages c.visit_all.new.book) (rows c.args.desks.now) (rows c.visit_all.new.desks) c.in-None.is c.visit_all.ensures.round

pub returns-in-None-clause-within : goal.returns-in-None-clause-within
returns-in-None-clause-within g c = subst (λ n. c.args.next.now < n) (sym (long-none c.as_slice.result.now c.visit_all.result (length (rows c.args.desks.now))
    (g.B.Judges.pages c.args.book.now) (g.B.Judges.pages c.visit_all.new.book) (rows c.args.desks.now) (rows c.visit_all.new.desks) c.in-None.is c.visit_all.ensures.round))
    c.requires.within

pub returns-in-None-clause-desks : goal.returns-in-None-clause-desks
returns-in-None-clause-desks g c = c.visit_all.ensures.desks

pub returns-in-Some-default-Answered-clause-last : goal.returns-in-Some-default-Answered-clause-last
returns-in-Some-default-Answered-clause-last g c = λ e. absurd (true≢false (sym e ∙ c.dispatch-in-Some-default-Answered.ensures.ended))

pub returns-in-Some-default-Answered-clause-within : goal.returns-in-Some-default-Answered-clause-within
returns-in-Some-default-Answered-clause-within g c = subst (λ n. c.place_after.result < n) c.len.ensures c.place_after.ensures

pub returns-in-Some-default-Answered-clause-desks : goal.returns-in-Some-default-Answered-clause-desks
returns-in-Some-default-Answered-clause-desks g c = c.visit_all.ensures.desks
