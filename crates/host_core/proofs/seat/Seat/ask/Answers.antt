use Rattle.std.proofs.Common.{[], ◌∷◌, ◌++◌, refl, ap, ◌∙◌, subst}
use Rattle.std.proofs.lemmas.Bool.{true≢false}
use Rattle.host_calls.specs.declared.ring.RingReply.TheVariants.{Answer as Answered, Closed as Closing}
use Rattle.host_core.proofs.seat.Seat.ask.Goals as goal

pub returns-then-self-clause-before : goal.returns-then-self-clause-before
returns-then-self-clause-before g c = λ _. (refl, refl)

pub returns-in-Answer-clause-ok : goal.returns-in-Answer-clause-ok
returns-in-Answer-clause-ok g c = (
  c.collect_waiting.ensures.staged ∙ c.stage_waiting.ensures.staged,
  c.in-Answer.ensures.some.0 ∙ ap (λ rs. rs ++ Answered c.in-Answer.answer ∷ []) c.stage_waiting.ensures.collected.0,
  subst (λ rs. g.P.Protocol.allows rs (Answered c.in-Answer.answer)) c.stage_waiting.ensures.collected.0 c.in-Answer.ensures.some.1,
)

pub returns-in-Answer-clause-shut : goal.returns-in-Answer-clause-shut
returns-in-Answer-clause-shut g c = λ e. absurd (true≢false (cc))

pub returns-in-Closed-clause-ok : goal.returns-in-Closed-clause-ok
returns-in-Closed-clause-ok g c = tt

pub returns-in-Closed-clause-closing : goal.returns-in-Closed-clause-closing
returns-in-Closed-clause-closing g c = λ _. (
  c.collect_waiting.ensures.staged ∙ c.stage_waiting.ensures.staged,
  c.in-Closed.ensures.some.0 ∙ ap (λ rs. rs ++ Closing ∷ []) c.stage_waiting.ensures.collected.0,
)

pub returns-in-Closed-clause-open : goal.returns-in-Closed-clause-open
returns-in-Closed-clause-open g c = tt

pub returns-in-Closed-clause-ended : goal.returns-in-Closed-clause-ended
returns-in-Closed-clause-ended g c = c.in-Closed.ensures.closed
