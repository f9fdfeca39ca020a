use Rattle.std.proofs.Common.{ap, ◌∙◌, rules}
use Rattle.host_core.specs.Journal.{Pages}
use Rattle.host_rings.proofs.opening.host.Goals as goal

pub returns-in-Ok-open_core-clause-few : goal.returns-in-Ok-open_core-clause-few
returns-in-Ok-open_core-clause-few c = search rules

pub returns-in-Ok-open_core-clause-seats : goal.returns-in-Ok-open_core-clause-seats
returns-in-Ok-open_core-clause-seats c = c.in-Ok-open_core.ensures.seats

pub returns-in-Ok-open_core-clause-journal : goal.returns-in-Ok-open_core-clause-journal
returns-in-Ok-open_core-clause-journal c = let j = c.in-Ok-open_core.ensures.journal in (
  ap (λ (b : Pages). b.entries) j.0 ∙ c.in-Ok.ensures.entries,
  ap (λ (b : Pages). b.limits) j.0 ∙ c.in-Ok.ensures.limits,
  ap (λ (b : Pages). b.most) j.0 ∙ c.in-Ok.ensures.most,
  j.1,
)

pub returns-in-Ok-open_core-clause-idle : goal.returns-in-Ok-open_core-clause-idle
returns-in-Ok-open_core-clause-idle c = c.in-Ok-open_core.ensures.idle

pub returns-in-Ok-open_core-clause-pairs : goal.returns-in-Ok-open_core-clause-pairs
returns-in-Ok-open_core-clause-pairs c = c.in-Ok-open_core.ensures.pairs

pub returns-in-Ok-open_core-clause-seated : goal.returns-in-Ok-open_core-clause-seated
returns-in-Ok-open_core-clause-seated c = c.in-Ok-open_core.ensures.seated

pub returns-in-Err-clause-workers : goal.returns-in-Err-clause-workers
returns-in-Err-clause-workers c = search rules
