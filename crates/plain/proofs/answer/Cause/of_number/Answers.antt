use Rattle.std.proofs.Common.{◌≡◌, sym, ap, ◌∙◌}
use Rattle.plain.specs.Numbers.{cause_number, cause_of_number}
use Rattle.plain.specs.NumberLaws.{if_some, number-cause_of_number, cause_of_number-number}
use Rattle.plain.proofs.answer.Cause.of_number.Goals as goal

pub returns-clause-found : goal.returns-clause-found
returns-clause-found c =
    if_some c.cause_of.result (λ cause. cause_number cause ≡ c.args.number) (λ cause e. number-cause_of_number c.args.number cause (sym c.cause_of.ensures ∙ e))

pub returns-clause-only : goal.returns-clause-only
returns-clause-only c = λ cause e. c.cause_of.ensures ∙ ap cause_of_number (sym e) ∙ cause_of_number-number cause
