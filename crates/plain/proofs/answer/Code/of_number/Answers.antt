use Rattle.std.proofs.Common.{◌≡◌, sym, ap, ◌∙◌}
use Rattle.plain.specs.Numbers.{code_number, code_of_number}
use Rattle.plain.specs.NumberLaws.{if_some, number-code_of_number, code_of_number-number}
use Rattle.plain.proofs.answer.Code.of_number.Goals as goal

pub returns-clause-found : goal.returns-clause-found
returns-clause-found c =
    if_some c.code_of.result (λ code. code_number code ≡ c.args.number) (λ code e. number-code_of_number c.args.number code (sym c.code_of.ensures ∙ e))

pub returns-clause-only : goal.returns-clause-only
returns-clause-only c = λ code e. c.code_of.ensures ∙ ap code_of_number (sym e) ∙ code_of_number-number code
