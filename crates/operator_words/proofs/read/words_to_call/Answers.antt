use Rattle.std.proofs.Common.{◌≡◌, sym, ◌∙◌}
use Rattle.operator_words.proofs.Same.{one}
use Rattle.operator_words.proofs.read.words_to_call.Goals as goal

pub returns-in-Some-clause-only : goal.returns-in-Some-clause-only
returns-in-Some-clause-only c = λ call fits e.
    let same : c.in-Some.call ≡ call = one c.in-Some.call call c.in-Some.ensures.0 fits (sym c.in-Some.ensures.1 ∙ e) in
    cc
