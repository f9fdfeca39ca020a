use Rattle.std.proofs.Common.{◌≡◌, ◌+◌, ◌/◌, ◌%◌, None, is_some, get_or, refl, ◌∙◌, ap, arith}
use Rattle.overlay.proofs.Seen.{in_page}
use Rattle.overlay.proofs.Overlay.count_in_page.Goals as goal

pub returns-in-Some-clause-stored : goal.returns-in-Some-clause-stored
returns-in-Some-clause-stored c = λ k below.
    let within = c.count_from.ensures.within.1 in
    let page : (c.args.from + k) / 8 ≡ c.args.from / 8 = omega (arith, within, below) in
    let place : (c.args.from + k) % 8 ≡ c.args.from % 8 + k = omega (arith, within, below) in
    ap is_some (in_page _ _ _ _ c.self.view_is c.in-Some.ensures.value (c.args.from + k) page ∙ ap (λ j. get_or c.in-Some.page.now j None) place)
    ∙ c.count_from.ensures.stored k below

pub returns-in-Some-clause-ends : goal.returns-in-Some-clause-ends
returns-in-Some-clause-ends c = λ fewer inside.
    let page : (c.args.from + c.count_from.result) / 8 ≡ c.args.from / 8 = omega (arith, inside) in
    let place : (c.args.from + c.count_from.result) % 8 ≡ c.args.from % 8 + c.count_from.result = omega (arith, inside) in
    in_page _ _ _ _ c.self.view_is c.in-Some.ensures.value (c.args.from + c.count_from.result) page
    ∙ ap (λ j. get_or c.in-Some.page.now j None) place ∙ c.count_from.ensures.ends fewer inside

pub returns-in-None-clause-ends : goal.returns-in-None-clause-ends
returns-in-None-clause-ends c = λ _ _. in_page _ _ _ _ c.self.view_is c.in-None.ensures.value (c.args.from + 0) (omega arith)
