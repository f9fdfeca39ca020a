use Rattle.std.proofs.Common.{◌≡◌, ◌+◌, ◌*◌, ◌/◌, ◌%◌, None, is_some, get_or, ◌∙◌, ap, arith}
use Rattle.overlay.proofs.Seen.{in_page}
use Rattle.overlay.proofs.Overlay.next_in_page.Goals as goal

pub returns-in-Some-first_from-clause-stored : goal.returns-in-Some-first_from-clause-stored
returns-in-Some-first_from-clause-stored c =
    let within = c.in-Some-first_from.ensures.within in
    let found = c.args.from / 8 * 8 + c.in-Some-first_from.at in
    let page : found / 8 ≡ c.args.from / 8 = omega (arith, within) in
    let place : found % 8 ≡ c.in-Some-first_from.at = omega (arith, within) in (
      omega (arith, within),
      ap is_some (in_page _ _ _ _ c.self.view_is c.in-Some.ensures.value found page ∙ ap (λ k. get_or c.in-Some.page.now k None) place)
          ∙ c.in-Some-first_from.ensures.stored,
    )

pub returns-in-Some-first_from-clause-free : goal.returns-in-Some-first_from-clause-free
returns-in-Some-first_from-clause-free c = λ q low same below.
    in_page _ _ _ _ c.self.view_is c.in-Some.ensures.value q same
    ∙ c.in-Some-first_from.ensures.free (q % 8) (omega (arith, low, same)) (omega (arith, same, below))

pub returns-in-None-first_from-clause-free : goal.returns-in-None-first_from-clause-free
returns-in-None-first_from-clause-free c = λ q low same _.
    in_page _ _ _ _ c.self.view_is c.in-Some.ensures.value q same ∙ c.in-None-first_from.ensures.free (q % 8) (omega (arith, low, same)) tt

pub returns-in-None-clause-free : goal.returns-in-None-clause-free
returns-in-None-clause-free c = λ q low same _. in_page _ _ _ _ c.self.view_is c.in-None.ensures.value q same
