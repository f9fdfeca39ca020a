use Rattle.std.proofs.Common.{◌≡◌, ◌+◌, ◌*◌, ◌/◌, ◌%◌, ◌≤◌, None, is_some, get_or, inl, inr, sym, ◌∙◌, ap, arith}
use Rattle.std.proofs.lemmas.Bool.{cases_lt}
use Rattle.std.proofs.lemmas.Map.Keys.{le_from_not_gt}
use Rattle.overlay.proofs.Seen.{in_page}
use Rattle.overlay.proofs.Ranged.{not_gt, of_first, free_unless, free_behind}
use Rattle.overlay.proofs.Overlay.next_behind_page.Goals as goal

pub returns-in-Some-first_from : goal.returns-in-Some-first_from
returns-in-Some-first_from c =
    let ranged = c.range.ensures.in_range tt in
    let here = of_first _ c.range.result c.next.new.self _ c.in-Some.ensures.steps ranged.1 in
    let next = c.in-Some.next.now in
    let at = c.in-Some-first_from.at in
    let within = c.in-Some-first_from.ensures.within in
    let found = next * 8 + at in
    let page : found / 8 ≡ next = omega (arith, within) in
    let place : found % 8 ≡ at = omega (arith, within) in
    let later : c.args.number + 1 ≤ next = le_from_not_gt (c.args.number + 1) next here.0.0 in (
      omega (arith, later),
      ap is_some (in_page _ _ _ _ c.self.view_is (sym here.1) found page ∙ ap (λ k. get_or c.in-Some.page.now k None) place)
          ∙ c.in-Some-first_from.ensures.stored,
      λ q low below. elim (cases_lt (q / 8) next) [
        | inl less ↦ free_behind _ _ c.self.view_is q (free_unless _ (λ some.
            let first = of_first _ c.range.result c.next.new.self _ c.in-Some.ensures.steps
            (ranged.2 (q / 8) (not_gt (c.args.number + 1) (q / 8) (omega (arith, low)), tt) some) in
            omega (arith, less, le_from_not_gt next (q / 8) first)))
        | inr more ↦
            let same : q / 8 ≡ next = omega (arith, more, below, within) in
            in_page _ _ _ _ c.self.view_is (sym here.1) q same ∙ c.in-Some-first_from.ensures.free (q % 8) (omega arith) (omega (arith, same, below))
      ],
    )

pub returns-in-None : goal.returns-in-None
returns-in-None c = λ q low.
    let ranged = c.range.ensures.in_range tt in
    free_behind _ _ c.self.view_is q (ranged.5 c.in-None.ensures.steps.0 (q / 8) (not_gt (c.args.number + 1) (q / 8) (omega (arith, low)), tt))
