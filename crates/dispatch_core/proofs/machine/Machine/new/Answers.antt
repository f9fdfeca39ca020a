use Rattle.std.proofs.Common.{◌≡◌, ap, ◌∙◌, sym, subst, arith}
use Rattle.dispatch_core.proofs.Words.{Loose, empty_tables, meaning, WellFormed}
use Rattle.plain.specs.Step.{of_sizes}
use Rattle.plain_laws.specs.Whole.{AreWhole}
use Rattle.dispatch_core.specs.Running.{sizes_of}
use Rattle.dispatch_core.proofs.Opening.{opening_is, opening-well, for_limits}
use Rattle.dispatch_core.proofs.Bounds.{opening-whole}
use Rattle.dispatch_core.proofs.machine.Machine.new.Goals as goal

pub returns-clause-opening : goal.returns-clause-opening
returns-clause-opening c =
    ap (λ p. meaning p.tables) c.in_ok-new.ensures ∙ ap (λ k. meaning (empty_tables k)) c.making_of.ensures ∙ opening_is (of_sizes (sizes_of c.args.config c.args.sectors))

pub returns-clause-well : goal.returns-clause-well
returns-clause-well c =
    let l = of_sizes (sizes_of c.args.config c.args.sectors) in
    let config = c.args.config in
    let P : Loose → Type 0 = λ p. WellFormed l 1 p.tables in
    let made : c.in_ok-new.field-0 ≡ record { tables = empty_tables (for_limits l); turns = 0 } =
    c.in_ok-new.ensures ∙ ap (λ k. let p : Loose = record { tables = empty_tables k; turns = 0 } in p) c.making_of.ensures in (
      subst P (sym made) (opening-well l c.requires (omega (arith, config.few_tags)) (omega (arith, config.few_requests)) config.small_vtime config.first_budget_at_least config.first_budget_at_most config.small_max_budget),
      subst AreWhole (sym (ap (λ p. meaning p.tables) made ∙ opening_is l)) (opening-whole l),
    )
