use Rattle.std.proofs.Common.{List, ℕ, inr, subst}
use Rattle.std.specs.Prelude.{OnErr}
use Rattle.std.proofs.lemmas.Result.{on_err_weaker}
use Rattle.sector_core.specs.declared.bio.Outcome.{Outcome}
use Rattle.plain.specs.declared.step.Step.TheVariants as step
use Rattle.plain.specs.declared.call.Call.TheVariants as call
use Rattle.host_console.specs.Printed.{AnswersOver}
use Rattle.host_console.proofs.teller.Teller.finish.Goals as goal

pub returns-clause-err : goal.returns-clause-err
returns-clause-err g c =
    let P : Outcome → Type 0 = λ o. OnErr c.step.result ((text : List ℕ) × AnswersOver c.args.self.now (call.Do (step.Finish c.args.tag c.args.issue o)) text c.step.new.self) in
    on_err_weaker c.step.result (λ h. inr h) (subst P c.in_ok-outcome.ensures c.step.ensures.err)
