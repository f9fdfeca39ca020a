use Rattle.std.proofs.Common.{List, ℕ, inr, subst, sym, ◌∙◌}
use Rattle.std.proofs.lemmas.Result.{on_err_weaker}
use Rattle.base_image.specs.Image.{Disk}
use Rattle.plain.specs.declared.call.Call.TheVariants as call
use Rattle.plain.specs.Keeper.{State, machine_of}
use Rattle.plain.specs.Device.{work_in_flight}
use Rattle.host_console.specs.Printed.{Answers, StepOfWork}
use Rattle.host_console.proofs.teller.Teller.work.Goals as goal

-- the step's call leaves the disk as the device's work left it, and that left the keeper and the payload as they were
pub returns-clause-err : goal.returns-clause-err
returns-clause-err g c =
    let step = c.in_ok-step.step in
    let D : Disk → Type 0 = λ d. StepOfWork c.args.self.now.disk c.args.tag c.args.issue
    (work_in_flight (machine_of c.args.self.now.keeper) c.args.tag c.args.issue) step d in
    let A : List ℕ → State → Type 0 = λ text k. Answers k (call.Do step) text c.step.new.self.keeper in
    on_err_weaker c.step.result
    (λ h. inr (h.0, (step, subst D (sym h.1.1) c.in_ok-step.ensures.ok, subst (A h.0) c.step_of_work.ensures.keeper h.1.0, h.1.2 ∙ c.step_of_work.ensures.payload)))
    c.step.ensures.err
