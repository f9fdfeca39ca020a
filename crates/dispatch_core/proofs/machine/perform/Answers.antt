use Rattle.std.proofs.Common.{IfOk, ap, subst, sym}
use Rattle.change_record.specs.Machine.{meaning}
use Rattle.plain.specs.declared.step.Step.{Step}
use Rattle.plain.specs.declared.step.Step.TheVariants.{Submit, Leave}
use Rattle.plain.specs.Step.{of_sizes, step}
use Rattle.dispatch_core.specs.Counts.{exchanges_of, rule_exchanges}
use Rattle.dispatch_core.specs.Relation.{Leaves}
use Rattle.dispatch_core.proofs.Decided.{Answers-by}
use Rattle.dispatch_core.proofs.machine.perform.Goals as goal

pub returns-in-Submit-clause-answers : goal.returns-in-Submit-clause-answers
returns-in-Submit-clause-answers c =
    let l = of_sizes c.args.sizes in
    let t = c.args.parts.now.tables in
    Answers-by (λ m. step l m c.args.serial c.args.room c.args.step.now)
    (λ m. step l m c.args.serial c.args.room (Submit c.in-Submit.seat c.in-Submit.session c.in-Submit.op c.in-Submit.range c.in-Submit.payload))
    t c.run_submit.new.parts.tables c.run_submit.result
    (ap (λ s. step l (meaning t) c.args.serial c.args.room s) c.in-Submit.is) c.run_submit.ensures.answers

pub returns-in-Leave-clause-answers : goal.returns-in-Leave-clause-answers
returns-in-Leave-clause-answers c =
    let l = of_sizes c.args.sizes in
    let t = c.args.parts.now.tables in
    Answers-by (λ m. step l m c.args.serial c.args.room c.args.step.now)
    (λ m. step l m c.args.serial c.args.room (Leave c.in-Leave.seat c.in-Leave.why))
    t c.run_leave.new.parts.tables c.run_leave.result
    (ap (λ s. step l (meaning t) c.args.serial c.args.room s) c.in-Leave.is) c.run_leave.ensures.answers

pub returns-in-Leave-clause-leaves : goal.returns-in-Leave-clause-leaves
returns-in-Leave-clause-leaves c =
    let l = of_sizes c.args.sizes in
    let t = c.args.parts.now.tables in
    let P : Step → Type 0 = λ s. IfOk c.run_leave.result (λ answer. Leaves l c.args.serial (exchanges_of (meaning t) s) (rule_exchanges (meaning t) s) answer t c.args.tape.now.current
    c.run_leave.new.parts.tables c.run_leave.new.tape.current c.run_leave.new.tape.spare) in
    subst P (sym c.in-Leave.is) c.run_leave.ensures.leaves
