use Rattle.std.proofs.Common.{List, sym, ap, ◌∙◌, subst}
use Rattle.plain.specs.declared.call.Call.{Call}
use Rattle.plain.specs.declared.call.Stamped.{Stamped}
use Rattle.history.specs.Places.{steps_in}
use Rattle.history.specs.Line.{IsLine, IsRoll}
use Rattle.history.proofs.Places.{placed-more, steps-more}
use Rattle.history.proofs.roll.Roll.note.Goals as goal

pub invariant_of-self : goal.invariant_of-self
invariant_of-self c =
    let i = c.self.inside in
    let journal : List Call = i.journal.items in
    let h = c.self.invariant in
    let P : List Call → Type 0 = λ j. IsRoll j i.line.items i.cursor i.last i.machine.sizes i.machine.tables i.tape.steps i.tape.current in
    let Q : List Stamped → Type 0 = λ l. IsLine l i.cursor i.last i.machine.sizes i.machine.tables i.tape.steps i.tape.current in
    subst P (sym c.push_within.ensures.items) (record {
      placed = placed-more journal c.args.call i.line.items h.placed;
      line = subst Q (sym (steps-more journal c.args.call i.line.items h.placed)) h.line;
    })

pub returns-clause-steps : goal.returns-clause-steps
returns-clause-steps c =
    let i = c.self.inside in
    ap (λ (j : List Call). steps_in j i.line.items) c.push_within.ensures.items
    ∙ steps-more i.journal.items c.args.call i.line.items c.self.invariant.placed
    ∙ ap (λ v. v.steps) c.self.view_is
