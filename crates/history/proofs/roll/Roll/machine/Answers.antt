use Rattle.std.proofs.Common.{◌∙◌, ap}
use Rattle.history.specs.Roll.{plain_at}
use Rattle.history.specs.Places.{steps_in}
use Rattle.history.proofs.Lines.{past-fold}
use Rattle.history.proofs.roll.Roll.machine.Goals as goal

pub returns-clause-plain : goal.returns-clause-plain
returns-clause-plain c =
    let i = c.self.inside in
    let h = c.self.invariant.line in
    past-fold _ _ _ (steps_in i.journal.items i.line.items) i.cursor i.machine.tables h.within h.past ∙ ap plain_at c.self.view_is
