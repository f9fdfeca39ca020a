use Rattle.std.proofs.Common.{ap, ◌∙◌}
use Rattle.plain.specs.Lists.{numbers}
use Rattle.dispatch_core.proofs.Begun.{room_enough, room_left, room_thrice, trees_then_budgets}
use Rattle.plain.specs.Steps.Switch.{with_first_budgets, with_first_times, for_each}
use Rattle.plain.specs.Step.{of_sizes}
use Rattle.dispatch_core.proofs.switch.begin_again.Goals as goal

pub returns-clause-made : goal.returns-clause-made
returns-clause-made c =
    let l = of_sizes c.args.sizes in
    c.begin_budgets.ensures.made
    ∙ ap (with_first_budgets l) (c.begin_times.ensures.made ∙ ap (λ b. for_each (with_first_times l) b (numbers 0 48)) c.begin_vtimes.ensures.made)

pub returns-clause-trail : goal.returns-clause-trail
returns-clause-trail c = λ o h. c.begin_budgets.ensures.trail o (c.begin_times.ensures.trail o (c.begin_vtimes.ensures.trail o h))

pub returns-clause-sized : goal.returns-clause-sized
returns-clause-sized c = c.begin_budgets.ensures.sized

pub returns-clause-bounded : goal.returns-clause-bounded
returns-clause-bounded c = c.begin_budgets.ensures.bounded

pub returns-clause-steps : goal.returns-clause-steps
returns-clause-steps c = c.begin_budgets.ensures.steps ∙ c.begin_times.ensures.steps ∙ c.begin_vtimes.ensures.steps

pub returns-clause-spare : goal.returns-clause-spare
returns-clause-spare c = c.begin_budgets.ensures.spare ∙ c.begin_times.ensures.spare ∙ c.begin_vtimes.ensures.spare

pub returns-clause-others : goal.returns-clause-others
returns-clause-others c = trees_then_budgets c.args.parts.now.tables c.begin_vtimes.new.parts.tables c.begin_times.new.parts.tables c.begin_budgets.new.parts.tables c.begin_vtimes.ensures.others c.begin_times.ensures.others c.begin_budgets.ensures.others

pub returns-clause-room : goal.returns-clause-room
returns-clause-room c = room_thrice c.args.tape.now.room c.begin_vtimes.new.tape.room c.begin_times.new.tape.room c.begin_budgets.new.tape.room c.begin_vtimes.ensures.room c.begin_times.ensures.room c.begin_budgets.ensures.room

pub begin_times-requires-clause-room : goal.begin_times-requires-clause-room
begin_times-requires-clause-room c = room_enough c.args.tape.now.room c.begin_vtimes.new.tape.room c.requires.room c.begin_vtimes.ensures.room

pub begin_times-requires-clause-sized : goal.begin_times-requires-clause-sized
begin_times-requires-clause-sized c = c.begin_vtimes.ensures.sized

pub begin_times-requires-clause-bounded : goal.begin_times-requires-clause-bounded
begin_times-requires-clause-bounded c = c.begin_vtimes.ensures.bounded

pub begin_budgets-requires-clause-room : goal.begin_budgets-requires-clause-room
begin_budgets-requires-clause-room c = room_left c.begin_vtimes.new.tape.room c.begin_times.new.tape.room 48 16 (room_left c.args.tape.now.room c.begin_vtimes.new.tape.room 32 64 c.requires.room c.begin_vtimes.ensures.room) c.begin_times.ensures.room

pub begin_budgets-requires-clause-sized : goal.begin_budgets-requires-clause-sized
begin_budgets-requires-clause-sized c = c.begin_times.ensures.sized

pub begin_budgets-requires-clause-bounded : goal.begin_budgets-requires-clause-bounded
begin_budgets-requires-clause-bounded c = c.begin_times.ensures.bounded
