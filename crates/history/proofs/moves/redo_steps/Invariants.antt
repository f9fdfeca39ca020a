use Rattle.std.proofs.Common.{◌≡◌, ◌+◌}
use Rattle.history.specs.Turns.{changes_of, MakesTurns}
use Rattle.history.proofs.moves.redo_steps.Given as goal

abbrev pub invariant-loop-done : goal.invariant-loop-done
invariant-loop-done l =
    (l.roll.sizes ≡ l.fn.roll.sizes)
    × (l.roll.steps ≡ l.fn.roll.steps)
    × (l.roll.cursor ≡ l.fn.roll.cursor + l.done)
    × (l.roll.last ≡ l.fn.roll.last)
    × (l.roll.lengths ≡ l.fn.roll.lengths)
    × MakesTurns l.fn.roll.turns (changes_of l.fn.roll.lengths l.fn.roll.cursor l.done) l.roll.turns
    × (l.roll.journal ≡ l.fn.roll.journal)
    × (l.roll.spare ≡ l.fn.roll.spare)
