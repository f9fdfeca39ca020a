-- The laws of Undo and Redo, on plain keepers.
use Rattle.std.specs.Prelude.{◌≡◌, ℕ, ◌+◌}
use Rattle.plain.specs.declared.call.Call.TheVariants.{Undo, Redo}
use Rattle.plain.specs.Step.{IsAccepted}
use Rattle.plain.specs.Keeper.{State, machine_of, called}

-- the same steps stand, of the same line, and so the machine is the same
pub record Agrees (k j : State) : Type 0 where
  pub line : k.line ≡ j.line
  pub cursor : k.cursor ≡ j.cursor
  pub held : k.held ≡ j.held
  pub last : k.last ≡ j.last
  pub machine : machine_of k ≡ machine_of j

-- an Undo of `a` steps and then one of `b` steps, and one Undo of all of them
abbrev pub TwoUndosAreOne : State → ℕ → ℕ → Type 0
TwoUndosAreOne k a b =
    IsAccepted (called k (Undo a)).1 → IsAccepted (called (called k (Undo a)).0 (Undo b)).1
    → IsAccepted (called k (Undo (a + b))).1 × Agrees (called k (Undo (a + b))).0 (called (called k (Undo a)).0 (Undo b)).0

-- a Redo of the steps that an Undo took away
abbrev pub RedoGivesBack : State → ℕ → Type 0
RedoGivesBack k n =
    IsAccepted (called k (Undo n)).1 → IsAccepted (called (called k (Undo n)).0 (Redo n)).1
    → Agrees (called (called k (Undo n)).0 (Redo n)).0 k
