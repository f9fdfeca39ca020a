-- A keeper as its callers see it: its state, and the exchanges behind it.
use Rattle.std.specs.Prelude.{ℕ, List}
use Rattle.plain.specs.Keeper.{State}

pub record Kept : Type 0 where
  pub state : State
  -- how many exchanges each step's list has, and how many were made
  pub lengths : List ℕ
  pub turns : ℕ
