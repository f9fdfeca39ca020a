-- What the lines of who looks print.
use Rattle.std.specs.Prelude.{◌≡◌, ℕ, List, true}
use Rattle.script_line.specs.declared.line.Line.{Line}
use Rattle.plain.specs.Keeper.{State}
use Rattle.script_line.specs.Query.{is_query}
use Rattle.host_console.specs.Printed.{Tells}

-- the text of a query at some keeper
abbrev pub IsTold : Line → List ℕ → Type 0
IsTold line text = (k : State) × Tells k line text

-- a query prints its text at some keeper, and no other line prints anything
abbrev pub Prints : Line → List ℕ → Type 0
Prints line text = (is_query line ≡ true) × ∥ IsTold line text ∥₁
