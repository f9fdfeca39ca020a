-- Why a step can be undone and redone: its list leads from the machine on its one side to the machine on its other side.
use Rattle.std.specs.List.{All}
use Rattle.std.specs.Prelude.{true, ◌≡◌, ℕ, zero, suc, ◌+◌, ◌-◌, ◌≤◌, List, [], length, slice_index_or}
use Rattle.change_record.specs.declared.change.Change.{Change}
use Rattle.change_record.specs.Tables.{Tables}
use Rattle.change_record.specs.Exchange.{back_tables, back_left, forth_tables, FitBack, ArePuts}
use Rattle.change_record.specs.Tape.{step_at}
use Rattle.change_record.specs.Machine.{meaning}
use Rattle.plain.specs.declared.sizes.Sizes.{Sizes}
use Rattle.plain.specs.declared.step.Step.TheVariants.{Dispatch}
use Rattle.plain.specs.declared.call.Call.{Call}
use Rattle.plain.specs.declared.call.Stamped.{Stamped}
use Rattle.plain.specs.Opening.{Limits, opening}
use Rattle.plain.specs.Step.{of_sizes, step}
use Rattle.dispatch_core.specs.WellFormed.{IsSound}
use Rattle.history.specs.declared.place.Place.{Place}
use Rattle.history.specs.Places.{steps_in, IsPlaced}

-- the step at a number
abbrev pub stamped_at : List Stamped → ℕ → Stamped
stamped_at line at = slice_index_or line at (record { serial = 0; step = Dispatch })

-- a step that stands made these tables of those to which its list leads back
pub record Stands (l : Limits) (n : ℕ) (changes : List Change) (s : Stamped) (t : Tables) : Type 0 where
  pub fits : FitBack changes t
  pub puts : ArePuts (back_left changes t)
  pub well : IsSound l n (back_tables changes t)
  pub made : meaning t ≡ (step l (meaning (back_tables changes t)) s.serial true s.step).0

-- a step that was undone would make the tables to which its list leads
pub record Waits (l : Limits) (n : ℕ) (changes : List Change) (s : Stamped) (t : Tables) : Type 0 where
  pub puts : ArePuts changes
  pub well : IsSound l n (forth_tables changes t)
  pub made : meaning (forth_tables changes t) ≡ (step l (meaning t) s.serial true s.step).0

-- the steps before a number stand, and lead back to a machine before its first step
abbrev pub IsPast : Limits → ℕ → (ℕ → List Change) → (ℕ → Stamped) → ℕ → Tables → Type 0
IsPast l n list step zero t = meaning t ≡ opening l
IsPast l n list step (suc k) t = Stands l n (list k) (step k) t × IsPast l n list step k (back_tables (list k) t)

-- so many steps from a number on wait, one after the other
abbrev pub IsFuture : Limits → ℕ → (ℕ → List Change) → (ℕ → Stamped) → ℕ → ℕ → Tables → Type 0
IsFuture l n list step zero k t = Unit {0}
IsFuture l n list step (suc more) k t = Waits l n (list k) (step k) t × IsFuture l n list step more (k + 1) (forth_tables (list k) t)

-- the line, the machine of the steps before the cursor, and the tape belong together
pub record IsLine (line : List Stamped) (cursor last : ℕ) (sizes : Sizes) (t : Tables) (steps : List (List Change)) (current : List Change) : Type 0 where
  pub within : cursor ≤ length line
  pub even : length steps ≡ length line
  pub idle : current ≡ []
  pub well : IsSound (of_sizes sizes) (last + 1) t
  pub past : IsPast (of_sizes sizes) (last + 1) (step_at steps) (stamped_at line) cursor t
  pub future : IsFuture (of_sizes sizes) (last + 1) (step_at steps) (stamped_at line) (length line - cursor) cursor t

-- each place of the line is that of a step of the journal, and these steps are such a line
pub record IsRoll (journal : List Call) (places : List Place) (cursor last : ℕ) (sizes : Sizes) (t : Tables) (steps : List (List Change)) (current : List Change) : Type 0 where
  pub placed : All (IsPlaced journal) places
  pub line : IsLine (steps_in journal places) cursor last sizes t steps current
