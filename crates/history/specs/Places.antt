-- The steps of the line stand in the journal: the line holds their places there.
use Rattle.std.specs.Prelude.{ℕ, ◌<◌, List, map, length, slice_index_or}
use Rattle.plain.specs.declared.step.Step.{Step}
use Rattle.plain.specs.declared.step.Step.TheVariants.{Dispatch}
use Rattle.plain.specs.declared.call.Call.{Call}
use Rattle.plain.specs.declared.call.Call.TheVariants.{Do, Hold, Release, Undo, Redo}
use Rattle.plain.specs.declared.call.Stamped.{Stamped}
use Rattle.history.specs.declared.place.Place.{Place}

-- the call at a number of the journal
abbrev pub call_in : List Call → ℕ → Call
call_in journal entry = slice_index_or journal entry Hold

-- whether a call is that of a step
abbrev pub IsStep : Call → Type 0
IsStep (Do s) = Unit {0}
IsStep Hold = ⊥
IsStep Release = ⊥
IsStep (Undo n) = ⊥
IsStep (Redo n) = ⊥

-- the step of a call that is one
abbrev pub step_of : Call → Step
step_of (Do s) = s
step_of Hold = Dispatch
step_of Release = Dispatch
step_of (Undo n) = Dispatch
step_of (Redo n) = Dispatch

-- the step at a number of the journal
abbrev pub step_in : List Call → ℕ → Step
step_in journal entry = step_of (call_in journal entry)

-- the step at a place, with its serial
abbrev pub stamped_in : List Call → Place → Stamped
stamped_in journal place = record { serial = place.serial; step = step_in journal place.entry }

-- the steps at some places
abbrev pub steps_in : List Call → List Place → List Stamped
steps_in journal places = map (stamped_in journal) places

-- a place has an entry of the journal, and that is a step
abbrev pub IsPlaced : List Call → Place → Type 0
IsPlaced journal place = (place.entry < length journal) × IsStep (call_in journal place.entry)
