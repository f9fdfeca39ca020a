-- What is told of looks, and recorded, between two turns.
use Rattle.std.specs.Prelude.{◌≡◌, ℕ, ◌≤◌, List, length, true, false, ◌⊎◌, Option, None, Some}
use Rattle.plain.specs.Keeper.{State}
use Rattle.plain.specs.Headline.{replay}
use Rattle.host_core.specs.Journal.{Entry, Pages, calls_of}
use Rattle.host_looks.specs.declared.desk.LookDesk.{LookDesk}
use Rattle.host_looks.specs.Looking.{Served, Idles}
use Rattle.run_recording.specs.declared.recorder.Recorder.{Recorder}
use Rattle.run_recording.specs.Recorded.{Known, WritesNew}

-- the keeper of a journal
abbrev pub state_of : Pages → State
state_of pages = replay pages.limits pages.most (calls_of pages.entries)

-- one query at most is told of, by the keeper as it is there
abbrev pub Watches : State → Option LookDesk → Option LookDesk → Type 0
Watches k None None = Unit {0}
Watches k (Some a) (Some b) = Served k a b ⊎ Idles a b
Watches k a b = ⊥

-- what is new in a journal is recorded, if there is a record that has not ended; and nothing else is (our profile)
abbrev pub Records : {W : Type 0} → (W → Known) → List Entry → Option (Recorder W) → Option (Recorder W) → Type 0
Records contents entries None None = Unit {0}
Records contents entries (Some a) (Some b) =
    (a.has_ended ≡ true → (contents b.writer ≡ contents a.writer) × (b.has_ended ≡ true))
    × (a.has_ended ≡ false → a.next ≤ length entries → WritesNew (contents a.writer) (contents b.writer) entries a.next b.next b.has_ended)
Records contents entries a b = ⊥
