-- The exit status.
use Rattle.std.specs.Prelude.{◌≡◌, ℕ, ◌<◌, Bool, true, false, IsSome, ◌⊎◌, ◌↔◌}
use Rattle.sector_core.specs.Config.{fault_of}
use Rattle.sector_core.specs.declared.config.ConfigDraft.{ConfigDraft}
use Rattle.script_line.specs.declared.ending.ScriptEnd.{ScriptEnd}
use Rattle.script_line.specs.declared.ending.ScriptEnd.TheVariants.{Done, BadLine, ReadFault, WriteFault, OutOfMemory}

-- the status of each end
abbrev pub status_of : ScriptEnd → ℕ
status_of Done = 0
status_of (BadLine n) = 2
status_of ReadFault = 3
status_of WriteFault = 4
status_of OutOfMemory = 5

-- a field is out of its limits; the number of sectors is one where no file is the image
abbrev pub IsRefused : ConfigDraft → ℕ → Type 0
IsRefused draft sectors = IsSome (fault_of draft) ⊎ (65536 < sectors)

-- a run is refused for a field; over an image in a file or a payload it is refused for the file too, of which no more can be said
abbrev pub IsSimStatus : ConfigDraft → ℕ → Bool → Bool → ℕ → Type 0
IsSimStatus draft sectors false false status = status ≡ 6 ↔ IsRefused draft sectors
IsSimStatus draft sectors false true status = IsRefused draft sectors → status ≡ 6
IsSimStatus draft sectors true payload status = IsSome (fault_of draft) → status ≡ 6

-- a status of a run: it is refused, or has come to an end
abbrev pub IsStatus : ℕ → Type 0
IsStatus status = (status ≡ 6) ⊎ ((end : ScriptEnd) × (status ≡ status_of end))
