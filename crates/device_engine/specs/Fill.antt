-- How a read of a whole range ends, from an image.
use Rattle.std.specs.Prelude.{◌≡◌, ℕ, ◌+◌, ◌<◌, ◌≤◌, IsTrue, List, [], ◌∷◌, ◌++◌, length, take, drop, None, Some, Result, Ok, Err}
use Rattle.base_image.specs.Image.{Known, Disk, Log, failed}
use Rattle.base_image.specs.declared.image.ImageFault.{ImageFault}
use Rattle.base_image.specs.declared.read.LoggedRead.{LoggedRead}
use Rattle.device_engine.specs.declared.fill.Filled.{Filled}
use Rattle.device_engine.specs.declared.fill.Filled.TheVariants.{Whole, Short, Failed}

-- these are the image's bytes from an offset on (our profile)
abbrev pub IsPart : Known → ℕ → List ℕ → Type 0
IsPart None offset bytes = Unit {0}
IsPart (Some all) offset bytes = bytes ≡ take (length bytes) (drop offset all)

-- the image ends before that many bytes (our profile)
abbrev pub EndsBefore : Known → ℕ → Type 0
EndsBefore None stop = Unit {0}
EndsBefore (Some all) stop = length all < stop

-- the buffer has the image's bytes from an offset on, or the image ended before, or a read failed where one may, which is counted
-- (our profile)
abbrev pub Fills : Disk → ℕ → List ℕ → Filled → Disk → Type 0
Fills before offset buffer Whole after = IsPart before.bytes offset buffer × (after ≡ before)
Fills before offset buffer Short after = EndsBefore before.bytes (offset + length buffer) × (after ≡ before)
Fills before offset buffer (Failed fault) after = IsTrue before.may_fail × (after ≡ failed before fault)

-- Reads of a range from an offset on, so many bytes long; the latest first (our profile).

-- how many bytes a read gave, and how many reads gave in all
abbrev pub given_by : Result ℕ ImageFault → ℕ
given_by (Ok n) = n
given_by (Err fault) = 0

abbrev pub given : Log → ℕ
given [] = 0
given (read ∷ earlier) = given earlier + given_by read.outcome

-- a read asks for all that those before it left, from behind what they gave on, and that is some
abbrev pub IsNext : ℕ → ℕ → Log → LoggedRead → Type 0
IsNext offset length earlier read =
    (read.offset ≡ offset + given earlier) × (given earlier + read.asked ≡ length) × (0 < read.asked)

-- a read gave some bytes, and no more than were asked for
abbrev pub GivesSome : LoggedRead → Type 0
GivesSome read = (n : ℕ) × (read.outcome ≡ Ok n) × (0 < n) × (n ≤ read.asked)

-- each read goes on behind those before it, and gives some bytes
abbrev pub GoesOn : ℕ → ℕ → Log → Type 0
GoesOn offset length [] = Unit {0}
GoesOn offset length (read ∷ earlier) = IsNext offset length earlier read × GivesSome read × GoesOn offset length earlier

-- so do they, until the range is full
abbrev pub FillsUp : ℕ → ℕ → Log → Type 0
FillsUp offset length reads = GoesOn offset length reads × (given reads ≡ length)

-- or until the last, which goes on behind them and has this outcome
abbrev pub StopsAt : ℕ → ℕ → Result ℕ ImageFault → Log → Type 0
StopsAt offset length outcome [] = ⊥
StopsAt offset length outcome (read ∷ earlier) = IsNext offset length earlier read × (read.outcome ≡ outcome) × GoesOn offset length earlier

-- the reads of a range that ended so
abbrev pub IsReadBy : ℕ → ℕ → Filled → Log → Type 0
IsReadBy offset length Whole reads = FillsUp offset length reads
IsReadBy offset length Short reads = StopsAt offset length (Ok 0) reads
IsReadBy offset length (Failed fault) reads = StopsAt offset length (Err fault) reads

-- such reads were made between two logs, and no other
abbrev pub Made : (Log → Type 0) → Log → Log → Type 0
Made P before after = (reads : Log) × P reads × (after ≡ reads ++ before)
