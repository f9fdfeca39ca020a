-- Bytes that a writer took.
use Rattle.std.specs.Prelude.{◌≡◌, ℕ, ◌<◌, List, ◌++◌, length, Bool, true, false, Option}
use Rattle.std.specs.Io.KnownBytes.{Appends}

-- only a front of the bytes was written, and not all of them (our profile)
abbrev pub IsCut : Option (List ℕ) → Option (List ℕ) → List ℕ → Type 0
IsCut w0 w1 bytes = (front : List ℕ) × (unwritten : List ℕ) × (0 < length unwritten) × (bytes ≡ front ++ unwritten) × Appends w0 w1 front

-- all of the bytes were written, or only a front of them (our profile)
abbrev pub IsWritten : Option (List ℕ) → Option (List ℕ) → List ℕ → Bool → Type 0
IsWritten w0 w1 bytes true = Appends w0 w1 bytes
IsWritten w0 w1 bytes false = IsCut w0 w1 bytes
