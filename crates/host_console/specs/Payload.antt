-- The payload: a file that was read whole, from which a `write` line may take its bytes.
use Rattle.std.specs.Prelude.{ℕ, ◌+◌, ◌*◌, nat_le, nat_lt, Bool, true, false, List, length, take, drop, Option, None, Some, if◌then◌else◌}
use Rattle.script_line.specs.declared.line.Line.{Line}
use Rattle.script_line.specs.declared.line.Line.TheVariants.{WriteFrom}

-- how many bytes a payload has, if there is one
abbrev pub size_of : Option (List ℕ) → Option ℕ
size_of None = None
size_of (Some payload) = Some (length payload)

-- so many sectors of bytes a `write` line brings: none where there are too many for a bio (our profile)
abbrev pub brought : ℕ → ℕ
brought count = if nat_lt 64 count then 0 else count

-- a payload of so many bytes has all that a line asks for, from a sector on; where there is none it has not (our profile)
abbrev pub reaches : Option ℕ → ℕ → ℕ → Bool
reaches None from count = false
reaches (Some size) from count = nat_le (512 * (from + brought count)) size

-- the bytes that a line takes, from a sector of the payload on, if it has all of them (our profile)
abbrev pub bytes_from : Option (List ℕ) → ℕ → ℕ → Option (List ℕ)
bytes_from None from count = None
bytes_from (Some payload) from count =
    if reaches (Some (length payload)) from count then Some (take (512 * brought count) (drop (512 * from) payload)) else None

-- a line takes bytes from the payload (our profile)
abbrev pub takes_bytes : Line → Bool
takes_bytes (WriteFrom seat session start count from) = true
takes_bytes line = false

-- a line runs over a payload of so many bytes, or over none: nothing else decides it (our profile)
abbrev pub runs_over : Option ℕ → Line → Bool
runs_over size (WriteFrom seat session start count from) = reaches size from count
runs_over size line = true
