-- A frame: four bytes of length, the most significant first, and a body of that length.
use Rattle.std.specs.Prelude.{◌≡◌, ℕ, ◌<◌, List, ◌++◌, length, take, slice_index}
use Rattle.std.specs.Int.{w32, to_be_bytes, from_be_bytes}

-- each number is that of a byte
abbrev pub IsBytes : List ℕ → Type 0
IsBytes bytes = (i : ℕ) → slice_index bytes i < 256

-- a body behind its length (our format)
unfoldable pub framed : List ℕ → List ℕ
framed body = to_be_bytes w32 (length body) ++ body

-- the bytes are the frame of a value, by the side's bodies and of those that fit (our format)
abbrev pub IsFrame : {T : Type 0} → (T → List ℕ) → (T → Type 0) → T → List ℕ → Type 0
IsFrame body fits v bytes = fits v × (bytes ≡ framed (body v))

-- the length that the first four bytes spell (our format)
unfoldable pub length_field : List ℕ → ℕ
length_field bytes = from_be_bytes w32 (take 4 bytes)
