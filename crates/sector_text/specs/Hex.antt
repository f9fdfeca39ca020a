-- The hexadecimal text of sectors, in lower case.
use Rattle.std.specs.Prelude.{ℕ, zero, suc, ◌/◌, ◌%◌, Bool, false, ◌==◌, if◌then◌else◌, List, [], ◌∷◌, ◌++◌, take, drop, flat_map}
use Rattle.std.specs.List.{list_all}
use Rattle.std.specs.Fmt.{digit_glyph}

-- the two digits of a byte, the high one first
abbrev pub hex_byte : ℕ → List ℕ
hex_byte byte = digit_glyph false (byte / 16) ∷ digit_glyph false (byte % 16) ∷ []

-- every one of the bytes is this one
abbrev pub all_are : ℕ → List ℕ → Bool
all_are byte bytes = list_all (λ x. x == byte) bytes

-- the text of some bytes: two digits where all are equal, else two for each
unfoldable pub hex_of : List ℕ → List ℕ
hex_of [] = []
hex_of (x ∷ xs) = if all_are x xs then hex_byte x else flat_map hex_byte (x ∷ xs)

-- the texts of the first `count` sectors of the bytes, each after a space
unfoldable pub hex_words : ℕ → List ℕ → List ℕ
hex_words zero bytes = []
hex_words (suc count) bytes = 32 ∷ (hex_of (take 512 bytes) ++ hex_words count (drop 512 bytes))
