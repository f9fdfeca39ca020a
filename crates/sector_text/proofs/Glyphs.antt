-- The digits that the library `hex` gives are those of the specs.
use Rattle.std.proofs.Common.{◌≡◌, ℕ, zero, suc, ◌/◌, ◌%◌, ◌<◌, ◌==◌, Bool, true, false, ◌&&◌, inl, inr, List, [], ◌∷◌, ◌++◌, slice_index, take, drop, flat_map, refl, sym, ap, ◌∙◌, arith, append_assoc}
use Rattle.std.specs.Fmt.{digit_glyph}
use Rattle.std.proofs.lemmas.Bool.{and_parts, cases_lt, eqb-true}
use Rattle.std.proofs.lemmas.Grind.{flat_map-append}
use Rattle.std.proofs.lemmas.List.{take-append-drop}
use Rattle.hex.specs.Hex.{encode_with, encode_lower, lower_digits}
use Rattle.sector_text.specs.Hex.{hex_byte}

-- the test of one place of the table, which computes
abbrev is_glyph : ℕ → Bool
is_glyph d = slice_index lower_digits d == digit_glyph false d

-- the test of the first n places
abbrev all_glyphs : ℕ → Bool
all_glyphs zero = true
all_glyphs (suc n) = is_glyph n && all_glyphs n

-- a place below n passed the test
glyph_at : (n k : ℕ) → all_glyphs n ≡ true → k < n → slice_index lower_digits k ≡ digit_glyph false k
glyph_at zero k h lt = absurd (omega arith)
glyph_at (suc n) k h lt =
    let parts = and_parts (is_glyph n) (all_glyphs n) h in
    elim (cases_lt k n) [
      | inl below ↦ glyph_at n k parts.1 below
      | inr top ↦
          let e : k ≡ n = omega arith in
          rw e (eqb-true (slice_index lower_digits n) (digit_glyph false n) parts.0)
    ]

-- so every digit of the table is the one of the specs
is_digit : (d : ℕ) → d < 16 → slice_index lower_digits d ≡ digit_glyph false d
is_digit d lt = glyph_at 16 d refl lt

-- and so is the text of some bytes
pub encoded : (bytes : List ℕ) → ((k : ℕ) → slice_index bytes k < 256) → encode_lower bytes ≡ flat_map hex_byte bytes
unfolding encode_with
encoded [] small = refl
encoded (x ∷ xs) small =
    let fits : x < 256 = small 0 in
    let high = is_digit (x / 16) (omega (arith, fits)) in
    let low = is_digit (x % 16) (omega (arith, fits)) in
    rw (high, low, encoded xs (λ k. small (suc k))) refl

-- a block more is appended
pub one_block : (before after whole rest block others : List ℕ) → block ≡ take 32 rest → others ≡ drop 32 rest
    → after ≡ before ++ flat_map hex_byte block → before ++ flat_map hex_byte rest ≡ whole → after ++ flat_map hex_byte others ≡ whole
one_block before after whole rest block others front back is so_far =
    let joined : block ++ others ≡ rest = rw (front, back) (take-append-drop 32 rest) in
    let text : flat_map hex_byte rest ≡ flat_map hex_byte block ++ flat_map hex_byte others =
    ap (flat_map hex_byte) (sym joined) ∙ flat_map-append hex_byte block others in
    rw (is, append_assoc, ← text) so_far
