-- The sum CRC-32 of bytes, as zip, PNG and Ethernet have it (RFC 1952, section 8).
use Rattle.std.specs.Prelude.{ℕ, zero, suc, ◌+◌, ◌-◌, ◌/◌, ◌%◌, ◌^◌, ◌==◌, Bool, true, false, List, [], ◌∷◌, bit_xor, if◌then◌else◌}
use Rattle.std.specs.Fmt.{digit_glyph}

-- the polynomial, its bits from the lowest up (RFC 1952)
abbrev pub polynomial : ℕ
polynomial = 3988292384

-- all 32 bits
abbrev pub ones : ℕ
ones = 2 ^ 32 - 1

-- a sum without its lowest bit, which brings in the polynomial if it is set (RFC 1952)
abbrev pub shifted : ℕ → ℕ
shifted sum = if sum % 2 == 1 then bit_xor polynomial (sum / 2) else sum / 2

-- what the lowest byte of a sum brings in: eight bits, one after the other (RFC 1952)
abbrev pub entry : ℕ → ℕ
entry byte = shifted (shifted (shifted (shifted (shifted (shifted (shifted (shifted byte)))))))

-- a sum with one byte more (RFC 1952)
abbrev pub with_byte : ℕ → ℕ → ℕ
with_byte sum byte = bit_xor (entry (bit_xor sum byte % 256)) (sum / 256)

-- what a byte brings in if so many zeros follow it
abbrev pub entry_before : ℕ → ℕ → ℕ
entry_before zero byte = entry byte
entry_before (suc behind) byte = with_byte (entry_before behind byte) 0

-- numbers are what each byte brings in before so many zeros, from one byte on
abbrev pub are_entries : ℕ → ℕ → List ℕ → Bool
are_entries behind from [] = true
are_entries behind from (number ∷ numbers) = if number == entry_before behind from then are_entries behind (from + 1) numbers else false

-- a sum with these bytes more, one after the other (RFC 1952)
abbrev pub with_bytes : ℕ → List ℕ → ℕ
with_bytes sum [] = sum
with_bytes sum (byte ∷ bytes) = with_bytes (with_byte sum byte) bytes

-- the sum of bytes: it begins with all bits, and all are turned at the end (RFC 1952)
abbrev pub crc32 : List ℕ → ℕ
crc32 bytes = bit_xor (with_bytes ones bytes) ones

-- the digit of the lowest four bits, in lower case
abbrev pub digit : ℕ → ℕ
digit n = digit_glyph false (n % 16)

-- a sum as eight hexadecimal digits, the highest first
abbrev pub sum_digits : ℕ → List ℕ
sum_digits sum =
    digit (sum / 2 ^ 28) ∷ digit (sum / 2 ^ 24) ∷ digit (sum / 2 ^ 20) ∷ digit (sum / 2 ^ 16)
    ∷ digit (sum / 2 ^ 12) ∷ digit (sum / 2 ^ 8) ∷ digit (sum / 2 ^ 4) ∷ digit sum ∷ []
