-- The fields of a body: numbers, the most significant byte first, one after another and nothing behind them.
use Rattle.std.specs.Prelude.{◌≡◌, ℕ, List, [], ◌∷◌, length, take, drop, Option, Some, None, Result, Ok, Err, nat_lt, if◌then◌else◌}
use Rattle.std.specs.Int.{Width, byte_len, to_be_bytes, from_be_bytes}
use Rattle.session_proto.specs.Reading.{Refuses}
use Rattle.session_proto.specs.declared.fault.Fault.{Fault}
use Rattle.session_proto.specs.declared.fault.Fault.TheVariants.{BadBody}
use Rattle.session_proto.specs.declared.fault.ReadError.{ReadError}

-- what is read goes on to the next field, and a fault is the last word
infixl 10 ◌>>=◌
abbrev pub ◌>>=◌ : {A B : Type 0} → Result A Fault → (A → Result B Fault) → Result B Fault
(Ok x) >>= f = f x
(Err e) >>= f = Err e

-- what a reader returned, seen by the view, is what the bytes say, want of memory aside
abbrev pub Reads : {X Y : Type 0} → (X → Y) → Result X ReadError → Result Y Fault → Type 0
Reads view (Ok x) said = said ≡ Ok (view x)
Reads view (Err e) said = Refuses e said

-- a number, its most significant byte first (our format)
unfoldable pub big_endian : Width → ℕ → List ℕ
big_endian w n = to_be_bytes w n

-- the number at the front, and what follows it (our format)
unfoldable pub number_at : Width → List ℕ → Result (ℕ × List ℕ) Fault
number_at w fields =
    if nat_lt (length fields) (byte_len w) then Err BadBody
    else Ok (from_be_bytes w (take (byte_len w) fields), drop (byte_len w) fields)

-- nothing follows the last field (our format)
unfoldable pub ended : {T : Type 0} → T → List ℕ → Result T Fault
ended v [] = Ok v
ended v (b ∷ bs) = Err BadBody

-- a field with named values has no other (our format)
abbrev pub named : {T : Type 0} → Option T → Result T Fault
named (Some v) = Ok v
named None = Err BadBody
