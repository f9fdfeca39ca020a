-- What bytes begin with, with the one fault of each, and what a reader may answer.
use Rattle.std.specs.Prelude.{◌≡◌, ℕ, ◌+◌, List, length, take, drop, Result, Ok, Err, nat_lt, ◌==◌, ◌||◌, if◌then◌else◌}
use Rattle.session_proto.specs.Frame.{length_field}
use Rattle.session_proto.specs.declared.fault.Fault.{Fault}
use Rattle.session_proto.specs.declared.fault.Fault.TheVariants.{BadLengthField}
use Rattle.session_proto.specs.declared.fault.ReadError.{ReadError}
use Rattle.session_proto.specs.declared.fault.ReadError.TheVariants as errors
use Rattle.session_proto.specs.declared.next.Next.{Next}
use Rattle.session_proto.specs.declared.next.Next.TheVariants.{More, Bad, Whole}

-- what a whole frame of this length says, by what its body says (our format)
abbrev pub said : {T : Type 0} → ℕ → Result T Fault → Next T
said size (Ok v) = Whole v size
said size (Err f) = Bad f

-- the bytes' beginning: a length of 0 or above the greatest is a fault once its four bytes are there,
-- and any other fault is one once the frame is whole (our format)
unfoldable pub next_of : {T : Type 0} → (List ℕ → Result T Fault) → ℕ → List ℕ → Next T
next_of body_at most bytes =
    if nat_lt (length bytes) 4 then More
    else if length_field bytes == 0 || nat_lt most (length_field bytes) then Bad BadLengthField
    else if nat_lt (length bytes) (4 + length_field bytes) then More
    else said (4 + length_field bytes) (body_at (take (length_field bytes) (drop 4 bytes)))

-- what so many bytes say that are to be one frame: a length that is not theirs is a fault (our profile)
abbrev pub whole_of : {T : Type 0} → ℕ → Next T → Result T Fault
whole_of size More = Err BadLengthField
whole_of size (Bad f) = Err f
whole_of size (Whole v n) = if n == size then Ok v else Err BadLengthField

-- a refusal: want of memory, of which nothing more is said, or this fault
abbrev pub Refuses : {T : Type 0} → ReadError → Result T Fault → Type 0
Refuses errors.OutOfMemory said = Unit {0}
Refuses (errors.Fault f) said = said ≡ Err f

-- a reader answers what the bytes say, want of memory aside
abbrev pub Gives : {T : Type 0} → Result T ReadError → Result T Fault → Type 0
Gives (Ok v) said = said ≡ Ok v
Gives (Err e) said = Refuses e said
