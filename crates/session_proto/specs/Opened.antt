-- The first frame of a client's stream, which may say its version, and the calls behind it.
use Rattle.std.specs.Prelude.{◌≡◌, ℕ, List, [], ◌∷◌, ◌++◌, length, ◌<◌, drop, Option, None, Some, Result, Ok, Err, IsSome, ◌⊎◌, ◌==◌, if◌then◌else◌}
use Rattle.session_proto.specs.Reading.{next_of}
use Rattle.session_proto.specs.Stream.{IsStream}
use Rattle.session_proto.specs.Client.{client_body, ClientFits, client_at}
use Rattle.session_proto.specs.declared.fault.Fault.{Fault}
use Rattle.session_proto.specs.declared.fault.Fault.TheVariants.{BadKind, BadBody}
use Rattle.session_proto.specs.declared.next.Next.{Next}
use Rattle.session_proto.specs.declared.next.Next.TheVariants.{More, Bad, Whole}
use Rattle.session_proto.specs.declared.version.Version.{Version}
use Rattle.session_proto.specs.declared.version.Version.TheVariants.{One, Two}
use Rattle.session_proto.specs.declared.client.Client.{Client}

-- the version that fields say: one byte, which is 2 (our format)
abbrev pub version_at : List ℕ → Result Version Fault
version_at [] = Err BadBody
version_at (number ∷ []) = if number == 2 then Ok Two else Err BadBody
version_at (number ∷ byte ∷ bytes) = Err BadBody

-- a stream's first frame: of kind 07 it says version 2, and any other is the first call of version 1 (our format)
abbrev pub first_at : List ℕ → Result Version Fault
first_at [] = Err BadKind
first_at (kind ∷ fields) = if kind == 0x07 then version_at fields else Ok One

-- what a client's stream begins with (our format)
abbrev pub opening_of : List ℕ → Next Version
opening_of bytes = next_of first_at 32787 bytes

-- the version that a stream is known to have: none before its first frame is whole
abbrev pub version_of : Next Version → Option Version
version_of More = None
version_of (Bad fault) = None
version_of (Whole version size) = Some version

-- the frames of these calls in a version, and this rest, with its fault if it begins with one (our format)
abbrev pub IsCallsIn : Version → List ℕ → List Client → List ℕ → Option Fault → Type 0
IsCallsIn version bytes calls rest fault =
    IsStream (λ (c : Client). client_body c.0) (λ (c : Client). ClientFits version c.0) (client_at version) 32787 bytes calls rest fault

-- by what a stream begins with: no call, while its first frame is not whole or if that is none; calls of version 1 from the first frame on;
-- or calls of version 2 behind the frame that says so, which is no call (our format)
abbrev pub IsCallsBehind : Next Version → List ℕ → List Client → List ℕ → Option Fault → Type 0
IsCallsBehind More bytes calls rest fault = (calls ≡ []) × (rest ≡ bytes) × (fault ≡ None)
IsCallsBehind (Bad f) bytes calls rest fault = (calls ≡ []) × (rest ≡ bytes) × (fault ≡ Some f)
IsCallsBehind (Whole One size) bytes calls rest fault = IsCallsIn One bytes calls rest fault
IsCallsBehind (Whole Two size) bytes calls rest fault = IsCallsIn Two (drop size bytes) calls rest fault

-- a client's stream: these calls, and this rest, with its fault if it begins with one (our format)
abbrev pub IsCalls : List ℕ → List Client → List ℕ → Option Fault → Type 0
IsCalls bytes calls rest fault = IsCallsBehind (opening_of bytes) bytes calls rest fault

-- what is held of a client's stream: the bytes after its whole frames, the fault that they begin with, if they do, and its version, once it
-- is known
pub record HeldCalls : Type 0 where
  pub bytes : List ℕ
  pub fault : Option Fault
  pub version : Option Version

-- a client's stream has come so far, in whatever pieces, and these calls were given: what is held is its rest, but for bytes that came after
-- a fault was there
pub record HaveCome (held : HeldCalls) (stream : List ℕ) (calls : List Client) : Type 0 where
  pub unheld : List ℕ
  pub reads : IsCalls stream calls (held.bytes ++ unheld) held.fault
  pub all_held : held.fault ≡ None → unheld ≡ []
  pub versed : held.version ≡ version_of (opening_of stream)

-- these bytes, taken apart where this version is known of their stream, or none, and the version that is known now
abbrev pub IsSplit : Option Version → List ℕ → List Client → List ℕ → Option Fault → Option Version → Type 0
IsSplit None bytes calls rest fault now = IsCalls bytes calls rest fault × (now ≡ version_of (opening_of bytes))
IsSplit (Some version) bytes calls rest fault now = IsCallsIn version bytes calls rest fault × (now ≡ Some version)

-- without a call a piece is held behind the others, or with it the version is known
abbrev pub HasGrown : HeldCalls → List ℕ → HeldCalls → Type 0
HasGrown before piece after =
    ((after.bytes ≡ before.bytes ++ piece) × (after.version ≡ before.version)) ⊎ ((before.version ≡ None) × IsSome after.version)

-- a version that is known stays
abbrev pub KeepsVersion : HeldCalls → HeldCalls → Type 0
KeepsVersion before after = (version : Version) → before.version ≡ Some version → after.version ≡ Some version

-- more bytes are held, or with the first frame the version is known
abbrev pub HasRoomLess : HeldCalls → HeldCalls → Type 0
HasRoomLess before after =
    ((length before.bytes < length after.bytes) × (after.version ≡ before.version)) ⊎ ((before.version ≡ None) × IsSome after.version)

-- the body of a stream's first frame, if that is whole (our format)
abbrev pub first_body : List ℕ → Next (List ℕ)
first_body bytes = next_of Ok 32787 bytes

-- a stream begins with a frame of kind 07 (our format)
abbrev pub BeginsWithVersion : List ℕ → Type 0
BeginsWithVersion bytes = (fields : List ℕ) × (size : ℕ) × (first_body bytes ≡ Whole (0x07 ∷ fields) size)
