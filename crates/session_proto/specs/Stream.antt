-- A stream: frames one after another, and a rest.
use Rattle.std.specs.Prelude.{◌≡◌, ℕ, List, [], ◌++◌, Result, Option, Some, None}
use Rattle.std.specs.List.{flat_map, AllByRecursion}
use Rattle.session_proto.specs.Frame.{framed}
use Rattle.session_proto.specs.Reading.{next_of}
use Rattle.session_proto.specs.declared.fault.Fault.{Fault}
use Rattle.session_proto.specs.declared.next.Next.{Next}
use Rattle.session_proto.specs.declared.next.Next.TheVariants.{More, Bad}

-- the frames of values, one after another (our format)
abbrev pub frames : {T : Type 0} → (T → List ℕ) → List T → List ℕ
frames body values = flat_map (λ v. framed (body v)) values

-- a rest is empty or an unfinished frame, or it begins with a fault (our format)
abbrev pub rest_of : {T : Type 0} → Option Fault → Next T
rest_of None = More
rest_of (Some f) = Bad f

-- a stream is the frames of these values, which fit, and this rest, with its fault if it begins with one (our format)
pub record IsStream {T : Type 0} (body : T → List ℕ) (fits : T → Type 0) (body_at : List ℕ → Result T Fault) (most : ℕ)
    (stream : List ℕ) (values : List T) (rest : List ℕ) (fault : Option Fault) : Type 0 where
  pub whole : stream ≡ frames body values ++ rest
  pub each : AllByRecursion fits values
  pub ends : next_of body_at most rest ≡ rest_of fault

-- what is held of a stream: the bytes after its whole frames, and the fault that they begin with, if they do
pub record Held : Type 0 where
  pub bytes : List ℕ
  pub fault : Option Fault

-- a stream has come so far, in whatever pieces, and these values were given: what is held is its rest,
-- but for bytes that came after a fault was there
pub record HasCome {T : Type 0} (body : T → List ℕ) (fits : T → Type 0) (body_at : List ℕ → Result T Fault) (most : ℕ)
    (held : Held) (stream : List ℕ) (values : List T) : Type 0 where
  pub unheld : List ℕ
  pub reads : IsStream body fits body_at most stream values (held.bytes ++ unheld) held.fault
  pub all_held : held.fault ≡ None → unheld ≡ []
