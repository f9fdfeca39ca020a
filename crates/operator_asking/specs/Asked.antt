-- A call's frame written, and the one reply to it read.
use Rattle.std.specs.Prelude.{◌≡◌, ℕ, ◌<◌, ◌≤◌, List, ◌++◌, length, Bool, true, false, Result, Ok, Err, Option, ◌⊎◌}
use Rattle.std.specs.Io.KnownBytes.{Appends, Consumes, IsAtEnd}
use Rattle.session_proto.specs.Frame.{framed}
use Rattle.session_proto.specs.Reading.{next_of}
use Rattle.session_proto.specs.declared.fault.Fault.{Fault}
use Rattle.session_proto.specs.declared.next.Next.{Next}
use Rattle.session_proto.specs.declared.next.Next.TheVariants.{More, Bad}
use Rattle.operator_asking.specs.declared.fault.AskFault.{AskFault}
use Rattle.operator_asking.specs.declared.fault.AskFault.TheVariants.{Socket, Frame, OutOfMemory}

-- bytes that are known, or not
abbrev pub Known : Type 0
Known = Option (List ℕ)

-- a read takes at most this many bytes (our profile)
abbrev pub most_piece : ℕ
most_piece = 4096

-- only a front of the bytes was written, which may be all of them: then the flush failed (our profile)
abbrev pub WroteFront : Known → Known → List ℕ → Type 0
WroteFront w0 w1 bytes = (front : List ℕ) × (unwritten : List ℕ) × (bytes ≡ front ++ unwritten) × Appends w0 w1 front

-- all of the bytes were written and flushed; or a front of them was written, if only that
abbrev pub IsFlushed : Known → Known → List ℕ → Bool → Type 0
IsFlushed w0 w1 bytes true = Appends w0 w1 bytes
IsFlushed w0 w1 bytes false = WroteFront w0 w1 bytes

-- these bytes were read, all but the last piece of which no frame was whole: nothing is read once it is known
-- what the bytes begin with (our profile)
pub record HasRead {T : Type 0} (body_at : List ℕ → Result T Fault) (most : ℕ) (r0 r1 : Known) (bytes : List ℕ) : Type 0 where
  pub before : List ℕ
  pub piece : List ℕ
  pub pieces : bytes ≡ before ++ piece
  pub unfinished : next_of body_at most before ≡ More
  pub few : length piece ≤ most_piece
  pub read : Consumes r0 r1 bytes

-- the bytes read begin with a fault, or the input is at its end and they are no whole frame (our profile)
abbrev pub HasNoFrame : {T : Type 0} → Next T → Known → Type 0
HasNoFrame next left = ((f : Fault) × (next ≡ Bad f)) ⊎ ((next ≡ More) × IsAtEnd left)

-- what was received: the bytes read begin with the reply's frame, and what came behind it in its last piece is dropped;
-- or with none; or a read failed after bytes that are no whole frame; or there was no memory for what was read
abbrev pub Receives : {T : Type 0} → (T → List ℕ) → (T → Type 0) → (List ℕ → Result T Fault) → ℕ
    → Known → Known → Result T AskFault → Type 0
Receives body fits body_at most r0 r1 (Ok reply) =
    fits reply × ((beyond : List ℕ) × HasRead body_at most r0 r1 (framed (body reply) ++ beyond))
Receives body fits body_at most r0 r1 (Err Frame) =
    (bytes : List ℕ) × HasRead body_at most r0 r1 bytes × HasNoFrame (next_of body_at most bytes) r1
Receives body fits body_at most r0 r1 (Err Socket) =
    (bytes : List ℕ) × Consumes r0 r1 bytes × (next_of body_at most bytes ≡ More)
Receives body fits body_at most r0 r1 (Err OutOfMemory) =
    (bytes : List ℕ) × HasRead body_at most r0 r1 bytes × (0 < length bytes)

-- how an ask ends: by what was received, if the whole frame was written first; else by a fault, and nothing was read (our profile)
abbrev pub Ends : {T : Type 0} → (T → List ℕ) → (T → Type 0) → (List ℕ → Result T Fault) → ℕ
    → Known → Known → Known → Known → List ℕ → Result T AskFault → Type 0
Ends body fits body_at most r0 r1 w0 w1 frame (Ok reply) =
    Appends w0 w1 frame × Receives body fits body_at most r0 r1 (Ok reply)
Ends body fits body_at most r0 r1 w0 w1 frame (Err Frame) =
    Appends w0 w1 frame × Receives body fits body_at most r0 r1 (Err Frame)
Ends body fits body_at most r0 r1 w0 w1 frame (Err Socket) =
    (Appends w0 w1 frame × Receives body fits body_at most r0 r1 (Err Socket)) ⊎ (WroteFront w0 w1 frame × (r1 ≡ r0))
Ends body fits body_at most r0 r1 w0 w1 frame (Err OutOfMemory) =
    (Appends w0 w1 frame × Receives body fits body_at most r0 r1 (Err OutOfMemory)) ⊎ ((w1 ≡ w0) × (r1 ≡ r0))
