-- A session while it goes on: what has come, and what was asked and written.
use Rattle.std.specs.Prelude.{◌≡◌, ℕ, ◌<◌, ◌≤◌, List, [], ◌++◌, length, Result, Ok, Err, Option, None, Some}
use Rattle.std.specs.Io.KnownBytes.{Appends, Consumes, IsAtEnd}
use Rattle.plain.specs.declared.answer.Answer.{Answer}
use Rattle.host_calls.specs.declared.client.ClientCall.{ClientCall}
use Rattle.host_calls.specs.declared.ring.Closed.{Closed as HasClosed}
use Rattle.session_proto.specs.declared.fault.Fault.{Fault}
use Rattle.session_proto.specs.declared.feeder.Fed.{Fed}
use Rattle.session_proto.specs.Opened.{HeldCalls, HaveCome}
use Rattle.session_proto.specs.declared.client.Client.{Client}
use Rattle.session_proto.specs.Asked.{Known, AreAsked, frames_of}
use Rattle.session_proto.specs.Served.{most_piece, ReadsUnder, HasRead, HasServed}
use Rattle.session_proto.specs.declared.end.EndCause.{EndCause}
use Rattle.session_proto.specs.declared.end.EndCause.TheVariants.{Ended, ReadFault, WriteFault, BadFrame, FrameLimit, Closed, OutOfMemory}

-- what was read so far is what has come; so many calls are asked by now
pub record ReadSoFar (limit asked : ℕ) (r0 r1 : Known) (held : HeldCalls) (calls : List Client) : Type 0 where
  pub bytes : List ℕ
  pub come : HaveCome held bytes calls
  pub read : Consumes r0 r1 bytes
  pub under : ReadsUnder limit asked bytes

-- why a session ends where a piece was to be read: this is the rest, with its fault, and this is left of the input; and this
-- piece found no memory (our profile)
abbrev pub EndsReading : EndCause → List ℕ → Option Fault → Known → List ℕ → Type 0
EndsReading Ended rest fault left unfed = (rest ≡ []) × (fault ≡ None) × IsAtEnd left × (unfed ≡ [])
EndsReading ReadFault rest fault left unfed = (fault ≡ None) × (unfed ≡ [])
EndsReading WriteFault rest fault left unfed = ⊥
EndsReading BadFrame rest fault left unfed = (0 < length rest) × (fault ≡ None) × IsAtEnd left × (unfed ≡ [])
EndsReading FrameLimit rest fault left unfed = ⊥
EndsReading Closed rest fault left unfed = ⊥
EndsReading OutOfMemory rest fault left unfed = (0 < length unfed) × (length unfed ≤ most_piece)

-- after a read, before which all of these calls were asked: more have come, or the session ends
abbrev pub Reads : ℕ → Known → Known → HeldCalls → List Client → Result (Fed Client) EndCause → Type 0
Reads limit r0 r1 held calls (Ok fed) = ReadSoFar limit (length calls) r0 r1 held (calls ++ fed.values.items)
Reads limit r0 r1 held calls (Err cause) =
    (rest : List ℕ) × (fault : Option Fault) × (unfed : List ℕ) × HasRead limit (length calls) r0 r1 calls rest fault unfed
    × EndsReading cause rest fault r1 unfed

-- where a session stands: what is left of its input, what its output has, and its asker
pub record Standing (A : Type 0) : Type 0 where
  pub input : Known
  pub output : Known
  pub asker : A

-- so far: of the calls that have come these wait, and all before them were asked, and answered
pub record SoFar {A : Type 0} (asks : A → ClientCall → Result Answer HasClosed → A → Type 0) (limit : ℕ) (start now : Standing A)
    (held : HeldCalls) (waiting : List Client) (calls written : ℕ) : Type 0 where
  pub asked : List Client
  pub comes : ReadSoFar limit (length asked) start.input now.input held (asked ++ waiting)
  pub answers : List Answer
  pub answered : AreAsked asks start.asker asked answers now.asker
  pub counted : calls ≡ length asked
  pub appends : Appends start.output now.output (frames_of answers)
  pub totalled : written ≡ length (frames_of answers)

-- after some calls: the session goes on, or it ends for a cause
abbrev pub Serves : {A : Type 0} → (A → ClientCall → Result Answer HasClosed → A → Type 0) → ℕ → Standing A → Standing A
    → HeldCalls → List Client → ℕ → ℕ → Option EndCause → Type 0
Serves asks limit start now held waiting calls written None = SoFar asks limit start now held waiting calls written
Serves asks limit start now held waiting calls written (Some cause) =
    HasServed asks limit start.input now.input start.output now.output start.asker now.asker cause calls written
