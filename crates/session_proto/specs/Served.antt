-- How a session ends, what was read, asked and written by then, and the Leave after it.
use Rattle.std.specs.Prelude.{◌≡◌, ℕ, ◌<◌, ◌≤◌, List, [], ◌∷◌, ◌++◌, length, Result, Ok, Err, Option, None, Some, ◌⊎◌}
use Rattle.std.specs.Io.KnownBytes.{Appends, Consumes, IsAtEnd}
use Rattle.plain.specs.declared.answer.Answer.{Answer}
use Rattle.plain.specs.declared.step.Why.{Why}
use Rattle.plain.specs.declared.step.Why.TheVariants as why
use Rattle.host_calls.specs.declared.client.ClientCall.{ClientCall}
use Rattle.host_calls.specs.declared.client.ClientCall.TheVariants.{Leave}
use Rattle.host_calls.specs.declared.ring.Closed.{Closed as HasClosed}
use Rattle.session_proto.specs.declared.fault.Fault.{Fault}
use Rattle.session_proto.specs.Opened.{IsCalls}
use Rattle.session_proto.specs.declared.client.Client.{Client}
use Rattle.session_proto.specs.Asked.{Known, AreAsked, AreAskedTillClosed, frame_of, frames_of}
use Rattle.session_proto.specs.declared.end.EndCause.{EndCause}
use Rattle.session_proto.specs.declared.end.EndCause.TheVariants.{Ended, ReadFault, WriteFault, BadFrame, FrameLimit, Closed, OutOfMemory}
use Rattle.session_proto.specs.declared.end.SessionEnd.{SessionEnd}

-- what the Leave of a session tells, if one is made (our profile)
abbrev pub leave_of : EndCause → Option Why
leave_of Ended = Some why.Ended
leave_of ReadFault = Some why.ReadFault
leave_of WriteFault = Some why.WriteFault
leave_of BadFrame = Some why.BadFrame
leave_of FrameLimit = Some why.FrameLimit
leave_of Closed = None
leave_of OutOfMemory = None

-- a read takes at most this many bytes (our profile)
abbrev pub most_piece : ℕ
most_piece = 8192

-- the last piece was read while the bytes before it began with no fault, and had fewer frames than the limit; so many calls are
-- asked by now, those of all these frames among them
pub record HasLastPiece (limit asked : ℕ) (bytes : List ℕ) : Type 0 where
  pub before : List ℕ
  pub piece : List ℕ
  pub pieces : bytes ≡ before ++ piece
  pub few : length piece ≤ most_piece
  pub earlier : List Client
  pub rest : List ℕ
  pub stream : IsCalls before earlier rest None
  pub under : length earlier < limit
  pub none_waits : length earlier ≤ asked

-- but for one piece, nothing is read at a fault, nor while a call waits, nor once as many frames came as may be answered (our profile)
abbrev pub ReadsUnder : ℕ → ℕ → List ℕ → Type 0
ReadsUnder limit asked bytes = (bytes ≡ []) ⊎ HasLastPiece limit asked bytes

-- the answers to these calls: all, but where the last found the host ended
abbrev pub HasAsked : {A : Type 0} → (A → ClientCall → Result Answer HasClosed → A → Type 0) → EndCause
    → A → List Client → List Answer → A → Type 0
HasAsked asks Ended a calls answers b = AreAsked asks a calls answers b
HasAsked asks ReadFault a calls answers b = AreAsked asks a calls answers b
HasAsked asks WriteFault a calls answers b = AreAsked asks a calls answers b
HasAsked asks BadFrame a calls answers b = AreAsked asks a calls answers b
HasAsked asks FrameLimit a calls answers b = AreAsked asks a calls answers b
HasAsked asks Closed a calls answers b = AreAskedTillClosed asks a calls answers b
HasAsked asks OutOfMemory a calls answers b = AreAsked asks a calls answers b

-- all but the last
abbrev pub AllBefore : List Answer → List Answer → Answer → Type 0
AllBefore answers before last = answers ≡ before ++ last ∷ []

-- a proper front of a frame: some of it is not in it
abbrev pub IsProperFront : List ℕ → List ℕ → Type 0
IsProperFront frame front = (unwritten : List ℕ) × (frame ≡ front ++ unwritten) × (0 < length unwritten)

-- what was written: the frames of the answers; where a write failed, a proper front of the last in its place; where the last found
-- no memory for its frame, all but the last, and where a piece found none, all (our profile)
abbrev pub HasWritten : EndCause → List Answer → List ℕ → List ℕ → Type 0
HasWritten Ended answers unfed text = text ≡ frames_of answers
HasWritten ReadFault answers unfed text = text ≡ frames_of answers
HasWritten WriteFault answers unfed text =
    (before : List Answer) × (last : Answer) × (front : List ℕ) × AllBefore answers before last
    × IsProperFront (frame_of last) front × (text ≡ frames_of before ++ front)
HasWritten BadFrame answers unfed text = text ≡ frames_of answers
HasWritten FrameLimit answers unfed text = text ≡ frames_of answers
HasWritten Closed answers unfed text = text ≡ frames_of answers
HasWritten OutOfMemory answers unfed text =
    ((before : List Answer) × (last : Answer) × AllBefore answers before last × (text ≡ frames_of before) × (unfed ≡ []))
    ⊎ ((text ≡ frames_of answers) × (0 < length unfed))

-- what was read, where so many calls are asked by now: the frames of these calls, and this rest, with its fault if it begins with
-- one; and behind it a piece that for want of memory was not looked at, or nothing (our profile)
pub record HasRead (limit asked : ℕ) (r0 r1 : Known) (calls : List Client) (rest : List ℕ) (fault : Option Fault) (unfed : List ℕ) : Type 0 where
  pub bytes : List ℕ
  pub stream : IsCalls bytes calls rest fault
  pub read : Consumes r0 r1 (bytes ++ unfed)
  pub under : ReadsUnder limit asked (bytes ++ unfed)

-- a fault, or the end of the input inside a frame (our profile)
abbrev pub IsBad : Option Fault → List ℕ → Known → Type 0
IsBad fault rest left = ((f : Fault) × (fault ≡ Some f)) ⊎ ((fault ≡ None) × (0 < length rest) × IsAtEnd left)

-- which cause may come where these calls are left unasked, this is the rest, with its fault, and this is left of the input;
-- so many calls were asked, of at most so many: at the limit no other is looked for (our profile)
abbrev pub MayEnd : EndCause → List Client → List ℕ → Option Fault → Known → ℕ → ℕ → Type 0
MayEnd Ended unasked rest fault left calls limit = (unasked ≡ []) × (calls < limit) × (rest ≡ []) × (fault ≡ None) × IsAtEnd left
MayEnd ReadFault unasked rest fault left calls limit = (unasked ≡ []) × (calls < limit) × (fault ≡ None)
MayEnd WriteFault unasked rest fault left calls limit = 0 < calls
MayEnd BadFrame unasked rest fault left calls limit = (unasked ≡ []) × (calls < limit) × IsBad fault rest left
MayEnd FrameLimit unasked rest fault left calls limit = calls ≡ limit
MayEnd Closed unasked rest fault left calls limit = 0 < calls
MayEnd OutOfMemory unasked rest fault left calls limit = Unit {0}

-- a piece that was not looked at: there is one only where memory was wanting for it, and all before it was asked (our profile)
abbrev pub MayMiss : EndCause → List Client → List ℕ → ℕ → ℕ → Type 0
MayMiss cause unasked unfed calls limit =
    (unfed ≡ []) ⊎ ((cause ≡ OutOfMemory) × (unasked ≡ []) × (calls < limit) × (length unfed ≤ most_piece))

-- the frames of a session: what was read, asked, answered and written till its end (our profile)
pub record HasServed {A : Type 0} (asks : A → ClientCall → Result Answer HasClosed → A → Type 0) (limit : ℕ)
    (r0 r1 w0 w1 : Known) (a0 a1 : A) (cause : EndCause) (calls written : ℕ) : Type 0 where
  -- what was read: the calls asked are those of its first frames
  pub asked : List Client
  pub unasked : List Client
  pub rest : List ℕ
  pub fault : Option Fault
  pub unfed : List ℕ
  pub input : HasRead limit (length asked) r0 r1 (asked ++ unasked) rest fault unfed
  -- their answers
  pub answers : List Answer
  pub answered : HasAsked asks cause a0 asked answers a1
  pub counted : calls ≡ length asked
  -- what was written
  pub text : List ℕ
  pub appends : Appends w0 w1 text
  pub wrote : HasWritten cause answers unfed text
  pub totalled : written ≡ length text
  -- why it ended then
  pub ends : MayEnd cause unasked rest fault r1 calls limit
  pub misses : MayMiss cause unasked unfed calls limit

-- the one Leave of a session, and its answer, if it got one; or there is none (our profile)
abbrev pub HasLeft : {A : Type 0} → (A → ClientCall → Result Answer HasClosed → A → Type 0)
    → Option Why → Option Answer → A → A → Type 0
HasLeft asks None None a b = b ≡ a
HasLeft asks None (Some answer) a b = ⊥
HasLeft asks (Some cause) (Some answer) a b = asks a (Leave cause) (Ok answer) b
HasLeft asks (Some cause) None a b = (closed : HasClosed) × asks a (Leave cause) (Err closed) b

-- a session, from its first byte to its Leave (our profile)
abbrev pub IsServed : {A : Type 0} → (A → ClientCall → Result Answer HasClosed → A → Type 0) → ℕ
    → Known → Known → Known → Known → A → A → SessionEnd → Type 0
IsServed {A} asks limit r0 r1 w0 w1 a0 a1 end =
    (mid : A) × HasServed asks limit r0 r1 w0 w1 a0 mid end.why end.calls end.written
    × HasLeft asks (leave_of end.why) end.left mid a1
