-- What a worker of a device does, call after call (our profile).
use Rattle.std.specs.Prelude.{◌≡◌, ◌⊎◌, ℕ, ◌+◌, ◌-◌, ◌^◌, true, false, List, [], ◌∷◌, ◌++◌, length, Option, None, Some, map}
use Rattle.rtrb.specs.declared.AnyItems.{AnyItems}
use Rattle.base_image.specs.Image.{Disk, Log}
use Rattle.base_image.specs.Kinds.{Read}
use Rattle.device_engine.specs.Work.{Works, ReadsFor, ReadsInVain}
use Rattle.host_calls.specs.declared.ring.RingReply.{RingReply}
use Rattle.host_calls.specs.declared.ring.RingReply.TheVariants.{Answer as Answered}
use Rattle.plain.specs.declared.answer.Answer.TheVariants.{Accepted, Refused}
use Rattle.plain.specs.declared.answer.Code.TheVariants.{HistoryFull as NoHistory}
use Rattle.host_paths.specs.declared.worker.WorkerEnd.{WorkerEnd}
use Rattle.host_paths.specs.declared.worker.WorkerEnd.TheVariants.{Closed, Faults, HistoryFull}
use Rattle.host_paths.specs.declared.worker.Round.{Round}
use Rattle.host_paths.specs.declared.worker.Round.TheVariants.{Ended, Waits}
use Rattle.plain.specs.declared.answer.Reply.TheVariants.{Taken}
use Rattle.plain.specs.declared.answer.Work.{Work}
use Rattle.plain.specs.declared.call.DeviceCall.{DeviceCall}
use Rattle.plain.specs.declared.call.DeviceCall.TheVariants.{Take, Finish}
use Rattle.host_core.specs.Seats.{staged, collected, is_closed, seat_number}
use Rattle.host_core.specs.declared.seat.Seat.{Seat}

-- the seat of a device
abbrev pub Device : Type 0
Device = Seat DeviceCall AnyItems

-- the host has not ended, and every call was answered: so the next may be made
abbrev pub IsOpen : Device → Type 0
IsOpen s = (is_closed s ≡ false) × (length (staged s) ≡ length (collected s))

-- the work that a reply hands out
abbrev pub handed_out : RingReply → Option Work
handed_out (Answered (Accepted (Taken work))) = Some work
handed_out reply = None

-- a call and its reply
abbrev pub Exchange : Type 0
Exchange = DeviceCall × RingReply

-- where the seat's number is this and this work was taken last: a call asks for work under that number, and the image stays;
-- or it tells what the image gave for that work
abbrev pub Does : ℕ → Option Work → Disk → DeviceCall → Disk → Type 0
Does number taken before (Take worker) after = (worker ≡ number) × (after ≡ before)
Does number (Some work) before call after = Works before work call after
Does number None before call after = ⊥

-- so are all calls, one after the other
abbrev pub DoesAll : ℕ → Option Work → Disk → List Exchange → Disk → Type 0
DoesAll number taken before [] after = after ≡ before
DoesAll number taken before (e ∷ rest) after =
    (middle : Disk) × Does number taken before e.0 middle × DoesAll number (handed_out e.1) middle rest after

-- work that was taken last and not told, as memory was wanting, may have been read
abbrev pub Loses : Option Work → Log → Log → Type 0
Loses (Some work) before after = ReadsInVain work before after
Loses None before after = after ≡ before

-- a call asks for work, with no read; or it tells what the image gave for the work that was taken last, once that was read
abbrev pub ReadsOf : Option Work → Log → DeviceCall → Log → Type 0
ReadsOf taken before (Take worker) after = Loses taken before after
ReadsOf (Some work) before call after = ReadsFor work call before after
ReadsOf None before call after = ⊥

-- so are all calls, one after the other, and no other read is made
abbrev pub ReadsAll : Option Work → Log → List Exchange → Log → Type 0
ReadsAll taken before [] after = Loses taken before after
ReadsAll taken before (e ∷ rest) after =
    (middle : Log) × ReadsOf taken before e.0 middle × ReadsAll (handed_out e.1) middle rest after

-- what is known of an image, and the reads that were made of it
abbrev pub read_of : {I : Type 0} → (I → Disk) → (I → Log) → I → Read
read_of disk log image = record { disk = disk image; log = log image }

-- from these calls and replies of the seat of this number to those, while the image went from one state to another, where this work was taken
-- last: each call got its reply
pub record HasMade (number : ℕ) (taken : Option Work) (calls0 : List DeviceCall) (replies0 : List RingReply) (before : Read)
    (calls1 : List DeviceCall) (replies1 : List RingReply) (after : Read) : Type 0 where
  pub exchanges : List Exchange
  pub calls : calls1 ≡ calls0 ++ map (λ e. e.0) exchanges
  pub replies : replies1 ≡ replies0 ++ map (λ e. e.1) exchanges
  pub does : DoesAll number taken before.disk exchanges after.disk
  pub reads : ReadsAll taken before.log exchanges after.log

-- these calls were made, and one more that asks for work
abbrev pub HasAsked : ℕ → List DeviceCall → Device → Type 0
HasAsked number calls s = staged s ≡ calls ++ Take number ∷ []

abbrev pub IsFinish : DeviceCall → Type 0
IsFinish (Finish tag issue outcome) = Unit {0}
IsFinish call = ⊥

-- or these calls, of which the last is a Finish, and one more that asks for work
abbrev pub HasAskedBehind : ℕ → List DeviceCall → Device → Type 0
HasAskedBehind number calls s = HasAsked number calls s
    × ((before : List DeviceCall) × (call : DeviceCall) × (calls ≡ before ++ call ∷ []) × IsFinish call)

-- from one state of a seat and of its image to another, where this work was taken last: each call got a reply, but for one that asks for work
-- and stands last, behind a Finish, if there is one
abbrev pub HasDone : Option Work → Device → Read → Device → Read → Type 0
HasDone taken s before t after = (calls : List DeviceCall) × ((staged t ≡ calls) ⊎ HasAskedBehind (seat_number s) calls t)
    × HasMade (seat_number s) taken (staged s) (collected s) before calls (collected t) after

-- the last reply refused its call, as the history is full
abbrev pub IsRefused : Device → Type 0
IsRefused s = (before : List RingReply) × (collected s ≡ before ++ Answered (Refused NoHistory) ∷ [])

-- why it ended: the host has; or a call was refused, as the history is full
abbrev pub IsEndOf : WorkerEnd → Device → Type 0
IsEndOf Closed s = is_closed s ≡ true
IsEndOf Faults s = ⊥
IsEndOf HistoryFull s = (is_closed s ≡ false) × IsRefused s

-- or its image has counted as many faults as it can, and the next call may be made
abbrev pub IsWhy : WorkerEnd → Device → Disk → Type 0
IsWhy Closed s disk = IsEndOf Closed s
IsWhy Faults s disk = IsOpen s × (disk.faults ≡ 2 ^ 64 - 1)
IsWhy HistoryFull s disk = IsEndOf HistoryFull s

-- whether a round is followed by another
abbrev pub IsGoing : Round → Type 0
IsGoing (Ended end) = ⊥
IsGoing round = Unit {0}

abbrev pub IfEnded : Round → (WorkerEnd → Type 0) → Type 0
IfEnded (Ended end) P = P end
IfEnded round P = Unit {0}

-- the host has not ended, and one call has no reply yet
abbrev pub IsOwed : Device → Type 0
IsOwed s = (is_closed s ≡ false) × (length (staged s) ≡ length (collected s) + 1)

-- so a round leaves the seat, if another follows
abbrev pub Stands : Round → Device → Type 0
Stands (Ended end) s = Unit {0}
Stands Waits s = IsOpen s
Stands round s = IsOwed s

-- a round that asks for no work
abbrev pub IsAlone : Round → Type 0
IsAlone (Ended end) = Unit {0}
IsAlone Waits = Unit {0}
IsAlone round = ⊥

-- which calls were made, if each of these got a reply
abbrev pub IsLeft : Round → ℕ → List DeviceCall → Device → Type 0
IsLeft (Ended end) number calls s = (staged s ≡ calls) ⊎ HasAskedBehind number calls s
IsLeft Waits number calls s = staged s ≡ calls
IsLeft round number calls s = HasAsked number calls s

-- one round at the seat of this number, in which work that was asked for is told, whatever was taken before it, and read in vain for that
abbrev pub IsRound : ℕ → Round → Device → Read → Device → Read → Type 0
IsRound number round s before t after = (calls : List DeviceCall) → HasAsked number calls s → (taken : Option Work) (log : Log) → Loses taken log before.log
    → (calls1 : List DeviceCall) × IsLeft round number calls1 t
    × HasMade number taken calls (collected s) (record before { log = log }) calls1 (collected t) after

-- what comes of work that was taken by the last call
abbrev pub HasTold : ℕ → Round → Work → Device → Read → Device → Read → Type 0
HasTold number round work s before t after = (calls : List DeviceCall) × IsLeft round number calls t
    × HasMade number (Some work) (staged s) (collected s) before calls (collected t) after

-- one call more got a reply
abbrev pub IsReplied : Device → Device → Type 0
IsReplied s t = (reply : RingReply) × (collected t ≡ collected s ++ reply ∷ [])
