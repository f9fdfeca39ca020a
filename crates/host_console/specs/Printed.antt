-- What a line of a script asks of a keeper over an image and a payload, and what it prints.
use Rattle.std.specs.Prelude.{◌≡◌, ℕ, ◌*◌, ◌≤◌, ◌<◌, nat_le, nat_lt, List, [], ◌∷◌, ◌++◌, length, replicate, codes, Option, None, Some, if◌then◌else◌}
use Rattle.std.specs.Fmt.{decimal}
use Rattle.std.specs.FinMap as blocks
use Rattle.sector_core.specs.declared.range.Range.{Range}
use Rattle.sector_core.specs.declared.bio.Op.TheVariants as op
use Rattle.sector_core.specs.declared.bio.FailKind.TheVariants as kind
use Rattle.sector_core.specs.declared.bio.Outcome.{Outcome}
use Rattle.sector_core.specs.declared.bio.Outcome.TheVariants as outcome
use Rattle.sector_core.specs.declared.class.Class.{Class as ClassOf}
use Rattle.sector_core.specs.declared.class.Class.TheVariants as class
use Rattle.sector_text.specs.Hex.{hex_of}
use Rattle.script_line.specs.declared.line.Line.{Line}
use Rattle.script_line.specs.declared.line.Line.TheVariants.{Attach, ClassAttach, Read, Write, WriteFrom, Discard, Reap, Leave, Dispatch, Finish, Work, Requeue, Hold, Release, Undo, Redo, Group, Drop, Weight, Freeze, Thaw, Switch, Tick, Sector, Queue, Cursor, Vtime, ClassVtime, Entity, Class, Show}
use Rattle.script_line.specs.declared.line.Ending.{Ending}
use Rattle.script_line.specs.declared.line.Ending.TheVariants.{Stored, Fill, Short, Fault}
use Rattle.plain.specs.Machine.{WholeRequest}
use Rattle.base_image.specs.Image.{Disk}
use Rattle.device_engine.specs.Work.{Works}
use Rattle.plain.specs.declared.answer.Work.{Work as Taken}
use Rattle.plain.specs.declared.call.DeviceCall.{DeviceCall}
use Rattle.plain.specs.declared.step.Step.{Step}
use Rattle.plain.specs.Device.{work_in_flight, device_step}
use Rattle.plain.specs.declared.answer.Answer.{Answer}
use Rattle.plain.specs.declared.step.Step.TheVariants as step
use Rattle.plain.specs.declared.step.Why.TheVariants as why
use Rattle.plain.specs.declared.call.Call.{Call}
use Rattle.plain.specs.declared.call.Call.TheVariants as call
use Rattle.plain.specs.Requests.{range_of}
use Rattle.plain.specs.Keeper.{State, machine_of}
use Rattle.plain.specs.Headline.{MayCall}
use Rattle.plain.specs.Looks.{vtime_view, entity_view}
use Rattle.host_calls.specs.Texts.{text_of}
use Rattle.host_console.specs.Texts.{vtime_text, class_vtime_text, entity_text, entity_class_text}
use Rattle.host_console.specs.Looks.{Looked}
use Rattle.host_console.specs.Payload.{bytes_from}
use Rattle.plain.specs.declared.view.SectorView.{SectorView}
use Rattle.plain.specs.declared.view.SectorView.TheVariants as content

-- Calls.

-- the payload of a `write` line: each byte of its sectors; none where there are too many sectors for a bio
abbrev pub payload_of : ℕ → ℕ → List ℕ
payload_of count byte = if nat_lt 64 count then [] else replicate (512 * count) byte

-- the sectors of some work, or none (our profile)
abbrev pub sectors_of : Option Taken → ℕ
sectors_of None = 0
sectors_of (Some work) = work.range.count

-- the sectors of the request in flight under a tag with this issue, or none
abbrev pub sectors_in_flight : State → ℕ → ℕ → ℕ
sectors_in_flight k tag issue = sectors_of (work_in_flight (machine_of k) tag issue)

-- how a `finish` line ended: filled are as many sectors as the request in flight has
abbrev pub outcome_of : State → ℕ → ℕ → Ending → Outcome
outcome_of k tag issue Stored = outcome.Stored
outcome_of k tag issue (Fill byte) = outcome.Fetched (replicate (512 * sectors_in_flight k tag issue) byte)
outcome_of k tag issue Short = outcome.Failed kind.Short
outcome_of k tag issue Fault = outcome.Failed kind.Fault

-- the step of a `work` line: what the device answers from the image for the work, or, where there is none, that it was stored (our profile)
abbrev pub StepOfWork : Disk → ℕ → ℕ → Option Taken → Step → Disk → Type 0
StepOfWork before tag issue None asked after = (asked ≡ step.Finish tag issue outcome.Stored) × (after ≡ before)
StepOfWork before tag issue (Some work) asked after = (answer : DeviceCall) × Works before work answer after × (device_step answer ≡ Some asked)

-- Texts.

-- a text as a line
abbrev pub ended : List ℕ → List ℕ
ended text = text ++ 10 ∷ []

-- the content of a sector: outside of the image, the overlay's block, or the image's own bytes
abbrev pub content_text : State → ℕ → List ℕ
content_text k number =
    if nat_le k.limits.sectors number then codes "none"
    else elim (blocks.get (machine_of k).overlay number) [ None ↦ codes "base" | Some block ↦ codes "overlay " ++ hex_of block ]

-- the same of a sector that shows this (our profile)
abbrev pub kind_text : SectorView → List ℕ
kind_text content.Outside = codes "none"
kind_text content.Base = codes "base"
kind_text (content.Stored block) = codes "overlay " ++ hex_of block.now

-- a sector that shows this (our profile)
abbrev pub shown_text : ℕ → SectorView → List ℕ
shown_text number shown = codes "sector " ++ (decimal number ++ 32 ∷ kind_text shown)

abbrev pub sector_text : State → ℕ → List ℕ
sector_text k number = codes "sector " ++ (decimal number ++ 32 ∷ content_text k number)

-- a request of so many bios: its first sector, `+`, how many sectors it has, `x`, and the number of bios (our profile)
abbrev pub request_text : Range → ℕ → List ℕ
request_text range bios = decimal range.start ++ 43 ∷ (decimal range.count ++ 120 ∷ decimal bios)

-- the requests of a queue, each after one space, in order of insertion (our profile)
abbrev pub requests_text : List WholeRequest → List ℕ
requests_text [] = []
requests_text (request ∷ queue) = 32 ∷ (request_text (range_of request.bios) (length request.bios) ++ requests_text queue)

-- the queued requests of a seat, or that the seat is free (our profile)
abbrev pub queue_text : State → ℕ → List ℕ
queue_text k seat = elim ((machine_of k).seat seat) [ None ↦ codes "queue none" | Some session ↦ codes "queue" ++ requests_text ((machine_of k).queue seat) ]

abbrev pub cursor_text : State → List ℕ
cursor_text k = codes "line " ++ (decimal k.cursor ++ 32 ∷ (decimal (length k.line) ++ 32 ∷ decimal k.last))

-- the best effort time of a group of the machine (our profile)
abbrev pub group_text : State → ℕ → List ℕ
group_text k group = vtime_text group (vtime_view (machine_of k) group class.BestEffort)

-- the virtual time of a class of a group of the machine (our profile)
abbrev pub group_class_text : State → ℕ → ClassOf → List ℕ
group_class_text k group named = class_vtime_text group named (vtime_view (machine_of k) group named)

-- what is known of an entity of the machine (our profile)
abbrev pub known_text : State → ℕ → List ℕ
known_text k number = entity_text number (entity_view (machine_of k) number)

-- the class of an entity of the machine (our profile)
abbrev pub class_of_text : State → ℕ → List ℕ
class_of_text k number = entity_class_text number (entity_view (machine_of k) number)

-- what a keeper shows of a sector
abbrev pub IsContent : State → ℕ → SectorView → Type 0
IsContent k number content.Outside = k.limits.sectors ≤ number
IsContent k number content.Base = (number < k.limits.sectors) × (blocks.get (machine_of k).overlay number ≡ None)
IsContent k number (content.Stored block) = (number < k.limits.sectors) × (blocks.get (machine_of k).overlay number ≡ Some block.now)

-- Lines.

-- A keeper, the image that its device reads, and the payload of the script, if it has one (our profile).
pub record Desk : Type 0 where
  pub keeper : State
  pub disk : Disk
  pub payload : Option (List ℕ)

-- the keeper is called once, and the answer is printed
abbrev pub Answers : State → Call → List ℕ → State → Type 0
Answers before c text after = (answer : Answer) × MayCall before c answer after × (text ≡ ended (text_of answer))

-- the same over an image, which is not read, and a payload
abbrev pub AnswersOver : Desk → Call → List ℕ → Desk → Type 0
AnswersOver before c text after = Answers before.keeper c text after.keeper × (after.disk ≡ before.disk) × (after.payload ≡ before.payload)

-- a write of these bytes
abbrev pub write_of : ℕ → ℕ → ℕ → ℕ → List ℕ → Call
write_of seat session start count bytes = call.Do (step.Submit seat session op.Store (record { start = start; count = count }) bytes)

-- the write of these bytes, if there are any
abbrev pub write_if : ℕ → ℕ → ℕ → ℕ → Option (List ℕ) → Option Call
write_if seat session start count None = None
write_if seat session start count (Some bytes) = Some (write_of seat session start count bytes)

-- the call that a line makes over a payload, whatever the keeper is; none where the line asks the keeper or the device first, or only
-- looks, or asks for bytes that the payload has not (our profile)
abbrev pub asked : Option (List ℕ) → Line → Option Call
asked payload (Attach seat group prio) = Some (call.Do (step.Attach seat group prio class.BestEffort))
asked payload (ClassAttach seat group prio named) = Some (call.Do (step.Attach seat group prio named))
asked payload (Read seat session start count) = Some (call.Do (step.Submit seat session op.Fetch (record { start = start; count = count }) []))
asked payload (Write seat session start count byte) = Some (write_of seat session start count (payload_of count byte))
asked payload (WriteFrom seat session start count from) = write_if seat session start count (bytes_from payload from count)
asked payload (Discard seat session start count) = Some (call.Do (step.Submit seat session op.Discard (record { start = start; count = count }) []))
asked payload (Reap seat session) = Some (call.Do (step.Reap seat session))
asked payload (Leave seat) = Some (call.Do (step.Leave seat why.Ended))
asked payload Dispatch = Some (call.Do step.Dispatch)
asked payload (Finish tag issue ending) = None
asked payload (Work tag issue) = None
asked payload (Requeue tag issue) = Some (call.Do (step.Requeue tag issue))
asked payload Hold = Some call.Hold
asked payload Release = Some call.Release
asked payload (Undo k) = Some (call.Undo k)
asked payload (Redo k) = Some (call.Redo k)
asked payload (Group parent weight) = Some (call.Do (step.GroupMake parent weight))
asked payload (Drop group) = Some (call.Do (step.GroupDrop group))
asked payload (Weight group weight) = Some (call.Do (step.SetWeight group weight))
asked payload Freeze = Some (call.Do step.Freeze)
asked payload Thaw = Some (call.Do step.Thaw)
asked payload (Switch scheduler) = Some (call.Do (step.Switch scheduler))
asked payload Tick = Some (call.Do step.Tick)
asked payload (Sector number) = None
asked payload (Queue seat) = None
asked payload Cursor = None
asked payload (Vtime group) = None
asked payload (ClassVtime group named) = None
asked payload (Entity number) = None
asked payload (Class number) = None
asked payload (Show look) = None

-- what a query prints at a keeper, with its end; no other line prints anything by itself
abbrev pub Tells : State → Line → List ℕ → Type 0
Tells k (Sector number) text = text ≡ ended (sector_text k number)
Tells k (Queue seat) text = text ≡ ended (queue_text k seat)
Tells k Cursor text = text ≡ ended (cursor_text k)
Tells k (Vtime group) text = text ≡ ended (group_text k group)
Tells k (ClassVtime group named) text = text ≡ ended (group_class_text k group named)
Tells k (Entity number) text = text ≡ ended (known_text k number)
Tells k (Class number) text = text ≡ ended (class_of_text k number)
Tells k (Show look) text = (shown : List ℕ) × Looked k look shown × (text ≡ ended shown)
Tells k line text = ⊥

-- what such a line as makes no call of its own may print at a keeper over an image, and what both are then: only a `work` line
-- reads the image, and none reads the payload (our profile)
abbrev pub Looks : Desk → Line → List ℕ → Desk → Type 0
Looks before (Finish tag issue ending) text after = AnswersOver before (call.Do (step.Finish tag issue (outcome_of before.keeper tag issue ending))) text after
Looks before (Work tag issue) text after =
    (made : Step) × StepOfWork before.disk tag issue (work_in_flight (machine_of before.keeper) tag issue) made after.disk
    × Answers before.keeper (call.Do made) text after.keeper × (after.payload ≡ before.payload)
Looks before line text after = (after ≡ before) × Tells before.keeper line text

-- what a line may print at a keeper over an image and a payload, and what they are then: its call is made once, and answered; or it has
-- none of its own
abbrev pub Prints : Desk → Line → List ℕ → Desk → Type 0
Prints before line text after = elim (asked before.payload line) [ None ↦ Looks before line text after | Some made ↦ AnswersOver before made text after ]
