-- What a line that begins with `show` prints of a keeper (our profile).
use Rattle.std.specs.Prelude.{◌≡◌, ℕ, ◌-◌, nat_lt, Bool, List, [], ◌∷◌, ◌++◌, length, codes, Option, None, Some, slice_get, if◌then◌else◌}
use Rattle.std.specs.Fmt.{decimal}
use Rattle.sector_core.specs.declared.bio.Op.TheVariants.{Fetch, Store, Discard}
use Rattle.sector_core.specs.declared.bio.FailKind.TheVariants.{Short, Fault}
use Rattle.sector_core.specs.declared.bio.Outcome.{Outcome}
use Rattle.sector_core.specs.declared.bio.Outcome.TheVariants.{Fetched, Stored, Failed}
use Rattle.sector_core.specs.declared.range.Range.{Range}
use Rattle.sector_core.specs.declared.class.Class.{Class}
use Rattle.sector_core.specs.declared.class.Class.TheVariants.{RealTime, BestEffort, Idle}
use Rattle.plain.specs.Runs.{IsNextRun}
use Rattle.sector_text.specs.Hex.{all_are}
use Rattle.plain.specs.declared.step.Step.{Step}
use Rattle.plain.specs.declared.step.Step.TheVariants as step
use Rattle.plain.specs.declared.call.Stamped.{Stamped}
use Rattle.plain.specs.Keeper.{State, machine_of}
use Rattle.script_line.specs.declared.look.Look.{Look}
use Rattle.script_line.specs.declared.look.Look.TheVariants as look
use Rattle.host_console.specs.State.{state_look, run_text}
use Rattle.host_console.specs.Views.{seat_look, outbox_look, queue_look, requeued_look, flight_look, service_look, tree_look, scheduler_text, stored_look}

-- the byte that all of these are, or that they are not alike
abbrev pub fill_text : List ℕ → List ℕ
fill_text [] = codes ".."
fill_text (byte ∷ bytes) = if all_are byte bytes then decimal byte else codes ".."

-- how the device ended a request, as a `finish` line spells it
abbrev pub outcome_text : Outcome → List ℕ
outcome_text (Fetched bytes) = codes "fill " ++ fill_text bytes
outcome_text Stored = codes "stored"
outcome_text (Failed Short) = codes "short"
outcome_text (Failed Fault) = codes "fault"

-- after the numbers of an `attach` line its class, and nothing if it is best effort
abbrev pub class_end : Class → List ℕ
class_end RealTime = codes " rt"
class_end BestEffort = []
class_end Idle = codes " idle"

-- a step as a line of a script spells it; of bytes that are not alike nothing is told
abbrev pub line_text : Step → List ℕ
line_text (step.Attach seat group prio class) = codes "attach " ++ (decimal seat ++ 32 ∷ (decimal group ++ 32 ∷ (decimal prio ++ class_end class)))
line_text (step.Submit seat session Fetch range payload) =
    codes "read " ++ (decimal seat ++ 32 ∷ (decimal session ++ 32 ∷ (decimal range.start ++ 32 ∷ decimal range.count)))
line_text (step.Submit seat session Store range payload) =
    codes "write " ++ (decimal seat ++ 32 ∷ (decimal session ++ 32 ∷ (decimal range.start ++ 32 ∷ (decimal range.count ++ 32 ∷ fill_text payload))))
line_text (step.Submit seat session Discard range payload) =
    codes "discard " ++ (decimal seat ++ 32 ∷ (decimal session ++ 32 ∷ (decimal range.start ++ 32 ∷ decimal range.count)))
line_text (step.Reap seat session) = codes "reap " ++ (decimal seat ++ 32 ∷ decimal session)
line_text (step.Leave seat why) = codes "leave " ++ decimal seat
line_text step.Dispatch = codes "dispatch"
line_text (step.Finish tag issue outcome) = codes "finish " ++ (decimal tag ++ 32 ∷ (decimal issue ++ 32 ∷ outcome_text outcome))
line_text (step.Requeue tag issue) = codes "requeue " ++ (decimal tag ++ 32 ∷ decimal issue)
line_text (step.GroupMake parent weight) = codes "group " ++ (decimal parent ++ 32 ∷ decimal weight)
line_text (step.GroupDrop group) = codes "drop " ++ decimal group
line_text (step.SetWeight group weight) = codes "weight " ++ (decimal group ++ 32 ∷ decimal weight)
line_text step.Freeze = codes "freeze"
line_text step.Thaw = codes "thaw"
line_text (step.Switch scheduler) = codes "switch " ++ scheduler_text scheduler
line_text step.Tick = codes "tick"

-- a step of the operator, or of the clock
abbrev pub IsSetting : Step → Type 0
IsSetting (step.Attach seat group prio class) = ⊥
IsSetting (step.Submit seat session op range payload) = ⊥
IsSetting (step.Reap seat session) = ⊥
IsSetting (step.Leave seat why) = ⊥
IsSetting step.Dispatch = ⊥
IsSetting (step.Finish tag issue outcome) = ⊥
IsSetting (step.Requeue tag issue) = ⊥
IsSetting s = Unit {0}

-- a step of the line under its number from 1, or that there is none
abbrev pub step_look : ℕ → Option Stamped → List ℕ
step_look number None = codes "step " ++ (decimal number ++ codes " none")
step_look number (Some s) = codes "step " ++ (decimal number ++ 32 ∷ (decimal s.serial ++ 32 ∷ line_text s.step))

-- the step of a number from 1 on
abbrev pub step_at : State → ℕ → Option Stamped
step_at k number = if nat_lt 0 number then slice_get k.line (number - 1) else None

abbrev pub hold_text : Bool → List ℕ
hold_text held = if held then codes "held" else codes "free"

-- the scheduler, whether submits wait, whether the host is held, the seat that the round robin served last, how many steps stand, how many
-- the line has, the last serial, and how many calls were accepted
abbrev pub host_look : State → List ℕ
host_look k =
    codes "host "
    ++ (scheduler_text (machine_of k).scheduler ++ 32 ∷ (run_text (machine_of k).frozen ++ 32 ∷ (hold_text k.held ++ 32 ∷ (decimal (machine_of k).served
    ++ 32 ∷ (decimal k.cursor ++ 32 ∷ (decimal (length k.line) ++ 32 ∷ (decimal k.last ++ 32 ∷ decimal (length k.journal))))))))

-- what a look prints
abbrev pub Looked : State → Look → List ℕ → Type 0
Looked k (look.Seat seat) text = text ≡ seat_look (machine_of k) seat
Looked k (look.Outbox seat) text = text ≡ outbox_look (machine_of k) seat
Looked k (look.Queue seat) text = text ≡ queue_look (machine_of k) seat
Looked k look.Requeued text = text ≡ requeued_look (machine_of k)
Looked k look.Flight text = text ≡ flight_look (machine_of k) k.limits.tags
Looked k look.Service text = text ≡ service_look (machine_of k)
Looked k (look.Tree group) text = text ≡ tree_look (machine_of k) group
Looked k look.Host text = text ≡ host_look k
Looked k look.State text = text ≡ state_look k.limits.tags (machine_of k)
Looked k (look.Stored from) text = (run : Option Range) × IsNextRun (machine_of k).overlay from 65536 run × (text ≡ stored_look run)
Looked k (look.Step number) text = text ≡ step_look number (step_at k number)
