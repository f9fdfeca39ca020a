-- The steps of the plain machine, in the order of the table of steps, and what one may be answered.
use Rattle.std.specs.Prelude.{◌≡◌, ℕ, Bool, ◌⊎◌}
use Rattle.plain.specs.Machine.{Plain}
use Rattle.plain.specs.Opening.{Limits}
use Rattle.plain.specs.declared.answer.Code.TheVariants.{VtimeFull, OutOfMemory}
use Rattle.plain.specs.declared.answer.Answer.{Answer}
use Rattle.plain.specs.declared.answer.Answer.TheVariants.{Accepted, Refused, NotYet}
use Rattle.plain.specs.declared.sizes.Sizes.{Sizes}
use Rattle.plain.specs.declared.step.Step.{Step}
use Rattle.plain.specs.declared.step.Step.TheVariants.{Attach, Submit, Reap, Leave, Dispatch, Finish, Requeue, GroupMake, GroupDrop, SetWeight, Freeze, Thaw, Switch, Tick}
use Rattle.plain.specs.Steps.Attach.{attach}
use Rattle.plain.specs.Steps.Submit.{submit}
use Rattle.plain.specs.Steps.Reap.{reap}
use Rattle.plain.specs.Steps.Leave.{leave}
use Rattle.plain.specs.Steps.Dispatch.{dispatch}
use Rattle.plain.specs.Steps.Finish.{finish}
use Rattle.plain.specs.Steps.Requeue.{requeue}
use Rattle.plain.specs.Steps.GroupMake.{group_make}
use Rattle.plain.specs.Steps.GroupDrop.{group_drop}
use Rattle.plain.specs.Steps.SetWeight.{set_weight}
use Rattle.plain.specs.Steps.Freeze.{freeze}
use Rattle.plain.specs.Steps.Thaw.{thaw}
use Rattle.plain.specs.Steps.Switch.{switch}
use Rattle.plain.specs.Steps.Tick.{tick}
use Rattle.plain.specs.Tests.{StepResult}

-- what a step does, with its serial, on a machine with or without room in its history (our profile; each step has its own origins)
abbrev pub step : Limits → Plain → ℕ → Bool → Step → StepResult
step l m n room (Attach seat group prio class) = attach l m n room seat group prio class
step l m n room (Submit seat session op range payload) = submit l m n room seat session op range payload
step l m n room (Reap seat session) = reap m room seat session
step l m n room (Leave seat why) = leave l m room seat
step l m n room Dispatch = dispatch l m n room
step l m n room (Finish tag issue outcome) = finish l m room tag issue outcome
step l m n room (Requeue tag issue) = requeue l m room tag issue
step l m n room (GroupMake parent weight) = group_make l m room parent weight
step l m n room (GroupDrop group) = group_drop m room group
step l m n room (SetWeight group weight) = set_weight m room group weight
step l m n room Freeze = freeze m room
step l m n room Thaw = thaw m room
step l m n room (Switch scheduler) = switch l m room scheduler
step l m n room Tick = tick m room

-- What a step may be answered: the plain step's answer; or want of memory, with no change, if the plain step accepts or finds a time
-- too great.

-- the answer accepts its step (our profile)
abbrev pub IsAccepted : Answer → Type 0
IsAccepted (Accepted reply) = Unit {0}
IsAccepted (Refused code) = ⊥
IsAccepted (NotYet cause) = ⊥

-- when memory may be wanting: in an accepted step, and in one that is refused for a time, after all else has been looked at (our profile)
abbrev pub MayGiveWay : Answer → Type 0
MayGiveWay (Accepted reply) = Unit {0}
MayGiveWay (Refused code) = code ≡ VtimeFull
MayGiveWay (NotYet cause) = ⊥

-- what a step may be answered, with the machine after it: what the plain step gives; or want of memory, with no change, in its place (our profile)
abbrev pub Applies : Limits → Plain → ℕ → Bool → Step → Plain → Answer → Type 0
Applies l m n room s next answer =
    ((next, answer) ≡ step l m n room s) ⊎ (MayGiveWay (step l m n room s).1 × (answer ≡ Refused OutOfMemory) × (next ≡ m))

-- the limits of a machine, from the sizes that it was made for (our profile)
abbrev pub of_sizes : Sizes → Limits
of_sizes sizes = record {
  sectors = sizes.sectors;
  requests = sizes.requests;
  tags = sizes.tags;
  scheduler = sizes.scheduler;
  first_budget = sizes.first_budget;
  max_budget = sizes.max_budget;
  timeout = sizes.timeout;
  first_vtime = sizes.first_vtime;
}
