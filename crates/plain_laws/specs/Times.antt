-- What no step does to the virtual times of groups: let one fall.
use Rattle.std.specs.Prelude.{◌≡◌, ℕ, ◌≤◌, Bool, true, false}
use Rattle.sector_core.specs.declared.class.Class.{Class}
use Rattle.plain.specs.Machine.{Bfq, Plain}
use Rattle.plain.specs.Rules.{vtime_of, stands}
use Rattle.plain.specs.declared.step.Step.{Step}
use Rattle.plain.specs.declared.step.Step.TheVariants.{Attach, Submit, Reap, Leave, Dispatch, Finish, Requeue, GroupMake, GroupDrop, SetWeight, Freeze, Thaw, Switch, Tick}
use Rattle.plain.specs.Opening.{Limits}
use Rattle.plain.specs.Step.{step}

-- no class of a group that stands before and after has a lesser virtual time after (B-WF2Q+: virtual time is monotonic)
abbrev pub VtimesNeverFall : Bfq → Bfq → Type 0
VtimesNeverFall before after = (group : ℕ) (class : Class) → stands before group ≡ true → stands after group ≡ true → vtime_of before group class ≤ vtime_of after group class

-- the step is a Switch, under which all times begin again (our profile)
abbrev pub is_switch : Step → Bool
is_switch (Attach seat group prio class) = false
is_switch (Submit seat session op range payload) = false
is_switch (Reap seat session) = false
is_switch (Leave seat why) = false
is_switch Dispatch = false
is_switch (Finish tag issue outcome) = false
is_switch (Requeue tag issue) = false
is_switch (GroupMake parent weight) = false
is_switch (GroupDrop group) = false
is_switch (SetWeight group weight) = false
is_switch Freeze = false
is_switch Thaw = false
is_switch (Switch scheduler) = true
is_switch Tick = false

-- so it is under every other step; a group that is made, or made again, begins at the first virtual time (our profile)
abbrev pub KeepsVtimes : Limits → Plain → Type 0
KeepsVtimes l m = (n : ℕ) (room : Bool) (s : Step) → is_switch s ≡ false → VtimesNeverFall m.bfq (step l m n room s).0.bfq
