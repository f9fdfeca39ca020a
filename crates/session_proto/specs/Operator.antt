-- What the operator sends, and how it is spelled.
use Rattle.std.specs.Prelude.{ℕ, ◌<◌, ◌^◌, List, [], ◌∷◌, ◌++◌, Option, None, Some, Result, Ok, ◌==◌, if◌then◌else◌}
use Rattle.std.specs.Int.{w8, w16, w32}
use Rattle.sector_core.specs.declared.config.Scheduler.{Scheduler}
use Rattle.sector_core.specs.declared.config.Scheduler.TheVariants.{Plain, Bfq}
use Rattle.host_calls.specs.declared.operator.OperatorCall.{OperatorCall}
use Rattle.host_calls.specs.declared.operator.OperatorCall.TheVariants.{GroupMake, GroupDrop, SetWeight, Freeze, Thaw, Switch, Tick, Hold, Release, Undo, Redo, Stop}
use Rattle.session_proto.specs.declared.fault.Fault.{Fault}
use Rattle.session_proto.specs.declared.operator.Operator.{Operator}
use Rattle.session_proto.specs.Fields.{◌>>=◌, big_endian, number_at, ended, named}
use Rattle.session_proto.specs.Kinds.{read_by}

-- a scheduler's number (our format)
abbrev pub scheduler_number : Scheduler → ℕ
scheduler_number Plain = 0
scheduler_number Bfq = 1

-- the scheduler whose number it is, or none (our format)
unfoldable pub scheduler_of_number : ℕ → Option Scheduler
scheduler_of_number n = if n == 0 then Some Plain else if n == 1 then Some Bfq else None

-- the operator's calls, by their kinds (our format)
abbrev pub operator_body : OperatorCall → List ℕ
operator_body (GroupMake parent weight) = 0x11 ∷ big_endian w8 parent ++ big_endian w16 weight
operator_body (GroupDrop group) = 0x12 ∷ big_endian w8 group
operator_body (SetWeight group weight) = 0x13 ∷ big_endian w8 group ++ big_endian w16 weight
operator_body Freeze = 0x14 ∷ []
operator_body Thaw = 0x15 ∷ []
operator_body (Switch scheduler) = 0x16 ∷ big_endian w8 (scheduler_number scheduler)
operator_body Tick = 0x17 ∷ []
operator_body Hold = 0x18 ∷ []
operator_body Release = 0x19 ∷ []
operator_body (Undo k) = 0x1a ∷ big_endian w32 k
operator_body (Redo k) = 0x1b ∷ big_endian w32 k
operator_body Stop = 0x1c ∷ []

-- each number fits its field (our format)
abbrev pub OperatorFits : OperatorCall → Type 0
OperatorFits (GroupMake parent weight) = (parent < 2 ^ 8) × (weight < 2 ^ 16)
OperatorFits (GroupDrop group) = group < 2 ^ 8
OperatorFits (SetWeight group weight) = (group < 2 ^ 8) × (weight < 2 ^ 16)
OperatorFits Freeze = Unit {0}
OperatorFits Thaw = Unit {0}
OperatorFits (Switch scheduler) = Unit {0}
OperatorFits Tick = Unit {0}
OperatorFits Hold = Unit {0}
OperatorFits Release = Unit {0}
OperatorFits (Undo k) = k < 2 ^ 32
OperatorFits (Redo k) = k < 2 ^ 32
OperatorFits Stop = Unit {0}

-- a GroupMake: a byte of parent and two of weight (our format)
unfoldable pub group_make_at : List ℕ → Result OperatorCall Fault
group_make_at fields = do
  parent ← number_at w8 fields
  weight ← number_at w16 parent.1
  ended (GroupMake parent.0 weight.0) weight.1

-- a GroupDrop: a byte of group (our format)
unfoldable pub group_drop_at : List ℕ → Result OperatorCall Fault
group_drop_at fields = do
  group ← number_at w8 fields
  ended (GroupDrop group.0) group.1

-- a SetWeight: a byte of group and two of weight (our format)
unfoldable pub set_weight_at : List ℕ → Result OperatorCall Fault
set_weight_at fields = do
  group ← number_at w8 fields
  weight ← number_at w16 group.1
  ended (SetWeight group.0 weight.0) weight.1

-- a Switch: the scheduler's number in a byte (our format)
unfoldable pub switch_at : List ℕ → Result OperatorCall Fault
switch_at fields = do
  number ← number_at w8 fields
  scheduler ← named (scheduler_of_number number.0)
  ended (Switch scheduler) number.1

-- an Undo: four bytes of steps (our format)
unfoldable pub undo_at : List ℕ → Result OperatorCall Fault
undo_at fields = do
  k ← number_at w32 fields
  ended (Undo k.0) k.1

-- a Redo: four bytes of steps (our format)
unfoldable pub redo_at : List ℕ → Result OperatorCall Fault
redo_at fields = do
  k ← number_at w32 fields
  ended (Redo k.0) k.1

-- the operator's kinds (our format)
abbrev pub operator_kinds : List (ℕ × (List ℕ → Result OperatorCall Fault))
operator_kinds =
    (0x11, group_make_at) ∷ (0x12, group_drop_at) ∷ (0x13, set_weight_at) ∷ (0x14, ended Freeze) ∷ (0x15, ended Thaw) ∷ (0x16, switch_at) ∷
    (0x17, ended Tick) ∷ (0x18, ended Hold) ∷ (0x19, ended Release) ∷ (0x1a, undo_at) ∷ (0x1b, redo_at) ∷ (0x1c, ended Stop) ∷ []

-- what a body says that the operator sent (our format)
unfoldable pub operator_at : List ℕ → Result Operator Fault
operator_at body = do
  call ← read_by operator_kinds body
  Ok (record { 0 = call })
