-- The laws of the operator's side.
use Rattle.std.proofs.Common.{◌≡◌, ℕ, ◌^◌, ◌<◌, ◌≤◌, List, [], ◌∷◌, ◌++◌, length, Some, Ok, refl, arith}
use Rattle.std.specs.Int.{w8, w16, w32}
use Rattle.std.proofs.lemmas.List.{length-append}
use Rattle.sector_core.specs.declared.config.Scheduler.{Scheduler}
use Rattle.sector_core.specs.declared.config.Scheduler.TheVariants.{Plain, Bfq}
use Rattle.host_calls.specs.declared.operator.OperatorCall.{OperatorCall}
use Rattle.host_calls.specs.declared.operator.OperatorCall.TheVariants.{GroupMake, GroupDrop, SetWeight, Freeze, Thaw, Switch, Tick, Hold, Release, Undo, Redo, Stop}
use Rattle.session_proto.specs.Frame.{IsBytes}
use Rattle.session_proto.specs.declared.operator.Operator.{Operator}
use Rattle.session_proto.specs.Kinds.{read_by}
use Rattle.session_proto.specs.Fields.{big_endian, ended}
use Rattle.session_proto.specs.FieldLaws.{wide8, wide16, wide32, named_of_two, ended_again}
use Rattle.session_proto.specs.KindLaws.{Spells, ◌&◌, side_spells, none_spells, one_spells, one_again, two_spells, two_again, named_spells, named_again}
use Rattle.session_proto.specs.Operator.{scheduler_number, scheduler_of_number, operator_body, OperatorFits, operator_kinds, operator_at, group_make_at, group_drop_at, set_weight_at, switch_at, undo_at, redo_at}

-- ---- kinds

group_make_spells : Spells operator_body OperatorFits 0x11 group_make_at
unfolding group_make_at
group_make_spells = two_spells operator_body OperatorFits 0x11 w8 (2 ^ 8) wide8 w16 (2 ^ 16) wide16 GroupMake (λ parent weight low lt. (low, lt)) (λ parent weight. refl)

group_drop_spells : Spells operator_body OperatorFits 0x12 group_drop_at
unfolding group_drop_at
group_drop_spells = one_spells operator_body OperatorFits 0x12 w8 (2 ^ 8) wide8 GroupDrop (λ group lt. lt) (λ group. refl)

set_weight_spells : Spells operator_body OperatorFits 0x13 set_weight_at
unfolding set_weight_at
set_weight_spells = two_spells operator_body OperatorFits 0x13 w8 (2 ^ 8) wide8 w16 (2 ^ 16) wide16 SetWeight (λ group weight low lt. (low, lt)) (λ group weight. refl)

-- the scheduler that a number tells has that number
number-scheduler_of_number : (n : ℕ) (s : Scheduler) → scheduler_of_number n ≡ Some s → scheduler_number s ≡ n
unfolding scheduler_of_number
number-scheduler_of_number n s e = named_of_two scheduler_number 0 1 Plain Bfq refl refl n s e

scheduler_of_number-number : (s : Scheduler) → scheduler_of_number (scheduler_number s) ≡ Some s
unfolding scheduler_of_number
scheduler_of_number-number Plain = refl
scheduler_of_number-number Bfq = refl

scheduler_number-below : (s : Scheduler) → scheduler_number s < 2 ^ 8
scheduler_number-below Plain = omega arith
scheduler_number-below Bfq = omega arith

switch_spells : Spells operator_body OperatorFits 0x16 switch_at
unfolding switch_at
switch_spells = named_spells operator_body OperatorFits 0x16 scheduler_number scheduler_of_number number-scheduler_of_number Switch (λ s. tt) (λ s. refl)

undo_spells : Spells operator_body OperatorFits 0x1a undo_at
unfolding undo_at
undo_spells = one_spells operator_body OperatorFits 0x1a w32 (2 ^ 32) wide32 Undo (λ k lt. lt) (λ k. refl)

redo_spells : Spells operator_body OperatorFits 0x1b redo_at
unfolding redo_at
redo_spells = one_spells operator_body OperatorFits 0x1b w32 (2 ^ 32) wide32 Redo (λ k lt. lt) (λ k. refl)

-- a kind of the operator's with no field
bare : (kind : ℕ) (v : OperatorCall) → OperatorFits v → operator_body v ≡ kind ∷ [] → Spells operator_body OperatorFits kind (ended v)
bare kind v does is = none_spells operator_body OperatorFits kind v does is

pub operator_is : (bytes : List ℕ) (v : Operator) → IsBytes bytes → operator_at bytes ≡ Ok v → OperatorFits v.0 × (bytes ≡ operator_body v.0)
unfolding operator_at
operator_is bytes v are e =
    side_spells operator_body OperatorFits operator_kinds
    (group_make_spells & group_drop_spells & set_weight_spells & bare 0x14 Freeze tt refl & bare 0x15 Thaw tt refl & switch_spells
    & bare 0x17 Tick tt refl & bare 0x18 Hold tt refl & bare 0x19 Release tt refl & undo_spells & redo_spells & bare 0x1c Stop tt refl & tt)
    (λ call. record { 0 = call }) (λ v. v.0) (λ call. refl) bytes v are e

pub operator_spelled : (bytes : List ℕ) (v : Operator) → IsBytes bytes → length bytes ≤ 32787 → operator_at bytes ≡ Ok v
    → OperatorFits v.0 × (bytes ≡ operator_body v.0)
operator_spelled bytes v are few e = operator_is bytes v are e

-- ---- read again

group_make_again : (parent weight : ℕ) → parent < 2 ^ 8 → weight < 2 ^ 16 → group_make_at (big_endian w8 parent ++ big_endian w16 weight) ≡ Ok (GroupMake parent weight)
unfolding group_make_at
group_make_again parent weight low lt = two_again w8 (2 ^ 8) wide8 w16 (2 ^ 16) wide16 GroupMake parent weight low lt

group_drop_again : (group : ℕ) → group < 2 ^ 8 → group_drop_at (big_endian w8 group) ≡ Ok (GroupDrop group)
unfolding group_drop_at
group_drop_again group lt = one_again w8 (2 ^ 8) wide8 GroupDrop group lt

set_weight_again : (group weight : ℕ) → group < 2 ^ 8 → weight < 2 ^ 16 → set_weight_at (big_endian w8 group ++ big_endian w16 weight) ≡ Ok (SetWeight group weight)
unfolding set_weight_at
set_weight_again group weight low lt = two_again w8 (2 ^ 8) wide8 w16 (2 ^ 16) wide16 SetWeight group weight low lt

switch_again : (s : Scheduler) → switch_at (big_endian w8 (scheduler_number s)) ≡ Ok (Switch s)
unfolding switch_at
switch_again s = named_again scheduler_number scheduler_of_number scheduler_of_number-number Switch s (scheduler_number-below s)

undo_again : (k : ℕ) → k < 2 ^ 32 → undo_at (big_endian w32 k) ≡ Ok (Undo k)
unfolding undo_at
undo_again k lt = one_again w32 (2 ^ 32) wide32 Undo k lt

redo_again : (k : ℕ) → k < 2 ^ 32 → redo_at (big_endian w32 k) ≡ Ok (Redo k)
unfolding redo_at
redo_again k lt = one_again w32 (2 ^ 32) wide32 Redo k lt

call_again : (call : OperatorCall) → OperatorFits call → read_by operator_kinds (operator_body call) ≡ Ok call
call_again (GroupMake parent weight) fits = group_make_again parent weight fits.0 fits.1
call_again (GroupDrop group) fits = group_drop_again group fits
call_again (SetWeight group weight) fits = set_weight_again group weight fits.0 fits.1
call_again Freeze fits = ended_again Freeze
call_again Thaw fits = ended_again Thaw
call_again (Switch scheduler) fits = switch_again scheduler
call_again Tick fits = ended_again Tick
call_again Hold fits = ended_again Hold
call_again Release fits = ended_again Release
call_again (Undo k) fits = undo_again k fits
call_again (Redo k) fits = redo_again k fits
call_again Stop fits = ended_again Stop

pub operator_again : (v : Operator) → OperatorFits v.0 → operator_at (operator_body v.0) ≡ Ok v
unfolding operator_at
operator_again v fits = rw (call_again v.0 fits) refl

-- ---- lengths

length-weighed : (group weight : ℕ) → length (big_endian w8 group ++ big_endian w16 weight) ≡ 3
length-weighed group weight = omega (arith, length-append (big_endian w8 group) (big_endian w16 weight), wide8.len group, wide16.len weight)

call_in_limits : (call : OperatorCall) → OperatorFits call → (0 < length (operator_body call)) × (length (operator_body call) ≤ 32787)
call_in_limits (GroupMake parent weight) fits = (omega arith, omega (arith, length-weighed parent weight))
call_in_limits (GroupDrop group) fits = (omega arith, omega (arith, wide8.len group))
call_in_limits (SetWeight group weight) fits = (omega arith, omega (arith, length-weighed group weight))
call_in_limits Freeze fits = (omega arith, omega arith)
call_in_limits Thaw fits = (omega arith, omega arith)
call_in_limits (Switch scheduler) fits = (omega arith, omega (arith, wide8.len (scheduler_number scheduler)))
call_in_limits Tick fits = (omega arith, omega arith)
call_in_limits Hold fits = (omega arith, omega arith)
call_in_limits Release fits = (omega arith, omega arith)
call_in_limits (Undo k) fits = (omega arith, omega (arith, wide32.len k))
call_in_limits (Redo k) fits = (omega arith, omega (arith, wide32.len k))
call_in_limits Stop fits = (omega arith, omega arith)

pub operator_in_limits : (v : Operator) → OperatorFits v.0 → (0 < length (operator_body v.0)) × (length (operator_body v.0) ≤ 32787)
operator_in_limits v fits = call_in_limits v.0 fits
