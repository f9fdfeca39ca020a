-- An entity comes into a group, and goes.
use Rattle.std.specs.Prelude.{ℕ, ◌-◌, ◌==◌, nat_le, Bool, true, false, not, ◌&&◌, List, [], ◌∷◌, None, Some, if◌then◌else◌}
use Rattle.std.specs.Option.{option_map}
use Rattle.plain.specs.Machine.{Bfq, Plain, put}
use Rattle.plain.specs.Opening.{Limits}
use Rattle.plain.specs.Classes.{with_member}
use Rattle.sector_core.specs.declared.config.Scheduler.{Scheduler}
use Rattle.sector_core.specs.declared.config.Scheduler.TheVariants.{Plain as PlainScheduler, Bfq as BfqScheduler}
use Rattle.sector_core.specs.declared.class.Class.{Class}
use Rattle.plain.specs.declared.member.State.TheVariants.{Idle}
use Rattle.plain.specs.Rules.{group_of, put_member, stands}
use Rattle.plain.specs.declared.answer.Code.TheVariants.{NoGroup, RootGroup}
use Rattle.plain.specs.declared.answer.Answer.{Answer}
use Rattle.plain.specs.declared.answer.Answer.TheVariants.{Refused}
use Rattle.plain.specs.Sessions.{unreaped, with_unreaped}
use Rattle.plain.specs.Requests.{is_gone}

-- bfq: the scheduler is bfq
abbrev pub is_bfq : Scheduler → Bool
is_bfq PlainScheduler = false
is_bfq BfqScheduler = true

-- a new entity in a group: of a class, idle, with its times at the first virtual time, and with this weight, in effect and pending (bfq has classes
-- and weights; the first times are our profile)
abbrev pub with_entity : Limits → ℕ → ℕ → Class → ℕ → Bfq → Bfq
with_entity l entity group class weight b = record (put_member group entity (record { class = class; state = Idle; start = l.first_vtime; finish = l.first_vtime; weight = weight }) b) {
  parent = put b.parent entity (Some group);
  pending = put b.pending entity weight;
}

-- an entity that is in no group any more (bfq)
abbrev pub without_entity : ℕ → Bfq → Bfq
without_entity entity b = record b {
  service = put b.service (group_of b entity) (with_member (b.service (group_of b entity)) entity None);
  parent = put b.parent entity None;
}

-- the seat of a session that leaves is free once no request of it is left, and its entity is in no group then (our profile)
abbrev pub without_gone : Limits → ℕ → Plain → Plain
without_gone l seat m = if is_gone l m seat then record m { seat = put m.seat seat None; bfq = without_entity seat m.bfq } else m

-- so many bios of the session at a seat are dropped: it is owed fewer (our profile)
abbrev pub owed_fewer : ℕ → ℕ → Plain → Plain
owed_fewer seat count m = record m { seat = put m.seat seat (option_map (with_unreaped (unreaped m seat - count)) (m.seat seat)) }

-- a weight of a group is 1 to 1000 (bfq)
abbrev pub is_weight : ℕ → Bool
is_weight weight = nat_le 1 weight && nat_le weight 1000

-- a call names a group that stands and is not the root (our profile)
abbrev pub group_tests : Plain → ℕ → List (Bool × Answer)
group_tests m group = (not (stands m.bfq group), Refused NoGroup) ∷ (group == 0, Refused RootGroup) ∷ []
