-- Attach: a session begins, named by the step's serial; its entity is new in its group, of the class that is asked for, and its weight comes
-- from its priority.
use Rattle.std.specs.Prelude.{ℕ, ◌-◌, ◌*◌, nat_le, nat_lt, Bool, false, not, [], ◌∷◌, Some, is_some}
use Rattle.plain.specs.Machine.{Plain, put}
use Rattle.plain.specs.Opening.{Limits}
use Rattle.sector_core.specs.declared.class.Class.{Class}
use Rattle.plain.specs.Rules.{stands}
use Rattle.plain.specs.declared.answer.Code.TheVariants.{BadSeat, SeatTaken, NoGroup, BadPrio}
use Rattle.plain.specs.declared.answer.Reply.TheVariants.{Attached}
use Rattle.plain.specs.declared.answer.Answer.TheVariants.{Refused}
use Rattle.plain.specs.Tests.{StepResult, unless, accepted}
use Rattle.plain.specs.Sessions.{unreaped}
use Rattle.plain.specs.Entities.{with_entity}

-- bfq: a session's weight by its priority, 80 for the first and 10 for the last
abbrev pub prio_weight : ℕ → ℕ
prio_weight prio = (8 - prio) * 10

-- a session sits at the seat with no bio; its head is at sector 0, and its new entity has the first budget (our profile; the weight is bfq's)
abbrev pub attached : Limits → Plain → ℕ → ℕ → ℕ → ℕ → Class → Plain
attached l m n seat group prio class = record m {
  seat = put m.seat seat (Some (record { session = n; prio = prio; unreaped = 0; leaving = false }));
  head = put m.head seat 0;
  bfq = record (with_entity l seat group class (prio_weight prio) m.bfq) { budget = put m.bfq.budget seat l.first_budget };
}

-- a session may begin at a free seat that there is, in a group that stands, with a priority of 0 to 7 (our profile)
abbrev pub attach : Limits → Plain → ℕ → Bool → ℕ → ℕ → ℕ → Class → StepResult
attach l m n room seat group prio class = unless (
    (nat_le 16 seat, Refused BadSeat)
    ∷ (is_some (m.seat seat), Refused SeatTaken)
    ∷ (not (stands m.bfq group), Refused NoGroup)
    ∷ (nat_lt 7 prio, Refused BadPrio)
    ∷ []) m
    (accepted room m (attached l m n seat group prio class) (Attached n))
