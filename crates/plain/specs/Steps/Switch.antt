-- Switch: a frozen host without any request gets another scheduler (blk-mq: the queue is frozen and drained before its scheduler is
-- switched). The round robin begins again at seat 0, and every head at sector 0; if bfq is the new one, every virtual time, the times of every
-- entity in a group, and the budget of every session begin again too (our profile).
use Rattle.std.specs.Prelude.{ℕ, nat_lt, Bool, true, false, not, List, [], ◌∷◌, is_some, if◌then◌else◌}
use Rattle.plain.specs.Lists.{numbers}
use Rattle.plain.specs.Machine.{Bfq, Plain}
use Rattle.plain.specs.Opening.{Limits}
use Rattle.plain.specs.Classes.{same_times}
use Rattle.sector_core.specs.declared.config.Scheduler.{Scheduler}
use Rattle.sector_core.specs.declared.config.Scheduler.TheVariants.{Plain as PlainScheduler, Bfq as BfqScheduler}
use Rattle.plain.specs.Rules.{group_of, member_of, put_member, put_vtimes}
use Rattle.plain.specs.declared.answer.Code.TheVariants.{NotFrozen, NotDrained, SameScheduler}
use Rattle.plain.specs.declared.answer.Reply.TheVariants.{Done}
use Rattle.plain.specs.declared.answer.Answer.TheVariants.{Refused}
use Rattle.plain.specs.Tests.{StepResult, unless, accepted}
use Rattle.plain.specs.Requests.{requests_of}

-- an entity that is in a group has its start and finish at the first virtual time again (our profile)
abbrev pub with_first_times : Limits → Bfq → ℕ → Bfq
with_first_times l b entity =
    if is_some (b.parent entity)
    then put_member (group_of b entity) entity (record (member_of b entity) { start = l.first_vtime; finish = l.first_vtime }) b
    else b

-- each class of a group is at the first virtual time again (our profile)
abbrev pub with_first_vtime : Limits → Bfq → ℕ → Bfq
with_first_vtime l b group = put_vtimes group (same_times l.first_vtime) b

-- a change for one number after the other (our profile)
abbrev pub for_each : (Bfq → ℕ → Bfq) → Bfq → List ℕ → Bfq
for_each change b [] = b
for_each change b (number ∷ rest) = for_each change (change b number) rest

-- the queue of each seat has the first budget again (our profile)
abbrev pub with_first_budgets : Limits → Bfq → Bfq
with_first_budgets l b = record b { budget = λ entity. if nat_lt entity 16 then l.first_budget else b.budget entity }

-- with bfq all times and the budgets of sessions begin again, and with none all stays (our profile)
abbrev pub begun_again : Limits → Scheduler → Bfq → Bfq
begun_again l PlainScheduler b = b
begun_again l BfqScheduler b =
    with_first_budgets l (for_each (with_first_times l) (for_each (with_first_vtime l) b (numbers 0 32)) (numbers 0 48))

-- the host has the scheduler, seat 0 is the next in turn, each head is at sector 0, and times and budgets may begin again (our profile)
abbrev pub switched : Limits → Plain → Scheduler → Plain
switched l m scheduler = record m {
  scheduler = scheduler;
  served = 15;
  head = λ _. 0;
  bfq = begun_again l scheduler m.bfq;
}

-- two schedulers are the same one (our profile)
abbrev pub is_same : Scheduler → Scheduler → Bool
is_same PlainScheduler PlainScheduler = true
is_same PlainScheduler BfqScheduler = false
is_same BfqScheduler PlainScheduler = false
is_same BfqScheduler BfqScheduler = true

-- the scheduler may be switched to another one if the host is frozen and has no request (blk-mq; the refusals are our profile)
abbrev pub switch : Limits → Plain → Bool → Scheduler → StepResult
switch l m room scheduler = unless (
    (not m.frozen, Refused NotFrozen)
    ∷ (nat_lt 0 (requests_of l m), Refused NotDrained)
    ∷ (is_same scheduler m.scheduler, Refused SameScheduler)
    ∷ []) m
    (accepted room m (switched l m scheduler) Done)
