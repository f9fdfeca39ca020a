-- A machine before its first step.
use Rattle.std.specs.Prelude.{ℕ, false, [], None, replicate, nat_lt, if◌then◌else◌}
use Rattle.std.specs.FinMap as blocks
use Rattle.sector_core.specs.declared.config.Scheduler.{Scheduler}
use Rattle.plain.specs.Classes.{Classes, same_times}
use Rattle.plain.specs.Machine.{Bfq, Plain}

-- a group without a member, at one virtual time in each class (B-WF2Q+; the 48 places by number are our profile)
abbrev pub empty_service : ℕ → Classes
empty_service vtime = record { vtimes = same_times vtime; members = replicate 48 None }

-- what a machine is made for: its sizes, its scheduler, and the numbers that it begins with (our profile)
pub record Limits : Type 0 where
  -- how many sectors the image has (our profile)
  pub sectors : ℕ
  -- how many requests there may be at a time, Linux's `nr_requests` (blk-mq; one number for the whole host is our profile)
  pub requests : ℕ
  -- how many tags the device has, so how many requests may be in flight (blk-mq)
  pub tags : ℕ
  -- the scheduler that the machine begins with (blk-mq)
  pub scheduler : Scheduler
  -- the budget of a session's queue at first, in sectors (bfq; the number is our profile)
  pub first_budget : ℕ
  -- the greatest budget, in sectors (bfq)
  pub max_budget : ℕ
  -- after how many ticks in service a queue is due to expire (bfq has a timeout; ticks are our profile)
  pub timeout : ℕ
  -- the virtual time at which all begins (our profile)
  pub first_vtime : ℕ

-- bfq before the first step: the root alone, without a member; a group's budget is always the greatest one (our profile)
abbrev pub opening_bfq : Limits → Bfq
opening_bfq l = record {
  parent = λ _. None;
  service = λ group. if nat_lt group 32 then empty_service l.first_vtime else record { vtimes = same_times 0; members = [] };
  pending = λ _. 1;
  budget = λ entity. if nat_lt entity 16 then l.first_budget else if nat_lt entity 48 then l.max_budget else 256;
  in_service = None;
}

-- a machine before its first step: it has no session, request or stored block, and seat 0 is the first in turn (our profile)
abbrev pub opening : Limits → Plain
opening l = record {
  overlay = blocks.empty;
  seat = λ _. None;
  queue = λ _. [];
  requeued = [];
  outbox = λ _. [];
  flight = λ _. None;
  frozen = false;
  served = 15;
  head = λ _. 0;
  bfq = opening_bfq l;
  scheduler = l.scheduler;
}
