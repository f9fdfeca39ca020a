use Rattle.std.proofs.Common.{◌≡◌, ℕ, ◌+◌, ◌≤◌, nat_lt, if◌then◌else◌, length}
use Rattle.change_record.specs.Machine.{bfq_of}
use Rattle.change_record.specs.Trail.{KeepsTrail}
use Rattle.bfq_select.specs.Service.{IsSized, IsBounded}
use Rattle.dispatch_core.proofs.switch.begin_budgets.Given as goal

-- the sessions before this one have their first budget
abbrev pub invariant-loop-seat : goal.invariant-loop-seat
invariant-loop-seat l = record {
  made : (k : ℕ) → (bfq_of l.parts.tables).budget k ≡ (if nat_lt k l.seat then l.sizes.first_budget else (bfq_of l.fn.parts.tables).budget k);
  others : l.parts.tables ≡ record l.fn.parts.tables { budgets = l.parts.tables.budgets };
  sized : IsSized l.parts.tables;
  bounded : IsBounded (bfq_of l.parts.tables);
  trail : KeepsTrail l.fn.tape.current l.fn.parts.tables l.tape.current l.parts.tables;
  steps : l.tape.steps ≡ l.fn.tape.steps;
  count : length l.tape.current ≡ length l.fn.tape.current + l.seat;
  room : l.fn.tape.room ≤ l.tape.room + l.seat;
  spare : l.tape.spare ≡ l.fn.tape.spare;
}
