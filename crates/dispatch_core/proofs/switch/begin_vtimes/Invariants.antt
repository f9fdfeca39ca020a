use Rattle.std.proofs.Common.{◌≡◌, ◌+◌, ◌-◌, ◌≤◌, length}
use Rattle.dispatch_core.proofs.Words.{bfq_of, numbers}
use Rattle.change_record.specs.Trail.{KeepsTrail}
use Rattle.bfq_select.specs.Service.{IsSized, IsBounded}
use Rattle.plain.specs.Steps.Switch.{with_first_vtime, for_each}
use Rattle.plain.specs.Step.{of_sizes}
use Rattle.dispatch_core.proofs.switch.begin_vtimes.Given as goal

-- the groups that are left make of the tables what all make of the first ones
abbrev pub invariant-loop-group : goal.invariant-loop-group
invariant-loop-group l = record {
  made : for_each (with_first_vtime (of_sizes l.sizes)) (bfq_of l.parts.tables) (numbers l.group (32 - l.group)) ≡ for_each (with_first_vtime (of_sizes l.sizes)) (bfq_of l.fn.parts.tables) (numbers 0 32);
  others : l.parts.tables ≡ record l.fn.parts.tables { trees = l.parts.tables.trees };
  sized : IsSized l.parts.tables;
  bounded : IsBounded (bfq_of l.parts.tables);
  trail : KeepsTrail l.fn.tape.current l.fn.parts.tables l.tape.current l.parts.tables;
  steps : l.tape.steps ≡ l.fn.tape.steps;
  count : length l.tape.current ≡ length l.fn.tape.current + l.group;
  room : l.fn.tape.room ≤ l.tape.room + l.group;
  spare : l.tape.spare ≡ l.fn.tape.spare;
}
