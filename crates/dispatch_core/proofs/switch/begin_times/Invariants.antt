use Rattle.std.proofs.Common.{◌≡◌, ◌+◌, ◌-◌, ◌≤◌, length}
use Rattle.std.specs.Prelude.{count_by, is_some}
use Rattle.dispatch_core.proofs.Words.{bfq_of, numbers}
use Rattle.change_record.specs.Trail.{KeepsTrail}
use Rattle.bfq_select.specs.Service.{IsSized, IsBounded}
use Rattle.plain.specs.Steps.Switch.{with_first_times, for_each}
use Rattle.plain.specs.Step.{of_sizes}
use Rattle.dispatch_core.proofs.switch.begin_times.Given as goal

-- the entities that are left make of the tables what all make of the first ones
abbrev pub invariant-loop-entity : goal.invariant-loop-entity
invariant-loop-entity l = record {
  made : for_each (with_first_times (of_sizes l.sizes)) (bfq_of l.parts.tables) (numbers l.entity (48 - l.entity)) ≡ for_each (with_first_times (of_sizes l.sizes)) (bfq_of l.fn.parts.tables) (numbers 0 48);
  others : l.parts.tables ≡ record l.fn.parts.tables { trees = l.parts.tables.trees };
  sized : IsSized l.parts.tables;
  bounded : IsBounded (bfq_of l.parts.tables);
  trail : KeepsTrail l.fn.tape.current l.fn.parts.tables l.tape.current l.parts.tables;
  steps : l.tape.steps ≡ l.fn.tape.steps;
  count : length l.tape.current + count_by (λ entity. is_some ((bfq_of l.fn.parts.tables).parent entity)) (numbers l.entity (48 - l.entity)) ≡ length l.fn.tape.current + count_by (λ entity. is_some ((bfq_of l.fn.parts.tables).parent entity)) (numbers 0 48);
  room : l.fn.tape.room ≤ l.tape.room + l.entity;
  spare : l.tape.spare ≡ l.fn.tape.spare;
}
