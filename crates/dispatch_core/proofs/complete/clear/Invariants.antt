use Rattle.std.proofs.Common.{◌≡◌, ◌+◌, ◌-◌, ◌≤◌, length}
use Rattle.change_record.specs.Trail.{KeepsTrail}
use Rattle.plain.specs.Steps.Finish.{with_zeros}
use Rattle.dispatch_core.proofs.complete.clear.Given as goal

-- putting the blocks that are to come does what putting all does, and there is room for them
abbrev pub invariant-loop-sector : goal.invariant-loop-sector
invariant-loop-sector l = record {
  blocks : with_zeros l.parts.tables.overlay l.sector (l.sector-end - l.sector) ≡ with_zeros l.fn.parts.tables.overlay l.fn.range.start l.fn.range.count;
  others : l.parts.tables ≡ record l.fn.parts.tables { overlay = l.parts.tables.overlay };
  trail : KeepsTrail l.fn.tape.current l.fn.parts.tables l.tape.current l.parts.tables;
  steps : l.tape.steps ≡ l.fn.tape.steps;
  room : l.fn.tape.room + l.fn.range.start ≤ l.tape.room + l.sector;
  count : length l.tape.current + l.fn.range.start ≡ length l.fn.tape.current + l.sector;
  spare : l.tape.spare ≡ l.fn.tape.spare;
}
