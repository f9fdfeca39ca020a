use Rattle.std.proofs.Common.{◌≡◌, ◌+◌, ◌-◌, ◌*◌, ◌≤◌, length}
use Rattle.change_record.specs.Trail.{KeepsTrail}
use Rattle.plain.specs.Steps.Finish.{with_blocks}
use Rattle.dispatch_core.proofs.complete.store.Given as goal

-- putting the blocks that are to come does what putting all does, and there are bytes and room for them
abbrev pub invariant-loop-sector : goal.invariant-loop-sector
invariant-loop-sector l = record {
  blocks : with_blocks l.parts.tables.overlay l.sector (l.sector-end - l.sector) l.rest ≡ with_blocks l.fn.parts.tables.overlay l.fn.range.start l.fn.range.count l.fn.payload;
  others : l.parts.tables ≡ record l.fn.parts.tables { overlay = l.parts.tables.overlay };
  trail : KeepsTrail l.fn.tape.current l.fn.parts.tables l.tape.current l.parts.tables;
  steps : l.tape.steps ≡ l.fn.tape.steps;
  room : l.fn.tape.room + l.fn.range.start ≤ l.tape.room + l.sector;
  count : length l.tape.current + l.fn.range.start ≡ length l.fn.tape.current + l.sector;
  spare : l.tape.spare ≡ l.fn.tape.spare;
  bytes : 512 * (l.sector-end - l.sector) ≤ length l.rest;
}
