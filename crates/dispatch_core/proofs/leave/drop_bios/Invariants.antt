use Rattle.std.proofs.Common.{◌≡◌, ◌+◌, ◌≤◌, length, drop}
use Rattle.change_record.specs.Trail.{KeepsTrail}
use Rattle.dispatch_core.specs.Changes.{without_bios}
use Rattle.dispatch_core.proofs.leave.drop_bios.Given as goal

-- without the bios that are to go it is without all
abbrev pub invariant-loop-slot : goal.invariant-loop-slot
invariant-loop-slot l = record {
  tables : record l.parts.tables { bios = without_bios l.parts.tables.bios (drop l.slot-index l.slots) } ≡ record l.fn.parts.tables { bios = without_bios l.fn.parts.tables.bios l.fn.slots };
  trail : KeepsTrail l.fn.tape.current l.fn.parts.tables l.tape.current l.parts.tables;
  steps : l.tape.steps ≡ l.fn.tape.steps;
  room : l.fn.tape.room + length (drop l.slot-index l.slots) ≤ l.tape.room + length l.fn.slots;
  count : length l.tape.current + length (drop l.slot-index l.slots) ≡ length l.fn.tape.current + length l.fn.slots;
  spare : l.tape.spare ≡ l.fn.tape.spare;
}
