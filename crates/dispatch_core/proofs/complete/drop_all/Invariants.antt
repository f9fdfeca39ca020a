use Rattle.std.proofs.Common.{◌≡◌, ◌+◌, ◌≤◌, length, drop}
use Rattle.change_record.specs.Trail.{KeepsTrail}
use Rattle.dispatch_core.specs.Counts.{blocks_put}
use Rattle.dispatch_core.specs.Ranges.{total_count}
use Rattle.dispatch_core.specs.Ready.{IsReady}
use Rattle.dispatch_core.proofs.Dropping.{all_dropped}
use Rattle.dispatch_core.proofs.complete.drop_all.Given as goal

-- dropping the bios that are to come does what dropping all does, and they are ready for it
abbrev pub invariant-loop-slot : goal.invariant-loop-slot
invariant-loop-slot l = record {
  tables : all_dropped l.fn.effect l.parts.tables (drop l.slot-index l.slots) ≡ all_dropped l.fn.effect l.fn.parts.tables l.fn.slots;
  ready : IsReady l.parts.tables.bios (drop l.slot-index l.slots) l.fn.effect;
  trail : KeepsTrail l.fn.tape.current l.fn.parts.tables l.tape.current l.parts.tables;
  steps : l.tape.steps ≡ l.fn.tape.steps;
  room : l.fn.tape.room + (total_count l.parts.tables.bios (drop l.slot-index l.slots) + length (drop l.slot-index l.slots)) ≤ l.tape.room + (total_count l.fn.parts.tables.bios l.fn.slots + length l.fn.slots);
  count : length l.tape.current + (length (drop l.slot-index l.slots) + blocks_put l.fn.effect (total_count l.parts.tables.bios (drop l.slot-index l.slots))) ≡ length l.fn.tape.current + (length l.fn.slots + blocks_put l.fn.effect (total_count l.fn.parts.tables.bios l.fn.slots));
  spare : l.tape.spare ≡ l.fn.tape.spare;
}
