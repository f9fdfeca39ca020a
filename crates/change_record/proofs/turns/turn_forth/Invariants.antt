use Rattle.std.proofs.Common.{◌≡◌, ◌+◌, ◌%◌, ◌^◌, ◌++◌, take, drop}
use Rattle.change_record.specs.Exchange.{forth_tables, forth_left}
use Rattle.change_record.proofs.turns.turn_forth.Given as goal

-- the changes before this one have been turned, and each has left what stood at its place
abbrev pub invariant-loop-i : goal.invariant-loop-i
invariant-loop-i l = record {
  tables : l.parts.tables ≡ forth_tables (take l.i l.fn.changes) l.fn.parts.tables;
  changes : l.changes ≡ forth_left (take l.i l.fn.changes) l.fn.parts.tables ++ drop l.i l.fn.changes;
  turns : l.parts.turns % 2 ^ 64 ≡ (l.fn.parts.turns + l.i) % 2 ^ 64;
}
