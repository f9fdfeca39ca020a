use Rattle.std.proofs.Common.{◌≡◌, ◌+◌, ◌≤◌, ◌%◌, ◌^◌, ◌++◌, length, take, drop}
use Rattle.change_record.specs.Exchange.{back_tables, back_left, FitBack}
use Rattle.change_record.proofs.turns.turn_back.Given as goal

-- turning back what is left does what turning back all does
abbrev pub invariant-loop-i : goal.invariant-loop-i
invariant-loop-i l = record {
  within : l.i ≤ length l.changes;
  tables : back_tables (take l.i l.changes) l.parts.tables ≡ back_tables l.fn.changes l.fn.parts.tables;
  left : back_left (take l.i l.changes) l.parts.tables ++ drop l.i l.changes ≡ back_left l.fn.changes l.fn.parts.tables;
  fits : FitBack (take l.i l.changes) l.parts.tables;
  turns : (l.parts.turns + l.i) % 2 ^ 64 ≡ (l.fn.parts.turns + length l.fn.changes) % 2 ^ 64;
}

abbrev pub decreases-loop-i : goal.decreases-loop-i
decreases-loop-i l = l.i
