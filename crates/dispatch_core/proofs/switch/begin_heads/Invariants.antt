use Rattle.std.proofs.Common.{◌≡◌, ℕ, ◌+◌, ◌<◌, ◌≤◌, length, slice_index_or}
use Rattle.change_record.specs.Trail.{KeepsTrail}
use Rattle.dispatch_core.proofs.switch.begin_heads.Given as goal

-- the heads before this one are at the first sector
abbrev pub invariant-loop-seat : goal.invariant-loop-seat
invariant-loop-seat l = record {
  made : (k : ℕ) → k < l.seat → slice_index_or l.parts.tables.heads k 0 ≡ 0;
  others : l.parts.tables ≡ record l.fn.parts.tables { heads = l.parts.tables.heads };
  heads : length l.parts.tables.heads ≡ 16;
  trail : KeepsTrail l.fn.tape.current l.fn.parts.tables l.tape.current l.parts.tables;
  steps : l.tape.steps ≡ l.fn.tape.steps;
  count : length l.tape.current ≡ length l.fn.tape.current + l.seat;
  room : l.fn.tape.room ≤ l.tape.room + l.seat;
  spare : l.tape.spare ≡ l.fn.tape.spare;
}
