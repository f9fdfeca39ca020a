use Rattle.std.proofs.Common.{◌≡◌, ◌+◌, ◌*◌, ◌≤◌, ◌^◌, drop}
use Rattle.dispatch_core.proofs.Words.{bios_at, size_of}
use Rattle.dispatch_core.proofs.listed.size_of.Given as goal

-- with the sectors of the slots that are left it is the whole
abbrev pub invariant-loop-slot : goal.invariant-loop-slot
invariant-loop-slot l = record {
  whole : l.size + size_of (bios_at l.pool.bios (drop l.slot-index l.fn.slots)) ≡ size_of (bios_at l.fn.pool.bios l.fn.slots);
  small : l.size ≤ l.slot-index * 2 ^ 32;
}
