use Rattle.std.proofs.Common.{◌≡◌, slice_get, drop}
use Rattle.process_queue.specs.Merge.{bios_at}
use Rattle.dispatch_core.proofs.listed.nth_bio.Given as goal

-- so many places further on, in the slots that are left, stands the bio that is looked for
abbrev pub invariant-loop-slot : goal.invariant-loop-slot
invariant-loop-slot l = slice_get (bios_at l.pool.bios (drop l.slot-index l.fn.slots)) l.left ≡ slice_get (bios_at l.fn.pool.bios l.fn.slots) l.fn.place
