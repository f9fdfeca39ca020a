use Rattle.std.proofs.Common.{◌≡◌, take, min}
use Rattle.dispatch_core.specs.Ranges.{total_count}
use Rattle.dispatch_core.proofs.dispatch.range_of_request.Given as goal

abbrev pub invariant-loop-slot : goal.invariant-loop-slot
invariant-loop-slot l = l.count ≡ min (total_count l.pool.bios (take l.slot-index l.slots)) 4294967295
