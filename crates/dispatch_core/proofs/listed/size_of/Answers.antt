use Rattle.std.proofs.Common.{arith}
use Rattle.dispatch_core.proofs.Listing.{size_more}
use Rattle.dispatch_core.proofs.listed.size_of.Goals as goal

pub overflow_add-size : goal.overflow_add-size
overflow_add-size c = omega (arith, c.loop-slot.invariant.small, c.loop-slot-test.true, c.requires)

pub loop-slot-preserved : goal.loop-slot-preserved
loop-slot-preserved c =
    let more = size_more c.args.pool.now.bios c.args.slots.now c.loop-slot.slot-index c.loop-slot-test.true in
    record {
      whole = omega (arith, more, c.loop-slot.invariant.whole, c.count_of.ensures, c.from-size.ensures);
      small = omega (arith, c.loop-slot.invariant.small);
    }
