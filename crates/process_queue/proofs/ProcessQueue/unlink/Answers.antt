use Rattle.std.proofs.Common.{arith}
use Rattle.process_queue.proofs.Stored.{unlinked_stored}
use Rattle.process_queue.proofs.ProcessQueue.unlink.Goals as goal

pub invariant_of-self : goal.invariant_of-self
invariant_of-self c =
    unlinked_stored c.self.inside.links.items c.self.inside.sides.items c.self.inside.ends.items c.self.inside.queued c.args.slot _ _ _ _ _ _ _ _ _ _ _ _ _ _ c.self.invariant
    c.as_mut_slice.ensures.value c.as_mut_slice-2.ensures.value c.as_mut_slice-3.ensures.value
    c.unlink_at-old.ensures.links c.unlink_at-old.ensures.sides c.unlink_at-old.ensures.ends
    (omega (arith, c.unlink_at-old.auto.links, c.as_mut_slice.ensures.len)) (omega (arith, c.unlink_at-old.auto.sides, c.as_mut_slice-2.ensures.len)) (omega (arith, c.unlink_at-old.auto.ends, c.as_mut_slice-3.ensures.len)) c.unlink_at-old.ensures.old c.fewer-self-inside.ensures
