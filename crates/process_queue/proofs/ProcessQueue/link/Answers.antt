use Rattle.std.proofs.Common.{◌≡◌, ◌<◌, ◌∙◌, List, Option, None, Some, length, get_or, set, ap, arith}
use Rattle.std.proofs.lemmas.List.{length-set}
use Rattle.process_queue.specs.declared.Link.{Link}
use Rattle.process_queue.proofs.Linked.{free_at}
use Rattle.process_queue.proofs.Counts.{linked-most}
use Rattle.process_queue.proofs.Stored.{link_is, linked_stored}
use Rattle.process_queue.proofs.ProcessQueue.link.Goals as goal

pub invariant_of-self : goal.invariant_of-self
invariant_of-self c =
    let free : c.self.inside.links.items ≡ set c.args.self.now c.args.slot None = c.self.view_is ∙ c.unlink-old.ensures.new in
    let within : c.args.slot < length c.self.inside.links.items = (
    let a = ap length free in let b = length-set c.args.self.now c.args.slot None in let d = c.if-from-slots.false in let e = c.slots.ensures in let f = c.from.ensures in
    omega (arith, a, b, d, e, f)) in
    linked_stored c.self.inside.links.items c.self.inside.sides.items c.self.inside.ends.items c.self.inside.queued c.args.slot (record { seat = c.args.seat; serial = c.args.serial }) _ _ _ _ _ _ _ _ _ _ _ _ c.self.invariant
    (ap (λ (ls : List (Option Link)). get_or ls c.args.slot None) free ∙ free_at c.args.self.now c.args.slot) within (omega (arith, c.ranges.seat))
    c.as_mut_slice.ensures.value c.as_mut_slice-2.ensures.value c.as_mut_slice-3.ensures.value
    c.link_free.ensures.links c.link_free.ensures.sides c.link_free.ensures.ends
    (omega (arith, c.link_free.auto.links, c.as_mut_slice.ensures.len)) (omega (arith, c.link_free.auto.sides, c.as_mut_slice-2.ensures.len)) (omega (arith, c.link_free.auto.ends, c.as_mut_slice-3.ensures.len))

pub returns-clause-new : goal.returns-clause-new
returns-clause-new c =
    link_is c.args.self.now c.unlink-old.new.self _ _ _ c.args.slot _ (Some (record { seat = c.args.seat; serial = c.args.serial })) c.unlink-old.ensures.new
    (c.as_mut_slice.ensures.value ∙ c.self.view_is) c.link_free.ensures.links (omega (arith, c.link_free.auto.links, c.as_mut_slice.ensures.len))

pub overflow_add-self : goal.overflow_add-self
overflow_add-self c =
    let a = linked-most c.self.inside.links.items in let b = c.self.invariant.few in let d = c.self.invariant.count in
    omega (arith, a, b, d)
