use Rattle.std.proofs.Common.{◌≡◌, length, take, min, ap, ◌∙◌, arith}
use Rattle.std.proofs.lemmas.List.{take_all}
use Rattle.dispatch_core.specs.Ranges.{total_count}
use Rattle.dispatch_core.proofs.Sectors.{capped, total_small}
use Rattle.dispatch_core.proofs.dispatch.range_of_request.Goals as goal

pub returns-clause-count : goal.returns-clause-count
returns-clause-count c = λ few.
    let whole : take c.loop-slot.slot-index c.as_slice-slots.result.now ≡ c.args.request.now.bios.items =
    take_all c.loop-slot.slot-index c.as_slice-slots.result.now c.loop-slot-test.false ∙ c.as_slice-slots.ensures.value in
    capped c.args.pool.now.bios c.args.request.now.bios.items c.loop-slot.count few
    (omega (arith, c.as_slice-slots.ensures.fits, ap length c.as_slice-slots.ensures.value))
    (c.loop-slot.invariant ∙ ap (λ l. min (total_count c.args.pool.now.bios l) 4294967295) whole)

pub returns-clause-small : goal.returns-clause-small
returns-clause-small c = λ few.
    let whole : take c.loop-slot.slot-index c.as_slice-slots.result.now ≡ c.args.request.now.bios.items =
    take_all c.loop-slot.slot-index c.as_slice-slots.result.now c.loop-slot-test.false ∙ c.as_slice-slots.ensures.value in
    omega (
      arith,
      total_small c.args.pool.now.bios c.args.request.now.bios.items few (omega (arith, c.as_slice-slots.ensures.fits, ap length c.as_slice-slots.ensures.value)),
      c.loop-slot.invariant ∙ ap (λ l. min (total_count c.args.pool.now.bios l) 4294967295) whole,
    )
