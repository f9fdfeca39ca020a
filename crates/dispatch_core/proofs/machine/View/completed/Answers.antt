use Rattle.std.proofs.Common.{length, ap, ◌∙◌, arith}
use Rattle.change_record.specs.Machine.{outbox_at}
use Rattle.dispatch_core.proofs.Listing.{few_bios}
use Rattle.dispatch_core.proofs.machine.View.completed.Goals as goal

pub returns-clause-few : goal.returns-clause-few
returns-clause-few c =
    let t = c.args.self.now.tables in
    let same = ap length (c.outbox_slots.ensures.slots ∙ ap (λ m. outbox_at m.tables.outboxes c.args.seat) (c.machine.view_is ∙ c.self.view_is)) in
    omega (arith, same, few_bios t.bios (outbox_at t.outboxes c.args.seat), c.outbox_slots.ensures.few)
