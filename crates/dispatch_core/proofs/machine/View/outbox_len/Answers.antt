use Rattle.std.proofs.Common.{length, ◌∙◌, ap}
use Rattle.change_record.specs.Machine.{outbox_at}
use Rattle.plain.specs.Step.{of_sizes}
use Rattle.dispatch_core.proofs.Looks.{length-outbox}
use Rattle.dispatch_core.proofs.machine.View.outbox_len.Goals as goal

pub returns : goal.returns
returns c = λ n w.
    ap length c.outbox_slots.ensures.slots
    ∙ ap (λ m. length (outbox_at m.tables.outboxes c.args.seat)) (c.machine.view_is ∙ c.self.view_is)
    ∙ length-outbox (of_sizes c.args.self.now.sizes) n c.args.self.now.tables c.args.seat w.0
