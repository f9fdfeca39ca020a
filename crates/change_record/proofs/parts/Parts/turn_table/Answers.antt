use Rattle.std.proofs.Common.{◌≡◌, refl, ap, rules}
use Rattle.change_record.specs.Tables.{Tables, Loose}
use Rattle.change_record.specs.Exchange.{after, left_by}
use Rattle.change_record.specs.declared.change.Change.{Change}
use Rattle.change_record.proofs.parts.Parts.turn_table.Goals as goal

-- the tables after an exchange, and what it leaves, where the tables and the change are known by their parts
after_of : {t : Tables} {inside now : Loose} {change arm : Change} → inside ≡ now → change ≡ arm →
    t ≡ after inside.tables arm → t ≡ after now.tables change
after_of view is known = rw (← view, is) known

left_of : {left change arm : Change} {inside now : Loose} → inside ≡ now → change ≡ arm →
    left ≡ left_by inside.tables arm → left ≡ left_by now.tables change
left_of view is known = rw (← view, is) known

turns_of : {inside now : Loose} → inside ≡ now → inside.turns ≡ now.turns
turns_of view = ap (λ (loose : Loose). loose.turns) view

pub returns-in-RequestSlot-clause-tables : goal.returns-in-RequestSlot-clause-tables
returns-in-RequestSlot-clause-tables c = after_of c.self.view_is c.in-RequestSlot.is (rw c.swap_request.ensures.pool refl)

pub returns-in-RequestSlot-clause-left : goal.returns-in-RequestSlot-clause-left
returns-in-RequestSlot-clause-left c = left_of c.self.view_is c.in-RequestSlot.is (rw c.swap_request.ensures.left refl)

pub returns-in-RequestSlot-clause-turns : goal.returns-in-RequestSlot-clause-turns
returns-in-RequestSlot-clause-turns c = turns_of c.self.view_is

pub returns-in-BioSlot-clause-tables : goal.returns-in-BioSlot-clause-tables
returns-in-BioSlot-clause-tables c = after_of c.self.view_is c.in-BioSlot.is (rw c.swap_bio.ensures.pool refl)

pub returns-in-BioSlot-clause-left : goal.returns-in-BioSlot-clause-left
returns-in-BioSlot-clause-left c = left_of c.self.view_is c.in-BioSlot.is (rw c.swap_bio.ensures.left refl)

pub returns-in-BioSlot-clause-turns : goal.returns-in-BioSlot-clause-turns
returns-in-BioSlot-clause-turns c = turns_of c.self.view_is

pub returns-in-Tag-clause-tables : goal.returns-in-Tag-clause-tables
returns-in-Tag-clause-tables c = after_of c.self.view_is c.in-Tag.is (rw c.exchange.ensures.new refl)

pub returns-in-Tag-clause-left : goal.returns-in-Tag-clause-left
returns-in-Tag-clause-left c = left_of c.self.view_is c.in-Tag.is (rw c.exchange.ensures.old refl)

pub returns-in-Tag-clause-turns : goal.returns-in-Tag-clause-turns
returns-in-Tag-clause-turns c = turns_of c.self.view_is

pub returns-in-QueueLink-clause-tables : goal.returns-in-QueueLink-clause-tables
returns-in-QueueLink-clause-tables c = after_of c.self.view_is c.in-QueueLink.is (rw c.exchange_link.ensures.queues refl)

pub returns-in-QueueLink-clause-left : goal.returns-in-QueueLink-clause-left
returns-in-QueueLink-clause-left c = left_of c.self.view_is c.in-QueueLink.is (rw c.exchange_link.ensures.left refl)

pub returns-in-QueueLink-clause-turns : goal.returns-in-QueueLink-clause-turns
returns-in-QueueLink-clause-turns c = turns_of c.self.view_is

pub returns-in-OutboxWhole-clause-tables : goal.returns-in-OutboxWhole-clause-tables
returns-in-OutboxWhole-clause-tables c = after_of c.self.view_is c.in-OutboxWhole.is (rw c.swap_at.ensures.table refl)

pub returns-in-OutboxWhole-clause-left : goal.returns-in-OutboxWhole-clause-left
returns-in-OutboxWhole-clause-left c = left_of c.self.view_is c.in-OutboxWhole.is (rw c.swap_at.ensures.left refl)

pub returns-in-OutboxWhole-clause-turns : goal.returns-in-OutboxWhole-clause-turns
returns-in-OutboxWhole-clause-turns c = turns_of c.self.view_is

pub returns-in-SeatEntry-clause-tables : goal.returns-in-SeatEntry-clause-tables
returns-in-SeatEntry-clause-tables c = after_of c.self.view_is c.in-SeatEntry.is (rw c.swap_at-in-SeatEntry.ensures.table refl)

pub returns-in-SeatEntry-clause-left : goal.returns-in-SeatEntry-clause-left
returns-in-SeatEntry-clause-left c = left_of c.self.view_is c.in-SeatEntry.is (rw c.swap_at-in-SeatEntry.ensures.left refl)

pub returns-in-SeatEntry-clause-turns : goal.returns-in-SeatEntry-clause-turns
returns-in-SeatEntry-clause-turns c = turns_of c.self.view_is

pub returns-in-Requeued-clause-tables : goal.returns-in-Requeued-clause-tables
returns-in-Requeued-clause-tables c = after_of c.self.view_is c.in-Requeued.is (rw c.exchange_link-in-Requeued.ensures.queues refl)

pub returns-in-Requeued-clause-left : goal.returns-in-Requeued-clause-left
returns-in-Requeued-clause-left c = left_of c.self.view_is c.in-Requeued.is (rw c.exchange_link-in-Requeued.ensures.left refl)

pub returns-in-Requeued-clause-turns : goal.returns-in-Requeued-clause-turns
returns-in-Requeued-clause-turns c = turns_of c.self.view_is

pub returns-in-Mode-clause-turns : goal.returns-in-Mode-clause-turns
returns-in-Mode-clause-turns c = turns_of c.self.view_is

pub returns-in-Head-clause-tables : goal.returns-in-Head-clause-tables
returns-in-Head-clause-tables c = after_of c.self.view_is c.in-Head.is (rw c.swap_at-in-Head.ensures.table refl)

pub returns-in-Head-clause-left : goal.returns-in-Head-clause-left
returns-in-Head-clause-left c = left_of c.self.view_is c.in-Head.is (rw c.swap_at-in-Head.ensures.left refl)

pub returns-in-Head-clause-turns : goal.returns-in-Head-clause-turns
returns-in-Head-clause-turns c = turns_of c.self.view_is

pub returns-in-TreeMember-clause-tables : goal.returns-in-TreeMember-clause-tables
returns-in-TreeMember-clause-tables c = after_of c.self.view_is c.in-TreeMember.is (rw c.exchange_member.ensures.trees refl)

pub returns-in-TreeMember-clause-left : goal.returns-in-TreeMember-clause-left
returns-in-TreeMember-clause-left c = left_of c.self.view_is c.in-TreeMember.is (rw c.exchange_member.ensures.left refl)

pub returns-in-TreeMember-clause-turns : goal.returns-in-TreeMember-clause-turns
returns-in-TreeMember-clause-turns c = turns_of c.self.view_is

pub returns-in-Vtime-clause-tables : goal.returns-in-Vtime-clause-tables
returns-in-Vtime-clause-tables c = after_of c.self.view_is c.in-Vtime.is (rw c.exchange_vtimes.ensures.trees refl)

pub returns-in-Vtime-clause-left : goal.returns-in-Vtime-clause-left
returns-in-Vtime-clause-left c = left_of c.self.view_is c.in-Vtime.is (rw c.exchange_vtimes.ensures.left refl)

pub returns-in-Vtime-clause-turns : goal.returns-in-Vtime-clause-turns
returns-in-Vtime-clause-turns c = turns_of c.self.view_is

pub returns-in-GroupEntry-clause-tables : goal.returns-in-GroupEntry-clause-tables
returns-in-GroupEntry-clause-tables c = after_of c.self.view_is c.in-GroupEntry.is (rw c.exchange_group.ensures.new refl)

pub returns-in-GroupEntry-clause-left : goal.returns-in-GroupEntry-clause-left
returns-in-GroupEntry-clause-left c = left_of c.self.view_is c.in-GroupEntry.is (rw c.exchange_group.ensures.old refl)

pub returns-in-GroupEntry-clause-turns : goal.returns-in-GroupEntry-clause-turns
returns-in-GroupEntry-clause-turns c = turns_of c.self.view_is

pub returns-in-Pending-clause-tables : goal.returns-in-Pending-clause-tables
returns-in-Pending-clause-tables c = after_of c.self.view_is c.in-Pending.is (rw c.swap_at-in-Pending.ensures.table refl)

pub returns-in-Pending-clause-left : goal.returns-in-Pending-clause-left
returns-in-Pending-clause-left c = left_of c.self.view_is c.in-Pending.is (rw c.swap_at-in-Pending.ensures.left refl)

pub returns-in-Pending-clause-turns : goal.returns-in-Pending-clause-turns
returns-in-Pending-clause-turns c = turns_of c.self.view_is

pub returns-in-Budget-clause-tables : goal.returns-in-Budget-clause-tables
returns-in-Budget-clause-tables c = after_of c.self.view_is c.in-Budget.is (rw c.swap_at-in-Budget.ensures.table refl)

pub returns-in-Budget-clause-left : goal.returns-in-Budget-clause-left
returns-in-Budget-clause-left c = left_of c.self.view_is c.in-Budget.is (rw c.swap_at-in-Budget.ensures.left refl)

pub returns-in-Budget-clause-turns : goal.returns-in-Budget-clause-turns
returns-in-Budget-clause-turns c = turns_of c.self.view_is

pub returns-in-Serving-clause-turns : goal.returns-in-Serving-clause-turns
returns-in-Serving-clause-turns c = turns_of c.self.view_is

pub returns-in-Mode-clause-tables : goal.returns-in-Mode-clause-tables
returns-in-Mode-clause-tables c = after_of c.self.view_is c.in-Mode.is (search rules)

pub returns-in-Mode-clause-left : goal.returns-in-Mode-clause-left
returns-in-Mode-clause-left c = left_of c.self.view_is c.in-Mode.is (search rules)

pub returns-in-Serving-clause-tables : goal.returns-in-Serving-clause-tables
returns-in-Serving-clause-tables c = after_of c.self.view_is c.in-Serving.is (rw c.swap-in-Serving.ensures.x_after refl)

pub returns-in-Serving-clause-left : goal.returns-in-Serving-clause-left
returns-in-Serving-clause-left c = left_of c.self.view_is c.in-Serving.is (rw c.swap-in-Serving.ensures.y_after refl)
