use Rattle.std.proofs.Common.{true, false, ◌≡◌, ◌+◌, nat_le, nat_lt, Some, None, not, rules}
use Rattle.dispatch_core.proofs.Words.{bfq_of, expire, meaning, is_empty, queue_slots}
use Rattle.plain.specs.declared.seat.Expiry.TheVariants.{Exhaustion, Timeout}
use Rattle.plain.specs.Step.{of_sizes}
use Rattle.dispatch_core.proofs.Ruling.{served-well}
use Rattle.dispatch_core.proofs.NextSlot.{expire_slot, no_slot_young}
use Rattle.plain.specs.Steps.Dispatch.{next_size}
use Rattle.dispatch_core.proofs.NextServed.{refused_by}
use Rattle.dispatch_core.proofs.RoomMade.{room_late, room_full}
use Rattle.dispatch_core.proofs.dispatch_by_bfq.make_room.Goals as goal

pub returns-in_ok-expire-clause-well : goal.returns-in_ok-expire-clause-well
returns-in_ok-expire-clause-well c =
    let made : expire Timeout c.args.sizes.max_budget (not c.is_empty-queued.result) (bfq_of c.args.parts.now.tables) ≡ Some (bfq_of c.expire.new.parts.tables) = c.in_ok-expire.ensures.made in
    let none : c.expire.new.parts.tables.in_service ≡ None = expire_slot Timeout c.args.sizes.max_budget (not c.is_empty-queued.result) (bfq_of c.args.parts.now.tables) (bfq_of c.expire.new.parts.tables) made in
    served-well (of_sizes c.args.sizes) c.args.serial c.args.parts.now.tables c.expire.new.parts.tables c.expire.ensures.others c.requires.well c.expire.ensures.sized c.expire.ensures.bounded
    (no_slot_young c.args.serial c.expire.new.parts.tables.in_service none)

pub returns-in_ok-expire-clause-fits : goal.returns-in_ok-expire-clause-fits
returns-in_ok-expire-clause-fits c = λ slot e.
    let made : expire Timeout c.args.sizes.max_budget (not c.is_empty-queued.result) (bfq_of c.args.parts.now.tables) ≡ Some (bfq_of c.expire.new.parts.tables) = c.in_ok-expire.ensures.made in
    let none : c.expire.new.parts.tables.in_service ≡ None = expire_slot Timeout c.args.sizes.max_budget (not c.is_empty-queued.result) (bfq_of c.args.parts.now.tables) (bfq_of c.expire.new.parts.tables) made in
    absurd cc

pub returns-in_ok-expire-2-clause-well : goal.returns-in_ok-expire-2-clause-well
returns-in_ok-expire-2-clause-well c =
    let made : expire Exhaustion c.args.sizes.max_budget (not c.is_empty-queued.result) (bfq_of c.args.parts.now.tables) ≡ Some (bfq_of c.expire-then-slot-size.new.parts.tables) = c.in_ok-expire-2.ensures.made in
    let none : c.expire-then-slot-size.new.parts.tables.in_service ≡ None = expire_slot Exhaustion c.args.sizes.max_budget (not c.is_empty-queued.result) (bfq_of c.args.parts.now.tables) (bfq_of c.expire-then-slot-size.new.parts.tables) made in
    served-well (of_sizes c.args.sizes) c.args.serial c.args.parts.now.tables c.expire-then-slot-size.new.parts.tables c.expire-then-slot-size.ensures.others c.requires.well c.expire-then-slot-size.ensures.sized c.expire-then-slot-size.ensures.bounded
    (no_slot_young c.args.serial c.expire-then-slot-size.new.parts.tables.in_service none)

pub returns-in_ok-expire-2-clause-fits : goal.returns-in_ok-expire-2-clause-fits
returns-in_ok-expire-2-clause-fits c = λ slot e.
    let made : expire Exhaustion c.args.sizes.max_budget (not c.is_empty-queued.result) (bfq_of c.args.parts.now.tables) ≡ Some (bfq_of c.expire-then-slot-size.new.parts.tables) = c.in_ok-expire-2.ensures.made in
    let none : c.expire-then-slot-size.new.parts.tables.in_service ≡ None = expire_slot Exhaustion c.args.sizes.max_budget (not c.is_empty-queued.result) (bfq_of c.args.parts.now.tables) (bfq_of c.expire-then-slot-size.new.parts.tables) made in
    absurd cc

pub returns-in_ok-expire-clause-made : goal.returns-in_ok-expire-clause-made
returns-in_ok-expire-clause-made c =
    let l = of_sizes c.args.sizes in
    let t = c.args.parts.now.tables in
    let slot = c.in-Some.slot in
    let serves : t.in_service ≡ Some slot = search rules in
    let none : c.is_empty-queued.result ≡ is_empty (queue_slots slot.seat t.links) = search rules in
    let late : nat_le l.timeout slot.age ≡ true = search rules in
    room_late l c.args.serial t slot c.is_empty-queued.result _ c.requires.well serves none late c.in_ok-expire.ensures.made

pub returns-in_err-expire-clause-made : goal.returns-in_err-expire-clause-made
returns-in_err-expire-clause-made c =
    let l = of_sizes c.args.sizes in
    let t = c.args.parts.now.tables in
    let slot = c.in-Some.slot in
    let serves : t.in_service ≡ Some slot = search rules in
    let none : c.is_empty-queued.result ≡ is_empty (queue_slots slot.seat t.links) = search rules in
    let late : nat_le l.timeout slot.age ≡ true = search rules in
    refused_by _ _ c.from_residual.result (search rules)
    (room_late l c.args.serial t slot c.is_empty-queued.result _ c.requires.well serves none late c.in_err-expire.ensures.made)

pub returns-in_ok-expire-2-clause-made : goal.returns-in_ok-expire-2-clause-made
returns-in_ok-expire-2-clause-made c =
    let l = of_sizes c.args.sizes in
    let t = c.args.parts.now.tables in
    let slot = c.in-Some.slot in
    let serves : t.in_service ≡ Some slot = search rules in
    let none : c.is_empty-queued.result ≡ is_empty (queue_slots slot.seat t.links) = search rules in
    let early : nat_le l.timeout slot.age ≡ false = search rules in
    let full : nat_lt ((bfq_of t).budget slot.seat) (slot.service + next_size (meaning t) slot.seat) ≡ true = search rules in
    room_full l c.args.serial t slot c.is_empty-queued.result _ c.requires.well serves none early full c.in_ok-expire-2.ensures.made

pub returns-in_err-expire-2-clause-made : goal.returns-in_err-expire-2-clause-made
returns-in_err-expire-2-clause-made c =
    let l = of_sizes c.args.sizes in
    let t = c.args.parts.now.tables in
    let slot = c.in-Some.slot in
    let serves : t.in_service ≡ Some slot = search rules in
    let none : c.is_empty-queued.result ≡ is_empty (queue_slots slot.seat t.links) = search rules in
    let early : nat_le l.timeout slot.age ≡ false = search rules in
    let full : nat_lt ((bfq_of t).budget slot.seat) (slot.service + next_size (meaning t) slot.seat) ≡ true = search rules in
    refused_by _ _ c.from_residual-in_err-expire-2.result (search rules)
    (room_full l c.args.serial t slot c.is_empty-queued.result _ c.requires.well serves none early full c.in_err-expire-2.ensures.made)
