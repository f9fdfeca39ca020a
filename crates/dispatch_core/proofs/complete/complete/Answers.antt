use Rattle.std.proofs.lemmas.List.{drop_more}
use Rattle.std.proofs.Common.{◌≡◌, ◌+◌, Some, length, get_or, drop, sym, ap, ◌∙◌, subst, arith}
use Rattle.change_record.specs.Exchange.{after}
use Rattle.change_record.specs.declared.change.Change.TheVariants.{BioSlot}
use Rattle.dispatch_core.proofs.Words.{Bio, Effect, total_count}
use Rattle.dispatch_core.specs.Counts.{blocks_put}
use Rattle.dispatch_core.specs.Ready.{IsReady}
use Rattle.dispatch_core.proofs.Completing.{completed_tables, first_taken, first_ends, first_done, first_ends_done, first_payload, first_total, first_bytes, tables_more, total_more, ready_more, ready_at, tables_at, changes_at}
use Rattle.dispatch_core.proofs.Recorded.{one_more, blocks_put-sum, blocks_put-rest}
use Rattle.dispatch_core.proofs.complete.complete.Goals as goal

pub done_bio-requires-clause-taken : goal.done_bio-requires-clause-taken
done_bio-requires-clause-taken c =
    let s = get_or c.args.slots.now c.loop-slot.slot-index 0 in
    let others = drop (c.loop-slot.slot-index + 1) c.args.slots.now in
    let ready = ready_at c.loop-slot.parts.tables.bios c.args.slots.now c.loop-slot.slot-index c.loop-slot.rest c.loop-slot-test.true c.loop-slot.invariant.ready in
    first_taken c.loop-slot.rest c.loop-slot.parts.tables s others ready

pub done_bio-requires-clause-ends : goal.done_bio-requires-clause-ends
done_bio-requires-clause-ends c =
    let s = get_or c.args.slots.now c.loop-slot.slot-index 0 in
    let others = drop (c.loop-slot.slot-index + 1) c.args.slots.now in
    let ready = ready_at c.loop-slot.parts.tables.bios c.args.slots.now c.loop-slot.slot-index c.loop-slot.rest c.loop-slot-test.true c.loop-slot.invariant.ready in
    first_ends c.loop-slot.rest c.loop-slot.parts.tables s others ready

pub put_blocks-requires-clause-ends : goal.put_blocks-requires-clause-ends
put_blocks-requires-clause-ends c =
    let s = get_or c.args.slots.now c.loop-slot.slot-index 0 in
    let others = drop (c.loop-slot.slot-index + 1) c.args.slots.now in
    let ready = ready_at c.loop-slot.parts.tables.bios c.args.slots.now c.loop-slot.slot-index c.loop-slot.rest c.loop-slot-test.true c.loop-slot.invariant.ready in
    let done = first_done c.loop-slot.rest c.loop-slot.parts.tables s others ready c.in_ok-done.done c.in_ok-done.ensures in
    first_ends_done c.loop-slot.rest c.loop-slot.parts.tables s others ready c.in_ok-done.done done

pub put_blocks-requires-clause-long : goal.put_blocks-requires-clause-long
put_blocks-requires-clause-long c =
    let s = get_or c.args.slots.now c.loop-slot.slot-index 0 in
    let others = drop (c.loop-slot.slot-index + 1) c.args.slots.now in
    let ready = ready_at c.loop-slot.parts.tables.bios c.args.slots.now c.loop-slot.slot-index c.loop-slot.rest c.loop-slot-test.true c.loop-slot.invariant.ready in
    let done = first_done c.loop-slot.rest c.loop-slot.parts.tables s others ready c.in_ok-done.done c.in_ok-done.ensures in
    first_payload c.loop-slot.rest c.loop-slot.parts.tables s others ready c.in_ok-done.done done

pub put_blocks-requires-clause-room : goal.put_blocks-requires-clause-room
put_blocks-requires-clause-room c =
    let s = get_or c.args.slots.now c.loop-slot.slot-index 0 in
    let others = drop (c.loop-slot.slot-index + 1) c.args.slots.now in
    let ready = ready_at c.loop-slot.parts.tables.bios c.args.slots.now c.loop-slot.slot-index c.loop-slot.rest c.loop-slot-test.true c.loop-slot.invariant.ready in
    let done = first_done c.loop-slot.rest c.loop-slot.parts.tables s others ready c.in_ok-done.done c.in_ok-done.ensures in
    let total = first_total c.loop-slot.rest c.loop-slot.parts.tables s others ready c.in_ok-done.done done in
    let changes = changes_at c.loop-slot.parts.tables.bios c.args.slots.now c.loop-slot.slot-index c.loop-slot-test.true in
    omega (arith, total, changes, c.loop-slot.invariant.room, c.requires.room)

pub returns-in_err-put_blocks-clause-trail : goal.returns-in_err-put_blocks-clause-trail
returns-in_err-put_blocks-clause-trail c =
    λ o h. c.put_blocks.ensures.trail o (c.loop-slot.invariant.trail o h)

pub returns-in_err-put_blocks-clause-room : goal.returns-in_err-put_blocks-clause-room
returns-in_err-put_blocks-clause-room c =
    let s = get_or c.args.slots.now c.loop-slot.slot-index 0 in
    let others = drop (c.loop-slot.slot-index + 1) c.args.slots.now in
    let ready = ready_at c.loop-slot.parts.tables.bios c.args.slots.now c.loop-slot.slot-index c.loop-slot.rest c.loop-slot-test.true c.loop-slot.invariant.ready in
    let done = first_done c.loop-slot.rest c.loop-slot.parts.tables s others ready c.in_ok-done.done c.in_ok-done.ensures in
    let total = first_total c.loop-slot.rest c.loop-slot.parts.tables s others ready c.in_ok-done.done done in
    let changes = changes_at c.loop-slot.parts.tables.bios c.args.slots.now c.loop-slot.slot-index c.loop-slot-test.true in
    omega (arith, total, changes, c.loop-slot.invariant.room, c.put_blocks.ensures.room)

pub returns-in_err-bio-clause-room : goal.returns-in_err-bio-clause-room
returns-in_err-bio-clause-room c =
    let s = get_or c.args.slots.now c.loop-slot.slot-index 0 in
    let others = drop (c.loop-slot.slot-index + 1) c.args.slots.now in
    let ready = ready_at c.loop-slot.parts.tables.bios c.args.slots.now c.loop-slot.slot-index c.loop-slot.rest c.loop-slot-test.true c.loop-slot.invariant.ready in
    let done = first_done c.loop-slot.rest c.loop-slot.parts.tables s others ready c.in_ok-done.done c.in_ok-done.ensures in
    let total = first_total c.loop-slot.rest c.loop-slot.parts.tables s others ready c.in_ok-done.done done in
    let changes = changes_at c.loop-slot.parts.tables.bios c.args.slots.now c.loop-slot.slot-index c.loop-slot-test.true in
    omega (arith, total, changes, c.loop-slot.invariant.room, c.put_blocks.ensures.room)

pub exchange-requires-clause-room : goal.exchange-requires-clause-room
exchange-requires-clause-room c =
    let s = get_or c.args.slots.now c.loop-slot.slot-index 0 in
    let others = drop (c.loop-slot.slot-index + 1) c.args.slots.now in
    let ready = ready_at c.loop-slot.parts.tables.bios c.args.slots.now c.loop-slot.slot-index c.loop-slot.rest c.loop-slot-test.true c.loop-slot.invariant.ready in
    let done = first_done c.loop-slot.rest c.loop-slot.parts.tables s others ready c.in_ok-done.done c.in_ok-done.ensures in
    let total = first_total c.loop-slot.rest c.loop-slot.parts.tables s others ready c.in_ok-done.done done in
    let changes = changes_at c.loop-slot.parts.tables.bios c.args.slots.now c.loop-slot.slot-index c.loop-slot-test.true in
    omega (arith, total, changes, c.loop-slot.invariant.room, c.requires.room, c.put_blocks.ensures.room)

pub without_first-rest-requires : goal.without_first-rest-requires
without_first-rest-requires c =
    let s = get_or c.args.slots.now c.loop-slot.slot-index 0 in
    let others = drop (c.loop-slot.slot-index + 1) c.args.slots.now in
    let ready = ready_at c.loop-slot.parts.tables.bios c.args.slots.now c.loop-slot.slot-index c.loop-slot.rest c.loop-slot-test.true c.loop-slot.invariant.ready in
    let done = first_done c.loop-slot.rest c.loop-slot.parts.tables s others ready c.in_ok-done.done c.in_ok-done.ensures in
    first_bytes c.loop-slot.rest c.loop-slot.parts.tables s others ready c.in_ok-done.done done

pub loop-slot-preserved : goal.loop-slot-preserved
loop-slot-preserved c =
    let s = get_or c.args.slots.now c.loop-slot.slot-index 0 in
    let others = drop (c.loop-slot.slot-index + 1) c.args.slots.now in
    let ready = ready_at c.loop-slot.parts.tables.bios c.args.slots.now c.loop-slot.slot-index c.loop-slot.rest c.loop-slot-test.true c.loop-slot.invariant.ready in
    let done = first_done c.loop-slot.rest c.loop-slot.parts.tables s others ready c.in_ok-done.done c.in_ok-done.ensures in
    let total = first_total c.loop-slot.rest c.loop-slot.parts.tables s others ready c.in_ok-done.done done in
    let changes = changes_at c.loop-slot.parts.tables.bios c.args.slots.now c.loop-slot.slot-index c.loop-slot-test.true in
    let stored = subst (λ (bio : Bio). c.exchange.new.parts.tables ≡ after c.put_blocks.new.parts.tables (BioSlot s (Some bio))) c.in_ok-bio.ensures c.exchange.ensures.tables in
    let more = total_more c.loop-slot.rest c.loop-slot.parts.tables s others ready c.put_blocks.new.parts.tables c.exchange.new.parts.tables c.in_ok-done.done done c.in_ok-put_blocks.ensures.tables stored in
    let left = c.without_first-rest.ensures in
    let P : Effect → Type 0 = λ o. IsReady c.exchange.new.parts.tables.bios others o in
    record {
      tables = ap (λ o. completed_tables o c.exchange.new.parts.tables others) left ∙ tables_more c.loop-slot.rest c.loop-slot.parts.tables s others ready c.put_blocks.new.parts.tables c.exchange.new.parts.tables c.in_ok-done.done done c.in_ok-put_blocks.ensures.tables stored ∙ tables_at c.loop-slot.rest c.loop-slot.parts.tables c.args.slots.now c.loop-slot.slot-index c.loop-slot-test.true ∙ c.loop-slot.invariant.tables;
      ready = subst P (sym left) (ready_more c.loop-slot.rest c.loop-slot.parts.tables s others ready c.put_blocks.new.parts.tables c.exchange.new.parts.tables c.in_ok-done.done done c.in_ok-put_blocks.ensures.tables stored);
      trail = λ o h. c.exchange.ensures.trail o (c.put_blocks.ensures.trail o (c.loop-slot.invariant.trail o h));
      steps = c.exchange.ensures.steps ∙ c.put_blocks.ensures.steps ∙ c.loop-slot.invariant.steps;
      room = omega (arith, total, changes, more, c.loop-slot.invariant.room, c.put_blocks.ensures.room, c.exchange.ensures.room);
      count =
          let here = one_more c.put_blocks.new.tape.current c.exchange.new.self.current _ c.exchange.ensures.recorded in
          let part = ap (λ k. blocks_put c.loop-slot.rest k) total ∙ blocks_put-sum c.loop-slot.rest c.in_ok-done.done.range.count (total_count c.loop-slot.parts.tables.bios others) in
          let after = ap (λ o. blocks_put o (total_count c.exchange.new.parts.tables.bios others)) left ∙ blocks_put-rest c.loop-slot.rest c.in_ok-done.done.range.count (total_count c.exchange.new.parts.tables.bios others)
          ∙ ap (blocks_put c.loop-slot.rest) more in
          let now = ap (λ l. length l + blocks_put c.loop-slot.rest (total_count c.loop-slot.parts.tables.bios l)) (drop_more c.args.slots.now c.loop-slot.slot-index 0 c.loop-slot-test.true) in
          omega (arith, c.loop-slot.invariant.count, c.in_ok-put_blocks.ensures.count, here, part, after, now);
      spare = c.exchange.ensures.spare ∙ c.put_blocks.ensures.spare ∙ c.loop-slot.invariant.spare;
    }
