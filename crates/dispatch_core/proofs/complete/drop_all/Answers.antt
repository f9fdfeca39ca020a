use Rattle.std.proofs.Common.{◌+◌, length, get_or, drop, ap, ◌∙◌, arith}
use Rattle.std.proofs.lemmas.List.{drop_more}
use Rattle.dispatch_core.specs.Counts.{blocks_put}
use Rattle.dispatch_core.specs.Ranges.{total_count}
use Rattle.dispatch_core.proofs.Completing.{first_taken, ready_at, changes_at}
use Rattle.dispatch_core.proofs.Dropping.{copy_ends, copy_has, copy_total, dropped_more, copy_total_more, copy_ready, dropped_at}
use Rattle.dispatch_core.proofs.Recorded.{one_more, blocks_put-sum}
use Rattle.dispatch_core.proofs.complete.drop_all.Goals as goal

pub bio_without_result-requires : goal.bio_without_result-requires
bio_without_result-requires c =
    let t = c.loop-slot.parts.tables in
    let effect = c.args.effect.now in
    let s = get_or c.args.slots.now c.loop-slot.slot-index 0 in
    let others = drop (c.loop-slot.slot-index + 1) c.args.slots.now in
    let ready = ready_at t.bios c.args.slots.now c.loop-slot.slot-index effect c.loop-slot-test.true c.loop-slot.invariant.ready in
    first_taken effect t s others ready

pub put_blocks-requires-clause-ends : goal.put_blocks-requires-clause-ends
put_blocks-requires-clause-ends c =
    let t = c.loop-slot.parts.tables in
    let effect = c.args.effect.now in
    let s = get_or c.args.slots.now c.loop-slot.slot-index 0 in
    let others = drop (c.loop-slot.slot-index + 1) c.args.slots.now in
    let ready = ready_at t.bios c.args.slots.now c.loop-slot.slot-index effect c.loop-slot-test.true c.loop-slot.invariant.ready in
    let copy = c.in_ok-bio.bio in
    let is = c.in_ok-bio.ensures in
    copy_ends effect t s others ready copy is

pub put_blocks-requires-clause-long : goal.put_blocks-requires-clause-long
put_blocks-requires-clause-long c =
    let t = c.loop-slot.parts.tables in
    let effect = c.args.effect.now in
    let s = get_or c.args.slots.now c.loop-slot.slot-index 0 in
    let others = drop (c.loop-slot.slot-index + 1) c.args.slots.now in
    let ready = ready_at t.bios c.args.slots.now c.loop-slot.slot-index effect c.loop-slot-test.true c.loop-slot.invariant.ready in
    let copy = c.in_ok-bio.bio in
    let is = c.in_ok-bio.ensures in
    copy_has effect t s others ready copy is

pub put_blocks-requires-clause-room : goal.put_blocks-requires-clause-room
put_blocks-requires-clause-room c =
    let t = c.loop-slot.parts.tables in
    let effect = c.args.effect.now in
    let s = get_or c.args.slots.now c.loop-slot.slot-index 0 in
    let others = drop (c.loop-slot.slot-index + 1) c.args.slots.now in
    let ready = ready_at t.bios c.args.slots.now c.loop-slot.slot-index effect c.loop-slot-test.true c.loop-slot.invariant.ready in
    let copy = c.in_ok-bio.bio in
    let is = c.in_ok-bio.ensures in
    let total = copy_total effect t s others ready copy is in
    let changes = changes_at t.bios c.args.slots.now c.loop-slot.slot-index c.loop-slot-test.true in
    omega (arith, total, changes, c.loop-slot.invariant.room, c.requires.room)

pub returns-in_err-put_blocks-clause-trail : goal.returns-in_err-put_blocks-clause-trail
returns-in_err-put_blocks-clause-trail c =
    λ o h. c.put_blocks.ensures.trail o (c.loop-slot.invariant.trail o h)

pub returns-in_err-put_blocks-clause-room : goal.returns-in_err-put_blocks-clause-room
returns-in_err-put_blocks-clause-room c =
    let t = c.loop-slot.parts.tables in
    let effect = c.args.effect.now in
    let s = get_or c.args.slots.now c.loop-slot.slot-index 0 in
    let others = drop (c.loop-slot.slot-index + 1) c.args.slots.now in
    let ready = ready_at t.bios c.args.slots.now c.loop-slot.slot-index effect c.loop-slot-test.true c.loop-slot.invariant.ready in
    let copy = c.in_ok-bio.bio in
    let is = c.in_ok-bio.ensures in
    let total = copy_total effect t s others ready copy is in
    let changes = changes_at t.bios c.args.slots.now c.loop-slot.slot-index c.loop-slot-test.true in
    omega (arith, total, changes, c.loop-slot.invariant.room, c.put_blocks.ensures.room)

pub exchange-requires-clause-room : goal.exchange-requires-clause-room
exchange-requires-clause-room c =
    let t = c.loop-slot.parts.tables in
    let effect = c.args.effect.now in
    let s = get_or c.args.slots.now c.loop-slot.slot-index 0 in
    let others = drop (c.loop-slot.slot-index + 1) c.args.slots.now in
    let ready = ready_at t.bios c.args.slots.now c.loop-slot.slot-index effect c.loop-slot-test.true c.loop-slot.invariant.ready in
    let copy = c.in_ok-bio.bio in
    let is = c.in_ok-bio.ensures in
    let total = copy_total effect t s others ready copy is in
    let changes = changes_at t.bios c.args.slots.now c.loop-slot.slot-index c.loop-slot-test.true in
    omega (arith, total, changes, c.loop-slot.invariant.room, c.requires.room, c.put_blocks.ensures.room)

pub loop-slot-preserved : goal.loop-slot-preserved
loop-slot-preserved c =
    let t = c.loop-slot.parts.tables in
    let effect = c.args.effect.now in
    let s = get_or c.args.slots.now c.loop-slot.slot-index 0 in
    let others = drop (c.loop-slot.slot-index + 1) c.args.slots.now in
    let ready = ready_at t.bios c.args.slots.now c.loop-slot.slot-index effect c.loop-slot-test.true c.loop-slot.invariant.ready in
    let copy = c.in_ok-bio.bio in
    let is = c.in_ok-bio.ensures in
    let total = copy_total effect t s others ready copy is in
    let changes = changes_at t.bios c.args.slots.now c.loop-slot.slot-index c.loop-slot-test.true in
    let more = copy_total_more effect t s others ready copy is c.put_blocks.new.parts.tables c.exchange.new.parts.tables c.in_ok-put_blocks.ensures.tables c.exchange.ensures.tables in
    record {
      tables = dropped_more effect t s others ready copy is c.put_blocks.new.parts.tables c.exchange.new.parts.tables c.in_ok-put_blocks.ensures.tables c.exchange.ensures.tables
          ∙ dropped_at effect t c.args.slots.now c.loop-slot.slot-index c.loop-slot-test.true ∙ c.loop-slot.invariant.tables;
      ready = copy_ready effect t s others ready copy is c.put_blocks.new.parts.tables c.exchange.new.parts.tables c.in_ok-put_blocks.ensures.tables c.exchange.ensures.tables;
      trail = λ o h. c.exchange.ensures.trail o (c.put_blocks.ensures.trail o (c.loop-slot.invariant.trail o h));
      steps = c.exchange.ensures.steps ∙ c.put_blocks.ensures.steps ∙ c.loop-slot.invariant.steps;
      room = omega (arith, total, changes, more, c.loop-slot.invariant.room, c.put_blocks.ensures.room, c.exchange.ensures.room);
      count =
          let here = one_more c.put_blocks.new.tape.current c.exchange.new.self.current _ c.exchange.ensures.recorded in
          let part = ap (λ k. blocks_put effect k) total ∙ blocks_put-sum effect copy.range.count (total_count t.bios others) in
          let after = ap (blocks_put effect) more in
          let now = ap (λ l. length l + blocks_put effect (total_count t.bios l)) (drop_more c.args.slots.now c.loop-slot.slot-index 0 c.loop-slot-test.true) in
          omega (arith, c.loop-slot.invariant.count, c.in_ok-put_blocks.ensures.count, here, part, after, now);
      spare = c.exchange.ensures.spare ∙ c.put_blocks.ensures.spare ∙ c.loop-slot.invariant.spare;
    }
