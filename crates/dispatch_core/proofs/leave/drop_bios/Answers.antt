use Rattle.std.proofs.Common.{◌+◌, ℕ, List, length, get_or, drop, sym, ap, ◌∙◌, arith}
use Rattle.std.proofs.lemmas.List.{drop_more}
use Rattle.dispatch_core.proofs.Words.{Tables, without_bios}
use Rattle.dispatch_core.proofs.Recorded.{one_more}
use Rattle.dispatch_core.proofs.leave.drop_bios.Goals as goal

pub loop-slot-preserved : goal.loop-slot-preserved
loop-slot-preserved c =
    let s = get_or c.args.slots.now c.loop-slot.slot-index 0 in
    let others : List ℕ = drop (c.loop-slot.slot-index + 1) c.args.slots.now in
    let more = drop_more c.args.slots.now c.loop-slot.slot-index 0 c.loop-slot-test.true in
    let here = one_more c.loop-slot.tape.current c.exchange.new.self.current _ c.exchange.ensures.recorded in
    let long = ap length more in
    record {
      tables = ap (λ (u : Tables). record u { bios = without_bios u.bios others }) c.exchange.ensures.tables
          ∙ sym (ap (λ l. record c.loop-slot.parts.tables { bios = without_bios c.loop-slot.parts.tables.bios l }) more) ∙ c.loop-slot.invariant.tables;
      trail = λ o h. c.exchange.ensures.trail o (c.loop-slot.invariant.trail o h);
      steps = c.exchange.ensures.steps ∙ c.loop-slot.invariant.steps;
      room = omega (arith, long, c.loop-slot.invariant.room, c.exchange.ensures.room);
      count = omega (arith, long, c.loop-slot.invariant.count, here);
      spare = c.exchange.ensures.spare ∙ c.loop-slot.invariant.spare;
    }
