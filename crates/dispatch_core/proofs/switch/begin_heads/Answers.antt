use Rattle.std.proofs.Common.{◌≡◌, ℕ, length, get_or, set, ap, ◌∙◌, arith, length-set, List}
use Rattle.change_record.specs.Tables.{Tables}
use Rattle.dispatch_core.proofs.Recorded.{one_more}
use Rattle.dispatch_core.proofs.Begun.{head_more, heads_all, heads_twice}
use Rattle.dispatch_core.proofs.switch.begin_heads.Goals as goal

pub loop-seat-preserved : goal.loop-seat-preserved
loop-seat-preserved c =
    let v = c.loop-seat.invariant in
    let s = c.loop-seat.seat in
    let old : List ℕ = c.loop-seat.parts.tables.heads in
    let heads : c.exchange.new.parts.tables.heads ≡ set old s 0 = ap (λ (u : Tables). u.heads) c.exchange.ensures.tables in
    let more = one_more c.loop-seat.tape.current c.exchange.new.self.current _ c.exchange.ensures.recorded in
    record {
      made = λ k h. ap (λ xs. get_or xs k 0) heads ∙ head_more old s (omega (arith, v.heads, c.loop-seat-test.true)) v.made k h;
      others = heads_twice c.args.parts.now.tables c.loop-seat.parts.tables c.exchange.new.parts.tables (set old s 0) v.others c.exchange.ensures.tables;
      heads = ap length heads ∙ length-set old s 0 ∙ v.heads;
      trail = λ o h. c.exchange.ensures.trail o (v.trail o h);
      steps = c.exchange.ensures.steps ∙ v.steps;
      count = omega (arith, more, v.count);
      room = omega (arith, c.exchange.ensures.room, v.room);
      spare = c.exchange.ensures.spare ∙ v.spare;
    }

pub returns-clause-made : goal.returns-clause-made
returns-clause-made c =
    heads_all c.loop-seat.parts.tables.heads c.loop-seat.seat c.loop-seat.invariant.heads (omega (arith, c.loop-seat-test.false)) c.loop-seat.invariant.made
