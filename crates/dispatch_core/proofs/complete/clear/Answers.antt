use Rattle.std.proofs.Common.{◌≡◌, ap, ◌∙◌, arith}
use Rattle.std.specs.FinMap as blocks
use Rattle.dispatch_core.proofs.Words.{Tables, with_zeros}
use Rattle.dispatch_core.proofs.Contents.{with_zeros-more, only_overlay}
use Rattle.dispatch_core.proofs.Recorded.{one_more}
use Rattle.dispatch_core.proofs.complete.clear.Goals as goal

pub returns-in_err-try_exchange-clause-trail : goal.returns-in_err-try_exchange-clause-trail
returns-in_err-try_exchange-clause-trail c = λ o h. c.try_exchange.ensures.trail o (c.loop-sector.invariant.trail o h)

pub loop-sector-preserved : goal.loop-sector-preserved
loop-sector-preserved c =
    let put : c.try_exchange.new.parts.tables.overlay ≡ blocks.insert c.loop-sector.parts.tables.overlay c.loop-sector.sector c.in_ok-zeros.zeros = ap (λ (t : Tables). t.overlay) c.in_ok-try_exchange.ensures.tables in
    record {
      blocks = with_zeros-more c.loop-sector.parts.tables.overlay c.try_exchange.new.parts.tables.overlay c.in_ok-zeros.zeros c.loop-sector.sector c.end-sector-end.result
          (with_zeros c.args.parts.now.tables.overlay c.args.range.start c.args.range.count)
          c.loop-sector-test.true c.in_ok-zeros.ensures put c.loop-sector.invariant.blocks;
      others = only_overlay c.args.parts.now.tables c.loop-sector.parts.tables c.try_exchange.new.parts.tables (blocks.insert c.loop-sector.parts.tables.overlay c.loop-sector.sector c.in_ok-zeros.zeros) c.loop-sector.invariant.others c.in_ok-try_exchange.ensures.tables;
      trail = λ o h. c.try_exchange.ensures.trail o (c.loop-sector.invariant.trail o h);
      steps = c.try_exchange.ensures.steps ∙ c.loop-sector.invariant.steps;
      room = omega (arith, c.loop-sector.invariant.room, c.try_exchange.ensures.room);
      count = omega (arith, c.loop-sector.invariant.count, one_more c.loop-sector.tape.current c.try_exchange.new.self.current _ c.in_ok-try_exchange.ensures.recorded);
      spare = c.try_exchange.ensures.spare ∙ c.loop-sector.invariant.spare;
    }
