use Rattle.std.proofs.Common.{◌+◌, ◌-◌, sym, ap, ◌∙◌, arith}
use Rattle.dispatch_core.proofs.Words.{numbers, bfq_of}
use Rattle.plain.specs.Steps.Switch.{with_first_vtime, for_each}
use Rattle.plain.specs.Step.{of_sizes}
use Rattle.dispatch_core.proofs.Begun.{numbers_more, numbers_none, trees_twice}
use Rattle.dispatch_core.proofs.switch.begin_vtimes.Goals as goal

pub loop-group-preserved : goal.loop-group-preserved
loop-group-preserved c =
    let v = c.loop-group.invariant in
    let g = c.loop-group.group in
    let l = of_sizes c.args.sizes in
    record {
      made = ap (λ b. for_each (with_first_vtime l) b (numbers (g + 1) (32 - (g + 1)))) c.begin_vtime.ensures.made
          ∙ sym (ap (for_each (with_first_vtime l) (bfq_of c.loop-group.parts.tables)) (numbers_more g 32 c.loop-group-test.true)) ∙ v.made;
      others = trees_twice c.args.parts.now.tables c.loop-group.parts.tables c.begin_vtime.new.parts.tables v.others c.begin_vtime.ensures.others;
      sized = c.begin_vtime.ensures.sized;
      bounded = c.begin_vtime.ensures.bounded;
      trail = λ o h. c.begin_vtime.ensures.trail o (v.trail o h);
      steps = c.begin_vtime.ensures.steps ∙ v.steps;
      count = omega (arith, c.begin_vtime.ensures.count, v.count);
      room = omega (arith, c.begin_vtime.ensures.room, v.room);
      spare = c.begin_vtime.ensures.spare ∙ v.spare;
    }

pub returns-clause-made : goal.returns-clause-made
returns-clause-made c =
    let l = of_sizes c.args.sizes in
    sym (ap (for_each (with_first_vtime l) (bfq_of c.loop-group.parts.tables)) (numbers_none c.loop-group.group 32 (omega (arith, c.loop-group-test.false)))) ∙ c.loop-group.invariant.made
