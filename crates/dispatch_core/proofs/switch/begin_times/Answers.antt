use Rattle.std.proofs.Common.{ℕ, Bool, ◌+◌, ◌-◌, refl, sym, ap, ◌∙◌, arith}
use Rattle.std.specs.Prelude.{is_some}
use Rattle.dispatch_core.proofs.Words.{numbers, bfq_of}
use Rattle.plain.specs.Steps.Switch.{with_first_times, for_each}
use Rattle.plain.specs.Step.{of_sizes}
use Rattle.dispatch_core.proofs.Begun.{numbers_more, numbers_none, count_more, count_none, trees_twice, grouped_same, room_at, room_within}
use Rattle.dispatch_core.proofs.switch.begin_times.Goals as goal

pub loop-entity-init : goal.loop-entity-init
loop-entity-init c = record {
  made = refl;
  others = refl;
  sized = c.requires.sized;
  bounded = c.requires.bounded;
  trail = λ o h. h;
  steps = refl;
  count = refl;
  room = omega arith;
  spare = refl;
}

pub loop-entity-preserved : goal.loop-entity-preserved
loop-entity-preserved c =
    let v = c.loop-entity.invariant in
    let e = c.loop-entity.entity in
    let l = of_sizes c.args.sizes in
    let f : ℕ → Bool = λ k. is_some ((bfq_of c.args.parts.now.tables).parent k) in
    let here = grouped_same c.args.parts.now.tables c.loop-entity.parts.tables e v.others in
    record {
      made = ap (λ b. for_each (with_first_times l) b (numbers (e + 1) (48 - (e + 1)))) c.begin_entity.ensures.made
          ∙ sym (ap (for_each (with_first_times l) (bfq_of c.loop-entity.parts.tables)) (numbers_more e 48 c.loop-entity-test.true)) ∙ v.made;
      others = trees_twice c.args.parts.now.tables c.loop-entity.parts.tables c.begin_entity.new.parts.tables v.others c.begin_entity.ensures.others;
      sized = c.begin_entity.ensures.sized;
      bounded = c.begin_entity.ensures.bounded;
      trail = λ o h. c.begin_entity.ensures.trail o (v.trail o h);
      steps = c.begin_entity.ensures.steps ∙ v.steps;
      count = omega (arith, c.begin_entity.ensures.count, v.count, here, count_more f e 48 c.loop-entity-test.true);
      room = omega (arith, c.begin_entity.ensures.room, v.room);
      spare = c.begin_entity.ensures.spare ∙ v.spare;
    }

pub returns-clause-made : goal.returns-clause-made
returns-clause-made c =
    let l = of_sizes c.args.sizes in
    sym (ap (for_each (with_first_times l) (bfq_of c.loop-entity.parts.tables)) (numbers_none c.loop-entity.entity 48 (omega (arith, c.loop-entity-test.false)))) ∙ c.loop-entity.invariant.made

pub returns-clause-count : goal.returns-clause-count
returns-clause-count c =
    let f : ℕ → Bool = λ k. is_some ((bfq_of c.args.parts.now.tables).parent k) in
    let none = count_none f c.loop-entity.entity 48 (omega (arith, c.loop-entity-test.false)) in
    omega (arith, c.loop-entity.invariant.count, none)

pub returns-clause-others : goal.returns-clause-others
returns-clause-others c = c.loop-entity.invariant.others

pub returns-clause-sized : goal.returns-clause-sized
returns-clause-sized c = c.loop-entity.invariant.sized

pub returns-clause-bounded : goal.returns-clause-bounded
returns-clause-bounded c = c.loop-entity.invariant.bounded

pub returns-clause-trail : goal.returns-clause-trail
returns-clause-trail c = c.loop-entity.invariant.trail

pub returns-clause-steps : goal.returns-clause-steps
returns-clause-steps c = c.loop-entity.invariant.steps

pub returns-clause-spare : goal.returns-clause-spare
returns-clause-spare c = c.loop-entity.invariant.spare

pub begin_entity-requires-clause-room : goal.begin_entity-requires-clause-room
begin_entity-requires-clause-room c = room_at c.args.tape.now.room c.loop-entity.tape.room c.loop-entity.entity 48 c.requires.room c.loop-entity.invariant.room c.loop-entity-test.true

pub begin_entity-requires-clause-sized : goal.begin_entity-requires-clause-sized
begin_entity-requires-clause-sized c = c.loop-entity.invariant.sized

pub begin_entity-requires-clause-bounded : goal.begin_entity-requires-clause-bounded
begin_entity-requires-clause-bounded c = c.loop-entity.invariant.bounded

pub returns-clause-room : goal.returns-clause-room
returns-clause-room c = room_within c.args.tape.now.room c.loop-entity.tape.room c.loop-entity.entity 48 c.loop-entity.invariant.room c.loop-entity.auto.entity-end
