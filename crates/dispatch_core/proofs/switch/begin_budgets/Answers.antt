use Rattle.std.proofs.Common.{◌≡◌, ℕ, cond, nat_lt, ap, ◌∙◌, subst, arith}
use Rattle.dispatch_core.proofs.Words.{Bfq, bfq_of}
use Rattle.plain.specs.Step.{of_sizes}
use Rattle.dispatch_core.proofs.Begun.{budget_more, budgets_all, budgets_twice}
use Rattle.dispatch_core.proofs.switch.begin_budgets.Goals as goal

pub loop-seat-preserved : goal.loop-seat-preserved
loop-seat-preserved c =
    let v = c.loop-seat.invariant in
    let s = c.loop-seat.seat in
    record {
      made = λ k. ap (λ (b : Bfq). b.budget k) c.begin_budget.ensures.made
          ∙ budget_more (bfq_of c.loop-seat.parts.tables).budget (bfq_of c.args.parts.now.tables).budget s c.args.sizes.first_budget v.made k;
      others = budgets_twice c.args.parts.now.tables c.loop-seat.parts.tables c.begin_budget.new.parts.tables v.others c.begin_budget.ensures.others;
      sized = c.begin_budget.ensures.sized;
      bounded = c.begin_budget.ensures.bounded;
      trail = λ o h. c.begin_budget.ensures.trail o (v.trail o h);
      steps = c.begin_budget.ensures.steps ∙ v.steps;
      count = omega (arith, c.begin_budget.ensures.count, v.count);
      room = omega (arith, c.begin_budget.ensures.room, v.room);
      spare = c.begin_budget.ensures.spare ∙ v.spare;
    }

pub returns-clause-made : goal.returns-clause-made
returns-clause-made c =
    let l = of_sizes c.args.sizes in
    let t = c.args.parts.now.tables in
    let u = c.loop-seat.parts.tables in
    let all : c.loop-seat.seat ≡ 16 = omega (arith, c.loop-seat-test.false, c.loop-seat.auto.seat-end) in
    let P : ℕ → Type 0 = λ s. (k : ℕ) → (bfq_of u).budget k ≡ cond (nat_lt k s) l.first_budget ((bfq_of t).budget k) in
    budgets_all l t u c.loop-seat.invariant.others (subst P all c.loop-seat.invariant.made)
