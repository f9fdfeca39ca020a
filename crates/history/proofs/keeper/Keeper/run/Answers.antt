use Rattle.std.proofs.Common.{◌≡◌, ℕ, ◌+◌, List, [], ◌∷◌, ◌++◌, take, sym, ap, ◌∙◌, subst}
use Rattle.std.proofs.lemmas.List.{take_more, take_all}
use Rattle.plain.specs.Headline.{MayRun}
use Rattle.plain.specs.declared.call.Call.{Call}
use Rattle.plain.specs.declared.answer.Answer.{Answer}
use Rattle.history.specs.Turns.{KeptRun}
use Rattle.history.proofs.Runs.{run-more, kept-more}
use Rattle.history.proofs.keeper.Keeper.run.Goals as goal

pub loop-made-preserved : goal.loop-made-preserved
loop-made-preserved c =
    let calls = c.args.calls.now in
    let made : ℕ = c.loop-made.made in
    let call = c.index-calls-made.result in
    let P : List Call → Type 0 = λ l. MayRun c.args.self.now.state l c.push_within.new.items.items c.call.new.self.state in
    let Q : List Answer → Type 0 = λ l. MayRun c.args.self.now.state (take made calls ++ call ∷ []) l c.call.new.self.state in
    let now : c.push_within.new.items.items ≡ c.loop-made.answers.items ++ c.call.result ∷ [] = c.push_within.ensures.items ∙ ap (λ l. l ++ c.call.result ∷ []) c.reserve.ensures.items in
    let cut : take (made + 1) calls ≡ take made calls ++ call ∷ [] = take_more calls made call c.loop-made-test.true ∙ ap (λ x. take made calls ++ x ∷ []) (sym c.index-calls-made.is) in
    let R : List Call → Type 0 = λ l. KeptRun c.args.self.now l c.push_within.new.items.items c.call.new.self in
    let S : List Answer → Type 0 = λ l. KeptRun c.args.self.now (take made calls ++ call ∷ []) l c.call.new.self in
    record {
      run = subst P (sym cut) (subst Q (sym now) (run-more c.args.self.now.state c.loop-made.self.state c.call.new.self.state (take made calls) c.loop-made.answers.items call c.call.result
          c.loop-made.invariant.run c.call.ensures.may));
      kept = subst R (sym cut) (subst S (sym now) (kept-more c.args.self.now c.loop-made.self c.call.new.self (take made calls) c.loop-made.answers.items call c.call.result
          c.loop-made.invariant.kept c.call.ensures.may c.call.ensures.turns));
    }

pub returns-in-Err-clause-err : goal.returns-in-Err-clause-err
returns-in-Err-clause-err c =
    let l = c.loop-made in
    let P : List Answer → Type 0 = λ answers. MayRun c.args.self.now.state (take l.made c.args.calls.now) answers l.self.state in
    subst P (sym c.reserve.ensures.items) l.invariant.run

pub returns-in-Err-clause-stop_turns : goal.returns-in-Err-clause-stop_turns
returns-in-Err-clause-stop_turns c =
    let l = c.loop-made in
    let P : List Answer → Type 0 = λ answers. KeptRun c.args.self.now (take l.made c.args.calls.now) answers l.self in
    subst P (sym c.reserve.ensures.items) l.invariant.kept

pub returns-clause-ok : goal.returns-clause-ok
returns-clause-ok c =
    let l = c.loop-made in
    let P : List Call → Type 0 = λ calls. MayRun c.args.self.now.state calls l.answers.items l.self.state in
    subst P (take_all l.made c.args.calls.now c.loop-made-test.false) l.invariant.run

pub returns-clause-turns : goal.returns-clause-turns
returns-clause-turns c =
    let l = c.loop-made in
    let P : List Call → Type 0 = λ calls. KeptRun c.args.self.now calls l.answers.items l.self in
    subst P (take_all l.made c.args.calls.now c.loop-made-test.false) l.invariant.kept
