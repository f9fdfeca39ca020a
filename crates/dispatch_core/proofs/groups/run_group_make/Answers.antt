use Rattle.std.proofs.Common.{◌≡◌, ◌+◌, ◌<◌, List, Some, length, true, subst, sym, ap, ◌∙◌, arith, rules}
use Rattle.sector_core.specs.declared.class.Class.TheVariants.{BestEffort}
use Rattle.change_record.specs.declared.change.Change.{Change}
use Rattle.change_record.specs.declared.change.Change.TheVariants.{Vtime}
use Rattle.dispatch_core.proofs.Words.{Tables, after, bfq_of, meaning, stands, WellFormed, entered, same_times}
use Rattle.change_record.specs.Trail.{IsTrail}
use Rattle.plain.specs.Groups.{depth}
use Rattle.plain.specs.Step.{of_sizes, MayGiveWay}
use Rattle.plain.specs.Steps.GroupMake.{group_make, free_group}
use Rattle.plain.specs.Entities.{is_weight}
use Rattle.plain.specs.Tests.{StepResult}
use Rattle.plain.specs.declared.answer.Answer.TheVariants.{Accepted}
use Rattle.plain.specs.declared.answer.Reply.TheVariants.{Group}
use Rattle.dispatch_core.proofs.Recorded.{one_more}
use Rattle.dispatch_core.proofs.Decided.{stands_below, Answers-err}
use Rattle.dispatch_core.proofs.Grouping.{group_make_does, made-meaning, made-well}
use Rattle.dispatch_core.proofs.groups.run_group_make.Goals as goal
use Rattle.plain.specs.declared.member.Vtimes.{Vtimes}

pub returns-in_err-reserve-clause-answers : goal.returns-in_err-reserve-clause-answers
returns-in_err-reserve-clause-answers c =
    let l = of_sizes c.args.sizes in
    let t = c.args.parts.now.tables in
    let there : stands (bfq_of t) c.args.parent ≡ true = search rules in
    let good : is_weight c.args.weight ≡ true = search rules in
    let level : c.depth.result ≡ depth (bfq_of t).parent c.args.parent = search rules in
    let high : depth (bfq_of t).parent c.args.parent < 4 = omega (arith, level, c.if-depth-ge-MOST_LEVELS.false) in
    let free : free_group (bfq_of t) ≡ Some c.in-Some.group = sym c.free_group.ensures.value ∙ c.in-Some.is in
    let does = group_make_does l (meaning t) c.args.room c.args.parent c.args.weight c.in-Some.group there good high free c.if-not-room.false in
    let P : StepResult → Type 0 = λ o. MayGiveWay o.1 in
    Answers-err (λ m. group_make l m c.args.room c.args.parent c.args.weight) t t c.from_residual.result (search rules) (subst P (sym does) tt)

pub returns-clause-answers : goal.returns-clause-answers
returns-clause-answers c =
    let l = of_sizes c.args.sizes in
    let t = c.args.parts.now.tables in
    let there : stands (bfq_of t) c.args.parent ≡ true = search rules in
    let good : is_weight c.args.weight ≡ true = search rules in
    let level : c.depth.result ≡ depth (bfq_of t).parent c.args.parent = search rules in
    let high : depth (bfq_of t).parent c.args.parent < 4 = omega (arith, level, c.if-depth-ge-MOST_LEVELS.false) in
    let free : free_group (bfq_of t) ≡ Some c.in-Some.group = sym c.free_group.ensures.value ∙ c.in-Some.is in
    let below : c.args.parent < 32 = stands_below (bfq_of t) c.args.parent there in
    let within : c.in-Some.group < 32 = c.in-Some.ensures.within in
    let one : c.enter.new.parts.tables ≡ entered l t (16 + c.in-Some.group) c.args.parent BestEffort c.args.weight = c.enter.ensures.tables ∙ ap (entered l t (16 + c.in-Some.group) c.args.parent BestEffort) c.from.ensures in
    let two : c.exchange.new.parts.tables ≡ after c.enter.new.parts.tables (Vtime c.in-Some.group (same_times l.first_vtime)) = c.exchange.ensures.tables ∙ ap (λ (v : Vtimes). after c.enter.new.parts.tables (Vtime c.in-Some.group v)) c.same.ensures in
    let now = two ∙ ap (λ u. after u (Vtime c.in-Some.group (same_times l.first_vtime))) one in
    sym (group_make_does l (meaning t) c.args.room c.args.parent c.args.weight c.in-Some.group there good high free c.if-not-room.false
    ∙ ap (λ m. (m, Accepted (Group c.in-Some.group))) (sym (ap meaning now ∙ made-meaning l c.args.serial t c.in-Some.group c.args.parent c.args.weight c.requires within below)))

pub returns-clause-leaves : goal.returns-clause-leaves
returns-clause-leaves c =
    let l = of_sizes c.args.sizes in
    let t = c.args.parts.now.tables in
    let there : stands (bfq_of t) c.args.parent ≡ true = search rules in
    let below : c.args.parent < 32 = stands_below (bfq_of t) c.args.parent there in
    let within : c.in-Some.group < 32 = c.in-Some.ensures.within in
    let one : c.enter.new.parts.tables ≡ entered l t (16 + c.in-Some.group) c.args.parent BestEffort c.args.weight = c.enter.ensures.tables ∙ ap (entered l t (16 + c.in-Some.group) c.args.parent BestEffort) c.from.ensures in
    let two : c.exchange.new.parts.tables ≡ after c.enter.new.parts.tables (Vtime c.in-Some.group (same_times l.first_vtime)) = c.exchange.ensures.tables ∙ ap (λ (v : Vtimes). after c.enter.new.parts.tables (Vtime c.in-Some.group v)) c.same.ensures in
    let now = two ∙ ap (λ u. after u (Vtime c.in-Some.group (same_times l.first_vtime))) one in
    let P : Tables → Type 0 = λ u. WellFormed l (c.args.serial + 1) u in
    let last = one_more c.enter.new.tape.current c.exchange.new.self.current _ c.exchange.ensures.recorded in
    let kept = ap length c.reserve.ensures.current in (
      subst P (sym now) (made-well l c.args.serial t c.in-Some.group c.args.parent c.args.weight c.requires within below),
      omega (arith, c.exchange.ensures.spare, c.enter.ensures.spare, c.in_ok-reserve.ensures.spare),
      omega (arith, last, c.enter.ensures.count, kept),
      omega (arith, last, c.enter.ensures.count, kept),
    )

pub returns-clause-trail : goal.returns-clause-trail
returns-clause-trail c = λ origin h.
    let P : List Change → Type 0 = λ changes. IsTrail changes c.args.parts.now.tables origin in
    c.exchange.ensures.trail origin (c.enter.ensures.trail origin (subst P (sym c.reserve.ensures.current) h))
