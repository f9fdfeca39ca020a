use Rattle.std.proofs.Common.{◌≡◌, ◌+◌, ◌<◌, length, true, subst, sym, ap, ◌∙◌, arith, rules}
use Rattle.change_record.specs.declared.change.Change.TheVariants.{Pending}
use Rattle.dispatch_core.proofs.Words.{Tables, after, bfq_of, meaning, stands, WellFormed}
use Rattle.plain.specs.Step.{of_sizes}
use Rattle.plain.specs.Entities.{is_weight}
use Rattle.plain.specs.declared.answer.Answer.TheVariants.{Accepted}
use Rattle.plain.specs.declared.answer.Reply.TheVariants.{Done}
use Rattle.dispatch_core.proofs.Recorded.{one_more}
use Rattle.dispatch_core.proofs.Decided.{stands_below}
use Rattle.dispatch_core.proofs.Grouping.{set_weight_does, weighed-meaning, weighed-well}
use Rattle.dispatch_core.proofs.groups.run_set_weight.Goals as goal

pub returns-clause-answers : goal.returns-clause-answers
returns-clause-answers c =
    let l = of_sizes c.args.sizes in
    let t = c.args.parts.now.tables in
    let there : stands (bfq_of t) c.args.group ≡ true = search rules in
    let good : is_weight c.args.weight ≡ true = search rules in
    let below : c.args.group < 32 = stands_below (bfq_of t) c.args.group there in
    let now : c.exchange.new.parts.tables ≡ after t (Pending (16 + c.args.group) c.args.weight) = search rules in
    sym (set_weight_does (meaning t) c.args.room c.args.group c.args.weight there c.if-group-eq0.false good c.if-not-room.false
    ∙ ap (λ m. (m, Accepted Done)) (sym (ap meaning now ∙ weighed-meaning l c.args.serial t (16 + c.args.group) c.args.weight c.requires (omega (arith, below)))))

pub returns-clause-leaves : goal.returns-clause-leaves
returns-clause-leaves c =
    let l = of_sizes c.args.sizes in
    let t = c.args.parts.now.tables in
    let there : stands (bfq_of t) c.args.group ≡ true = search rules in
    let below : c.args.group < 32 = stands_below (bfq_of t) c.args.group there in
    let now : c.exchange.new.parts.tables ≡ after t (Pending (16 + c.args.group) c.args.weight) = search rules in
    let P : Tables → Type 0 = λ t. WellFormed l (c.args.serial + 1) t in
    let left = one_more c.reserve.new.self.current c.exchange.new.self.current _ c.exchange.ensures.recorded in
    let kept = ap length c.reserve.ensures.current in (
      subst P (sym now) (weighed-well l c.args.serial t (16 + c.args.group) c.args.weight c.requires (omega (arith, below))),
      omega (arith, c.exchange.ensures.spare, c.in_ok-reserve.ensures.spare),
      omega (arith, left, kept),
      omega (arith, left, kept),
    )
