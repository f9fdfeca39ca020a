use Rattle.std.proofs.Common.{◌≡◌, ◌+◌, inr, List, [], ◌∷◌, ◌++◌, length, sym, ap, ◌∙◌, subst, refl, arith, rules}
use Rattle.change_record.specs.declared.change.Change.{Change}
use Rattle.dispatch_core.proofs.Words.{Tables, Plain, meaning, WellFormed}
use Rattle.change_record.specs.Trail.{IsTrail}
use Rattle.plain.specs.Step.{of_sizes, step, MayGiveWay}
use Rattle.plain_laws.specs.Whole.{AreWhole}
use Rattle.plain.specs.declared.answer.Answer.{Answer}
use Rattle.dispatch_core.specs.Relation.{Leaves}
use Rattle.dispatch_core.specs.Counts.{exchanges_of, rule_exchanges, IsCount}
use Rattle.dispatch_core.specs.Running.{Running, IsFor, plain_of}
use Rattle.dispatch_core.proofs.Laws.{WellFormed-later}
use Rattle.dispatch_core.proofs.Outboxes.{outbox_short}
use Rattle.dispatch_core.proofs.Bounds.{exchanges_few}
use Rattle.dispatch_core.proofs.machine.Machine.apply.Goals as goal

pub returns-in-Ok-Refused-clause-well : goal.returns-in-Ok-Refused-clause-well
returns-in-Ok-Refused-clause-well c =
    let P : Running → Type 0 = λ m. IsFor c.args.serial m in
    let Q : Tables → Type 0 = λ t. WellFormed (of_sizes c.self.inside.sizes) (c.args.serial + 1) t in
    let W : Tables → Type 0 = λ t. AreWhole (meaning t) in
    let here = subst P (sym c.self.view_is) c.requires.well in
    let same : c.perform.new.parts.tables ≡ c.self.inside.parts.tables = search rules in
    (subst Q (sym same) (WellFormed-later (of_sizes c.self.inside.sizes) c.args.serial c.self.inside.parts.tables here.0), subst W (sym same) here.1)

pub returns-in-Ok-NotYet-clause-well : goal.returns-in-Ok-NotYet-clause-well
returns-in-Ok-NotYet-clause-well c =
    let P : Running → Type 0 = λ m. IsFor c.args.serial m in
    let Q : Tables → Type 0 = λ t. WellFormed (of_sizes c.self.inside.sizes) (c.args.serial + 1) t in
    let W : Tables → Type 0 = λ t. AreWhole (meaning t) in
    let here = subst P (sym c.self.view_is) c.requires.well in
    let same : c.perform.new.parts.tables ≡ c.self.inside.parts.tables = search rules in
    (subst Q (sym same) (WellFormed-later (of_sizes c.self.inside.sizes) c.args.serial c.self.inside.parts.tables here.0), subst W (sym same) here.1)

pub returns-in-Err-clause-well : goal.returns-in-Err-clause-well
returns-in-Err-clause-well c =
    let P : Running → Type 0 = λ m. IsFor c.args.serial m in
    let Q : Tables → Type 0 = λ t. WellFormed (of_sizes c.self.inside.sizes) (c.args.serial + 1) t in
    let R : List Change → Type 0 = λ l. IsTrail l c.self.inside.parts.tables c.self.inside.parts.tables in
    let W : Tables → Type 0 = λ t. AreWhole (meaning t) in
    let here = subst P (sym c.self.view_is) c.requires.well in
    let begun : IsTrail [] c.self.inside.parts.tables c.self.inside.parts.tables = record { back = refl; fits = tt; puts = tt } in
    let trail = c.perform.ensures.trail c.self.inside.parts.tables (subst R (sym c.requires.idle) begun) in
    let same : c.abandon.new.parts.tables ≡ c.self.inside.parts.tables = c.abandon.ensures.tables ∙ trail.back in
    (subst Q (sym same) (WellFormed-later (of_sizes c.self.inside.sizes) c.args.serial c.self.inside.parts.tables here.0), subst W (sym same) here.1)

pub returns-in-Ok-Accepted-clause-records : goal.returns-in-Ok-Accepted-clause-records
returns-in-Ok-Accepted-clause-records c =
    let P : Running → Type 0 = λ m. IsFor c.args.serial m in
    let here = subst P (sym c.self.view_is) c.requires.well in
    let few = exchanges_few (meaning c.self.inside.parts.tables) c.args.step.now here.1 (λ seat. outbox_short (of_sizes c.self.inside.sizes) c.args.serial c.self.inside.parts.tables seat here.0) in
    let same : c.self.inside.parts.tables ≡ c.args.self.now.tables = ap (λ (m : Running). m.tables) c.self.view_is in
    let R : List Change → Type 0 = λ l. IsTrail l c.self.inside.parts.tables c.self.inside.parts.tables in
    let T : Tables → Type 0 = λ t. IsTrail c.perform.new.tape.current c.perform.new.parts.tables t in
    let begun : IsTrail [] c.self.inside.parts.tables c.self.inside.parts.tables = record { back = refl; fits = tt; puts = tt } in
    let trail = c.in-Ok-Accepted.ensures.trail c.self.inside.parts.tables (subst R (sym c.requires.idle) begun) in
    let steps : c.close.new.self.steps ≡ c.args.tape.now.steps ++ c.perform.new.tape.current ∷ [] = search rules in
    let least = exchanges_of (meaning c.self.inside.parts.tables) c.args.step.now in
    let more = rule_exchanges (meaning c.self.inside.parts.tables) c.args.step.now in
    let L : Answer → Type 0 =
    λ a. Leaves (of_sizes c.self.inside.sizes) c.args.serial least more a c.self.inside.parts.tables c.args.tape.now.current
    c.perform.new.parts.tables c.perform.new.tape.current c.perform.new.tape.spare in
    let left = subst L c.in-Ok-Accepted.field-0-is c.in-Ok-Accepted.ensures.leaves in
    let none : length c.args.tape.now.current ≡ 0 = ap length c.requires.idle in
    let counted : IsCount (meaning c.self.inside.parts.tables) c.args.step.now (length c.perform.new.tape.current) =
    record { least = omega (arith, left.2, none); most = omega (arith, left.3, none); bound = omega (arith, left.3, none, few) } in
    let C : Running → Type 0 = λ m. IsCount (plain_of m) c.args.step.now (length c.perform.new.tape.current) in
    (c.perform.new.tape.current, steps, subst C c.self.view_is counted, subst T same trail)

pub returns-in-Ok-Accepted-clause-well : goal.returns-in-Ok-Accepted-clause-well
returns-in-Ok-Accepted-clause-well c =
    let l = of_sizes c.self.inside.sizes in
    let m = meaning c.self.inside.parts.tables in
    let P : Running → Type 0 = λ m. IsFor c.args.serial m in
    let here = subst P (sym c.self.view_is) c.requires.well in
    let L : Answer → Type 0 =
    λ a. Leaves l c.args.serial (exchanges_of m c.args.step.now) (rule_exchanges m c.args.step.now) a c.self.inside.parts.tables c.args.tape.now.current
    c.perform.new.parts.tables c.perform.new.tape.current c.perform.new.tape.spare in
    let left = subst L c.in-Ok-Accepted.field-0-is c.in-Ok-Accepted.ensures.leaves in
    let made : (meaning c.perform.new.parts.tables, c.in-Ok-Accepted.field-0) ≡ step l m c.args.serial c.args.room c.args.step.now = c.in-Ok-Accepted.ensures.answers in
    let W : Plain × Answer → Type 0 = λ o. AreWhole o.0 in
    (left.0, subst W (sym made) (c.requests_stay_whole.ensures l m c.args.serial c.args.room c.args.step.now here.1))

pub returns-in-Err-clause-applies : goal.returns-in-Err-clause-applies
returns-in-Err-clause-applies c =
    let R : List Change → Type 0 = λ l. IsTrail l c.self.inside.parts.tables c.self.inside.parts.tables in
    let begun : IsTrail [] c.self.inside.parts.tables c.self.inside.parts.tables = record { back = refl; fits = tt; puts = tt } in
    let trail = c.perform.ensures.trail c.self.inside.parts.tables (subst R (sym c.requires.idle) begun) in
    let same : c.abandon.new.parts.tables ≡ c.self.inside.parts.tables = c.abandon.ensures.tables ∙ trail.back in
    let G : Running → Type 0 = λ m. MayGiveWay (step (of_sizes m.sizes) (plain_of m) c.args.serial c.args.room c.args.step.now).1 in
    let next : meaning c.abandon.new.parts.tables ≡ plain_of c.args.self.now = ap meaning same ∙ ap plain_of c.self.view_is in
    inr (subst G c.self.view_is c.in-Err.ensures.answers, refl, next)
