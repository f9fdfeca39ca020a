use Rattle.std.proofs.Common.{◌≡◌, [], ◌∷◌, ◌++◌, length, take, sym, ap, ◌∙◌, subst, List, rules}
use Rattle.std.specs.List.{All}
use Rattle.plain.specs.declared.call.Call.{Call}
use Rattle.plain.specs.declared.call.Call.TheVariants.{Do}
use Rattle.history.specs.declared.place.Place.{Place}
use Rattle.history.specs.Places.{steps_in, IsPlaced}
use Rattle.history.proofs.Places.{placed-entered, steps-entered}
use Rattle.history.proofs.place.enter.Goals as goal

pub returns-clause-steps : goal.returns-clause-steps
returns-clause-steps c =
    let journal : List Call = c.args.journal.now.items in
    let places : List Place = c.args.line.now.items in
    let last : Place = record { serial = c.args.serial; entry = length journal } in
    let line : c.push_within.new.items.items ≡ take c.args.cursor places ++ last ∷ [] = search rules in
    let entries : c.push_within-2.new.items.items ≡ journal ++ Do c.args.step ∷ [] = c.push_within-2.ensures.items in
    ap (λ (j : List Call). steps_in j c.push_within.new.items.items) entries
    ∙ ap (steps_in (journal ++ Do c.args.step ∷ [])) line
    ∙ steps-entered journal places c.args.cursor c.args.serial c.args.step c.requires.placed

pub returns-clause-placed : goal.returns-clause-placed
returns-clause-placed c =
    let journal : List Call = c.args.journal.now.items in
    let places : List Place = c.args.line.now.items in
    let last : Place = record { serial = c.args.serial; entry = length journal } in
    let line : c.push_within.new.items.items ≡ take c.args.cursor places ++ last ∷ [] = search rules in
    let entries : c.push_within-2.new.items.items ≡ journal ++ Do c.args.step ∷ [] = c.push_within-2.ensures.items in
    let P : List Call → Type 0 = λ j. All (IsPlaced j) c.push_within.new.items.items in
    let Q : List Place → Type 0 = λ l. All (IsPlaced (journal ++ Do c.args.step ∷ [])) l in
    subst P (sym entries) (subst Q (sym line) (placed-entered journal places c.args.cursor c.args.serial c.args.step c.requires.placed))
