use Rattle.std.proofs.Common.{◌≡◌, ℕ, List, ◌++◌, ◌∷◌, [], length, subst, sym, ap, ◌∙◌, rules}
use Rattle.change_record.specs.Tape.{pieces, rest_of, AreEnds}
use Rattle.change_record.proofs.Pieces.{AreEnds-close, pieces_closed, rest_closed}
use Rattle.change_record.proofs.tape.Tape.close.Goals as goal

pub invariant_of-self : goal.invariant_of-self
invariant_of-self c =
    let changes = c.self.inside.changes.items in
    let ends = c.self.inside.ends.items in
    let end : c.push_within.new.items.items ≡ ends ++ length changes ∷ [] = c.push_within.ensures.items ∙ ap (λ n. ends ++ n ∷ []) (search rules) in
    let P : List ℕ → Type 0 = λ es. AreEnds 0 es (length changes) in
    subst P (sym end) (AreEnds-close 0 ends (length changes) c.self.invariant)

pub returns-clause-steps : goal.returns-clause-steps
returns-clause-steps c =
    let changes = c.self.inside.changes.items in
    let ends = c.self.inside.ends.items in
    let end : c.push_within.new.items.items ≡ ends ++ length changes ∷ [] = c.push_within.ensures.items ∙ ap (λ n. ends ++ n ∷ []) (search rules) in
    ap (λ es. pieces 0 es changes) end ∙ pieces_closed ends changes c.self.invariant
    ∙ ap (λ r. r.steps ++ r.current ∷ []) c.self.view_is

pub returns-clause-current : goal.returns-clause-current
returns-clause-current c =
    let changes = c.self.inside.changes.items in
    let ends = c.self.inside.ends.items in
    let end : c.push_within.new.items.items ≡ ends ++ length changes ∷ [] = c.push_within.ensures.items ∙ ap (λ n. ends ++ n ∷ []) (search rules) in
    ap (λ es. rest_of 0 es changes) end ∙ rest_closed ends changes c.self.invariant
