use Rattle.std.proofs.Common.{List, ◌++◌, ◌∷◌, [], length, subst, sym, ap, ◌∙◌}
use Rattle.change_record.specs.declared.change.Change.{Change}
use Rattle.change_record.specs.Tape.{pieces, rest_of, AreEnds}
use Rattle.change_record.proofs.Pieces.{ends_more, pieces_more}
use Rattle.change_record.proofs.tape.Tape.push.Goals as goal

pub invariant_of-self : goal.invariant_of-self
invariant_of-self c =
    let P : List Change → Type 0 = λ l. AreEnds 0 c.self.inside.ends.items (length l) in
    subst P (sym c.push_within.ensures.items) (ends_more c.self.inside.ends.items c.self.inside.changes.items c.self.invariant (c.args.change ∷ []))

pub returns-clause-steps : goal.returns-clause-steps
returns-clause-steps c =
    ap (λ l. pieces 0 c.self.inside.ends.items l) c.push_within.ensures.items
    ∙ (pieces_more c.self.inside.ends.items c.self.inside.changes.items c.self.invariant (c.args.change ∷ [])).0 ∙ ap (λ r. r.steps) c.self.view_is

pub returns-clause-current : goal.returns-clause-current
returns-clause-current c =
    ap (λ l. rest_of 0 c.self.inside.ends.items l) c.push_within.ensures.items
    ∙ (pieces_more c.self.inside.ends.items c.self.inside.changes.items c.self.invariant (c.args.change ∷ [])).1 ∙ ap (λ r. r.current ++ c.args.change ∷ []) c.self.view_is
