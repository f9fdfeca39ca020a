use Rattle.std.proofs.Common.{ℕ, List, Option, Some, sym, ap, ◌∙◌}
use Rattle.linked_rows.specs.declared.Sides.{Sides}
use Rattle.linked_rows.specs.declared.Ends.{Ends}
use Rattle.linked_rows.specs.Chains.{joined_sides, joined_at, row_behind, spliced_sides, spliced_ends}
use Rattle.linked_rows.proofs.Chains.{list-splice, same_list}
use Rattle.linked_rows.proofs.put_behind.Goals as goal

pub returns-clause-list : goal.returns-clause-list
returns-clause-list c xs ys once lt within before is =
    same_list _ _ _ _ _ _
    (sym (c.join-2.ensures.sides
    ∙ ap (λ (s : List Sides). joined_sides s (Some c.args.row) c.row_behind-after.result) c.join.ensures.sides
    ∙ ap (λ (o : Option ℕ). spliced_sides c.args.sides.now c.args.before c.args.row o) c.row_behind-after.ensures
    ∙ ap (λ (o : Option ℕ). spliced_sides c.args.sides.now o c.args.row (row_behind c.args.sides.now c.args.ends.now c.args.list o)) before))
    (sym (c.join-2.ensures.ends
    ∙ ap (λ (e : List Ends). joined_at e c.args.list (Some c.args.row) c.row_behind-after.result) c.join.ensures.ends
    ∙ ap (λ (o : Option ℕ). spliced_ends c.args.ends.now c.args.list c.args.before c.args.row o) c.row_behind-after.ensures
    ∙ ap (λ (o : Option ℕ). spliced_ends c.args.ends.now c.args.list o c.args.row (row_behind c.args.sides.now c.args.ends.now c.args.list o)) before))
    (list-splice c.args.sides.now c.args.ends.now c.args.list xs c.args.row ys once lt within is)
