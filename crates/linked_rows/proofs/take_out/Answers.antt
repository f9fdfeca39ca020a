use Rattle.std.proofs.Common.{sym, ap, ◌∙◌}
use Rattle.linked_rows.specs.declared.Sides.{Sides}
use Rattle.linked_rows.specs.Chains.{joined_sides, joined_at}
use Rattle.linked_rows.proofs.Chains.{list-cut, same_list}
use Rattle.linked_rows.proofs.take_out.Goals as goal

pub returns-clause-list : goal.returns-clause-list
returns-clause-list c xs ys once lt is =
    same_list _ _ _ _ _ _
    (sym (c.join.ensures.sides ∙ ap (λ (w : Sides). joined_sides c.args.sides.now w.before w.after) c.side_at-side.ensures))
    (sym (c.join.ensures.ends ∙ ap (λ (w : Sides). joined_at c.args.ends.now c.args.list w.before w.after) c.side_at-side.ensures))
    (list-cut c.args.sides.now c.args.ends.now c.args.list xs c.args.row ys once lt is)
