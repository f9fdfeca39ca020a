use Rattle.std.proofs.Common.{◌≡◌, ℕ, List, Option, Some, None, sym, ap, ◌∙◌, subst, arith}
use Rattle.linked_rows.specs.declared.Ends.{Ends}
use Rattle.plain.specs.Groups.{parent}
use Rattle.group_tree.proofs.Kept.{first_is, first_small}
use Rattle.group_tree.proofs.GroupTree.first_child.Goals as goal

pub overflow_cast-result : goal.overflow_cast-result
overflow_cast-result c =
    let a = first_small c.args.group c.self.inside.parents c.self.inside.sides c.self.inside.ends c.self.invariant c.requires c.in-Some.row
    (sym (ap (λ (w : Ends). w.first) c.ends_at.ensures) ∙ c.in-Some.is) in
    omega (arith, a)

pub returns-in-Some : goal.returns-in-Some
returns-in-Some c =
    subst (λ (ps : List (Option ℕ)). parent ps c.in-Some.row ≡ Some c.args.group) c.self.view_is
    (first_is c.args.group c.self.inside.parents c.self.inside.sides c.self.inside.ends c.self.invariant c.requires (Some c.in-Some.row)
    (sym c.in-Some.is ∙ ap (λ (w : Ends). w.first) c.ends_at.ensures))

pub returns-in-None : goal.returns-in-None
returns-in-None c =
    subst (λ (ps : List (Option ℕ)). (entity : ℕ) → parent ps entity ≡ Some c.args.group → ⊥) c.self.view_is
    (first_is c.args.group c.self.inside.parents c.self.inside.sides c.self.inside.ends c.self.invariant c.requires None
    (sym c.in-None.is ∙ ap (λ (w : Ends). w.first) c.ends_at.ensures))
