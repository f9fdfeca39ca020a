use Rattle.std.proofs.Common.{sym, ◌∙◌, ap}
use Rattle.std.specs.Vec.{vec_len, vec_capacity}
use Rattle.host_rings.proofs.Entries.{seen-replay, seen-journal}
use Rattle.host_rings.proofs.book.Book.view.Goals as goal

pub returns-clause-state : goal.returns-clause-state
returns-clause-state c = ap (λ k. k.state) c.view.ensures ∙ seen-replay c.self.inside.keeper.state c.args.self.now c.self.inside.names.items (vec_len c.self.inside.names) (vec_capacity c.self.inside.names)
    (sym c.self.view_is) c.self.invariant

pub returns-clause-limits : goal.returns-clause-limits
returns-clause-limits c = ap (λ k. k.state.limits) c.view.ensures ∙ ap (λ p. p.limits) c.self.view_is

pub returns-clause-journal : goal.returns-clause-journal
returns-clause-journal c = ap (λ k. k.state.journal) c.view.ensures ∙ seen-journal c.self.inside.keeper.state c.args.self.now c.self.inside.names.items (vec_len c.self.inside.names)
    (vec_capacity c.self.inside.names) (sym c.self.view_is) c.self.invariant
