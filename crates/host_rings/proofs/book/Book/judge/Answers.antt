use Rattle.std.proofs.Common.{ap, ◌∙◌, sym}
use Rattle.std.specs.Vec.{vec_len, vec_capacity}
use Rattle.host_rings.proofs.Entries.{may-enters, room-for-name, book-more, book-refused, book-waits, seen-allows, seen-more, seen-refused, seen-waits}
use Rattle.host_rings.proofs.book.Book.judge.Goals as goal

pub push_within-requires : goal.push_within-requires
push_within-requires c = room-for-name c.self.inside.keeper.state c.call-answer.new.self.state c.self.inside.names.items (vec_len c.self.inside.names) (vec_capacity c.self.inside.names)
    c.journal_len-replayed.result c.args.call.now c.call-answer.result c.in-Accepted.field-0 c.self.invariant c.call-answer.ensures.may c.in-Accepted.is
    c.journal_len-replayed.ensures.len c.journal_len-replayed.ensures.few

pub invariant_of-self : goal.invariant_of-self
invariant_of-self c = book-more c.self.inside.keeper.state c.call-answer.new.self.state c.self.inside.names.items c.push_within.new.items.items
    (vec_len c.self.inside.names) (vec_len c.push_within.new.items) (vec_capacity c.self.inside.names) (vec_capacity c.push_within.new.items)
    c.journal_len-replayed.result c.args.name c.args.call.now c.call-answer.result c.in-Accepted.field-0 c.self.invariant c.call-answer.ensures.may c.in-Accepted.is
    c.journal_len-replayed.ensures.len c.journal_len-replayed.ensures.few c.journal_len-replayed.ensures.replay
    c.push_within.ensures.items c.push_within.ensures.len c.push_within.ensures.capacity

pub invariant_of-self-in-Refused : goal.invariant_of-self-in-Refused
invariant_of-self-in-Refused c = book-refused c.self.inside.keeper.state c.call-answer.new.self.state c.self.inside.names.items (vec_len c.self.inside.names) (vec_capacity c.self.inside.names)
    c.journal_len-replayed.result c.args.call.now c.call-answer.result c.in-Refused.field-0 c.self.invariant c.call-answer.ensures.may c.in-Refused.is
    c.journal_len-replayed.ensures.len c.journal_len-replayed.ensures.few c.journal_len-replayed.ensures.replay

pub returns-in-Accepted-clause-allows : goal.returns-in-Accepted-clause-allows
returns-in-Accepted-clause-allows c = seen-allows c.self.inside.keeper.state c.call-answer.new.self.state c.args.self.now c.self.inside.names.items (vec_len c.self.inside.names) (vec_capacity c.self.inside.names) c.args.call.now c.call-answer.result (sym c.self.view_is) c.self.invariant c.call-answer.ensures.may

pub returns-in-Refused-clause-allows : goal.returns-in-Refused-clause-allows
returns-in-Refused-clause-allows c = seen-allows c.self.inside.keeper.state c.call-answer.new.self.state c.args.self.now c.self.inside.names.items (vec_len c.self.inside.names) (vec_capacity c.self.inside.names) c.args.call.now c.call-answer.result (sym c.self.view_is) c.self.invariant c.call-answer.ensures.may

pub returns-in-NotYet-clause-allows : goal.returns-in-NotYet-clause-allows
returns-in-NotYet-clause-allows c = seen-allows c.self.inside.keeper.state c.call-answer.new.self.state c.args.self.now c.self.inside.names.items (vec_len c.self.inside.names) (vec_capacity c.self.inside.names) c.args.call.now c.call-answer.result (sym c.self.view_is) c.self.invariant c.call-answer.ensures.may

pub returns-in-Accepted-clause-entries : goal.returns-in-Accepted-clause-entries
returns-in-Accepted-clause-entries c = seen-more c.self.inside.keeper.state c.call-answer.new.self.state c.args.self.now c.self.inside.names.items c.push_within.new.items.items (vec_len c.self.inside.names) (vec_capacity c.self.inside.names) c.args.name c.args.call.now c.call-answer.result c.in-Accepted.field-0
    (sym c.self.view_is) c.self.invariant c.call-answer.ensures.may c.in-Accepted.is c.push_within.ensures.items

pub returns-in-Refused-clause-entries : goal.returns-in-Refused-clause-entries
returns-in-Refused-clause-entries c = seen-refused c.self.inside.keeper.state c.call-answer.new.self.state c.args.self.now c.self.inside.names.items c.args.name c.args.call.now c.call-answer.result c.in-Refused.field-0
    (sym c.self.view_is) c.call-answer.ensures.may c.in-Refused.is

pub returns-in-Accepted-clause-limits : goal.returns-in-Accepted-clause-limits
returns-in-Accepted-clause-limits c = (may-enters c.self.inside.keeper.state c.args.call.now c.call-answer.result c.call-answer.new.self.state c.call-answer.ensures.may).limits ∙ ap (λ q. q.limits) c.self.view_is

pub returns-in-Accepted-clause-most : goal.returns-in-Accepted-clause-most
returns-in-Accepted-clause-most c = (may-enters c.self.inside.keeper.state c.args.call.now c.call-answer.result c.call-answer.new.self.state c.call-answer.ensures.may).most ∙ ap (λ q. q.most) c.self.view_is

pub returns-in-Refused-clause-limits : goal.returns-in-Refused-clause-limits
returns-in-Refused-clause-limits c = (may-enters c.self.inside.keeper.state c.args.call.now c.call-answer.result c.call-answer.new.self.state c.call-answer.ensures.may).limits ∙ ap (λ q. q.limits) c.self.view_is

pub returns-in-Refused-clause-most : goal.returns-in-Refused-clause-most
returns-in-Refused-clause-most c = (may-enters c.self.inside.keeper.state c.args.call.now c.call-answer.result c.call-answer.new.self.state c.call-answer.ensures.may).most ∙ ap (λ q. q.most) c.self.view_is

pub invariant_of-self-in-NotYet : goal.invariant_of-self-in-NotYet
invariant_of-self-in-NotYet c = book-waits c.self.inside.keeper.state c.call-answer.new.self.state c.self.inside.names.items (vec_len c.self.inside.names) (vec_capacity c.self.inside.names)
    c.journal_len-replayed.result c.args.call.now c.call-answer.result c.in-NotYet.field-0 c.self.invariant c.call-answer.ensures.may c.in-NotYet.is
    c.journal_len-replayed.ensures.len c.journal_len-replayed.ensures.few c.journal_len-replayed.ensures.replay

pub returns-in-NotYet-clause-entries : goal.returns-in-NotYet-clause-entries
returns-in-NotYet-clause-entries c = seen-waits c.self.inside.keeper.state c.call-answer.new.self.state c.args.self.now c.self.inside.names.items c.args.name c.args.call.now c.call-answer.result c.in-NotYet.field-0
    (sym c.self.view_is) c.call-answer.ensures.may c.in-NotYet.is

pub returns-in-NotYet-clause-limits : goal.returns-in-NotYet-clause-limits
returns-in-NotYet-clause-limits c = (may-enters c.self.inside.keeper.state c.args.call.now c.call-answer.result c.call-answer.new.self.state c.call-answer.ensures.may).limits ∙ ap (λ q. q.limits) c.self.view_is

pub returns-in-NotYet-clause-most : goal.returns-in-NotYet-clause-most
returns-in-NotYet-clause-most c = (may-enters c.self.inside.keeper.state c.args.call.now c.call-answer.result c.call-answer.new.self.state c.call-answer.ensures.may).most ∙ ap (λ q. q.most) c.self.view_is
