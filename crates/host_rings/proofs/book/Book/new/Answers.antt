use Rattle.std.specs.Vec.{vec_len, vec_capacity}
use Rattle.host_rings.proofs.Entries.{book-new}
use Rattle.host_rings.proofs.book.Book.new.Goals as goal

pub invariant_of-result : goal.invariant_of-result
invariant_of-result c = book-new c.in_ok-keeper.keeper.state _ c.args.config.history_max c.in_ok-names.names.items (vec_len c.in_ok-names.names)
    (vec_capacity c.in_ok-names.names) c.in_ok-keeper.ensures.opened c.in_ok-names.ensures.items c.in_ok-names.ensures.len c.in_ok-names.ensures.capacity
    c.journal_len-replayed.ensures.replay
