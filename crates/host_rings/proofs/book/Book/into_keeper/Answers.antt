use Rattle.std.proofs.Common.{sym}
use Rattle.std.specs.Vec.{vec_len, vec_capacity}
use Rattle.host_rings.proofs.Entries.{seen-replay}
use Rattle.host_rings.proofs.book.Book.into_keeper.Goals as goal

pub returns : goal.returns
returns c =
    seen-replay c.self.inside.keeper.state c.args.self c.self.inside.names.items (vec_len c.self.inside.names) (vec_capacity c.self.inside.names)
    (sym c.self.view_is) c.self.invariant
