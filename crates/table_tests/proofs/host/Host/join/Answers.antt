use Rattle.std.proofs.Common.{Some}
use Rattle.table_tests.proofs.Opening.{sized_joined, bounded_joined}
use Rattle.table_tests.proofs.host.Host.join.Goals as goal

pub invariant_of-self-2 : goal.invariant_of-self-2
invariant_of-self-2 c =
    let old = c.args.self.now in
    let new = c.exchange.new.parts in
    record {
      sized = sized_joined old.parts.tables new.tables c.args.entity c.args.group c.exchange.ensures.tables old.sized c.requires;
      bounded = bounded_joined old.parts.tables new.tables c.args.entity (Some c.args.group) c.exchange.ensures.tables old.bounded;
    }
