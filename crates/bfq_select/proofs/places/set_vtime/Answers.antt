use Rattle.std.proofs.Common.{rules}
use Rattle.change_record.specs.Machine.{bfq_of}
use Rattle.bfq_select.proofs.Bounds.{bounded_vtime}
use Rattle.bfq_select.proofs.places.set_vtime.Goals as goal

pub returns-clause-bounded : goal.returns-clause-bounded
returns-clause-bounded c = bounded_vtime (bfq_of c.args.parts.now.tables) (bfq_of c.exchange.new.parts.tables) c.args.group c.args.class c.args.vtime (search rules)
