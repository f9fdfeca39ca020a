use Rattle.std.proofs.Common.{sym, arith}
use Rattle.session_proto.specs.Opened.{first_at}
use Rattle.session_proto.proofs.Nexts.{next_read, next_wait}
use Rattle.session_proto.proofs.opening.opening.Goals as goal

pub returns-then-rest-length : goal.returns-then-rest-length
returns-then-rest-length c = next_wait first_at 32787 c.args.bytes.now (omega arith) c.length_at-length.ensures (omega arith) (omega arith)
    c.split_at.ensures.back (omega arith)

pub returns-in-Ok : goal.returns-in-Ok
returns-in-Ok c = next_read first_at 32787 c.args.bytes.now (omega arith) c.length_at-length.ensures (omega arith) (omega arith)
    c.split_at.ensures.back (omega arith) c.split_at-2.ensures.front (sym c.in-Ok.ensures)

pub returns-in-Err : goal.returns-in-Err
returns-in-Err c = next_read first_at 32787 c.args.bytes.now (omega arith) c.length_at-length.ensures (omega arith) (omega arith)
    c.split_at.ensures.back (omega arith) c.split_at-2.ensures.front (sym c.in-Err.ensures)
