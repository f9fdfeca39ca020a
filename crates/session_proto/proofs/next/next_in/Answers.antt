use Rattle.std.proofs.Common.{arith}
use Rattle.session_proto.proofs.Nexts.{next_read, next_wait}
use Rattle.session_proto.proofs.next.next_in.Goals as goal

pub returns-then-rest-length : goal.returns-then-rest-length
returns-then-rest-length g c = next_wait (g.S.Side.body_at c.args.version) g.S.Side.MOST c.args.bytes.now (omega arith) c.length_at-length.ensures (omega arith) (omega arith)
    c.split_at.ensures.back (omega arith)

pub returns-in-Ok : goal.returns-in-Ok
returns-in-Ok g c = next_read (g.S.Side.body_at c.args.version) g.S.Side.MOST c.args.bytes.now (omega arith) c.length_at-length.ensures (omega arith) (omega arith)
    c.split_at.ensures.back (omega arith) c.split_at-2.ensures.front c.in-Ok.ensures

pub returns-in-Err-Fault : goal.returns-in-Err-Fault
returns-in-Err-Fault g c = next_read (g.S.Side.body_at c.args.version) g.S.Side.MOST c.args.bytes.now (omega arith) c.length_at-length.ensures (omega arith) (omega arith)
    c.split_at.ensures.back (omega arith) c.split_at-2.ensures.front (rw c.in-Err-Fault.field-0-is at c.in-Err-Fault.ensures)
