use Rattle.std.proofs.Common.{length, arith, sym}
use Rattle.change_record.proofs.Pieces.{begin_of-last, begin_of-le}
use Rattle.change_record.proofs.tape.last_end.Goals as goal

pub returns-clause-start : goal.returns-clause-start
returns-clause-start c = sym (begin_of-last 0 c.args.ends.now (length c.args.ends.now) 0 (omega arith) (omega arith))

pub returns-clause-within : goal.returns-clause-within
returns-clause-within c =
    omega (
      arith,
      begin_of-last 0 c.args.ends.now (length c.args.ends.now) 0 (omega arith) (omega arith),
      (begin_of-le 0 c.args.ends.now (length c.args.ends.now) c.args.len (omega arith) c.requires).1,
    )
