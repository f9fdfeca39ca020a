use Rattle.std.proofs.Common.{arith, sym}
use Rattle.change_record.proofs.Pieces.{begin_of-last, ends_at}
use Rattle.change_record.proofs.tape.span_at.Goals as goal

pub returns-then-at-eq0-clause-within : goal.returns-then-at-eq0-clause-within
returns-then-at-eq0-clause-within c = (ends_at 0 c.args.ends.now c.args.at c.args.len 0 c.requires.there c.requires.rising).1

pub returns-clause-start : goal.returns-clause-start
returns-clause-start c = sym (begin_of-last 0 c.args.ends.now c.args.at 0 (omega arith) (omega (arith, c.requires.there)))

pub returns-clause-ordered : goal.returns-clause-ordered
returns-clause-ordered c =
    omega (
      arith,
      begin_of-last 0 c.args.ends.now c.args.at 0 (omega arith) (omega (arith, c.requires.there)),
      (ends_at 0 c.args.ends.now c.args.at c.args.len 0 c.requires.there c.requires.rising).0,
    )

pub returns-clause-within : goal.returns-clause-within
returns-clause-within c = (ends_at 0 c.args.ends.now c.args.at c.args.len 0 c.requires.there c.requires.rising).1
