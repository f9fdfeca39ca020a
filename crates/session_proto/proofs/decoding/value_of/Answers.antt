use Rattle.std.proofs.Common.{length, ap, sym, ◌∙◌}
use Rattle.session_proto.specs.Reading.{whole_of}
use Rattle.session_proto.proofs.Nexts.{whole_at, whole_not_at}
use Rattle.session_proto.proofs.decoding.value_of.Goals as goal

pub returns-in-More : goal.returns-in-More
returns-in-More g c = ap (whole_of (length c.args.bytes.now)) (sym c.in_ok-next_in.ensures ∙ c.in-More.is)

pub returns-in-Bad : goal.returns-in-Bad
returns-in-Bad g c = ap (whole_of (length c.args.bytes.now)) (sym c.in_ok-next_in.ensures ∙ c.in-Bad.is)

pub returns-then-size-bytes : goal.returns-then-size-bytes
returns-then-size-bytes g c = ap (whole_of (length c.args.bytes.now)) (sym c.in_ok-next_in.ensures ∙ c.in-Whole.is) ∙ whole_at (length c.args.bytes.now) c.in-Whole.value c.in-Whole.size c.if-size-bytes.true

pub returns-else-size-bytes : goal.returns-else-size-bytes
returns-else-size-bytes g c = ap (whole_of (length c.args.bytes.now)) (sym c.in_ok-next_in.ensures ∙ c.in-Whole.is) ∙ whole_not_at (length c.args.bytes.now) c.in-Whole.value c.in-Whole.size c.if-size-bytes.false
