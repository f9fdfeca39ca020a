use Rattle.std.proofs.Common.{sym, ◌∙◌, arith}
use Rattle.std.proofs.lemmas.List.{length-drop}
use Rattle.session_proto.specs.Opened.{first_at}
use Rattle.session_proto.proofs.Nexts.{more_short, whole_within}
use Rattle.session_proto.proofs.client_feeder.found_in.Goals as goal

pub found_behind-requires-in-Whole-Two-default : goal.found_behind-requires-in-Whole-Two-default
found_behind-requires-in-Whole-Two-default c =
    whole_within first_at 32787 c.args.bytes.now c.in-Whole-Two-default.field-0 c.in-Whole-Two-default.size (sym c.opening.ensures ∙ c.in-Whole-Two-default.is)

pub returns-in-More-clause-short : goal.returns-in-More-clause-short
returns-in-More-clause-short c = λ _.
    omega (arith, more_short first_at 32787 c.args.bytes.now (sym c.opening.ensures ∙ c.in-More.is), length-drop c.none_found.result.size c.args.bytes.now)
