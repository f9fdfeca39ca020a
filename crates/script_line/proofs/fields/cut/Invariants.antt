use Rattle.std.proofs.Common.{take}
use Rattle.script_line.specs.Words.{HasNoSpace}
use Rattle.script_line.proofs.fields.cut.Given as goal

abbrev pub invariant-loop-i : goal.invariant-loop-i
invariant-loop-i l = HasNoSpace (take l.i l.text)
