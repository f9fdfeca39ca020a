use Rattle.std.proofs.Common.{◌≡◌, ◌++◌, length}
use Rattle.script_line.specs.Words.{AreNumbers, IsTail, numbers}
use Rattle.script_line.proofs.fields.number_fields.Given as goal

abbrev pub invariant-loop-rest : goal.invariant-loop-rest
invariant-loop-rest l = record {
  fits : AreNumbers l.found.items;
  tail : IsTail l.rest;
  whole : l.text ≡ numbers l.found.items ++ l.rest;
}

abbrev pub decreases-loop-rest : goal.decreases-loop-rest
decreases-loop-rest l = length l.rest
