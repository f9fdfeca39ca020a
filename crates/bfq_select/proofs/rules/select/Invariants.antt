use Rattle.std.proofs.Common.{◌≡◌, ◌<◌, ◌*◌, ◌-◌}
use Rattle.change_record.specs.Machine.{bfq_of}
use Rattle.plain.specs.Rules.{select_from}
use Rattle.bfq_select.specs.Service.{IsSized, IsBounded}
use Rattle.bfq_select.specs.Course.{Exchanges}
use Rattle.bfq_select.proofs.rules.select.Given as goal

-- the levels that are left do to the machine now what all five do to that of the start
abbrev pub invariant-loop-level : goal.invariant-loop-level
invariant-loop-level l = record {
  rest : select_from (5 - l._level) l.group (bfq_of l.parts.tables) ≡ select_from 5 0 (bfq_of l.fn.parts.tables);
  group : l.group < 32;
  sized : IsSized l.parts.tables;
  bounded : IsBounded (bfq_of l.parts.tables);
  course : Exchanges (2 * l._level) l.fn.parts.tables l.fn.tape l.parts.tables l.tape;
}
