use Rattle.std.proofs.Common.{◌≡◌, drop}
use Rattle.change_record.specs.Machine.{bfq_of}
use Rattle.plain.specs.Rules.{along, charge_one}
use Rattle.bfq_select.specs.Service.{IsSized, IsBounded}
use Rattle.bfq_select.specs.Course.{Exchanges}
use Rattle.bfq_select.proofs.charging.charge_path.Given as goal

-- the rest of the path does to the machine now what the whole path does to that of the start
abbrev pub invariant-loop-entity : goal.invariant-loop-entity
invariant-loop-entity l = record {
  rest : along (charge_one l.sectors) (drop l.entity-index l.path) (bfq_of l.parts.tables) ≡ along (charge_one l.sectors) l.path (bfq_of l.fn.parts.tables);
  sized : IsSized l.parts.tables;
  bounded : IsBounded (bfq_of l.parts.tables);
  course : Exchanges l.entity-index l.fn.parts.tables l.fn.tape l.parts.tables l.tape;
}
