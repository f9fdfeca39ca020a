use Rattle.std.proofs.Common.{◌≡◌, take}
use Rattle.sector_text.specs.Hex.{all_are}
use Rattle.sector_text.proofs.sector.is_all.Given as goal

abbrev pub invariant-loop-other : goal.invariant-loop-other
invariant-loop-other l = l.same ≡ all_are l.byte (take l.other-index l.others)
