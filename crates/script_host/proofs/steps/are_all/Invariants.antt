use Rattle.std.proofs.Common.{◌≡◌, take}
use Rattle.sector_text.specs.Hex.{all_are}
use Rattle.script_host.proofs.steps.are_all.Given as goal

-- whether those that have been seen are the byte
abbrev pub invariant-loop-other : goal.invariant-loop-other
invariant-loop-other l = l.same ≡ all_are l.byte (take l.other-index l.bytes)
