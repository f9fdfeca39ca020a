use Rattle.std.proofs.Common.{◌≡◌, false, take}
use Rattle.bad_sectors.specs.Bad.{touches}
use Rattle.bad_sectors.proofs.bad.touch.Given as goal

-- none of the ranges before this one has one of the bytes
abbrev pub invariant-loop-range : goal.invariant-loop-range
invariant-loop-range l = touches l.offset l.length (take l.range-index l.bad) ≡ false
