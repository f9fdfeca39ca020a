use Rattle.std.proofs.Common.{◌≡◌, ◌++◌, flat_map, length}
use Rattle.sector_text.specs.Hex.{hex_byte}
use Rattle.sector_text.proofs.digits.put_bytes.Given as goal

abbrev pub invariant-loop-block : goal.invariant-loop-block
invariant-loop-block l = l.out.items ++ flat_map hex_byte l.rest ≡ l.fn.out.items ++ flat_map hex_byte l.bytes

abbrev pub decreases-loop-block : goal.decreases-loop-block
decreases-loop-block l = length l.rest
