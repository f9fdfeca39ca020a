use Rattle.std.proofs.Common.{◌≡◌, ◌*◌, drop}
use Rattle.checksum.specs.Crc.{with_bytes}
use Rattle.checksum.proofs.sum.with_fours.Given as goal

abbrev pub invariant-loop-four : goal.invariant-loop-four
invariant-loop-four l = with_bytes l.sum (drop (l.four * 4) l.bytes) ≡ with_bytes l.fn.sum l.bytes
