use Rattle.std.proofs.Common.{◌≡◌, drop}
use Rattle.checksum.specs.Crc.{with_bytes}
use Rattle.checksum.proofs.sum.with_rest.Given as goal

abbrev pub invariant-loop-byte : goal.invariant-loop-byte
invariant-loop-byte l = with_bytes l.sum (drop l.byte-index l.bytes) ≡ with_bytes l.fn.sum l.bytes
