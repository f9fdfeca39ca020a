use Rattle.std.proofs.Common.{ℕ, ◌+◌, ◌*◌, ◌<◌, List, length, drop, sym, ap, ◌∙◌, arith}
use Rattle.checksum.specs.Crc.{with_bytes}
use Rattle.checksum.proofs.Fours.{four_dropped}
use Rattle.checksum.proofs.sum.with_fours.Goals as goal

pub loop-four-preserved : goal.loop-four-preserved
loop-four-preserved c =
    let bytes : List ℕ = c.args.bytes.now in
    let four : ℕ = c.loop-four.four in
    let within : four * 4 + 3 < length bytes = omega (arith, c.loop-four-test.true) in
    ap (λ v. with_bytes v (drop ((four + 1) * 4) bytes)) c.with_four-sum.ensures
    ∙ (sym (ap (with_bytes c.loop-four.sum) (four_dropped bytes four within)) ∙ c.loop-four.invariant)
