use Rattle.std.proofs.Common.{ℕ, ◌%◌, ◌/◌, ◌<◌, bit_xor, refl, ap, ◌∙◌, arith}
use Rattle.checksum.specs.Crc.{entry}
use Rattle.checksum.proofs.Linear.{step, is_step, two_zeros, three_zeros, four_more}
use Rattle.checksum.proofs.sum.with_four.Goals as goal

pub returns : goal.returns
returns c =
    let s : ℕ = c.args.sum in
    let small : s / 256 / 256 / 256 < 256 = omega (arith, c.ranges.sum.fits) in
    let one = c.before_three.ensures ∙ (three_zeros (entry (bit_xor (s % 256) c.from.result)) ∙ ap (λ v. step (step (step (entry (bit_xor (s % 256) v))))) c.from.ensures) in
    let two = c.before_two.ensures ∙ (two_zeros (entry (bit_xor (s / 256 % 256) c.from-2.result)) ∙ ap (λ v. step (step (entry (bit_xor (s / 256 % 256) v)))) c.from-2.ensures) in
    let three = c.before_one.ensures ∙ (is_step (entry (bit_xor (s / 256 / 256 % 256) c.from-3.result)) ∙ ap (λ v. step (entry (bit_xor (s / 256 / 256 % 256) v))) c.from-3.ensures) in
    let four = c.entry.ensures ∙ ap (λ v. entry (bit_xor (s / 256 / 256 / 256) v)) c.from-4.ensures in
    let first : ℕ = step (step (step (entry (bit_xor (s % 256) c.args.first)))) in
    let second : ℕ = step (step (entry (bit_xor (s / 256 % 256) c.args.second))) in
    let third : ℕ = step (entry (bit_xor (s / 256 / 256 % 256) c.args.third)) in
    ap (λ v. bit_xor (bit_xor (bit_xor v c.before_two.result) c.before_one.result) c.entry.result) one
    ∙ (ap (λ v. bit_xor (bit_xor (bit_xor first v) c.before_one.result) c.entry.result) two
    ∙ (ap (λ v. bit_xor (bit_xor (bit_xor first second) v) c.entry.result) three
    ∙ (ap (λ v. bit_xor (bit_xor (bit_xor first second) third) v) four
    ∙ four_more s (s / 256) (s / 256 / 256) (s / 256 / 256 / 256) c.args.first c.args.second c.args.third c.args.fourth refl refl refl small
    (omega (arith, c.ranges.first.fits)) (omega (arith, c.ranges.second.fits)) (omega (arith, c.ranges.third.fits)) (omega (arith, c.ranges.fourth.fits)))))
