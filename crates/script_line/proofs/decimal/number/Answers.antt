-- A word that is not plain spells no number; a plain one spells the value of its digits.
use Rattle.std.proofs.Common.{◌≡◌, ℕ, List, sym, subst, arith, ◌∙◌}
use Rattle.std.proofs.lemmas.Bool.{false≢true}
use Rattle.std.proofs.lemmas.List.{take_all}
use Rattle.std.specs.Str.Parse.{AllDigits, digits_value}
use Rattle.script_line.proofs.Decimals.{IsPlain-decimal, no_decimal, digits_so_far, whole_decimal}
use Rattle.script_line.proofs.decimal.number.Goals as goal

pub returns-then-not-is_plain-clause-none : goal.returns-then-not-is_plain-clause-none
returns-then-not-is_plain-clause-none c = λ n fits e.
    let is_plain = c.is_plain.ensures.1 (IsPlain-decimal n c.args.word.now fits e) in
    false≢true (sym c.if-not-is_plain.true ∙ is_plain)

pub returns-in_err-n-clause-none : goal.returns-in_err-n-clause-none
returns-in_err-n-clause-none c =
    rw c.from_residual.ensures (no_decimal c.args.word.now c.loop-byte.byte-index c.loop-byte.n c.loop-byte-test.true c.loop-byte.invariant.value c.in_err-n.ensures)

pub loop-byte-preserved : goal.loop-byte-preserved
loop-byte-preserved c =
    let more = c.in_ok-n.ensures in
    let step = digits_so_far c.args.word.now c.loop-byte.byte-index c.loop-byte.n c.in_ok-n.n c.loop-byte-test.true c.loop-byte.invariant.digits c.loop-byte.invariant.value more.0.0 more.1 in
    record { fits = omega (arith, more); digits = step.0; value = step.1 }

pub returns-clause-found : goal.returns-clause-found
returns-clause-found c =
    let P : List ℕ → Type 0 = λ front. AllDigits 10 front × (c.loop-byte.n ≡ digits_value 10 front) in
    let read : P c.args.word.now = subst P (take_all c.loop-byte.byte-index c.args.word.now c.loop-byte-test.false) (c.loop-byte.invariant.digits, c.loop-byte.invariant.value) in
    whole_decimal c.args.word.now c.loop-byte.n (c.is_plain.ensures.0 c.if-not-is_plain.false) read.0 read.1 c.loop-byte.invariant.fits
