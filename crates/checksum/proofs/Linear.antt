-- A sum of two numbers, bit by bit, goes through each step as they do: so bytes can be brought in together.
use Rattle.std.proofs.Common.{◌≡◌, ℕ, ◌/◌, ◌%◌, ◌<◌, ◌==◌, true, false, cond, inl, inr, bit_xor, sym, ap, ◌∙◌, arith}
use Rattle.std.proofs.lemmas.Nat.{xor_shr, xor_mod, xor_comm}
use Rattle.std.specs.Int.Bits.{xor_assoc, xor_self, xor_zero_l, xor_zero_r}
use Rattle.std.proofs.lemmas.Bool.{cases_Bool}
use Rattle.std.proofs.lemmas.Bool.Decides.{nat_tests}
use Rattle.checksum.specs.Crc.{polynomial, shifted, entry, with_byte}

-- four terms, the inner two exchanged
pub inner : (a b c d : ℕ) → bit_xor (bit_xor a b) (bit_xor c d) ≡ bit_xor (bit_xor a c) (bit_xor b d)
inner a b c d =
    xor_assoc a b (bit_xor c d)
    ∙ (ap (bit_xor a) (sym (xor_assoc b c d) ∙ (ap (λ x. bit_xor x d) (xor_comm b c) ∙ xor_assoc c b d))
    ∙ sym (xor_assoc a c (bit_xor b d)))

even : (n : ℕ) → n % 2 ≡ 0 → shifted n ≡ n / 2
even n e = ap (λ r. cond (r == 1) (bit_xor polynomial (n / 2)) (n / 2)) e

odd : (n : ℕ) → n % 2 ≡ 1 → shifted n ≡ bit_xor polynomial (n / 2)
odd n e = ap (λ r. cond (r == 1) (bit_xor polynomial (n / 2)) (n / 2)) e

is_odd : (n : ℕ) → (n % 2 == 1) ≡ true → n % 2 ≡ 1
is_odd n h = grind (arith, nat_tests)

is_even : (n : ℕ) → (n % 2 == 1) ≡ false → n % 2 ≡ 0
is_even n h = grind (arith, nat_tests)

-- the lowest bit, and the others
lowest : (a b r s : ℕ) → a % 2 ≡ r → b % 2 ≡ s → bit_xor a b % 2 ≡ bit_xor r s
lowest a b r s e f = xor_mod a b 1 ∙ (ap (λ x. bit_xor x (b % 2)) e ∙ ap (bit_xor r) f)

others : (a b : ℕ) → bit_xor a b / 2 ≡ bit_xor (a / 2) (b / 2)
others a b = xor_shr a b 1

shifted_both : (a b : ℕ) → shifted (bit_xor a b) ≡ bit_xor (shifted a) (shifted b)
shifted_both a b = elim (cases_Bool (a % 2 == 1)) [
  | inl p ↦ elim (cases_Bool (b % 2 == 1)) [
    | inl q ↦
        even (bit_xor a b) (lowest a b 1 1 (is_odd a p) (is_odd b q)) ∙ (others a b
        ∙ (sym (ap (λ x. bit_xor x (bit_xor (a / 2) (b / 2))) (xor_self polynomial) ∙ xor_zero_l (bit_xor (a / 2) (b / 2)))
        ∙ (inner polynomial polynomial (a / 2) (b / 2)
        ∙ sym (ap (λ x. bit_xor x (shifted b)) (odd a (is_odd a p)) ∙ ap (bit_xor (bit_xor polynomial (a / 2))) (odd b (is_odd b q))))))
    | inr q ↦
        odd (bit_xor a b) (lowest a b 1 0 (is_odd a p) (is_even b q)) ∙ (ap (bit_xor polynomial) (others a b)
        ∙ (sym (xor_assoc polynomial (a / 2) (b / 2))
        ∙ sym (ap (λ x. bit_xor x (shifted b)) (odd a (is_odd a p)) ∙ ap (bit_xor (bit_xor polynomial (a / 2))) (even b (is_even b q)))))
  ]
  | inr p ↦ elim (cases_Bool (b % 2 == 1)) [
    | inl q ↦
        odd (bit_xor a b) (lowest a b 0 1 (is_even a p) (is_odd b q)) ∙ (ap (bit_xor polynomial) (others a b)
        ∙ (sym (xor_assoc polynomial (a / 2) (b / 2))
        ∙ (ap (λ x. bit_xor x (b / 2)) (xor_comm polynomial (a / 2))
        ∙ (xor_assoc (a / 2) polynomial (b / 2)
        ∙ sym (ap (λ x. bit_xor x (shifted b)) (even a (is_even a p)) ∙ ap (bit_xor (a / 2)) (odd b (is_odd b q)))))))
    | inr q ↦
        even (bit_xor a b) (lowest a b 0 0 (is_even a p) (is_even b q)) ∙ (others a b
        ∙ sym (ap (λ x. bit_xor x (shifted b)) (even a (is_even a p)) ∙ ap (bit_xor (a / 2)) (even b (is_even b q))))
  ]
]

-- the same of what goes through two steps
through : (f g : ℕ → ℕ) → ((a b : ℕ) → f (bit_xor a b) ≡ bit_xor (f a) (f b)) → ((a b : ℕ) → g (bit_xor a b) ≡ bit_xor (g a) (g b))
    → (a b : ℕ) → f (g (bit_xor a b)) ≡ bit_xor (f (g a)) (f (g b))
through f g p q a b = ap f (q a b) ∙ p (g a) (g b)

-- two steps, four and eight
abbrev two : ℕ → ℕ
two n = shifted (shifted n)

abbrev four : ℕ → ℕ
four n = two (two n)

entry_both : (a b : ℕ) → entry (bit_xor a b) ≡ bit_xor (entry a) (entry b)
entry_both =
    let by_two = through shifted shifted shifted_both shifted_both in
    let by_four = through two two by_two by_two in
    through four four by_four by_four

-- a sum with a zero more
abbrev pub step : ℕ → ℕ
step x = bit_xor (entry (x % 256)) (x / 256)

pub step_both : (a b : ℕ) → step (bit_xor a b) ≡ bit_xor (step a) (step b)
step_both a b =
    ap (λ x. bit_xor (entry x) (bit_xor a b / 256)) (xor_mod a b 8)
    ∙ (ap (bit_xor (entry (bit_xor (a % 256) (b % 256)))) (xor_shr a b 8)
    ∙ (ap (λ x. bit_xor x (bit_xor (a / 256) (b / 256))) (entry_both (a % 256) (b % 256))
    ∙ inner (entry (a % 256)) (entry (b % 256)) (a / 256) (b / 256)))

pub is_step : (x : ℕ) → with_byte x 0 ≡ step x
is_step x = ap (λ y. bit_xor (entry (y % 256)) (x / 256)) (xor_zero_r x)

pub two_steps_both : (a b : ℕ) → step (step (bit_xor a b)) ≡ bit_xor (step (step a)) (step (step b))
two_steps_both = through step step step_both step_both

pub three_steps_both : (a b : ℕ) → step (step (step (bit_xor a b))) ≡ bit_xor (step (step (step a))) (step (step (step b)))
three_steps_both = through step (λ x. step (step x)) step_both two_steps_both

-- a byte more is brought in beside what a sum has
one_more : (x b : ℕ) → b < 256 → with_byte x b ≡ bit_xor (step x) (entry b)
one_more x b h =
    let low : b % 256 ≡ b = omega (arith, h) in
    ap (λ y. bit_xor (entry y) (x / 256)) (xor_mod x b 8 ∙ ap (bit_xor (x % 256)) low)
    ∙ (ap (λ y. bit_xor y (x / 256)) (entry_both (x % 256) b)
    ∙ (xor_assoc (entry (x % 256)) (entry b) (x / 256)
    ∙ (ap (bit_xor (entry (x % 256))) (xor_comm (entry b) (x / 256))
    ∙ sym (xor_assoc (entry (x % 256)) (x / 256) (entry b)))))

-- five terms, the last four taken together
last_four : (x a b c d : ℕ) → bit_xor (bit_xor (bit_xor (bit_xor x a) b) c) d ≡ bit_xor x (bit_xor (bit_xor (bit_xor a b) c) d)
last_four x a b c d =
    ap (λ y. bit_xor (bit_xor y c) d) (xor_assoc x a b)
    ∙ (ap (λ y. bit_xor y d) (xor_assoc x (bit_xor a b) c) ∙ xor_assoc x (bit_xor (bit_xor a b) c) d)

first_three : (a b c d : ℕ) → bit_xor a (bit_xor b (bit_xor c d)) ≡ bit_xor (bit_xor (bit_xor a b) c) d
first_three a b c d = sym (xor_assoc a b (bit_xor c d)) ∙ sym (xor_assoc (bit_xor a b) c d)

-- four pairs, the firsts and the seconds taken together
pairs : (a b c d p q r s : ℕ) → bit_xor (bit_xor (bit_xor (bit_xor a p) (bit_xor b q)) (bit_xor c r)) (bit_xor d s)
    ≡ bit_xor (bit_xor (bit_xor (bit_xor a b) c) d) (bit_xor (bit_xor (bit_xor p q) r) s)
pairs a b c d p q r s =
    ap (λ y. bit_xor (bit_xor y (bit_xor c r)) (bit_xor d s)) (inner a p b q)
    ∙ (ap (λ y. bit_xor y (bit_xor d s)) (inner (bit_xor a b) (bit_xor p q) c r)
    ∙ inner (bit_xor (bit_xor a b) c) (bit_xor (bit_xor p q) r) d s)

-- what the four bytes of a sum bring in by themselves
own : (x y z w : ℕ) → y ≡ x / 256 → z ≡ y / 256 → w ≡ z / 256 → w < 256
    → step (step (step (step x))) ≡ bit_xor (bit_xor (bit_xor (step (step (step (entry (x % 256))))) (step (step (entry (y % 256))))) (step (entry (z % 256)))) (entry w)
own x y z w hy hz hw small =
    let low : w % 256 ≡ w = omega (arith, small) in
    let none : w / 256 ≡ 0 = omega (arith, small) in
    let last : step w ≡ entry w = ap (λ v. bit_xor (entry v) (w / 256)) low ∙ (ap (bit_xor (entry w)) none ∙ xor_zero_r (entry w)) in
    let third : step (step z) ≡ bit_xor (step (entry (z % 256))) (entry w)
    = step_both (entry (z % 256)) (z / 256) ∙ ap (λ v. bit_xor (step (entry (z % 256))) v) (ap step (sym hw) ∙ last) in
    let second : step (step (step y)) ≡ bit_xor (step (step (entry (y % 256)))) (bit_xor (step (entry (z % 256))) (entry w))
    = two_steps_both (entry (y % 256)) (y / 256) ∙ ap (λ v. bit_xor (step (step (entry (y % 256)))) v) (ap (λ v. step (step v)) (sym hz) ∙ third) in
    three_steps_both (entry (x % 256)) (x / 256)
    ∙ (ap (λ v. bit_xor (step (step (step (entry (x % 256))))) v) (ap (λ v. step (step (step v))) (sym hy) ∙ second)
    ∙ first_three (step (step (step (entry (x % 256))))) (step (step (entry (y % 256)))) (step (entry (z % 256))) (entry w))

-- four bytes more, brought in together
pub four_more : (x y z w a b c d : ℕ) → y ≡ x / 256 → z ≡ y / 256 → w ≡ z / 256 → w < 256 → a < 256 → b < 256 → c < 256 → d < 256
    → bit_xor (bit_xor (bit_xor (step (step (step (entry (bit_xor (x % 256) a))))) (step (step (entry (bit_xor (y % 256) b))))) (step (entry (bit_xor (z % 256) c)))) (entry (bit_xor w d))
    ≡ with_byte (with_byte (with_byte (with_byte x a) b) c) d
four_more x y z w a b c d hy hz hw small ha hb hc hd =
    let one = ap (λ v. step (step (step v))) (entry_both (x % 256) a) ∙ three_steps_both (entry (x % 256)) (entry a) in
    let two' = ap (λ v. step (step v)) (entry_both (y % 256) b) ∙ two_steps_both (entry (y % 256)) (entry b) in
    let three = ap step (entry_both (z % 256) c) ∙ step_both (entry (z % 256)) (entry c) in
    let four' = entry_both w d in
    let left = ap (λ v. bit_xor (bit_xor (bit_xor v (step (step (entry (bit_xor (y % 256) b))))) (step (entry (bit_xor (z % 256) c)))) (entry (bit_xor w d))) one
    ∙ (ap (λ v. bit_xor (bit_xor (bit_xor (bit_xor (step (step (step (entry (x % 256))))) (step (step (step (entry a))))) v) (step (entry (bit_xor (z % 256) c)))) (entry (bit_xor w d))) two'
    ∙ (ap (λ v. bit_xor (bit_xor (bit_xor (bit_xor (step (step (step (entry (x % 256))))) (step (step (step (entry a))))) (bit_xor (step (step (entry (y % 256)))) (step (step (entry b))))) v) (entry (bit_xor w d))) three
    ∙ ap (λ v. bit_xor (bit_xor (bit_xor (bit_xor (step (step (step (entry (x % 256))))) (step (step (step (entry a))))) (bit_xor (step (step (entry (y % 256)))) (step (step (entry b))))) (bit_xor (step (entry (z % 256))) (step (entry c)))) v) four')) in
    let right = one_more (with_byte (with_byte (with_byte x a) b) c) d hd
    ∙ (ap (λ v. bit_xor (step v) (entry d)) (one_more (with_byte (with_byte x a) b) c hc)
    ∙ (ap (λ v. bit_xor v (entry d)) (step_both (step (with_byte (with_byte x a) b)) (entry c))
    ∙ (ap (λ v. bit_xor (bit_xor (step (step v)) (step (entry c))) (entry d)) (one_more (with_byte x a) b hb)
    ∙ (ap (λ v. bit_xor (bit_xor v (step (entry c))) (entry d)) (two_steps_both (step (with_byte x a)) (entry b))
    ∙ (ap (λ v. bit_xor (bit_xor (bit_xor (step (step (step v))) (step (step (entry b)))) (step (entry c))) (entry d)) (one_more x a ha)
    ∙ (ap (λ v. bit_xor (bit_xor (bit_xor v (step (step (entry b)))) (step (entry c))) (entry d)) (three_steps_both (step x) (entry a))
    ∙ (last_four (step (step (step (step x)))) (step (step (step (entry a)))) (step (step (entry b))) (step (entry c)) (entry d)
    ∙ ap (λ v. bit_xor v (bit_xor (bit_xor (bit_xor (step (step (step (entry a)))) (step (step (entry b)))) (step (entry c))) (entry d))) (own x y z w hy hz hw small)))))))) in
    left
    ∙ (pairs (step (step (step (entry (x % 256))))) (step (step (entry (y % 256)))) (step (entry (z % 256))) (entry w) (step (step (step (entry a)))) (step (step (entry b))) (step (entry c)) (entry d)
    ∙ sym right)

pub two_zeros : (x : ℕ) → with_byte (with_byte x 0) 0 ≡ step (step x)
two_zeros x = is_step (with_byte x 0) ∙ ap step (is_step x)

pub three_zeros : (x : ℕ) → with_byte (with_byte (with_byte x 0) 0) 0 ≡ step (step (step x))
three_zeros x = is_step (with_byte (with_byte x 0) 0) ∙ ap step (two_zeros x)
