-- Facts of plain trees: what turns, inserts and removals keep.
use Rattle.std.proofs.Common.{◌≡◌, ℕ, ◌+◌, ◌≤◌, inl, inr, ◌==◌, nat_lt, Bool, true, false, cond, refl, ap, arith}
use Rattle.std.proofs.lemmas.Bool.Decides.{nat_tests}
use Rattle.std.proofs.lemmas.Bool.{cases_lt}
use Rattle.augmented_tree.specs.Trees.{Entry, Tree, Leaf, Fork, rank, tally, height, is_numbered, balance, rotate_right, rotate_left, twice_right, twice_left, insert_tree, first_entry, rest_tree, join_tree, remove_tree, IsOrdered, Holds, not_below, not_above}

-- a test, and the tree for either answer
pub either : (P : Tree → Type 0) (b : Bool) (s t : Tree) → (b ≡ true → P s) → (b ≡ false → P t) → P (cond b s t)
either P b s t h k =
    let Q : Bool → Type 0 = λ c. b ≡ c → P (cond c s t) in
    let at : Q b = elim b as Q [ true ↦ λ e. h e | false ↦ λ e. k e ] in at refl

tally-right : (f : Entry → ℕ) (l : Tree) (e : Entry) (r : Tree) → tally f (rotate_right l e r) ≡ tally f l + f e + tally f r
tally-right f Leaf e r = refl
tally-right f (Fork a x b) e r =
    either (λ t. tally f t ≡ tally f (Fork a x b) + f e + tally f r) (nat_lt (height a) (height b)) (twice_right a x b e r) (Fork a x (Fork b e r)) (λ _. twice b) (λ _. omega arith)
  where
    twice : (b : Tree) → tally f (twice_right a x b e r) ≡ tally f (Fork a x b) + f e + tally f r
    twice Leaf = refl
    twice (Fork c y d) = omega arith

tally-left : (f : Entry → ℕ) (l : Tree) (e : Entry) (r : Tree) → tally f (rotate_left l e r) ≡ tally f l + f e + tally f r
tally-left f l e Leaf = refl
tally-left f l e (Fork a x b) =
    either (λ t. tally f t ≡ tally f l + f e + tally f (Fork a x b)) (nat_lt (height b) (height a)) (twice_left l e a x b) (Fork (Fork l e a) x b) (λ _. twice a) (λ _. omega arith)
  where
    twice : (a : Tree) → tally f (twice_left l e a x b) ≡ tally f l + f e + tally f (Fork a x b)
    twice Leaf = omega arith
    twice (Fork c y d) = omega arith

pub tally-balance : (f : Entry → ℕ) (l : Tree) (e : Entry) (r : Tree) → tally f (balance l e r) ≡ tally f l + f e + tally f r
unfolding balance
tally-balance f l e r =
    let P : Tree → Type 0 = λ t. tally f t ≡ tally f l + f e + tally f r in
    either P (nat_lt (height r + 1) (height l)) (rotate_right l e r) (cond (nat_lt (height l + 1) (height r)) (rotate_left l e r) (Fork l e r)) (λ _. tally-right f l e r)
    (λ _. either P (nat_lt (height l + 1) (height r)) (rotate_left l e r) (Fork l e r) (λ _. tally-left f l e r) (λ _. refl))

pub tally-insert : (f : Entry → ℕ) (e : Entry) (t : Tree) → tally f (insert_tree e t) ≡ tally f t + f e
unfolding insert_tree
tally-insert f e Leaf = omega arith
tally-insert f e (Fork l x r) =
    either (λ t. tally f t ≡ tally f (Fork l x r) + f e) (nat_lt (rank e) (rank x)) (balance (insert_tree e l) x r) (balance l x (insert_tree e r))
    (λ _. let a = tally-balance f (insert_tree e l) x r in let b = tally-insert f e l in omega (arith, a, b))
    (λ _. let a = tally-balance f l x (insert_tree e r) in let b = tally-insert f e r in omega (arith, a, b))

pub tally-rest : (f : Entry → ℕ) (l : Tree) (e : Entry) (r : Tree) → tally f (rest_tree l e r) + f (first_entry l e) ≡ tally f l + f e + tally f r
unfolding rest_tree
tally-rest f Leaf e r = omega arith
tally-rest f (Fork a y b) e r = let h = tally-rest f a y b in let g = tally-balance f (rest_tree a y b) e r in omega (arith, h, g)

pub tally-join : (f : Entry → ℕ) (l r : Tree) → tally f (join_tree l r) ≡ tally f l + tally f r
tally-join f l Leaf = omega arith
tally-join f l (Fork a y b) = let h = tally-rest f a y b in let g = tally-balance f l (first_entry a y) (rest_tree a y b) in omega (arith, h, g)

-- what a tree holds is counted
pub holds-tally : (f : Entry → ℕ) (e : Entry) (t : Tree) → Holds e t → f e ≤ tally f t
holds-tally f e Leaf h = absurd h
holds-tally f e (Fork l x r) h = elim h as (λ _. f e ≤ tally f (Fork l x r)) [
  | inl same ↦ let s : f x ≡ f e = ap f same in omega (arith, s)
  | inr sides ↦ elim sides as (λ _. f e ≤ tally f (Fork l x r)) [
    | inl a ↦ let s = holds-tally f e l a in omega (arith, s)
    | inr b ↦ let s = holds-tally f e r b in omega (arith, s)
  ]
]

-- no more than it had
pub tally-remove-le : (f : Entry → ℕ) (e : Entry) (t : Tree) → tally f (remove_tree e t) ≤ tally f t
unfolding remove_tree
tally-remove-le f e Leaf = omega arith
tally-remove-le f e (Fork l x r) =
    let P : Tree → Type 0 = λ t. tally f t ≤ tally f (Fork l x r) in
    either P (x.0 == e.0) (join_tree l r) (cond (nat_lt (rank e) (rank x)) (balance (remove_tree e l) x r) (balance l x (remove_tree e r)))
    (λ _. let a = tally-join f l r in omega (arith, a))
    (λ _. either P (nat_lt (rank e) (rank x)) (balance (remove_tree e l) x r) (balance l x (remove_tree e r))
    (λ _. let a = tally-balance f (remove_tree e l) x r in let b = tally-remove-le f e l in omega (arith, a, b))
    (λ _. let a = tally-balance f l x (remove_tree e r) in let b = tally-remove-le f e r in omega (arith, a, b)))

numbered_self : (e : Entry) → is_numbered e.0 e ≡ 1
numbered_self e = grind (arith, nat_tests)

numbered_same : (x e : Entry) → (x.0 == e.0) ≡ true → is_numbered e.0 x ≡ 1
numbered_same x e h = ap (λ b. cond b 1 0) h

not_below_self : (k : ℕ) (x : Entry) → nat_lt (rank x) k ≡ false → not_below k x ≡ 1
not_below_self k x h = ap (λ b. cond b 0 1) h

not_above_self : (k : ℕ) (x : Entry) → nat_lt k (rank x) ≡ false → not_above k x ≡ 1
not_above_self k x h = ap (λ b. cond b 0 1) h

not_both : (a b : ℕ) → nat_lt a b ≡ true → nat_lt b a ≡ false
not_both a b h = grind (arith, nat_tests)

-- what is in the tree goes
pub tally-remove : (f : Entry → ℕ) (e : Entry) (t : Tree) → IsOrdered t → tally (is_numbered e.0) t ≤ 1 → Holds e t → tally f (remove_tree e t) + f e ≡ tally f t
unfolding remove_tree
tally-remove f e Leaf o once h = absurd h
tally-remove f e (Fork l x r) o once h =
    let P : Tree → Type 0 = λ t. tally f t + f e ≡ tally f (Fork l x r) in
    let own = numbered_self e in
    let inside : (s : Tree) → Holds e s → 1 ≤ tally (is_numbered e.0) s = λ s hs. let c = holds-tally (is_numbered e.0) e s hs in omega (arith, own, c) in
    either P (x.0 == e.0) (join_tree l r) (cond (nat_lt (rank e) (rank x)) (balance (remove_tree e l) x r) (balance l x (remove_tree e r)))
    (λ q. let n = numbered_same x e q in let a = tally-join f l r in
    elim h as (λ _. P (join_tree l r)) [
      | inl same ↦ let s : f x ≡ f e = ap f same in omega (arith, s, a)
      | inr sides ↦ elim sides as (λ _. P (join_tree l r)) [
        | inl hl ↦ let c = inside l hl in let no : ⊥ = omega (arith, c, n, once) in absurd no
        | inr hr ↦ let c = inside r hr in let no : ⊥ = omega (arith, c, n, once) in absurd no
      ]
    ])
    (λ q. either P (nat_lt (rank e) (rank x)) (balance (remove_tree e l) x r) (balance l x (remove_tree e r))
    (λ lt. let a = tally-balance f (remove_tree e l) x r in
    elim h as (λ _. P (balance (remove_tree e l) x r)) [
      | inl same ↦ absurd (other x e q same)
      | inr sides ↦ elim sides as (λ _. P (balance (remove_tree e l) x r)) [
        | inl hl ↦ let b = tally-remove f e l o.0 (omega (arith, once)) hl in omega (arith, a, b)
        | inr hr ↦ let c = holds-tally (not_above (rank x)) e r hr in let n = not_above_self (rank x) e (not_both (rank e) (rank x) lt) in
            let no : ⊥ = omega (arith, c, n, o.3) in absurd no
      ]
    ])
    (λ ge. let a = tally-balance f l x (remove_tree e r) in
    elim h as (λ _. P (balance l x (remove_tree e r))) [
      | inl same ↦ absurd (other x e q same)
      | inr sides ↦ elim sides as (λ _. P (balance l x (remove_tree e r))) [
        | inl hl ↦ let c = holds-tally (not_below (rank x)) e l hl in let n = not_below_self (rank x) e ge in
            let no : ⊥ = omega (arith, c, n, o.2) in absurd no
        | inr hr ↦ let b = tally-remove f e r o.1 (omega (arith, once)) hr in omega (arith, a, b)
      ]
    ]))
  where
    other : (x e : Entry) → (x.0 == e.0) ≡ false → x ≡ e → ⊥
    other x e q same = let n : x.0 ≡ e.0 = ap (λ (y : Entry). y.0) same in grind (arith, nat_tests)

-- what is counted is held
pub tally-holds : (p : Entry → Bool) (t : Tree) → 1 ≤ tally (λ x. cond (p x) 1 0) t → (x : Entry) × (Holds x t × (p x ≡ true))
tally-holds p Leaf h = let no : ⊥ = omega (arith, h) in absurd no
tally-holds p (Fork l e r) h =
    let T : Type 0 = (x : Entry) × (Holds x (Fork l e r) × (p x ≡ true)) in
    elim (cases_lt 0 (tally (λ x. cond (p x) 1 0) l)) as (λ _. T) [
      | inl some ↦ let a = tally-holds p l (omega (arith, some)) in (a.0, (inr (inl a.1.0), a.1.1))
      | inr none ↦ elim (cases_lt 0 (tally (λ x. cond (p x) 1 0) r)) as (λ _. T) [
        | inl some ↦ let b = tally-holds p r (omega (arith, some)) in (b.0, (inr (inr b.1.0), b.1.1))
        | inr nothing ↦ let own : 1 ≤ cond (p e) 1 0 = omega (arith, h, none, nothing) in (e, (inl refl, counted_true (p e) own))
      ]
    ]
  where
    counted_true : (b : Bool) → 1 ≤ cond b 1 0 → b ≡ true
    counted_true true h = refl
    counted_true false h = let no : ⊥ = omega (arith, h) in absurd no
