-- Heights: turns balance what differs by two.
use Rattle.std.proofs.Common.{◌≡◌, ℕ, ◌+◌, ◌<◌, ◌≤◌, ◌==◌, max, nat_lt, cond, refl, arith}
use Rattle.std.proofs.lemmas.Bool.{ltb-false, ltb-true}
use Rattle.augmented_tree.specs.Trees.{Entry, Tree, Leaf, Fork, rank, tally, height, one, balance, rotate_right, rotate_left, twice_right, twice_left, insert_tree, first_entry, rest_tree, join_tree, remove_tree, IsBalanced}
use Rattle.augmented_tree.proofs.Plain.{either}

-- a tree of two whose heights were `a` and `b`
pub record Settles (a b : ℕ) (t : Tree) : Type 0 where
  pub balanced : IsBalanced t
  pub not_lower : max a b ≤ height t
  pub not_higher : height t ≤ max a b + 1
  pub exact : a ≤ b + 1 → b ≤ a + 1 → height t ≡ max a b + 1

right-settles : (l : Tree) (e : Entry) (r : Tree) → IsBalanced l → IsBalanced r → height l ≡ height r + 2 → Settles (height l) (height r) (rotate_right l e r)
right-settles Leaf e r bl br h = let no : ⊥ = omega arith in absurd no
right-settles (Fork a x b) e r bl br h =
    either (λ t. Settles (height (Fork a x b)) (height r) t) (nat_lt (height a) (height b)) (twice_right a x b e r) (Fork a x (Fork b e r))
    (λ q. twice b bl (ltb-true (height a) (height b) q) h)
    (λ q. let ge : height b ≤ height a = ltb-false (height a) (height b) q in record {
      balanced = (bl.0, (bl.1, br, omega arith, omega arith), omega arith, omega arith);
      not_lower = omega arith;
      not_higher = omega arith;
      exact = λ c d. let no : ⊥ = omega arith in absurd no;
    })
  where
    twice : (b : Tree) → IsBalanced (Fork a x b) → height a < height b → height (Fork a x b) ≡ height r + 2 → Settles (height (Fork a x b)) (height r) (twice_right a x b e r)
    twice Leaf bl lt h = let no : ⊥ = omega arith in absurd no
    twice (Fork c y d) bl lt h = record {
      balanced = ((bl.0, bl.1.0, omega arith, omega arith), (bl.1.1, br, omega arith, omega arith), omega arith, omega arith);
      not_lower = omega arith;
      not_higher = omega arith;
      exact = λ c d. let no : ⊥ = omega arith in absurd no;
    }

left-settles : (l : Tree) (e : Entry) (r : Tree) → IsBalanced l → IsBalanced r → height r ≡ height l + 2 → Settles (height l) (height r) (rotate_left l e r)
left-settles l e Leaf bl br h = let no : ⊥ = omega arith in absurd no
left-settles l e (Fork a x b) bl br h =
    either (λ t. Settles (height l) (height (Fork a x b)) t) (nat_lt (height b) (height a)) (twice_left l e a x b) (Fork (Fork l e a) x b)
    (λ q. twice a br (ltb-true (height b) (height a) q) h)
    (λ q. let ge : height a ≤ height b = ltb-false (height b) (height a) q in record {
      balanced = ((bl, br.0, omega arith, omega arith), br.1, omega arith, omega arith);
      not_lower = omega arith;
      not_higher = omega arith;
      exact = λ c d. let no : ⊥ = omega arith in absurd no;
    })
  where
    twice : (a : Tree) → IsBalanced (Fork a x b) → height b < height a → height (Fork a x b) ≡ height l + 2 → Settles (height l) (height (Fork a x b)) (twice_left l e a x b)
    twice Leaf br lt h = let no : ⊥ = omega arith in absurd no
    twice (Fork c y d) br lt h = record {
      balanced = ((bl, br.0.0, omega arith, omega arith), (br.0.1, br.1, omega arith, omega arith), omega arith, omega arith);
      not_lower = omega arith;
      not_higher = omega arith;
      exact = λ c d. let no : ⊥ = omega arith in absurd no;
    }

pub settles : (l : Tree) (e : Entry) (r : Tree) → IsBalanced l → IsBalanced r → height l ≤ height r + 2 → height r ≤ height l + 2 → Settles (height l) (height r) (balance l e r)
unfolding balance
settles l e r bl br hl hr =
    let P : Tree → Type 0 = λ t. Settles (height l) (height r) t in
    either P (nat_lt (height r + 1) (height l)) (rotate_right l e r) (cond (nat_lt (height l + 1) (height r)) (rotate_left l e r) (Fork l e r))
    (λ q. let lt : height r + 1 < height l = ltb-true (height r + 1) (height l) q in right-settles l e r bl br (omega arith))
    (λ q. let ge : height l ≤ height r + 1 = ltb-false (height r + 1) (height l) q in
    either P (nat_lt (height l + 1) (height r)) (rotate_left l e r) (Fork l e r)
    (λ p. let lt : height l + 1 < height r = ltb-true (height l + 1) (height r) p in left-settles l e r bl br (omega arith))
    (λ p. let le : height r ≤ height l + 1 = ltb-false (height l + 1) (height r) p in record {
      balanced = (bl, br, ge, le);
      not_lower = omega arith;
      not_higher = omega arith;
      exact = λ c d. refl;
    }))

-- one more member: at most one higher
pub record Grown (h : ℕ) (t : Tree) : Type 0 where
  pub balanced : IsBalanced t
  pub not_lower : h ≤ height t
  pub not_higher : height t ≤ h + 1

higher : (a a1 b t : ℕ) → a ≤ b + 1 → b ≤ a + 1 → a ≤ a1 → a1 ≤ a + 1 → max a1 b ≤ t → t ≤ max a1 b + 1 → (a1 ≤ b + 1 → b ≤ a1 + 1 → t ≡ max a1 b + 1)
    → (max a b + 1 ≤ t) × (t ≤ max a b + 1 + 1)
higher a a1 b t h0 h1 h2 h3 h4 h5 h6 = (grind arith, grind arith)

higher_right : (a b b1 t : ℕ) → a ≤ b + 1 → b ≤ a + 1 → b ≤ b1 → b1 ≤ b + 1 → max a b1 ≤ t → t ≤ max a b1 + 1 → (a ≤ b1 + 1 → b1 ≤ a + 1 → t ≡ max a b1 + 1)
    → (max a b + 1 ≤ t) × (t ≤ max a b + 1 + 1)
higher_right a b b1 t h0 h1 h2 h3 h4 h5 h6 = (grind arith, grind arith)

pub insert-balanced : (e : Entry) (t : Tree) → IsBalanced t → Grown (height t) (insert_tree e t)
unfolding insert_tree
insert-balanced e Leaf b = record { balanced = (tt, tt, omega arith, omega arith); not_lower = omega arith; not_higher = omega arith }
insert-balanced e (Fork l x r) b =
    either (λ t. Grown (height (Fork l x r)) t) (nat_lt (rank e) (rank x)) (balance (insert_tree e l) x r) (balance l x (insert_tree e r))
    (λ _. let g = insert-balanced e l b.0 in
    let s = settles (insert_tree e l) x r g.balanced b.1 (let n = g.not_higher in omega arith) (let n = g.not_lower in omega arith) in
    let k = higher (height l) (height (insert_tree e l)) (height r) (height (balance (insert_tree e l) x r)) b.2 b.3 g.not_lower g.not_higher s.not_lower s.not_higher s.exact in
    record { balanced = s.balanced; not_lower = k.0; not_higher = k.1 })
    (λ _. let g = insert-balanced e r b.1 in
    let s = settles l x (insert_tree e r) b.0 g.balanced (let n = g.not_lower in omega arith) (let n = g.not_higher in omega arith) in
    let k = higher_right (height l) (height r) (height (insert_tree e r)) (height (balance l x (insert_tree e r))) b.2 b.3 g.not_lower g.not_higher s.not_lower s.not_higher s.exact in
    record { balanced = s.balanced; not_lower = k.0; not_higher = k.1 })

-- one less: at most one lower
pub record Shrunk (h : ℕ) (t : Tree) : Type 0 where
  pub balanced : IsBalanced t
  pub not_lower : h ≤ height t + 1
  pub not_higher : height t ≤ h

lower : (a a1 b t : ℕ) → a ≤ b + 1 → b ≤ a + 1 → a ≤ a1 + 1 → a1 ≤ a → max a1 b ≤ t → t ≤ max a1 b + 1 → (a1 ≤ b + 1 → b ≤ a1 + 1 → t ≡ max a1 b + 1)
    → (max a b + 1 ≤ t + 1) × (t ≤ max a b + 1)
lower a a1 b t h0 h1 h2 h3 h4 h5 h6 = (grind arith, grind arith)

lower_right : (a b b1 t : ℕ) → a ≤ b + 1 → b ≤ a + 1 → b ≤ b1 + 1 → b1 ≤ b → max a b1 ≤ t → t ≤ max a b1 + 1 → (a ≤ b1 + 1 → b1 ≤ a + 1 → t ≡ max a b1 + 1)
    → (max a b + 1 ≤ t + 1) × (t ≤ max a b + 1)
lower_right a b b1 t h0 h1 h2 h3 h4 h5 h6 = (grind arith, grind arith)

pub rest-balanced : (l : Tree) (e : Entry) (r : Tree) → IsBalanced (Fork l e r) → Shrunk (height (Fork l e r)) (rest_tree l e r)
unfolding rest_tree
rest-balanced Leaf e r b = record { balanced = b.1; not_lower = omega arith; not_higher = omega arith }
rest-balanced (Fork a y c) e r b =
    let g = rest-balanced a y c b.0 in
    let s = settles (rest_tree a y c) e r g.balanced b.1 (let n = g.not_higher in let d = b.2 in omega arith) (let n = g.not_lower in let d = b.3 in omega arith) in
    let k = lower (height (Fork a y c)) (height (rest_tree a y c)) (height r) (height (balance (rest_tree a y c) e r)) b.2 b.3 g.not_lower g.not_higher s.not_lower s.not_higher s.exact in
    record { balanced = s.balanced; not_lower = k.0; not_higher = k.1 }

pub join-balanced : (l : Tree) (x : Entry) (r : Tree) → IsBalanced (Fork l x r) → Shrunk (height (Fork l x r)) (join_tree l r)
join-balanced l x Leaf b = record { balanced = b.0; not_lower = (let d = b.3 in omega arith); not_higher = (let d = b.3 in omega arith) }
join-balanced l x (Fork a y c) b =
    let g = rest-balanced a y c b.1 in
    let s = settles l (first_entry a y) (rest_tree a y c) b.0 g.balanced (let n = g.not_lower in let d = b.2 in omega arith) (let n = g.not_higher in let d = b.3 in omega arith) in
    let k = lower_right (height l) (height (Fork a y c)) (height (rest_tree a y c)) (height (balance l (first_entry a y) (rest_tree a y c))) b.2 b.3 g.not_lower g.not_higher s.not_lower s.not_higher s.exact in
    record { balanced = s.balanced; not_lower = k.0; not_higher = k.1 }

pub remove-balanced : (e : Entry) (t : Tree) → IsBalanced t → Shrunk (height t) (remove_tree e t)
unfolding remove_tree
remove-balanced e Leaf b = record { balanced = tt; not_lower = omega arith; not_higher = omega arith }
remove-balanced e (Fork l x r) b =
    let P : Tree → Type 0 = λ t. Shrunk (height (Fork l x r)) t in
    either P (x.0 == e.0) (join_tree l r) (cond (nat_lt (rank e) (rank x)) (balance (remove_tree e l) x r) (balance l x (remove_tree e r)))
    (λ _. join-balanced l x r b)
    (λ _. either P (nat_lt (rank e) (rank x)) (balance (remove_tree e l) x r) (balance l x (remove_tree e r))
    (λ _. let g = remove-balanced e l b.0 in
    let s = settles (remove_tree e l) x r g.balanced b.1 (let n = g.not_higher in let d = b.2 in omega arith) (let n = g.not_lower in let d = b.3 in omega arith) in
    let k = lower (height l) (height (remove_tree e l)) (height r) (height (balance (remove_tree e l) x r)) b.2 b.3 g.not_lower g.not_higher s.not_lower s.not_higher s.exact in
    record { balanced = s.balanced; not_lower = k.0; not_higher = k.1 })
    (λ _. let g = remove-balanced e r b.1 in
    let s = settles l x (remove_tree e r) b.0 g.balanced (let n = g.not_lower in let d = b.2 in omega arith) (let n = g.not_higher in let d = b.3 in omega arith) in
    let k = lower_right (height l) (height r) (height (remove_tree e r)) (height (balance l x (remove_tree e r))) b.2 b.3 g.not_lower g.not_higher s.not_lower s.not_higher s.exact in
    record { balanced = s.balanced; not_lower = k.0; not_higher = k.1 }))

pub height-size : (t : Tree) → height t ≤ tally one t
height-size Leaf = omega arith
height-size (Fork l e r) = let a = height-size l in let b = height-size r in omega (arith, a, b)
