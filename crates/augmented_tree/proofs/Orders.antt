-- Order: what turns, inserts and removals keep.
use Rattle.std.proofs.Common.{◌≡◌, ℕ, ◌+◌, ◌<◌, ◌≤◌, ◌==◌, nat_lt, cond, refl, arith}
use Rattle.std.proofs.lemmas.Bool.Decides.{nat_tests}
use Rattle.std.proofs.lemmas.Bool.{ltb-false, ltb-true}
use Rattle.augmented_tree.specs.Trees.{Entry, Tree, Leaf, Fork, rank, tally, height, balance, rotate_right, rotate_left, twice_right, twice_left, insert_tree, first_entry, rest_tree, join_tree, remove_tree, IsOrdered, not_below, not_above, is_ranked}
use Rattle.augmented_tree.proofs.Plain.{either, tally-balance, tally-insert, tally-rest, tally-remove-le}

pub below_is : (k : ℕ) (x : Entry) → not_below k x ≡ 0 → rank x < k
below_is k x h = grind (arith, nat_tests)

pub above_is : (k : ℕ) (x : Entry) → not_above k x ≡ 0 → k < rank x
above_is k x h = grind (arith, nat_tests)

pub is_below : (k : ℕ) (x : Entry) → rank x < k → not_below k x ≡ 0
is_below k x h = grind (arith, nat_tests)

pub is_above : (k : ℕ) (x : Entry) → k < rank x → not_above k x ≡ 0
is_above k x h = grind (arith, nat_tests)

below_one : (k j : ℕ) (x : Entry) → j ≤ k → not_below k x ≤ not_below j x
below_one k j x le = grind (arith, nat_tests)

above_one : (k j : ℕ) (x : Entry) → k ≤ j → not_above k x ≤ not_above j x
above_one k j x le = grind (arith, nat_tests)

-- what is below a number is below a greater one
pub below_more : (k j : ℕ) (t : Tree) → j ≤ k → tally (not_below k) t ≤ tally (not_below j) t
below_more k j Leaf le = omega arith
below_more k j (Fork l e r) le = let a = below_more k j l le in let b = below_more k j r le in let c = below_one k j e le in omega (arith, a, b, c)

pub above_more : (k j : ℕ) (t : Tree) → k ≤ j → tally (not_above k) t ≤ tally (not_above j) t
above_more k j Leaf le = omega arith
above_more k j (Fork l e r) le = let a = above_more k j l le in let b = above_more k j r le in let c = above_one k j e le in omega (arith, a, b, c)

right-ordered : (l : Tree) (e : Entry) (r : Tree) → IsOrdered (Fork l e r) → IsOrdered (rotate_right l e r)
right-ordered Leaf e r o = o
right-ordered (Fork a x b) e r o =
    either IsOrdered (nat_lt (height a) (height b)) (twice_right a x b e r) (Fork a x (Fork b e r)) (λ _. twice b o)
    (λ _. let lt = below_is (rank e) x (omega (arith, o.2)) in
    let m = above_more (rank x) (rank e) r (omega (arith, lt)) in
    let c = is_above (rank x) e lt in
    (o.0.0, (o.0.1, o.1, omega (arith, o.2), o.3), o.0.2, omega (arith, o.0.3, c, m, o.3)))
  where
    twice : (b : Tree) → IsOrdered (Fork (Fork a x b) e r) → IsOrdered (twice_right a x b e r)
    twice Leaf o = o
    twice (Fork c y d) o =
        let xy = above_is (rank x) y (omega (arith, o.0.3)) in
        let ye = below_is (rank e) y (omega (arith, o.2)) in
        let ma = below_more (rank y) (rank x) a (omega (arith, xy)) in
        let mr = above_more (rank y) (rank e) r (omega (arith, ye)) in
        let px = is_below (rank y) x xy in
        let pe = is_above (rank y) e ye in
        ((o.0.0, o.0.1.0, o.0.2, omega (arith, o.0.3)), (o.0.1.1, o.1, omega (arith, o.2), o.3), omega (arith, ma, o.0.2, px, o.0.1.2), omega (arith, mr, o.3, pe, o.0.1.3))

left-ordered : (l : Tree) (e : Entry) (r : Tree) → IsOrdered (Fork l e r) → IsOrdered (rotate_left l e r)
left-ordered l e Leaf o = o
left-ordered l e (Fork a x b) o =
    either IsOrdered (nat_lt (height b) (height a)) (twice_left l e a x b) (Fork (Fork l e a) x b) (λ _. twice a o)
    (λ _. let lt = above_is (rank e) x (omega (arith, o.3)) in
    let m = below_more (rank x) (rank e) l (omega (arith, lt)) in
    let c = is_below (rank x) e lt in
    ((o.0, o.1.0, o.2, omega (arith, o.3)), o.1.1, omega (arith, o.1.2, c, m, o.2), o.1.3))
  where
    twice : (a : Tree) → IsOrdered (Fork l e (Fork a x b)) → IsOrdered (twice_left l e a x b)
    twice Leaf o = o
    twice (Fork c y d) o =
        let yx = below_is (rank x) y (omega (arith, o.1.2)) in
        let ey = above_is (rank e) y (omega (arith, o.3)) in
        let ml = below_more (rank y) (rank e) l (omega (arith, ey)) in
        let mb = above_more (rank y) (rank x) b (omega (arith, yx)) in
        let pe = is_below (rank y) e ey in
        let px = is_above (rank y) x yx in
        ((o.0, o.1.0.0, o.2, omega (arith, o.3)), (o.1.0.1, o.1.1, omega (arith, o.1.2), o.1.3), omega (arith, ml, o.2, pe, o.1.0.2), omega (arith, mb, o.1.3, px, o.1.0.3))

pub balance-ordered : (l : Tree) (e : Entry) (r : Tree) → IsOrdered (Fork l e r) → IsOrdered (balance l e r)
unfolding balance
balance-ordered l e r o =
    either IsOrdered (nat_lt (height r + 1) (height l)) (rotate_right l e r) (cond (nat_lt (height l + 1) (height r)) (rotate_left l e r) (Fork l e r)) (λ _. right-ordered l e r o)
    (λ _. either IsOrdered (nat_lt (height l + 1) (height r)) (rotate_left l e r) (Fork l e r) (λ _. left-ordered l e r o) (λ _. o))

ranked_apart : (e x : Entry) → is_ranked (rank e) x ≡ 0 → rank e ≡ rank x → ⊥
ranked_apart e x h same = grind (arith, nat_tests)

pub insert-ordered : (e : Entry) (t : Tree) → IsOrdered t → tally (is_ranked (rank e)) t ≡ 0 → IsOrdered (insert_tree e t)
unfolding insert_tree
insert-ordered e Leaf o h = (tt, tt, refl, refl)
insert-ordered e (Fork l x r) o h =
    either IsOrdered (nat_lt (rank e) (rank x)) (balance (insert_tree e l) x r) (balance l x (insert_tree e r))
    (λ q. let lt : rank e < rank x = ltb-true (rank e) (rank x) q in
    let c = tally-insert (not_below (rank x)) e l in let b = is_below (rank x) e lt in
    balance-ordered (insert_tree e l) x r (insert-ordered e l o.0 (omega (arith, h)), o.1, omega (arith, c, b, o.2), o.3))
    (λ q. let ge : rank x ≤ rank e = ltb-false (rank e) (rank x) q in
    let apart = ranked_apart e x (omega (arith, h)) in
    let gt : rank x < rank e = grind (arith, apart) in
    let c = tally-insert (not_above (rank x)) e r in let b = is_above (rank x) e gt in
    balance-ordered l x (insert_tree e r) (o.0, insert-ordered e r o.1 (omega (arith, h)), o.2, omega (arith, c, b, o.3)))

-- the rest is ordered, and the first stands before it
pub rest-ordered : (l : Tree) (e : Entry) (r : Tree) → IsOrdered (Fork l e r) → IsOrdered (rest_tree l e r) × (tally (not_above (rank (first_entry l e))) (rest_tree l e r) ≡ 0)
unfolding rest_tree
rest-ordered Leaf e r o = (o.1, o.3)
rest-ordered (Fork a y b) e r o =
    let h = rest-ordered a y b o.0 in
    let c = tally-rest (not_below (rank e)) a y b in
    let lt = below_is (rank e) (first_entry a y) (omega (arith, c, o.2)) in
    let m = above_more (rank (first_entry a y)) (rank e) r (omega (arith, lt)) in
    let p = is_above (rank (first_entry a y)) e lt in
    let t = tally-balance (not_above (rank (first_entry a y))) (rest_tree a y b) e r in
    (balance-ordered (rest_tree a y b) e r (h.0, o.1, omega (arith, c, o.2), o.3), omega (arith, t, h.1, p, m, o.3))

pub join-ordered : (l : Tree) (x : Entry) (r : Tree) → IsOrdered (Fork l x r) → IsOrdered (join_tree l r)
join-ordered l x Leaf o = o.0
join-ordered l x (Fork a y b) o =
    let h = rest-ordered a y b o.1 in
    let c = tally-rest (not_above (rank x)) a y b in
    let gt = above_is (rank x) (first_entry a y) (omega (arith, c, o.3)) in
    let m = below_more (rank (first_entry a y)) (rank x) l (omega (arith, gt)) in
    balance-ordered l (first_entry a y) (rest_tree a y b) (o.0, h.0, omega (arith, m, o.2), h.1)

pub remove-ordered : (e : Entry) (t : Tree) → IsOrdered t → IsOrdered (remove_tree e t)
unfolding remove_tree
remove-ordered e Leaf o = tt
remove-ordered e (Fork l x r) o =
    either IsOrdered (x.0 == e.0) (join_tree l r) (cond (nat_lt (rank e) (rank x)) (balance (remove_tree e l) x r) (balance l x (remove_tree e r)))
    (λ _. join-ordered l x r o)
    (λ _. either IsOrdered (nat_lt (rank e) (rank x)) (balance (remove_tree e l) x r) (balance l x (remove_tree e r))
    (λ _. let c = tally-remove-le (not_below (rank x)) e l in balance-ordered (remove_tree e l) x r (remove-ordered e l o.0, o.1, omega (arith, c, o.2), o.3))
    (λ _. let c = tally-remove-le (not_above (rank x)) e r in balance-ordered l x (remove_tree e r) (o.0, remove-ordered e r o.1, o.2, omega (arith, c, o.3))))
