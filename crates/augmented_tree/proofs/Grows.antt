-- The rows after the calls hold the plain trees.
use Rattle.std.proofs.Common.{◌≡◌, ℕ, zero, suc, ◌+◌, ◌<◌, ◌≤◌, ◌==◌, nat_lt, Bool, true, false, cond, List, length, Option, None, Some, refl, ap, sym, subst, ◌∙◌, arith}
use Rattle.std.specs.Option.{option_map_or}
use Rattle.augmented_tree.specs.declared.row.Figures.{Figures}
use Rattle.augmented_tree.specs.declared.row.Row.{Row}
use Rattle.augmented_tree.specs.Rows.{row_at, height_at, goes_left, fork_rows}
use Rattle.augmented_tree.specs.Tables.{Topped, Linked, right_once, right_twice, right_at, rotate_right_rows, left_once, left_twice, left_at, rotate_left_rows, balance_rows, left_grown, right_grown, insert_rows, first_rows, first_grown, join_rows, left_shrunk, right_shrunk, remove_rows}
use Rattle.augmented_tree.specs.Trees.{Entry, Tree, Leaf, Fork, rank, is_numbered, root_of, height, row_of, IsHeld, Fits, Becomes, twice_right, rotate_right, twice_left, rotate_left, balance, insert_tree, first_entry, rest_tree, join_tree, remove_tree}
use Rattle.augmented_tree.proofs.Plain.{tally-balance, tally-insert, tally-rest, tally-remove-le}
use Rattle.augmented_tree.proofs.Frames.{CanFork, numbered_self, kept, after, stays, height_held, fits_less, forked}
use Rattle.augmented_tree.proofs.Steps.{insert_none, remove_none}

abbrev pub Grows : List Row → Topped → Tree → Type 0
Grows rows m t = Becomes rows m.0 (Some m.1) t

abbrev pub Links : List Row → Linked → Tree → Type 0
Links rows m t = Becomes rows m.0 m.1 t

both : (rows : List Row) (b : Bool) (m p : Topped) (s t : Tree) → (b ≡ true → Grows rows m s) → (b ≡ false → Grows rows p t) → Grows rows (cond b m p) (cond b s t)
both rows b m p s t h k =
    let Q : Bool → Type 0 = λ c. b ≡ c → Grows rows (cond c m p) (cond c s t) in
    let at : Q b = elim b as Q [ true ↦ λ e. h e | false ↦ λ e. k e ] in at refl

both_links : (rows : List Row) (b : Bool) (m p : Linked) (s t : Tree) → (b ≡ true → Links rows m s) → (b ≡ false → Links rows p t) → Links rows (cond b m p) (cond b s t)
both_links rows b m p s t h k =
    let Q : Bool → Type 0 = λ c. b ≡ c → Links rows (cond c m p) (cond c s t) in
    let at : Q b = elim b as Q [ true ↦ λ e. h e | false ↦ λ e. k e ] in at refl

grows-right_once : (rows : List Row) (n : ℕ) (f : Figures) (right : Option ℕ) (a : Tree) (e : Entry) (b r : Tree) → CanFork rows (Some e.0) n f right (Fork a e b) r
    → Grows rows (right_once rows (row_of a e b) e.0 n f right) (Fork a e (Fork b (n, f) r))
grows-right_once rows n f right a e b r g =
    let b1 = forked rows (root_of b) n f right b r (record { left_is = refl; right_is = g.right_is; left_held = g.left_held.1; right_held = g.right_held; within = g.within; fits = fits_less _ _ (λ h. omega arith) g.fits }) in
    let rows1 = fork_rows rows (root_of b) n f right in
    let b2 = forked rows1 (root_of a) e.0 e.1 (Some n) a (Fork b (n, f) r) (record {
      left_is = refl;
      right_is = b1.root;
      left_held = kept rows rows1 (Some n) (Fork b (n, f) r) a b1 (λ i. let o = g.fits.once i in omega (arith, o)) g.left_held.0;
      right_held = b1.held;
      within = (let w = g.left_held.2 in let s = b1.same_length in omega (arith, w, s));
      fits = fits_less _ _ (λ h. omega arith) g.fits;
    }) in
    after rows rows1 _ (Some n) (Some e.0) _ _ b1 b2 (λ i. omega arith)

grows-right_twice : (rows : List Row) (n : ℕ) (f : Figures) (right : Option ℕ) (a : Tree) (e : Entry) (c : Tree) (y : Entry) (d r : Tree) → CanFork rows (Some e.0) n f right (Fork a e (Fork c y d)) r
    → Grows rows (right_twice rows (row_of a e (Fork c y d)) e.0 (row_of c y d) y.0 n f right) (Fork (Fork a e c) y (Fork d (n, f) r))
grows-right_twice rows n f right a e c y d r g =
    let rows1 = fork_rows rows (root_of a) e.0 e.1 (root_of c) in
    let b1 = forked rows (root_of a) e.0 e.1 (root_of c) a c (record { left_is = refl; right_is = refl; left_held = g.left_held.0; right_held = g.left_held.1.0; within = g.left_held.2; fits = fits_less _ _ (λ h. omega arith) g.fits }) in
    let keep1 = kept rows rows1 (Some e.0) (Fork a e c) in
    let rows2 = fork_rows rows1 (root_of d) n f right in
    let b2 = forked rows1 (root_of d) n f right d r (record {
      left_is = refl;
      right_is = g.right_is;
      left_held = keep1 d b1 (λ i. let o = g.fits.once i in omega (arith, o)) g.left_held.1.1;
      right_held = keep1 r b1 (λ i. let o = g.fits.once i in omega (arith, o)) g.right_held;
      within = (let w = g.within in let s = b1.same_length in omega (arith, w, s));
      fits = fits_less _ _ (λ h. omega arith) g.fits;
    }) in
    let b3 = forked rows2 (Some e.0) y.0 y.1 (Some n) (Fork a e c) (Fork d (n, f) r) (record {
      left_is = refl;
      right_is = refl;
      left_held = kept rows1 rows2 (Some n) (Fork d (n, f) r) (Fork a e c) b2 (λ i. let o = g.fits.once i in omega (arith, o)) b1.held;
      right_held = b2.held;
      within = (let w = g.left_held.1.2 in let s = b1.same_length in let t = b2.same_length in omega (arith, w, s, t));
      fits = fits_less _ _ (λ h. omega arith) g.fits;
    }) in
    after rows rows1 _ (Some e.0) (Some y.0) _ _ b1 (after rows1 rows2 _ (Some n) (Some y.0) _ _ b2 b3 (λ i. omega arith)) (λ i. omega arith)

grows-right : (rows : List Row) (x n : ℕ) (f : Figures) (right : Option ℕ) (l r : Tree) → CanFork rows (Some x) n f right l r → Grows rows (rotate_right_rows rows x n f right) (rotate_right l (n, f) r)
grows-right rows x n f right Leaf r g = let no : ⊥ = (let is = g.left_is in cc) in absurd no
grows-right rows x n f right (Fork a e b) r g =
    let is : x ≡ e.0 = (let i = g.left_is in cc) in
    subst (λ (k : ℕ). Grows rows (rotate_right_rows rows k n f right) (rotate_right (Fork a e b) (n, f) r)) (sym is)
    (subst (λ (w : Row). Grows rows (right_at rows w e.0 n f right) (rotate_right (Fork a e b) (n, f) r)) (sym g.left_held.3) (inner (height_held rows a g.left_held.0) (height_held rows b g.left_held.1)
    (record { left_is = refl; right_is = g.right_is; left_held = g.left_held; right_held = g.right_held; within = g.within; fits = g.fits })))
  where
    twice : (b : Tree) → CanFork rows (Some e.0) n f right (Fork a e b) r
        → Grows rows (option_map_or (λ y. right_twice rows (row_of a e b) e.0 (row_at rows y) y n f right) (root_of b) (fork_rows rows (Some e.0) n f right, n)) (twice_right a e b (n, f) r)
    twice Leaf g = forked rows (Some e.0) n f right (Fork a e Leaf) r g
    twice (Fork c y d) g = subst (λ (w : Row). Grows rows (right_twice rows (row_of a e (Fork c y d)) e.0 w y.0 n f right) (Fork (Fork a e c) y (Fork d (n, f) r))) (sym g.left_held.1.3)
        (grows-right_twice rows n f right a e c y d r g)

    inner : height_at rows (root_of a) ≡ height a → height_at rows (root_of b) ≡ height b → CanFork rows (Some e.0) n f right (Fork a e b) r → Grows rows (right_at rows (row_of a e b) e.0 n f right) (rotate_right (Fork a e b) (n, f) r)
    inner ha hb g =
        let m = option_map_or (λ y. right_twice rows (row_of a e b) e.0 (row_at rows y) y n f right) (root_of b) (fork_rows rows (Some e.0) n f right, n) in
        let p = right_once rows (row_of a e b) e.0 n f right in
        subst (λ (i : ℕ). Grows rows (cond (nat_lt i (height_at rows (root_of b))) m p) (rotate_right (Fork a e b) (n, f) r)) (sym ha)
        (subst (λ (j : ℕ). Grows rows (cond (nat_lt (height a) j) m p) (rotate_right (Fork a e b) (n, f) r)) (sym hb)
        (both rows (nat_lt (height a) (height b)) m p (twice_right a e b (n, f) r) (Fork a e (Fork b (n, f) r)) (λ _. twice b g) (λ _. grows-right_once rows n f right a e b r g)))

grows-left_once : (rows : List Row) (left : Option ℕ) (n : ℕ) (f : Figures) (l a : Tree) (e : Entry) (b : Tree) → CanFork rows left n f (Some e.0) l (Fork a e b)
    → Grows rows (left_once rows left n f (row_of a e b) e.0) (Fork (Fork l (n, f) a) e b)
grows-left_once rows left n f l a e b g =
    let b1 = forked rows left n f (root_of a) l a (record { left_is = g.left_is; right_is = refl; left_held = g.left_held; right_held = g.right_held.0; within = g.within; fits = fits_less _ _ (λ h. omega arith) g.fits }) in
    let rows1 = fork_rows rows left n f (root_of a) in
    let b2 = forked rows1 (Some n) e.0 e.1 (root_of b) (Fork l (n, f) a) b (record {
      left_is = b1.root;
      right_is = refl;
      left_held = b1.held;
      right_held = kept rows rows1 (Some n) (Fork l (n, f) a) b b1 (λ i. let o = g.fits.once i in omega (arith, o)) g.right_held.1;
      within = (let w = g.right_held.2 in let s = b1.same_length in omega (arith, w, s));
      fits = fits_less _ _ (λ h. omega arith) g.fits;
    }) in
    after rows rows1 _ (Some n) (Some e.0) _ _ b1 b2 (λ i. omega arith)

grows-left_twice : (rows : List Row) (left : Option ℕ) (n : ℕ) (f : Figures) (l c : Tree) (y : Entry) (d : Tree) (e : Entry) (b : Tree) → CanFork rows left n f (Some e.0) l (Fork (Fork c y d) e b)
    → Grows rows (left_twice rows left n f (row_of (Fork c y d) e b) e.0 (row_of c y d) y.0) (Fork (Fork l (n, f) c) y (Fork d e b))
grows-left_twice rows left n f l c y d e b g =
    let rows1 = fork_rows rows left n f (root_of c) in
    let b1 = forked rows left n f (root_of c) l c (record { left_is = g.left_is; right_is = refl; left_held = g.left_held; right_held = g.right_held.0.0; within = g.within; fits = fits_less _ _ (λ h. omega arith) g.fits }) in
    let keep1 = kept rows rows1 (Some n) (Fork l (n, f) c) in
    let rows2 = fork_rows rows1 (root_of d) e.0 e.1 (root_of b) in
    let b2 = forked rows1 (root_of d) e.0 e.1 (root_of b) d b (record {
      left_is = refl;
      right_is = refl;
      left_held = keep1 d b1 (λ i. let o = g.fits.once i in omega (arith, o)) g.right_held.0.1;
      right_held = keep1 b b1 (λ i. let o = g.fits.once i in omega (arith, o)) g.right_held.1;
      within = (let w = g.right_held.2 in let s = b1.same_length in omega (arith, w, s));
      fits = fits_less _ _ (λ h. omega arith) g.fits;
    }) in
    let b3 = forked rows2 (Some n) y.0 y.1 (Some e.0) (Fork l (n, f) c) (Fork d e b) (record {
      left_is = refl;
      right_is = refl;
      left_held = kept rows1 rows2 (Some e.0) (Fork d e b) (Fork l (n, f) c) b2 (λ i. let o = g.fits.once i in omega (arith, o)) b1.held;
      right_held = b2.held;
      within = (let w = g.right_held.0.2 in let s = b1.same_length in let t = b2.same_length in omega (arith, w, s, t));
      fits = fits_less _ _ (λ h. omega arith) g.fits;
    }) in
    after rows rows1 _ (Some n) (Some y.0) _ _ b1 (after rows1 rows2 _ (Some e.0) (Some y.0) _ _ b2 b3 (λ i. omega arith)) (λ i. omega arith)

grows-left : (rows : List Row) (left : Option ℕ) (n : ℕ) (f : Figures) (x : ℕ) (l r : Tree) → CanFork rows left n f (Some x) l r → Grows rows (rotate_left_rows rows left n f x) (rotate_left l (n, f) r)
grows-left rows left n f x l Leaf g = let no : ⊥ = (let is = g.right_is in cc) in absurd no
grows-left rows left n f x l (Fork a e b) g =
    let is : x ≡ e.0 = (let i = g.right_is in cc) in
    subst (λ (k : ℕ). Grows rows (rotate_left_rows rows left n f k) (rotate_left l (n, f) (Fork a e b))) (sym is)
    (subst (λ (w : Row). Grows rows (left_at rows left n f w e.0) (rotate_left l (n, f) (Fork a e b))) (sym g.right_held.3) (inner (height_held rows a g.right_held.0) (height_held rows b g.right_held.1)
    (record { left_is = g.left_is; right_is = refl; left_held = g.left_held; right_held = g.right_held; within = g.within; fits = g.fits })))
  where
    twice : (a : Tree) → CanFork rows left n f (Some e.0) l (Fork a e b)
        → Grows rows (option_map_or (λ y. left_twice rows left n f (row_of a e b) e.0 (row_at rows y) y) (root_of a) (fork_rows rows left n f (Some e.0), n)) (twice_left l (n, f) a e b)
    twice Leaf g = forked rows left n f (Some e.0) l (Fork Leaf e b) g
    twice (Fork c y d) g = subst (λ (w : Row). Grows rows (left_twice rows left n f (row_of (Fork c y d) e b) e.0 w y.0) (Fork (Fork l (n, f) c) y (Fork d e b))) (sym g.right_held.0.3)
        (grows-left_twice rows left n f l c y d e b g)

    inner : height_at rows (root_of a) ≡ height a → height_at rows (root_of b) ≡ height b → CanFork rows left n f (Some e.0) l (Fork a e b) → Grows rows (left_at rows left n f (row_of a e b) e.0) (rotate_left l (n, f) (Fork a e b))
    inner ha hb g =
        let m = option_map_or (λ y. left_twice rows left n f (row_of a e b) e.0 (row_at rows y) y) (root_of a) (fork_rows rows left n f (Some e.0), n) in
        let p = left_once rows left n f (row_of a e b) e.0 in
        subst (λ (i : ℕ). Grows rows (cond (nat_lt i (height_at rows (root_of a))) m p) (rotate_left l (n, f) (Fork a e b))) (sym hb)
        (subst (λ (j : ℕ). Grows rows (cond (nat_lt (height b) j) m p) (rotate_left l (n, f) (Fork a e b))) (sym ha)
        (both rows (nat_lt (height b) (height a)) m p (twice_left l (n, f) a e b) (Fork (Fork l (n, f) a) e b) (λ _. twice a g) (λ _. grows-left_once rows left n f l a e b g)))

pub grows-balance : (rows : List Row) (left : Option ℕ) (n : ℕ) (f : Figures) (right : Option ℕ) (l r : Tree) → CanFork rows left n f right l r → Grows rows (balance_rows rows left n f right) (balance l (n, f) r)
unfolding balance_rows balance
grows-balance rows left n f right l r g =
    let own = forked rows left n f right l r g in
    let m1 = option_map_or (λ x. rotate_right_rows rows x n f right) left (fork_rows rows left n f right, n) in
    let m2 = option_map_or (λ x. rotate_left_rows rows left n f x) right (fork_rows rows left n f right, n) in
    let hl : height_at rows left ≡ height l = ap (height_at rows) g.left_is ∙ height_held rows l g.left_held in
    let hr : height_at rows right ≡ height r = ap (height_at rows) g.right_is ∙ height_held rows r g.right_held in
    let t = balance l (n, f) r in
    subst (λ (i : ℕ). Grows rows (cond (nat_lt (height_at rows right + 1) i) m1 (cond (nat_lt (i + 1) (height_at rows right)) m2 (fork_rows rows left n f right, n))) t) (sym hl)
    (subst (λ (j : ℕ). Grows rows (cond (nat_lt (j + 1) (height l)) m1 (cond (nat_lt (height l + 1) j) m2 (fork_rows rows left n f right, n))) t) (sym hr)
    (both rows (nat_lt (height r + 1) (height l)) m1 _ (rotate_right l (n, f) r) _ (λ _. to_right left l g)
    (λ _. both rows (nat_lt (height l + 1) (height r)) m2 _ (rotate_left l (n, f) r) _ (λ _. to_left right r g) (λ _. own))))
  where
    to_right : (left : Option ℕ) (l : Tree) → CanFork rows left n f right l r → Grows rows (option_map_or (λ x. rotate_right_rows rows x n f right) left (fork_rows rows left n f right, n)) (rotate_right l (n, f) r)
    to_right None Leaf g = forked rows None n f right Leaf r g
    to_right None (Fork a e b) g = let no : ⊥ = (let is = g.left_is in cc) in absurd no
    to_right (Some x) l g = grows-right rows x n f right l r g

    to_left : (right : Option ℕ) (r : Tree) → CanFork rows left n f right l r → Grows rows (option_map_or (λ x. rotate_left_rows rows left n f x) right (fork_rows rows left n f right, n)) (rotate_left l (n, f) r)
    to_left None Leaf g = forked rows left n f None l Leaf g
    to_left None (Fork a e b) g = let no : ⊥ = (let is = g.right_is in cc) in absurd no
    to_left (Some x) r g = grows-left rows left n f x l r g

pub grows-insert : (k : ℕ) (rows : List Row) (t : Tree) (n : ℕ) (f : Figures) → IsHeld rows t → n < length rows → Fits (Fork t (n, f) Leaf) → height t ≤ k
    → Grows rows (insert_rows k rows (root_of t) n f) (insert_tree (n, f) t)
unfolding insert_rows insert_tree
grows-insert k rows Leaf n f h lt fits le =
    subst (λ (m : Topped). Grows rows m (Fork Leaf (n, f) Leaf)) (sym (insert_none k rows n f))
    (forked rows None n f None Leaf Leaf (record { left_is = refl; right_is = refl; left_held = tt; right_held = tt; within = lt; fits = fits_less _ _ (λ h. omega arith) fits }))
grows-insert zero rows (Fork l x r) n f h lt fits le = let no : ⊥ = omega (arith, le) in absurd no
grows-insert (suc k) rows (Fork l x r) n f h lt fits le =
    let ml = insert_rows k rows (root_of l) n f in
    let mr = insert_rows k rows (root_of r) n f in
    let bl = grows-insert k rows l n f h.0 lt (fits_less _ _ (λ g. omega arith) fits) (omega (arith, le)) in
    let br = grows-insert k rows r n f h.1 lt (fits_less _ _ (λ g. omega arith) fits) (omega (arith, le)) in
    let tl = insert_tree (n, f) l in let tr = insert_tree (n, f) r in
    subst (λ (w : Row). Grows rows (cond (goes_left n f.key x.0 w.figures.key) (left_grown (insert_rows k rows w.left n f) x.0 w) (right_grown (insert_rows k rows w.right n f) x.0 w)) (insert_tree (n, f) (Fork l x r))) (sym h.3)
    (both rows (nat_lt (rank (n, f)) (rank x)) (left_grown ml x.0 (row_of l x r)) (right_grown mr x.0 (row_of l x r)) (balance tl x r) (balance l x tr)
    (λ _. after rows ml.0 _ (Some ml.1) _ tl (balance tl x r) bl (grows-balance ml.0 (Some ml.1) x.0 x.1 (root_of r) tl r (record {
      left_is = bl.root;
      right_is = refl;
      left_held = bl.held;
      right_held = kept rows ml.0 (Some ml.1) tl r bl (λ i. let o = fits.once i in let c = tally-insert (is_numbered i) (n, f) l in omega (arith, o, c)) h.1;
      within = (let w = h.2 in let s = bl.same_length in omega (arith, w, s));
      fits = fits_less _ _ (λ g. let c = tally-insert g (n, f) l in omega (arith, c)) fits;
    }))
    (λ i. let c = tally-balance (is_numbered i) tl x r in omega (arith, c)))
    (λ _. after rows mr.0 _ (Some mr.1) _ tr (balance l x tr) br (grows-balance mr.0 (root_of l) x.0 x.1 (Some mr.1) l tr (record {
      left_is = refl;
      right_is = br.root;
      right_held = br.held;
      left_held = kept rows mr.0 (Some mr.1) tr l br (λ i. let o = fits.once i in let c = tally-insert (is_numbered i) (n, f) r in omega (arith, o, c)) h.0;
      within = (let w = h.2 in let s = br.same_length in omega (arith, w, s));
      fits = fits_less _ _ (λ g. let c = tally-insert g (n, f) r in omega (arith, c)) fits;
    }))
    (λ i. let c = tally-balance (is_numbered i) l x tr in omega (arith, c))))

first_figures : (rows : List Row) (l : Tree) (e : Entry) (r : Tree) → IsHeld rows (Fork l e r) → (row_at rows (first_entry l e).0).figures ≡ (first_entry l e).1
first_figures rows Leaf e r h = ap (λ (w : Row). w.figures) h.3
first_figures rows (Fork a y b) e r h = first_figures rows a y b h.0

pub grows-first : (k : ℕ) (rows : List Row) (l : Tree) (e : Entry) (r : Tree) → IsHeld rows (Fork l e r) → Fits (Fork l e r) → height l < k
    → Becomes rows (first_rows k rows e.0).0 (first_rows k rows e.0).2 (rest_tree l e r) × ((first_rows k rows e.0).1 ≡ (first_entry l e).0)
unfolding first_rows rest_tree
grows-first zero rows l e r h fits le = let no : ⊥ = omega (arith, le) in absurd no
grows-first (suc k) rows Leaf e r h fits le =
    subst (λ (w : Row). Becomes rows (option_map_or (λ l. first_grown (first_rows k rows l) e.0 w) w.left (rows, e.0, w.right)).0 (option_map_or (λ l. first_grown (first_rows k rows l) e.0 w) w.left (rows, e.0, w.right)).2 r × ((option_map_or (λ l. first_grown (first_rows k rows l) e.0 w) w.left (rows, e.0, w.right)).1 ≡ e.0)) (sym h.3)
    (stays rows r h.1, refl)
grows-first (suc k) rows (Fork a y b) e r h fits le =
    let m = first_rows k rows y.0 in
    let g = grows-first k rows a y b h.0 (fits_less _ _ (λ g. omega arith) fits) (omega (arith, le)) in
    let rest = rest_tree a y b in
    subst (λ (w : Row). Becomes rows (option_map_or (λ l. first_grown (first_rows k rows l) e.0 w) w.left (rows, e.0, w.right)).0 (option_map_or (λ l. first_grown (first_rows k rows l) e.0 w) w.left (rows, e.0, w.right)).2 (balance rest e r) × ((option_map_or (λ l. first_grown (first_rows k rows l) e.0 w) w.left (rows, e.0, w.right)).1 ≡ (first_entry a y).0)) (sym h.3) (
      after rows m.0 _ m.2 _ rest (balance rest e r) g.0 (grows-balance m.0 m.2 e.0 e.1 (root_of r) rest r (record {
        left_is = g.0.root;
        right_is = refl;
        left_held = g.0.held;
        right_held = kept rows m.0 m.2 rest r g.0 (λ i. let o = fits.once i in let c = tally-rest (is_numbered i) a y b in omega (arith, o, c)) h.1;
        within = (let w = h.2 in let s = g.0.same_length in omega (arith, w, s));
        fits = fits_less _ _ (λ f. let c = tally-rest f a y b in omega (arith, c)) fits;
      }))
          (λ i. let c = tally-balance (is_numbered i) rest e r in omega (arith, c)),
      g.1,
    )

links-join : (k : ℕ) (rows : List Row) (l : Tree) (x : Entry) (r : Tree) → IsHeld rows l → IsHeld rows r → Fits (Fork l x r) → height r ≤ k → Links rows (join_rows k rows (root_of l) (root_of r)) (join_tree l r)
links-join k rows l x Leaf hl hr fits le = stays rows l hl
links-join k rows l x (Fork a y b) hl hr fits le =
    let m = first_rows k rows y.0 in
    let g = grows-first k rows a y b hr (fits_less _ _ (λ f. omega arith) fits) (omega (arith, le)) in
    let e = first_entry a y in
    let rest = rest_tree a y b in
    let own = numbered_self e in
    let same : row_at m.0 e.0 ≡ row_at rows e.0 = g.0.others e.0 (let o = fits.once e.0 in let c = tally-rest (is_numbered e.0) a y b in omega (arith, o, c, own)) in
    let figures : (row_at m.0 e.0).figures ≡ e.1 = ap (λ (w : Row). w.figures) same ∙ first_figures rows a y b hr in
    let can : CanFork m.0 (root_of l) e.0 e.1 m.2 l rest = record {
      left_is = refl;
      right_is = g.0.root;
      left_held = kept rows m.0 m.2 rest l g.0 (λ i. let o = fits.once i in let c = tally-rest (is_numbered i) a y b in omega (arith, o, c)) hl;
      right_held = g.0.held;
      within = first_within m.0 a y b hr g.0.same_length;
      fits = fits_less _ _ (λ f. let c = tally-rest f a y b in omega (arith, c)) fits;
    } in
    let done : Grows m.0 (balance_rows m.0 (root_of l) e.0 e.1 m.2) (balance l e rest) = grows-balance m.0 (root_of l) e.0 e.1 m.2 l rest can in
    let at : Grows m.0 (balance_rows m.0 (root_of l) e.0 (row_at m.0 e.0).figures m.2) (balance l e rest) = subst (λ (f : Figures). Grows m.0 (balance_rows m.0 (root_of l) e.0 f m.2) (balance l e rest)) (sym figures) done in
    let named : Grows m.0 (balance_rows m.0 (root_of l) m.1 (row_at m.0 m.1).figures m.2) (balance l e rest) = subst (λ (i : ℕ). Grows m.0 (balance_rows m.0 (root_of l) i (row_at m.0 i).figures m.2) (balance l e rest)) (sym g.1) at in
    after rows m.0 _ m.2 _ rest (balance l e rest) g.0 named (λ i. let c = tally-balance (is_numbered i) l e rest in omega (arith, c))
  where
    first_within : (new : List Row) (a : Tree) (y : Entry) (b : Tree) → IsHeld rows (Fork a y b) → length new ≡ length rows → (first_entry a y).0 < length new
    first_within new Leaf y b h s = let w = h.2 in omega (arith, w, s)
    first_within new (Fork c z d) y b h s = first_within new c z d h.0 s

pub links-remove : (k : ℕ) (rows : List Row) (t : Tree) (n : ℕ) (f : Figures) → IsHeld rows t → Fits t → height t ≤ k → Links rows (remove_rows k rows (root_of t) n f.key) (remove_tree (n, f) t)
unfolding remove_rows remove_tree
links-remove k rows Leaf n f h fits le = subst (λ (m : Linked). Links rows m Leaf) (sym (remove_none k rows n f.key)) (stays rows Leaf tt)
links-remove zero rows (Fork l x r) n f h fits le = let no : ⊥ = omega (arith, le) in absurd no
links-remove (suc k) rows (Fork l x r) n f h fits le =
    let ml = remove_rows k rows (root_of l) n f.key in
    let mr = remove_rows k rows (root_of r) n f.key in
    let bl = links-remove k rows l n f h.0 (fits_less _ _ (λ g. omega arith) fits) (omega (arith, le)) in
    let br = links-remove k rows r n f h.1 (fits_less _ _ (λ g. omega arith) fits) (omega (arith, le)) in
    let tl = remove_tree (n, f) l in let tr = remove_tree (n, f) r in
    subst (λ (w : Row). Links rows (cond (x.0 == n) (join_rows k rows w.left w.right) (cond (goes_left n f.key x.0 w.figures.key) (left_shrunk (remove_rows k rows w.left n f.key) x.0 w) (right_shrunk (remove_rows k rows w.right n f.key) x.0 w))) (remove_tree (n, f) (Fork l x r))) (sym h.3)
    (both_links rows (x.0 == n) (join_rows k rows (root_of l) (root_of r)) _ (join_tree l r) _ (λ _. links-join k rows l x r h.0 h.1 fits (omega (arith, le)))
    (λ _. both_links rows (nat_lt (rank (n, f)) (rank x)) (left_shrunk ml x.0 (row_of l x r)) (right_shrunk mr x.0 (row_of l x r)) (balance tl x r) (balance l x tr)
    (λ _. after rows ml.0 _ ml.1 _ tl (balance tl x r) bl (grows-balance ml.0 ml.1 x.0 x.1 (root_of r) tl r (record {
      left_is = bl.root;
      right_is = refl;
      left_held = bl.held;
      right_held = kept rows ml.0 ml.1 tl r bl (λ i. let o = fits.once i in let c = tally-remove-le (is_numbered i) (n, f) l in omega (arith, o, c)) h.1;
      within = (let w = h.2 in let s = bl.same_length in omega (arith, w, s));
      fits = fits_less _ _ (λ g. let c = tally-remove-le g (n, f) l in omega (arith, c)) fits;
    }))
    (λ i. let c = tally-balance (is_numbered i) tl x r in omega (arith, c)))
    (λ _. after rows mr.0 _ mr.1 _ tr (balance l x tr) br (grows-balance mr.0 (root_of l) x.0 x.1 mr.1 l tr (record {
      left_is = refl;
      right_is = br.root;
      right_held = br.held;
      left_held = kept rows mr.0 mr.1 tr l br (λ i. let o = fits.once i in let c = tally-remove-le (is_numbered i) (n, f) r in omega (arith, o, c)) h.0;
      within = (let w = h.2 in let s = br.same_length in omega (arith, w, s));
      fits = fits_less _ _ (λ g. let c = tally-remove-le g (n, f) r in omega (arith, c)) fits;
    }))
    (λ i. let c = tally-balance (is_numbered i) l x tr in omega (arith, c)))))
