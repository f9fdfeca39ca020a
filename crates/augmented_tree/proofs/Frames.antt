-- Rows that hold trees, and what a write leaves of them.
use Rattle.std.proofs.Common.{◌≡◌, ◌≢◌, ℕ, zero, suc, ◌+◌, ◌-◌, ◌^◌, ◌<◌, ◌≤◌, min, max, List, length, set, Option, Some, refl, ap, sym, subst, ◌∙◌, arith, get_or-set_other, get_or-set_same}
use Rattle.std.proofs.lemmas.List.{length-set}
use Rattle.std.proofs.lemmas.Bool.Decides.{nat_tests}
use Rattle.augmented_tree.specs.declared.row.Figures.{Figures}
use Rattle.augmented_tree.specs.declared.row.Turn.{Turn}
use Rattle.augmented_tree.specs.declared.row.Row.{Row}
use Rattle.augmented_tree.specs.Rows.{row_at, height_at, sum_at, least_at, lesser, made, blank, fork_rows}
use Rattle.augmented_tree.specs.Trees.{Entry, Tree, Leaf, Fork, weight_of, one, is_numbered, root_of, height, tally, least, row_of, IsHeld, Fits, Becomes, read, tree_in}
use Rattle.augmented_tree.proofs.Heights.{height-size}

pub numbered_self : (e : Entry) → is_numbered e.0 e ≡ 1
numbered_self e = grind (arith, nat_tests)

-- rows that are the same where the tree has a member hold it too
pub IsHeld-same : (old new : List Row) (t : Tree) → length new ≡ length old → ((i : ℕ) → 1 ≤ tally (is_numbered i) t → row_at new i ≡ row_at old i) → IsHeld old t → IsHeld new t
IsHeld-same old new Leaf len same h = tt
IsHeld-same old new (Fork l e r) len same h = (
  IsHeld-same old new l len (λ i c. same i (omega (arith, c))) h.0,
  IsHeld-same old new r len (λ i c. same i (omega (arith, c))) h.1,
  (let lt = h.2 in omega (arith, lt, len)),
  same e.0 (let s = numbered_self e in omega (arith, s)) ∙ h.3,
)

pub kept : (old new : List Row) (link : Option ℕ) (t s : Tree) → Becomes old new link t → ((i : ℕ) → tally (is_numbered i) s + tally (is_numbered i) t ≤ 1) → IsHeld old s → IsHeld new s
kept old new link t s b apart h = IsHeld-same old new s b.same_length (λ i c. let a = apart i in b.others i (omega (arith, a, c))) h

pub after : (old mid new : List Row) (a link : Option ℕ) (s t : Tree) → Becomes old mid a s → Becomes mid new link t → ((i : ℕ) → tally (is_numbered i) s ≤ tally (is_numbered i) t) → Becomes old new link t
after old mid new a link s t b c le = record {
  root = c.root;
  held = c.held;
  others = λ i z. c.others i z ∙ b.others i (let l = le i in omega (arith, l, z));
  same_length = c.same_length ∙ b.same_length;
}

pub stays : (rows : List Row) (t : Tree) → IsHeld rows t → Becomes rows rows (root_of t) t
stays rows t h = record { root = refl; held = h; others = λ i z. refl; same_length = refl }

pub height_held : (rows : List Row) (t : Tree) → IsHeld rows t → height_at rows (root_of t) ≡ height t
height_held rows Leaf h = refl
height_held rows (Fork l e r) h = ap (λ (x : Row). x.height) h.3

pub sum_held : (rows : List Row) (t : Tree) → IsHeld rows t → sum_at rows (root_of t) ≡ tally weight_of t
sum_held rows Leaf h = refl
sum_held rows (Fork l e r) h = let s = ap (λ (x : Row). x.sum) h.3 in omega (arith, s)

pub least_held : (rows : List Row) (t : Tree) → IsHeld rows t → least_at rows (root_of t) ≡ least t
least_held rows Leaf h = refl
least_held rows (Fork l e r) h = ap (λ (x : Row). Some x.least) h.3

pub fits_less : (s t : Tree) → ((f : Entry → ℕ) → tally f s ≤ tally f t) → Fits t → Fits s
fits_less s t le g = record {
  once = λ i. let a = le (is_numbered i) in let b = g.once i in omega (arith, a, b);
  size = (let a = le one in let b = g.size in omega (arith, a, b));
  sum = (let a = le weight_of in let b = g.sum in omega (arith, a, b));
}

-- two trees that stand in the rows, and a member that stands in neither
pub record CanFork (rows : List Row) (left : Option ℕ) (n : ℕ) (f : Figures) (right : Option ℕ) (l r : Tree) : Type 0 where
  pub left_is : left ≡ root_of l
  pub right_is : right ≡ root_of r
  pub left_held : IsHeld rows l
  pub right_held : IsHeld rows r
  pub within : n < length rows
  pub fits : Fits (Fork l (n, f) r)

shape : ℕ → Figures → Option ℕ → Option ℕ → ℕ → Option Turn → Option Turn → ℕ → Row
shape n f left right h t1 t2 s = record { figures = f; left = left; right = right; height = h; least = lesser (lesser (record { finish = f.finish; number = n }) t1) t2; sum = s }

shape_same : (n : ℕ) (f : Figures) (a a1 b b1 : Option ℕ) (h h1 : ℕ) (t t1 u u1 : Option Turn) (s s1 : ℕ) → a ≡ a1 → b ≡ b1 → h ≡ h1 → t ≡ t1 → u ≡ u1 → s ≡ s1 → shape n f a b h t u s ≡ shape n f a1 b1 h1 t1 u1 s1
shape_same n f a a1 b b1 h h1 t t1 u u1 s s1 p q v w x y = cc

made_is : (rows : List Row) (left : Option ℕ) (n : ℕ) (f : Figures) (right : Option ℕ) (l r : Tree) → CanFork rows left n f right l r → made rows left n f right ≡ row_of l (n, f) r
unfolding shape
made_is rows left n f right l r g =
    let hl = ap (height_at rows) g.left_is ∙ height_held rows l g.left_held in
    let hr = ap (height_at rows) g.right_is ∙ height_held rows r g.right_held in
    let sl = ap (sum_at rows) g.left_is ∙ sum_held rows l g.left_held in
    let sr = ap (sum_at rows) g.right_is ∙ sum_held rows r g.right_held in
    let tl = ap (least_at rows) g.left_is ∙ least_held rows l g.left_held in
    let tr = ap (least_at rows) g.right_is ∙ least_held rows r g.right_held in
    let size = g.fits.size in let sum = g.fits.sum in
    let zl = height-size l in let zr = height-size r in
    let h : min (max (height_at rows left) (height_at rows right) + 1) 255 ≡ max (height l) (height r) + 1 = omega (arith, hl, hr, size, zl, zr) in
    let s : min (min (f.weight + sum_at rows left) (2 ^ 64 - 1) + sum_at rows right) (2 ^ 64 - 1) ≡ f.weight + tally weight_of l + tally weight_of r = omega (arith, sl, sr, sum) in
    shape_same n f left (root_of l) right (root_of r) _ _ (least_at rows left) (least l) (least_at rows right) (least r) _ _ g.left_is g.right_is h tl tr s

apart_from : (i n : ℕ) (f : Figures) (l r : Tree) → Fits (Fork l (n, f) r) → 1 ≤ tally (is_numbered i) l + tally (is_numbered i) r → i ≢ n
apart_from i n f l r g c same =
    let once = g.once n in let own = numbered_self (n, f) in
    let d : 1 ≤ tally (is_numbered n) l + tally (is_numbered n) r = subst (λ (k : ℕ). 1 ≤ tally (is_numbered k) l + tally (is_numbered k) r) same c in
    let no : ⊥ = omega (arith, once, own, d) in no

numbered_other : (i n : ℕ) (f : Figures) → is_numbered i (n, f) ≡ 0 → i ≢ n
numbered_other i n f z same = grind (arith, nat_tests)

-- one row is written
pub forked : (rows : List Row) (left : Option ℕ) (n : ℕ) (f : Figures) (right : Option ℕ) (l r : Tree) → CanFork rows left n f right l r
    → Becomes rows (fork_rows rows left n f right) (Some n) (Fork l (n, f) r)
forked rows left n f right l r g =
    let row = made rows left n f right in
    let other : (i : ℕ) → i ≢ n → row_at (set rows n row) i ≡ row_at rows i = λ i ne. get_or-set_other rows n i row blank ne in
    record {
      root = refl;
      held = (
        IsHeld-same rows (set rows n row) l (length-set rows n row) (λ i c. other i (apart_from i n f l r g.fits (omega (arith, c)))) g.left_held,
        IsHeld-same rows (set rows n row) r (length-set rows n row) (λ i c. other i (apart_from i n f l r g.fits (omega (arith, c)))) g.right_held,
        (let w = g.within in let s = length-set rows n row in omega (arith, w, s)),
        get_or-set_same rows n row blank g.within ∙ made_is rows left n f right l r g,
      );
      others = λ i z. other i (numbered_other i n f (omega (arith, z)));
      same_length = length-set rows n row;
    }

read-held : (k : ℕ) (rows : List Row) (t : Tree) → IsHeld rows t → height t ≤ k → read k rows (root_of t) ≡ t
unfolding read
read-held zero rows Leaf h le = refl
read-held (suc k) rows Leaf h le = refl
read-held zero rows (Fork l e r) h le = let no : ⊥ = omega (arith, le) in absurd no
read-held (suc k) rows (Fork l e r) h le =
    subst (λ (w : Row). Fork (read k rows w.left) (e.0, w.figures) (read k rows w.right) ≡ Fork l e r) (sym h.3)
    (ap (λ (s : Tree). Fork s e (read k rows (root_of r))) (read-held k rows l h.0 (omega (arith, le))) ∙ ap (λ (s : Tree). Fork l e s) (read-held k rows r h.1 (omega (arith, le))))

-- the rows hold one tree only
pub tree_in-held : (rows : List Row) (link : Option ℕ) (t : Tree) → link ≡ root_of t → IsHeld rows t → tree_in rows link ≡ t
tree_in-held rows link t is h =
    let P : Option ℕ → Type 0 = λ l. tree_in rows l ≡ t in
    let e = height_held rows t h in
    subst P (sym is) (read-held (height_at rows (root_of t)) rows t h (omega (arith, e)))
