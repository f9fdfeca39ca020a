-- Plain trees, what makes them balanced search trees, and the rows that hold them.
use Rattle.std.specs.Prelude.{◌≡◌, ◌⊎◌, ℕ, zero, suc, ◌+◌, ◌^◌, ◌<◌, ◌≤◌, ◌==◌, max, nat_lt, cond, List, length, Option, None, Some}
use Rattle.augmented_tree.specs.declared.row.Figures.{Figures}
use Rattle.augmented_tree.specs.declared.row.Turn.{Turn}
use Rattle.augmented_tree.specs.declared.row.Row.{Row}
use Rattle.augmented_tree.specs.Rows.{row_at, height_at, lesser, rank_of}

-- a number, and what the tree knows of its member (our profile)
abbrev pub Entry : Type 0
Entry = ℕ × Figures

-- a member over two subtrees, or nobody (search tree)
pub data Tree : Type 0 where
  Leaf : Tree
  Fork : (left : Tree) (e : Entry) (right : Tree) → Tree

-- a member's finish and number (B-WF2Q+)
abbrev pub turn_of : Entry → Turn
turn_of e = record { finish = e.1.finish; number = e.0 }

-- what the members stand in order by (our profile)
abbrev pub rank : Entry → ℕ
rank e = rank_of e.0 e.1.key

-- what a tally counts: weights (augmented search tree)
abbrev pub weight_of : Entry → ℕ
weight_of e = e.1.weight

-- members
abbrev pub one : Entry → ℕ
one e = 1

-- members with this number
abbrev pub is_numbered : ℕ → Entry → ℕ
is_numbered i e = cond (e.0 == i) 1 0

-- the link of a tree: its top's number (our profile)
abbrev pub root_of : Tree → Option ℕ
root_of Leaf = None
root_of (Fork l e r) = Some e.0

-- the height (AVL tree)
abbrev pub height : Tree → ℕ
height Leaf = 0
height (Fork l e r) = max (height l) (height r) + 1

-- the sum of a number over the members
abbrev pub tally : (Entry → ℕ) → Tree → ℕ
tally f Leaf = 0
tally f (Fork l e r) = tally f l + f e + tally f r

-- the first turn (augmented search tree)
abbrev pub least : Tree → Option Turn
least Leaf = None
least (Fork l e r) = Some (lesser (lesser (turn_of e) (least l)) (least r))

-- the row of a member over two trees: its links, its height, and the least and the sum of its subtree (augmented search tree)
abbrev pub row_of : Tree → Entry → Tree → Row
row_of l e r = record {
  figures = e.1;
  left = root_of l;
  right = root_of r;
  height = max (height l) (height r) + 1;
  least = lesser (lesser (turn_of e) (least l)) (least r);
  sum = e.1.weight + tally weight_of l + tally weight_of r;
}

-- the rows hold the tree: each member's row is that of its subtree (our profile)
abbrev pub IsHeld : List Row → Tree → Type 0
IsHeld rows Leaf = Unit {0}
IsHeld rows (Fork l e r) = IsHeld rows l × IsHeld rows r × (e.0 < length rows) × (row_at rows e.0 ≡ row_of l e r)

-- each member stands once, there are no more than places, and the sum of weights is a number of 64 bits (our profile)
pub record Fits (t : Tree) : Type 0 where
  pub once : (i : ℕ) → tally (is_numbered i) t ≤ 1
  pub size : tally one t ≤ 48
  pub sum : tally weight_of t < 2 ^ 64

-- the rows hold the tree now, under this link, and no other row has changed (our profile)
pub record Becomes (old new : List Row) (link : Option ℕ) (t : Tree) : Type 0 where
  pub root : link ≡ root_of t
  pub held : IsHeld new t
  pub others : (i : ℕ) → tally (is_numbered i) t ≡ 0 → row_at new i ≡ row_at old i
  pub same_length : length new ≡ length old

-- a double rotation to the right (AVL tree)
abbrev pub twice_right : Tree → Entry → Tree → Entry → Tree → Tree
twice_right a x Leaf e r = Fork (Fork a x Leaf) e r
twice_right a x (Fork c y d) e r = Fork (Fork a x c) y (Fork d e r)

-- a rotation to the right: double where the inner side is the higher one (AVL tree)
abbrev pub rotate_right : Tree → Entry → Tree → Tree
rotate_right Leaf e r = Fork Leaf e r
rotate_right (Fork a x b) e r = cond (nat_lt (height a) (height b)) (twice_right a x b e r) (Fork a x (Fork b e r))

-- a double rotation to the left (AVL tree)
abbrev pub twice_left : Tree → Entry → Tree → Entry → Tree → Tree
twice_left l e Leaf x b = Fork l e (Fork Leaf x b)
twice_left l e (Fork c y d) x b = Fork (Fork l e c) y (Fork d x b)

-- a rotation to the left: double where the inner side is the higher one (AVL tree)
abbrev pub rotate_left : Tree → Entry → Tree → Tree
rotate_left l e Leaf = Fork l e Leaf
rotate_left l e (Fork a x b) = cond (nat_lt (height b) (height a)) (twice_left l e a x b) (Fork (Fork l e a) x b)

-- a rotation where one side is higher by two (AVL tree)
unfoldable pub balance : Tree → Entry → Tree → Tree
balance l e r = cond (nat_lt (height r + 1) (height l)) (rotate_right l e r) (cond (nat_lt (height l + 1) (height r)) (rotate_left l e r) (Fork l e r))

-- an insert (AVL tree)
unfoldable pub insert_tree : Entry → Tree → Tree
insert_tree e Leaf = Fork Leaf e Leaf
insert_tree e (Fork l x r) = cond (nat_lt (rank e) (rank x)) (balance (insert_tree e l) x r) (balance l x (insert_tree e r))

-- the first member, of a tree in its parts (search tree)
abbrev pub first_entry : Tree → Entry → Entry
first_entry Leaf e = e
first_entry (Fork a y b) e = first_entry a y

-- the others (AVL tree)
unfoldable pub rest_tree : Tree → Entry → Tree → Tree
rest_tree Leaf e r = r
rest_tree (Fork a y b) e r = balance (rest_tree a y b) e r

-- one tree of the two sides of a member that is gone (AVL tree)
abbrev pub join_tree : Tree → Tree → Tree
join_tree l Leaf = l
join_tree l (Fork a y b) = balance l (first_entry a y) (rest_tree a y b)

-- a removal (AVL tree)
unfoldable pub remove_tree : Entry → Tree → Tree
remove_tree e Leaf = Leaf
remove_tree e (Fork l x r) =
    cond (x.0 == e.0) (join_tree l r)
    (cond (nat_lt (rank e) (rank x)) (balance (remove_tree e l) x r) (balance l x (remove_tree e r)))

-- the heights of two sibling subtrees differ by at most one (AVL tree)
abbrev pub IsBalanced : Tree → Type 0
IsBalanced Leaf = Unit {0}
IsBalanced (Fork l e r) = IsBalanced l × IsBalanced r × (height l ≤ height r + 1) × (height r ≤ height l + 1)

-- members that do not stand before a rank
abbrev pub not_below : ℕ → Entry → ℕ
not_below k x = cond (nat_lt (rank x) k) 0 1

-- members that do not stand after a rank
abbrev pub not_above : ℕ → Entry → ℕ
not_above k x = cond (nat_lt k (rank x)) 0 1

-- members with this rank
abbrev pub is_ranked : ℕ → Entry → ℕ
is_ranked k x = cond (rank x == k) 1 0

-- the members stand in the order of key and number (search tree)
abbrev pub IsOrdered : Tree → Type 0
IsOrdered Leaf = Unit {0}
IsOrdered (Fork l e r) = IsOrdered l × IsOrdered r × (tally (not_below (rank e)) l ≡ 0) × (tally (not_above (rank e)) r ≡ 0)

-- the entry is one of the tree's members (our profile)
abbrev pub Holds : Entry → Tree → Type 0
Holds e Leaf = ⊥
Holds e (Fork l x r) = (x ≡ e) ⊎ (Holds e l ⊎ Holds e r)

-- the tree that the rows hold at a link, read so many levels down (our profile)
unfoldable pub read : ℕ → List Row → Option ℕ → Tree
read zero rows link = Leaf
read (suc k) rows None = Leaf
read (suc k) rows (Some n) = Fork (read k rows (row_at rows n).left) (n, (row_at rows n).figures) (read k rows (row_at rows n).right)

-- the tree at a link, by the height that its row tells (our profile)
abbrev pub tree_in : List Row → Option ℕ → Tree
tree_in rows root = read (height_at rows root) rows root
