-- What the calls make of a table of rows: an AVL tree that is linked by the rows' numbers.
use Rattle.std.specs.Prelude.{ℕ, zero, suc, ◌+◌, ◌-◌, ◌^◌, ◌==◌, min, nat_lt, cond, List, Option, None, Some}
use Rattle.std.specs.Option.{option_map_or}
use Rattle.augmented_tree.specs.declared.row.Figures.{Figures}
use Rattle.augmented_tree.specs.declared.row.Turn.{Turn}
use Rattle.augmented_tree.specs.declared.row.Row.{Row}
use Rattle.augmented_tree.specs.Rows.{row_at, height_at, sum_at, least_at, lesser, goes_left, fork_rows}

-- the rows, and the number of the top (our profile)
abbrev pub Topped : Type 0
Topped = List Row × ℕ

-- the rows, and the link of the top (our profile)
abbrev pub Linked : Type 0
Linked = List Row × Option ℕ

-- a single rotation to the right: the left side's top comes up (AVL tree)
abbrev pub right_once : List Row → Row → ℕ → ℕ → Figures → Option ℕ → Topped
right_once rows l x n f right = (fork_rows (fork_rows rows l.right n f right) l.left x l.figures (Some n), x)

-- a double one: the left side's inner top comes up (AVL tree)
abbrev pub right_twice : List Row → Row → ℕ → Row → ℕ → ℕ → Figures → Option ℕ → Topped
right_twice rows l x m y n f right = (fork_rows (fork_rows (fork_rows rows l.left x l.figures m.left) m.right n f right) (Some x) y m.figures (Some n), y)

-- a double rotation where the inner side is the higher one, else a single one (AVL tree)
abbrev pub right_at : List Row → Row → ℕ → ℕ → Figures → Option ℕ → Topped
right_at rows l x n f right =
    cond (nat_lt (height_at rows l.left) (height_at rows l.right))
    (option_map_or (λ y. right_twice rows l x (row_at rows y) y n f right) l.right (fork_rows rows (Some x) n f right, n))
    (right_once rows l x n f right)

-- a rotation to the right, of a member over two subtrees whose left one has this top (AVL tree)
abbrev pub rotate_right_rows : List Row → ℕ → ℕ → Figures → Option ℕ → Topped
rotate_right_rows rows x n f right = right_at rows (row_at rows x) x n f right

-- a single rotation to the left: the right side's top comes up (AVL tree)
abbrev pub left_once : List Row → Option ℕ → ℕ → Figures → Row → ℕ → Topped
left_once rows left n f r x = (fork_rows (fork_rows rows left n f r.left) (Some n) x r.figures r.right, x)

-- a double one: the right side's inner top comes up (AVL tree)
abbrev pub left_twice : List Row → Option ℕ → ℕ → Figures → Row → ℕ → Row → ℕ → Topped
left_twice rows left n f r x m y = (fork_rows (fork_rows (fork_rows rows left n f m.left) m.right x r.figures r.right) (Some n) y m.figures (Some x), y)

-- a double rotation where the inner side is the higher one, else a single one (AVL tree)
abbrev pub left_at : List Row → Option ℕ → ℕ → Figures → Row → ℕ → Topped
left_at rows left n f r x =
    cond (nat_lt (height_at rows r.right) (height_at rows r.left))
    (option_map_or (λ y. left_twice rows left n f r x (row_at rows y) y) r.left (fork_rows rows left n f (Some x), n))
    (left_once rows left n f r x)

-- a rotation to the left, of a member over two subtrees whose right one has this top (AVL tree)
abbrev pub rotate_left_rows : List Row → Option ℕ → ℕ → Figures → ℕ → Topped
rotate_left_rows rows left n f x = left_at rows left n f (row_at rows x) x

-- a member over two subtrees: a rotation where one of them is higher by two (AVL tree)
unfoldable pub balance_rows : List Row → Option ℕ → ℕ → Figures → Option ℕ → Topped
balance_rows rows left n f right =
    cond (nat_lt (height_at rows right + 1) (height_at rows left))
    (option_map_or (λ x. rotate_right_rows rows x n f right) left (fork_rows rows left n f right, n))
    (cond (nat_lt (height_at rows left + 1) (height_at rows right))
    (option_map_or (λ x. rotate_left_rows rows left n f x) right (fork_rows rows left n f right, n))
    (fork_rows rows left n f right, n))

-- the left side has become another one, under the same member (AVL tree)
abbrev pub left_grown : Topped → ℕ → Row → Topped
left_grown t m top = balance_rows t.0 (Some t.1) m top.figures top.right

-- the right side has become another one, under the same member (AVL tree)
abbrev pub right_grown : Topped → ℕ → Row → Topped
right_grown t m top = balance_rows t.0 top.left m top.figures (Some t.1)

-- an insert, so many levels down at most: at the place that the order asks for, balanced on the way up (AVL tree)
unfoldable pub insert_rows : ℕ → List Row → Option ℕ → ℕ → Figures → Topped
insert_rows zero rows root n f = (fork_rows rows None n f None, n)
insert_rows (suc k) rows None n f = (fork_rows rows None n f None, n)
insert_rows (suc k) rows (Some m) n f =
    cond (goes_left n f.key m (row_at rows m).figures.key)
    (left_grown (insert_rows k rows (row_at rows m).left n f) m (row_at rows m))
    (right_grown (insert_rows k rows (row_at rows m).right n f) m (row_at rows m))

-- the rows, the number of the first member, and the link of the rest (our profile)
abbrev pub Taken : Type 0
Taken = List Row × ℕ × Option ℕ

-- the rest of a left side has come under its member (AVL tree)
abbrev pub first_grown : Taken → ℕ → Row → Taken
first_grown t m top = ((balance_rows t.0 t.2 m top.figures top.right).0, t.1, Some (balance_rows t.0 t.2 m top.figures top.right).1)

-- the first member is taken out, balanced on the way up (AVL tree)
unfoldable pub first_rows : ℕ → List Row → ℕ → Taken
first_rows zero rows m = (rows, m, (row_at rows m).right)
first_rows (suc k) rows m = option_map_or (λ l. first_grown (first_rows k rows l) m (row_at rows m)) (row_at rows m).left (rows, m, (row_at rows m).right)

-- a top is a link (our profile)
abbrev pub topped : Topped → Linked
topped t = (t.0, Some t.1)

-- the first member of a right side comes over the left side and the rest (search tree: the successor takes the place)
abbrev pub joined : Taken → Option ℕ → Linked
joined t left = topped (balance_rows t.0 left t.1 (row_at t.0 t.1).figures t.2)

-- one tree of the two sides of a member that is gone (AVL tree)
abbrev pub join_rows : ℕ → List Row → Option ℕ → Option ℕ → Linked
join_rows k rows left right = option_map_or (λ r. joined (first_rows k rows r) left) right (rows, left)

-- the left side has lost a member (AVL tree)
abbrev pub left_shrunk : Linked → ℕ → Row → Linked
left_shrunk t m top = topped (balance_rows t.0 t.1 m top.figures top.right)

-- the right side has lost a member (AVL tree)
abbrev pub right_shrunk : Linked → ℕ → Row → Linked
right_shrunk t m top = topped (balance_rows t.0 top.left m top.figures t.1)

-- a removal, so many levels down at most, balanced on the way up (AVL tree)
unfoldable pub remove_rows : ℕ → List Row → Option ℕ → ℕ → ℕ → Linked
remove_rows zero rows root n key = (rows, root)
remove_rows (suc k) rows None n key = (rows, None)
remove_rows (suc k) rows (Some m) n key =
    cond (m == n) (join_rows k rows (row_at rows m).left (row_at rows m).right)
    (cond (goes_left n key m (row_at rows m).figures.key)
    (left_shrunk (remove_rows k rows (row_at rows m).left n key) m (row_at rows m))
    (right_shrunk (remove_rows k rows (row_at rows m).right n key) m (row_at rows m)))

-- the first turn of the members with a key up to a limit: past the limit go left; else all of the left side counts (BFQ: the walk for the first eligible entity)
unfoldable pub pick_rows : ℕ → List Row → Option ℕ → ℕ → Option Turn
pick_rows zero rows root limit = None
pick_rows (suc k) rows None limit = None
pick_rows (suc k) rows (Some m) limit =
    cond (nat_lt limit (row_at rows m).figures.key) (pick_rows k rows (row_at rows m).left limit)
    (Some (lesser (lesser (record { finish = (row_at rows m).figures.finish; number = m }) (least_at rows (row_at rows m).left)) (pick_rows k rows (row_at rows m).right limit)))

-- the sum of the weights of the members with a key above a limit: there all of the right side counts (augmented search tree)
unfoldable pub above_rows : ℕ → List Row → Option ℕ → ℕ → ℕ
above_rows zero rows root limit = 0
above_rows (suc k) rows None limit = 0
above_rows (suc k) rows (Some m) limit =
    cond (nat_lt limit (row_at rows m).figures.key)
    (min (min ((row_at rows m).figures.weight + above_rows k rows (row_at rows m).left limit) (2 ^ 64 - 1) + sum_at rows (row_at rows m).right) (2 ^ 64 - 1))
    (above_rows k rows (row_at rows m).right limit)

-- the least key, which stands leftmost (search tree)
unfoldable pub first_key_rows : ℕ → List Row → Option ℕ → Option ℕ
first_key_rows zero rows root = None
first_key_rows (suc k) rows None = None
first_key_rows (suc k) rows (Some m) = Some (option_map_or (λ key. key) (first_key_rows k rows (row_at rows m).left) (row_at rows m).figures.key)
