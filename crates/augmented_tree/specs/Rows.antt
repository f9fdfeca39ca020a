-- The rows of a table, and what is read of them.
use Rattle.std.specs.Prelude.{ℕ, ◌+◌, ◌*◌, ◌-◌, ◌^◌, ◌==◌, ◌&&◌, ◌||◌, min, max, nat_lt, Bool, List, Option, None, Some, if◌then◌else◌, slice_index_or, slice_set}
use Rattle.augmented_tree.specs.declared.row.Figures.{Figures}
use Rattle.augmented_tree.specs.declared.row.Turn.{Turn}
use Rattle.augmented_tree.specs.declared.row.Row.{Row}

-- a row that nothing was written to (our profile)
abbrev pub blank : Row
blank = record { figures = record { key = 0; finish = 0; weight = 0 }; left = None; right = None; height = 0; least = record { finish = 0; number = 0 }; sum = 0 }

-- the row with a number; past the table a blank one (our profile)
abbrev pub row_at : List Row → ℕ → Row
row_at rows n = slice_index_or rows n blank

-- the height of the subtree at a link: of an empty one 0 (AVL tree)
abbrev pub height_at : List Row → Option ℕ → ℕ
height_at rows None = 0
height_at rows (Some n) = (row_at rows n).height

-- the sum of the weights of the subtree at a link (augmented search tree)
abbrev pub sum_at : List Row → Option ℕ → ℕ
sum_at rows None = 0
sum_at rows (Some n) = (row_at rows n).sum

-- the first turn of the subtree at a link (augmented search tree; BFQ: the least finish of a subtree)
abbrev pub least_at : List Row → Option ℕ → Option Turn
least_at rows None = None
least_at rows (Some n) = Some (row_at rows n).least

-- a turn goes before another: by the lesser finish (B-WF2Q+), on a tie by the lower number (our profile)
abbrev pub before : Turn → Turn → Bool
before a b = nat_lt a.finish b.finish || (a.finish == b.finish) && nat_lt a.number b.number

-- the sooner of a turn and what may be another one (B-WF2Q+)
abbrev pub lesser : Turn → Option Turn → Turn
lesser t None = t
lesser t (Some o) = if before o t then o else t

-- a key and a number below 256 as one number: by it the members stand from left to right (our profile)
abbrev pub rank_of : ℕ → ℕ → ℕ
rank_of n key = key * 256 + n

-- a member with a number and a key stands left of another (search tree)
abbrev pub goes_left : ℕ → ℕ → ℕ → ℕ → Bool
goes_left n key m other = nat_lt (rank_of n key) (rank_of m other)

-- the row of a member over two subtrees, its figures those of the whole (augmented search tree; the limits are those of the code's numbers)
abbrev pub made : List Row → Option ℕ → ℕ → Figures → Option ℕ → Row
made rows left n f right = record {
  figures = f;
  left = left;
  right = right;
  height = min (max (height_at rows left) (height_at rows right) + 1) 255;
  least = lesser (lesser (record { finish = f.finish; number = n }) (least_at rows left)) (least_at rows right);
  sum = min (min (f.weight + sum_at rows left) (2 ^ 64 - 1) + sum_at rows right) (2 ^ 64 - 1);
}

-- that row is written (our profile)
abbrev pub fork_rows : List Row → Option ℕ → ℕ → Figures → Option ℕ → List Row
fork_rows rows left n f right = slice_set rows n (made rows left n f right)
