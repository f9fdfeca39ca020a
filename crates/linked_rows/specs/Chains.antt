-- Rows of a table that are linked into lists, both ways: what is read of the tables, and what the calls make of them.
use Rattle.std.specs.Prelude.{ℕ, ◌+◌, ◌<◌, ◌≤◌, ◌≡◌, ◌==◌, List, [], ◌∷◌, length, cond, Option, Some, None, slice_index_or, slice_set}
use Rattle.std.specs.Option.{option_map_or}
use Rattle.linked_rows.specs.declared.Sides.{Sides}
use Rattle.linked_rows.specs.declared.Ends.{Ends}

-- no neighbours
abbrev pub alone : Sides
alone = record { before = None; after = None }

-- a list of no row
abbrev pub nobody : Ends
nobody = record { first = None; last = None }

-- a row's neighbours in its list
abbrev pub side_at : List Sides → ℕ → Sides
side_at sides row = slice_index_or sides row alone

-- a list's first and last row
abbrev pub ends_at : List Ends → ℕ → Ends
ends_at ends list = slice_index_or ends list nobody

-- a row gets another one after it
abbrev pub after_set : List Sides → ℕ → Option ℕ → List Sides
after_set sides row after = slice_set sides row (record { before = (side_at sides row).before; after = after })

-- a row gets another one before it
abbrev pub before_set : List Sides → ℕ → Option ℕ → List Sides
before_set sides row before = slice_set sides row (record { before = before; after = (side_at sides row).after })

-- what may stand before, leads to what may stand after
abbrev pub led : List Sides → Option ℕ → Option ℕ → List Sides
led sides before after = option_map_or (λ p. after_set sides p after) before sides

-- what may stand after, leads back to what may stand before
abbrev pub followed : List Sides → Option ℕ → Option ℕ → List Sides
followed sides before after = option_map_or (λ n. before_set sides n before) after sides

-- the two are neighbours
abbrev pub joined_sides : List Sides → Option ℕ → Option ℕ → List Sides
joined_sides sides before after = followed (led sides before after) before after

-- where nothing stands before or after, the other one is an end
abbrev pub joined_ends : Ends → Option ℕ → Option ℕ → Ends
joined_ends ends before after = record { first = option_map_or (λ _. ends.first) before after; last = option_map_or (λ _. ends.last) after before }

-- the same of one list of all
abbrev pub joined_at : List Ends → ℕ → Option ℕ → Option ℕ → List Ends
joined_at ends list before after = slice_set ends list (joined_ends (ends_at ends list) before after)

-- a row's neighbours are each other's
abbrev pub cut_sides : List Sides → ℕ → List Sides
cut_sides sides row = joined_sides sides (side_at sides row).before (side_at sides row).after

abbrev pub cut_ends : List Sides → List Ends → ℕ → ℕ → List Ends
cut_ends sides ends list row = joined_at ends list (side_at sides row).before (side_at sides row).after

-- a row stands between two others
abbrev pub spliced_sides : List Sides → Option ℕ → ℕ → Option ℕ → List Sides
spliced_sides sides before row after = joined_sides (joined_sides sides before (Some row)) (Some row) after

abbrev pub spliced_ends : List Ends → ℕ → Option ℕ → ℕ → Option ℕ → List Ends
spliced_ends ends list before row after = joined_at (joined_at ends list before (Some row)) list (Some row) after

-- what comes behind a row, or first
abbrev pub row_behind : List Sides → List Ends → ℕ → Option ℕ → Option ℕ
row_behind sides ends list before = option_map_or (λ p. (side_at sides p).after) before (ends_at ends list).first

-- the first of some rows, else what comes behind them
abbrev pub first_or : List ℕ → Option ℕ → Option ℕ
first_or [] next = next
first_or (x ∷ xs) next = Some x

-- the last of some rows, else what comes before them
abbrev pub last_or : Option ℕ → List ℕ → Option ℕ
last_or prev [] = prev
last_or prev (x ∷ xs) = last_or (Some x) xs

-- some rows that are linked both ways, between two others (a part of a doubly linked list)
abbrev pub IsChain : List Sides → Option ℕ → List ℕ → Option ℕ → Type 0
IsChain sides prev [] next = Unit {0}
IsChain sides prev (i ∷ is) next = (i < length sides) × (side_at sides i ≡ record { before = prev; after = first_or is next }) × IsChain sides (Some i) is next

-- the ends of a list of these rows
abbrev pub ends_of : List ℕ → Ends
ends_of rows = record { first = first_or rows None; last = last_or None rows }

-- a list has these rows, in this order: they are linked both ways, and its ends are known
pub record IsList (sides : List Sides) (ends : List Ends) (list : ℕ) (rows : List ℕ) : Type 0 where
  pub chain : IsChain sides None rows None
  pub ends_are : ends_at ends list ≡ ends_of rows

-- one, where the two are the same
abbrev pub one_if : ℕ → ℕ → ℕ
one_if x i = cond (x == i) 1 0

-- how many times a row stands among others
abbrev pub times : ℕ → List ℕ → ℕ
times i [] = 0
times i (x ∷ xs) = one_if x i + times i xs

-- no row stands twice
abbrev pub IsOnce : List ℕ → Type 0
IsOnce rows = (i : ℕ) → times i rows ≤ 1
