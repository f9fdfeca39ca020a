-- One level down: what a call makes where levels are left.
use Rattle.std.proofs.Common.{◌≡◌, ℕ, zero, suc, ◌+◌, ◌-◌, ◌^◌, ◌==◌, min, nat_lt, nat_eq, false, cond, List, None, Some, refl, subst, arith}
use Rattle.std.specs.Option.{option_map_or}
use Rattle.augmented_tree.specs.declared.row.Figures.{Figures}
use Rattle.augmented_tree.specs.declared.row.Row.{Row}
use Rattle.augmented_tree.specs.Rows.{row_at, sum_at, least_at, lesser, goes_left, fork_rows}
use Rattle.augmented_tree.specs.Tables.{insert_rows, first_rows, remove_rows, pick_rows, above_rows, first_key_rows, left_grown, right_grown, first_grown, join_rows, left_shrunk, right_shrunk}

pub insert_below : (k : ℕ) (rows : List Row) (m n : ℕ) (f : Figures) → nat_eq k 0 ≡ false → insert_rows k rows (Some m) n f ≡ cond (goes_left n f.key m (row_at rows m).figures.key)
    (left_grown (insert_rows (k - 1) rows (row_at rows m).left n f) m (row_at rows m))
    (right_grown (insert_rows (k - 1) rows (row_at rows m).right n f) m (row_at rows m))
unfolding insert_rows
insert_below zero rows m n f h = cc
insert_below (suc k) rows m n f h = let e : k ≡ suc k - 1 = omega arith in subst (λ (j : ℕ). insert_rows (suc k) rows (Some m) n f ≡ cond (goes_left n f.key m (row_at rows m).figures.key) (left_grown (insert_rows j rows (row_at rows m).left n f) m (row_at rows m)) (right_grown (insert_rows j rows (row_at rows m).right n f) m (row_at rows m))) e refl

pub first_below : (k : ℕ) (rows : List Row) (m : ℕ) → nat_eq k 0 ≡ false → first_rows k rows m ≡ option_map_or (λ l. first_grown (first_rows (k - 1) rows l) m (row_at rows m)) (row_at rows m).left (rows, m, (row_at rows m).right)
unfolding first_rows
first_below zero rows m h = cc
first_below (suc k) rows m h = let e : k ≡ suc k - 1 = omega arith in subst (λ (j : ℕ). first_rows (suc k) rows m ≡ option_map_or (λ l. first_grown (first_rows j rows l) m (row_at rows m)) (row_at rows m).left (rows, m, (row_at rows m).right)) e refl

pub remove_below : (k : ℕ) (rows : List Row) (m n key : ℕ) → nat_eq k 0 ≡ false → remove_rows k rows (Some m) n key ≡ cond (m == n) (join_rows (k - 1) rows (row_at rows m).left (row_at rows m).right)
    (cond (goes_left n key m (row_at rows m).figures.key)
    (left_shrunk (remove_rows (k - 1) rows (row_at rows m).left n key) m (row_at rows m))
    (right_shrunk (remove_rows (k - 1) rows (row_at rows m).right n key) m (row_at rows m)))
unfolding remove_rows
remove_below zero rows m n key h = cc
remove_below (suc k) rows m n key h = let e : k ≡ suc k - 1 = omega arith in subst (λ (j : ℕ). remove_rows (suc k) rows (Some m) n key ≡ cond (m == n) (join_rows j rows (row_at rows m).left (row_at rows m).right) (cond (goes_left n key m (row_at rows m).figures.key) (left_shrunk (remove_rows j rows (row_at rows m).left n key) m (row_at rows m)) (right_shrunk (remove_rows j rows (row_at rows m).right n key) m (row_at rows m)))) e refl

pub pick_below : (k : ℕ) (rows : List Row) (m limit : ℕ) → nat_eq k 0 ≡ false → pick_rows k rows (Some m) limit ≡ cond (nat_lt limit (row_at rows m).figures.key) (pick_rows (k - 1) rows (row_at rows m).left limit)
    (Some (lesser (lesser (record { finish = (row_at rows m).figures.finish; number = m }) (least_at rows (row_at rows m).left)) (pick_rows (k - 1) rows (row_at rows m).right limit)))
unfolding pick_rows
pick_below zero rows m limit h = cc
pick_below (suc k) rows m limit h = let e : k ≡ suc k - 1 = omega arith in subst (λ (j : ℕ). pick_rows (suc k) rows (Some m) limit ≡ cond (nat_lt limit (row_at rows m).figures.key) (pick_rows j rows (row_at rows m).left limit) (Some (lesser (lesser (record { finish = (row_at rows m).figures.finish; number = m }) (least_at rows (row_at rows m).left)) (pick_rows j rows (row_at rows m).right limit)))) e refl

pub above_below : (k : ℕ) (rows : List Row) (m limit : ℕ) → nat_eq k 0 ≡ false → above_rows k rows (Some m) limit ≡ cond (nat_lt limit (row_at rows m).figures.key)
    (min (min ((row_at rows m).figures.weight + above_rows (k - 1) rows (row_at rows m).left limit) (2 ^ 64 - 1) + sum_at rows (row_at rows m).right) (2 ^ 64 - 1))
    (above_rows (k - 1) rows (row_at rows m).right limit)
unfolding above_rows
above_below zero rows m limit h = cc
above_below (suc k) rows m limit h = let e : k ≡ suc k - 1 = omega arith in subst (λ (j : ℕ). above_rows (suc k) rows (Some m) limit ≡ cond (nat_lt limit (row_at rows m).figures.key) (min (min ((row_at rows m).figures.weight + above_rows j rows (row_at rows m).left limit) (2 ^ 64 - 1) + sum_at rows (row_at rows m).right) (2 ^ 64 - 1)) (above_rows j rows (row_at rows m).right limit)) e refl

pub first_key_below : (k : ℕ) (rows : List Row) (m : ℕ) → nat_eq k 0 ≡ false → first_key_rows k rows (Some m) ≡ Some (option_map_or (λ key. key) (first_key_rows (k - 1) rows (row_at rows m).left) (row_at rows m).figures.key)
unfolding first_key_rows
first_key_below zero rows m h = cc
first_key_below (suc k) rows m h = let e : k ≡ suc k - 1 = omega arith in subst (λ (j : ℕ). first_key_rows (suc k) rows (Some m) ≡ Some (option_map_or (λ key. key) (first_key_rows j rows (row_at rows m).left) (row_at rows m).figures.key)) e refl

pub insert_none : (k : ℕ) (rows : List Row) (n : ℕ) (f : Figures) → insert_rows k rows None n f ≡ (fork_rows rows None n f None, n)
unfolding insert_rows
insert_none zero rows n f = refl
insert_none (suc k) rows n f = refl

pub remove_none : (k : ℕ) (rows : List Row) (n key : ℕ) → remove_rows k rows None n key ≡ (rows, None)
unfolding remove_rows
remove_none zero rows n key = refl
remove_none (suc k) rows n key = refl

pub pick_none : (k : ℕ) (rows : List Row) (limit : ℕ) → pick_rows k rows None limit ≡ None
unfolding pick_rows
pick_none zero rows limit = refl
pick_none (suc k) rows limit = refl

pub above_none : (k : ℕ) (rows : List Row) (limit : ℕ) → above_rows k rows None limit ≡ 0
unfolding above_rows
above_none zero rows limit = refl
above_none (suc k) rows limit = refl

pub first_key_none : (k : ℕ) (rows : List Row) → first_key_rows k rows None ≡ None
unfolding first_key_rows
first_key_none zero rows = refl
first_key_none (suc k) rows = refl
