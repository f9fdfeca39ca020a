-- Fixed tables: a list of places, each taken or free.
use Rattle.std.specs.Prelude.{◌≡◌, ℕ, ◌<◌, List, Option, None, IsSome, length, slice_index_or}

-- every place is taken
abbrev pub AllTaken : {A : Type 0} → List (Option A) → Type 0
AllTaken table = (k : ℕ) → k < length table → IsSome (slice_index_or table k None)

-- the place is there and free, and every one before it is taken
pub record IsFirstFree {A : Type 0} (table : List (Option A)) (place : ℕ) : Type 0 where
  pub within : place < length table
  pub is_free : slice_index_or table place None ≡ None
  pub lower : (k : ℕ) → k < place → IsSome (slice_index_or table k None)
