-- The sectors of a request, read off the slots of its bios.
use Rattle.std.specs.Prelude.{ℕ, ◌≤◌, List, [], ◌∷◌, Option, None, Some, sum_by, slice_index_or}
use Rattle.sector_core.specs.declared.bio.BioFields.{BioFields as Bio}

abbrev pub start_of_bio : Option Bio → ℕ
start_of_bio None = 0
start_of_bio (Some bio) = bio.range.start

abbrev pub count_of_bio : Option Bio → ℕ
count_of_bio None = 0
count_of_bio (Some bio) = bio.range.count

abbrev pub count_at : List (Option Bio) → ℕ → ℕ
count_at bios slot = count_of_bio (slice_index_or bios slot None)

abbrev pub start_at : List (Option Bio) → ℕ → ℕ
start_at bios slot = start_of_bio (slice_index_or bios slot None)

abbrev pub first_start : List (Option Bio) → List ℕ → ℕ
first_start bios [] = 0
first_start bios (slot ∷ slots) = start_at bios slot

abbrev pub total_count : List (Option Bio) → List ℕ → ℕ
total_count bios slots = sum_by (count_at bios) slots

-- no bio has more than 64 sectors
abbrev pub HasFewSectors : List (Option Bio) → Type 0
HasFewSectors bios = (slot : ℕ) → count_at bios slot ≤ 64
