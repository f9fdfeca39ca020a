-- The pool as two lists of slots, each with a value or none (blk-mq: requests are allocated once, by number).
use Rattle.std.specs.Prelude.{◌≡◌, ℕ, ◌*◌, ◌/◌, ◌%◌, ◌<◌, ◌≤◌, List, Option, None, IsSome, length, take, drop, slice_index_or}
use Rattle.sector_core.specs.declared.bio.BioFields.{BioFields as Bio}
use Rattle.request_pool.specs.declared.RequestFields.{RequestFields as Request}

pub record Slots : Type 0 where
  pub requests : List (Option Request)
  pub bios : List (Option Bio)

-- the 32 slots of a seat's bios
abbrev pub seat_slots : ℕ → List (Option Bio) → List (Option Bio)
seat_slots seat bios = take 32 (drop (32 * seat) bios)

-- each slot from one up to another, which does not count, is taken
abbrev pub AreTaken : {A : Type 0} → List (Option A) → ℕ → ℕ → Type 0
AreTaken table from to = (k : ℕ) → from ≤ k → k < to → IsSome (slice_index_or table k None)

-- of the 32 slots of each seat, so many of the first as its bound says are taken
abbrev pub AreTakenOfSeats : {A : Type 0} → List (Option A) → List ℕ → Type 0
AreTakenOfSeats table bounds = (k : ℕ) → k % 32 < slice_index_or bounds (k / 32) 0 → IsSome (slice_index_or table k None)

-- a pool: numbers of slots fit a `Slot`, each seat of 16 has 32 slots for bios, and no slot below a bound is free
pub record IsPool (requests : List (Option Request)) (bios : List (Option Bio)) (request_bound : ℕ) (bio_bounds : List ℕ) : Type 0 where
  pub numbered : length requests ≤ 65535
  pub seated : length bios ≡ 512
  pub requests_taken : AreTaken requests 0 request_bound
  pub bios_taken : AreTakenOfSeats bios bio_bounds
