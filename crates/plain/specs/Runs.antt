-- Runs of stored sectors (our profile).
use Rattle.std.specs.Prelude.{◌≡◌, ℕ, ◌+◌, ◌<◌, ◌≤◌, ◌^◌, Option, None, Some, IsSome}
use Rattle.std.specs.FinMap as map
use Rattle.sector_core.specs.declared.range.Range.{Range}
use Rattle.plain.specs.Machine.{Blocks}

-- a block is stored at a sector (our profile)
abbrev pub IsStored : Blocks → ℕ → Type 0
IsStored blocks sector = IsSome (map.get blocks sector)

-- no block is stored at a sector (our profile)
abbrev pub IsFree : Blocks → ℕ → Type 0
IsFree blocks sector = map.get blocks sector ≡ None

-- the least stored sector from one on, or that there is none (our profile)
abbrev pub IsNextStored : Blocks → ℕ → Option ℕ → Type 0
IsNextStored blocks from None = (sector : ℕ) → from ≤ sector → IsFree blocks sector
IsNextStored blocks from (Some found) =
    (from ≤ found) × IsStored blocks found × ((sector : ℕ) → from ≤ sector → sector < found → IsFree blocks sector)

-- each sector of a run is stored; it has at most so many, and if it has fewer the sector after it is free, if there is one (our profile)
abbrev pub IsRun : Blocks → ℕ → Range → Type 0
IsRun blocks most run =
    ((k : ℕ) → k < run.count → IsStored blocks (run.start + k))
    × (run.count ≤ most)
    × (run.count < most → run.start + run.count < 2 ^ 64 → IsFree blocks (run.start + run.count))

-- the stored sectors from the least one on, from a sector on, as far as they follow each other, and at most so many (our profile)
abbrev pub IsNextRun : Blocks → ℕ → ℕ → Option Range → Type 0
IsNextRun blocks from most None = IsNextStored blocks from None
IsNextRun blocks from most (Some run) = IsNextStored blocks from (Some run.start) × IsRun blocks most run
