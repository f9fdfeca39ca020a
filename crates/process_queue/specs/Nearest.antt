-- Of the requests of a queue the first one with the least start at or after a sector.
use Rattle.std.specs.Prelude.{ℕ, nat_le, nat_lt, cond, List, [], ◌∷◌, Option, Some, None}
use Rattle.std.specs.Option.{option_and_then, option_map, option_or}
use Rattle.plain.specs.declared.shape.Shape.{Shape}
use Rattle.plain.specs.Next.{start_of}

-- a start and its slot, if the start is at or after a sector
abbrev pub candidate : ℕ → Option ℕ → ℕ → Option (ℕ × ℕ)
candidate from start slot = option_and_then (λ s. cond (nat_le from s) (Some (s, slot)) None) start

-- of two starts the lesser, and of equal ones the first
abbrev pub sooner : Option (ℕ × ℕ) → Option (ℕ × ℕ) → Option (ℕ × ℕ)
sooner None other = other
sooner (Some found) None = Some found
sooner (Some found) (Some other) = Some (cond (nat_lt other.0 found.0) other found)

-- the first request with the least start at or after a sector: its start and its slot
abbrev pub nearest : (ℕ → Option Shape) → ℕ → List ℕ → Option (ℕ × ℕ)
nearest shape from [] = None
nearest shape from (i ∷ is) = sooner (candidate from (start_of shape i) i) (nearest shape from is)

-- the slot of the first, else of the second
abbrev pub slot_of : Option (ℕ × ℕ) → Option (ℕ × ℕ) → Option ℕ
slot_of ahead least = option_or (option_map (λ f. f.1) ahead) (option_map (λ f. f.1) least)
