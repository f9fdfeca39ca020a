-- When the operator is told that a history is nearly full.
use Rattle.std.specs.Prelude.{◌≡◌, ℕ, ◌+◌, ◌*◌, ◌<◌, ◌≤◌, ◌⊎◌}

-- so many are nine tenths, rounded down, or there is one where that would be none (our profile)
abbrev pub IsNineTenths : ℕ → ℕ → Type 0
IsNineTenths most count =
    ((1 ≤ count) × (10 * count ≤ 9 * most) × (9 * most < 10 * count + 10)) ⊎ ((9 * most < 10) × (count ≡ 1))
