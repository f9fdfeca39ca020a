-- Lists of numbers, tests and queues.
use Rattle.std.specs.Prelude.{Bool, List, [], ◌∷◌, Option, Some, None, if◌then◌else◌, ℕ, ◌+◌, zero, suc, true, false}

-- what stands beside the first test that holds (our profile)
abbrev pub first_of : {A : Type 0} → List (Bool × A) → Option A
first_of [] = None
first_of (x ∷ xs) = if x.0 then Some x.1 else first_of xs

-- `count` numbers from `from` on (our profile)
abbrev pub numbers : ℕ → ℕ → List ℕ
numbers from zero = []
numbers from (suc count) = from ∷ numbers (from + 1) count

-- the sixteen seats (our profile)
abbrev pub seats : List ℕ
seats = numbers 0 16

-- the first of a list (our profile)
abbrev pub first_in : {A : Type 0} → List A → Option A
first_in [] = None
first_in (x ∷ xs) = Some x

-- whether a list has no element (our profile)
abbrev pub is_empty : {A : Type 0} → List A → Bool
is_empty [] = true
is_empty (x ∷ xs) = false
