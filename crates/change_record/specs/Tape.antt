-- The tape: the changes of each step, one list after the other (our profile).
use Rattle.std.specs.Prelude.{◌≡◌, ℕ, zero, suc, ◌+◌, ◌*◌, ◌-◌, ◌<◌, ◌≤◌, ◌%◌, ◌^◌, List, [], ◌∷◌, ◌++◌, take, drop, slice_index_or}
use Rattle.change_record.specs.declared.change.Change.{Change}

-- the lists of the steps, that of the step under way, room for so many more changes, and for the ends of so many more steps
pub record Record : Type 0 where
  pub steps : List (List Change)
  pub current : List Change
  pub room : ℕ
  pub spare : ℕ

-- the changes of the step at a number
abbrev pub step_at : List (List Change) → ℕ → List Change
step_at steps at = slice_index_or steps at []

-- a flat list, whose first element has the number `from`, cut before each of the ends
abbrev pub pieces : {A : Type 0} → ℕ → List ℕ → List A → List (List A)
pieces from [] changes = []
pieces from (end ∷ ends) changes = take (end - from) changes ∷ pieces end ends (drop (end - from) changes)

-- what stands after the last end
abbrev pub rest_of : {A : Type 0} → ℕ → List ℕ → List A → List A
rest_of from [] changes = changes
rest_of from (end ∷ ends) changes = rest_of end ends (drop (end - from) changes)

-- the ends rise from `from` to `last` at most
abbrev pub AreEnds : ℕ → List ℕ → ℕ → Type 0
AreEnds from [] last = from ≤ last
AreEnds from (end ∷ ends) last = (from ≤ end) × AreEnds end ends last

-- where the piece with this number begins
abbrev pub begin_of : ℕ → List ℕ → ℕ → ℕ
begin_of from ends zero = from
begin_of from [] (suc at) = from
begin_of from (end ∷ ends) (suc at) = begin_of end ends at

-- the list with these elements in the place of those from `start` to before `end`
abbrev pub spliced : {A : Type 0} → ℕ → ℕ → List A → List A → List A
spliced start end xs ys = take start xs ++ (ys ++ drop end xs)

-- of a list of so many exchanges those before the refused one were made, and turned back: each is counted twice, modulo 2^64
abbrev pub TakesBack : ℕ → ℕ → ℕ → Type 0
TakesBack turns count now = (made : ℕ) × (made < count) × (now % 2 ^ 64 ≡ (turns + 2 * made) % 2 ^ 64)
