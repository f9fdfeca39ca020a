-- The line of steps, the machine of those before the cursor, and the journal, as a keeper sees them.
use Rattle.std.specs.Prelude.{◌≡◌, ℕ, ◌+◌, Bool, List, [], ◌∷◌, ◌++◌, take, ◌⊎◌}
use Rattle.plain.specs.Machine.{Plain}
use Rattle.plain.specs.declared.sizes.Sizes.{Sizes}
use Rattle.plain.specs.declared.step.Step.{Step}
use Rattle.plain.specs.declared.call.Call.{Call}
use Rattle.plain.specs.declared.call.Call.TheVariants.{Do}
use Rattle.plain.specs.declared.call.Stamped.{Stamped}
use Rattle.plain.specs.declared.answer.Answer.{Answer}
use Rattle.plain.specs.declared.answer.Answer.TheVariants.{Accepted, Refused, NotYet}
use Rattle.plain.specs.declared.answer.Code.TheVariants.{OutOfMemory}
use Rattle.plain.specs.Step.{of_sizes, step, MayGiveWay}
use Rattle.plain.specs.Keeper.{fold}
use Rattle.dispatch_core.specs.Counts.{IsCount}

pub record Line : Type 0 where
  pub sizes : Sizes
  pub steps : List Stamped
  pub cursor : ℕ
  pub last : ℕ
  -- how many exchanges each step's list has, and how many were made
  pub lengths : List ℕ
  pub turns : ℕ
  pub journal : List Call
  -- how many more entries the journal has room for
  pub spare : ℕ

-- the machine of the steps that stand
abbrev pub plain_at : Line → Plain
plain_at r = fold (of_sizes r.sizes) (take r.cursor r.steps)

-- the line and the journal are the same
pub record SameLine (old new : Line) : Type 0 where
  pub sizes : new.sizes ≡ old.sizes
  pub steps : new.steps ≡ old.steps
  pub cursor : new.cursor ≡ old.cursor
  pub last : new.last ≡ old.last
  pub journal : new.journal ≡ old.journal

-- an accepted step cuts the line at the cursor and is its last, under the next serial; and it is the journal's next entry
pub record AddsStep (old : Line) (s : Step) (new : Line) : Type 0 where
  pub sizes : new.sizes ≡ old.sizes
  pub steps : new.steps ≡ take old.cursor old.steps ++ record { serial = old.last + 1; step = s } ∷ []
  pub cursor : new.cursor ≡ old.cursor + 1
  pub last : new.last ≡ old.last + 1
  pub journal : new.journal ≡ old.journal ++ Do s ∷ []

-- what the line is after the plain step's answer
abbrev pub LineAfter : Line → Step → Answer → Line → Type 0
LineAfter old s (Accepted reply) new = AddsStep old s new
LineAfter old s (Refused code) new = SameLine old new
LineAfter old s (NotYet cause) new = SameLine old new

-- the lists of the steps that stand stay, and an accepted step adds one with so many exchanges as it may have
abbrev pub LengthsAfter : Line → Step → Answer → Line → Type 0
LengthsAfter old s (Accepted reply) new = (count : ℕ) × (new.lengths ≡ take old.cursor old.lengths ++ count ∷ []) × IsCount (plain_at old) s count
LengthsAfter old s (Refused code) new = new.lengths ≡ old.lengths
LengthsAfter old s (NotYet cause) new = new.lengths ≡ old.lengths

-- the answer is the plain step's, and so is the line; or memory was wanting where the plain step accepts or
-- finds a time too great, and the line is the same
abbrev pub MayStep : Line → Bool → Step → Answer → Line → Type 0
MayStep old room s answer new =
    ((answer ≡ (step (of_sizes old.sizes) (plain_at old) (old.last + 1) room s).1) × LineAfter old s answer new)
    ⊎ (MayGiveWay (step (of_sizes old.sizes) (plain_at old) (old.last + 1) room s).1 × (answer ≡ Refused OutOfMemory) × SameLine old new)
