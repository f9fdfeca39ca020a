-- How many exchanges stand on the tape.
use Rattle.std.proofs.Common.{◌≡◌, ℕ, ◌+◌, ◌≤◌, Bool, true, false, cond, ◌&&◌, List, [], ◌∷◌, ◌++◌, length, refl, sym, ap, ◌∙◌, subst, arith}
use Rattle.std.proofs.lemmas.List.{length-append}
use Rattle.dispatch_core.proofs.Words.{Effect, Tables, rest_of_effect}
use Rattle.sector_core.specs.declared.bio.Effect.TheVariants.{Reads, Writes, Clears, Fails}
use Rattle.change_record.specs.declared.change.Change.{Change}
use Rattle.change_record.specs.Trail.{IsTrail}
use Rattle.dispatch_core.specs.Counts.{blocks_put}

-- an exchange counts one
pub one_more : (before now : List Change) (left : Change) → now ≡ before ++ left ∷ [] → length now ≡ length before + 1
one_more before now left e = ap length e ∙ length-append before (left ∷ [])

-- the blocks of two parts
pub blocks_put-sum : (effect : Effect) (a b : ℕ) → blocks_put effect (a + b) ≡ blocks_put effect a + blocks_put effect b
blocks_put-sum (Reads bytes) a b = refl
blocks_put-sum Writes a b = refl
blocks_put-sum Clears a b = refl
blocks_put-sum (Fails kind) a b = refl

-- the rest of an effect puts as many
pub blocks_put-rest : (effect : Effect) (k n : ℕ) → blocks_put (rest_of_effect k effect) n ≡ blocks_put effect n
blocks_put-rest (Reads bytes) k n = refl
blocks_put-rest Writes k n = refl
blocks_put-rest Clears k n = refl
blocks_put-rest (Fails kind) k n = refl

-- before its first exchange a step leads back to where it is
pub not_begun : (changes : List Change) (t : Tables) → changes ≡ [] → IsTrail changes t t
not_begun changes t none =
    let P : List Change → Type 0 = λ l. IsTrail l t t in
    let begun : IsTrail [] t t = record { back = refl; fits = tt; puts = tt } in
    subst P (sym none) begun

-- of two tests that must pass both, the first alone allows no less
pub allowed : (passes a b : Bool) (count : ℕ) → passes ≡ (a && b) → cond passes count 0 ≤ cond a count 0
allowed true true b count e = omega arith
allowed true false b count e = absurd cc
allowed false a b count e = omega arith
