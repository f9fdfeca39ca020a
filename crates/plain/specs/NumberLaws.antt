-- A number tells its code or its cause, and no other does.
use Rattle.std.specs.Prelude.{find, IfSome}
use Rattle.std.proofs.Common.{◌≡◌, ℕ, Bool, true, false, List, [], ◌∷◌, Option, Some, None, cond, eqb, refl}
use Rattle.std.proofs.lemmas.Bool.{eqb-true}
use Rattle.plain.specs.Numbers.{code_number, code_of_number, all_codes, cause_number, cause_of_number, all_causes}
use Rattle.plain.specs.declared.answer.Code.{Code}
use Rattle.plain.specs.declared.answer.Code.TheVariants.{BadSeat}
use Rattle.plain.specs.declared.answer.Cause.{Cause}
use Rattle.plain.specs.declared.answer.Cause.TheVariants.{Held}

-- what is found has passed, be it the first element or one of the rest (our profile)
passed : {T : Type 0} (p : T → Bool) (b : Bool) (x y : T) (rest : Option T) → p x ≡ b → (rest ≡ Some y → p y ≡ true) → cond b (Some x) rest ≡ Some y → p y ≡ true
passed p true x y rest is later e = let same : x ≡ y = cc in cc
passed p false x y rest is later e = later e

-- what is found has passed (our profile)
find-passes : {T : Type 0} (p : T → Bool) (xs : List T) (y : T) → find p xs ≡ Some y → p y ≡ true
find-passes p [] y e = absurd cc
find-passes p (x ∷ xs) y e = passed p (p x) x y (find p xs) refl (find-passes p xs y) e

-- what holds of every value that there may be holds of the one that there is, if there is one (our profile)
pub if_some : {T : Type 0} (o : Option T) (P : T → Type 0) → ((v : T) → o ≡ Some v → P v) → IfSome o P
if_some None P holds = tt
if_some (Some v) P holds = holds v refl

-- the code that a number tells has that number (our profile)
pub number-code_of_number : (number : ℕ) (code : Code) → code_of_number number ≡ Some code → code_number code ≡ number
unfolding code_of_number
number-code_of_number number code e = eqb-true (code_number code) number (find-passes (λ c. eqb (code_number c) number) all_codes code e)

-- the number of a code tells it (our profile)
pub code_of_number-number : (code : Code) → code_of_number (code_number code) ≡ Some code
unfolding code_of_number
code_of_number-number BadSeat = refl
code_of_number-number _ = refl

-- the cause that a number tells has that number (our profile)
pub number-cause_of_number : (number : ℕ) (cause : Cause) → cause_of_number number ≡ Some cause → cause_number cause ≡ number
unfolding cause_of_number
number-cause_of_number number cause e = eqb-true (cause_number cause) number (find-passes (λ c. eqb (cause_number c) number) all_causes cause e)

-- the number of a cause tells it (our profile)
pub cause_of_number-number : (cause : Cause) → cause_of_number (cause_number cause) ≡ Some cause
unfolding cause_of_number
cause_of_number-number Held = refl
cause_of_number-number _ = refl
