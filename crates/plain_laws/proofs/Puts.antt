-- One value put into a function, and what a step keeps whether or not it is refused.
use Rattle.std.proofs.Common.{true, false, Bool, ◌≡◌, ◌≢◌, ◌⊎◌, inl, inr, ℕ, ◌==◌, Option, Some, None, cond, refl, sym, ◌∙◌, eq-eqb, ne_eqb}
use Rattle.std.proofs.lemmas.Bool.{cases_eq, cond-true, cond-false}
use Rattle.plain.specs.Machine.{Plain, put}
use Rattle.plain.specs.declared.answer.Answer.{Answer}
use Rattle.plain.specs.declared.answer.Reply.{Reply}
use Rattle.plain.specs.Tests.{StepResult, accepted, accepted_if}
use Rattle.std.specs.Option.{option_map, option_and_then}

pub put_here : {A : Type 0} (f : ℕ → A) (k : ℕ) (v : A) (n : ℕ) → n ≡ k → put f k v n ≡ v
put_here f k v n e = cond-true (n == k) v (f n) (eq-eqb n k e)

pub put_other : {A : Type 0} (f : ℕ → A) (k : ℕ) (v : A) (n : ℕ) → n ≢ k → put f k v n ≡ f n
put_other f k v n ne = cond-false (n == k) v (f n) (ne_eqb n k ne)

-- what stands in a function with one value put in it is that value, or stood there before
pub put_cases : {A : Type 0} (f : ℕ → A) (k : ℕ) (v : A) (n : ℕ) (w : A) → put f k v n ≡ w → ((n ≡ k) × (v ≡ w)) ⊎ ((n ≢ k) × (f n ≡ w))
put_cases f k v n w e = elim (cases_eq n k) [
  | inl same ↦ inl (same, sym (put_here f k v n same) ∙ e)
  | inr other ↦ inr (other, sym (put_other f k v n other) ∙ e)
]

-- a step that may be refused keeps what it keeps where no test holds
pub unless-keeps : (P : Plain → Type 0) (first : Option Answer) (m : Plain) (outcome : StepResult)
    → P m → (first ≡ None → P outcome.0) → P (elim first as (λ _. StepResult) [ None ↦ outcome | Some answer ↦ (m, answer) ]).0
unless-keeps P None m outcome same done = done refl
unless-keeps P (Some answer) m outcome same done = same

-- a step that may lack room keeps what it keeps with room
pub accepted-keeps : (P : Plain → Type 0) (room : Bool) (m next : Plain) (reply : Reply) → P m → P next → P (accepted room m next reply).0
accepted-keeps P true m next reply same done = done
accepted-keeps P false m next reply same done = same

pub some_is : {A : Type 0} (a b : A) → Some a ≡ Some b → a ≡ b
some_is a b e = cc

-- where no test holds the first does not, and none of the others
pub first_fails : (b : Bool) (answer : Answer) (others : Option Answer) → cond b (Some answer) others ≡ None → (b ≡ false) × (others ≡ None)
first_fails true answer others e = cc
first_fails false answer others e = (refl, e)

-- a step with a rule that may be refused keeps what it keeps where the rule is not
pub accepted_if-keeps : (P : Plain → Type 0) (room : Bool) (m : Plain) (o : Option (Plain × Reply))
    → P m → ((next : Plain × Reply) → o ≡ Some next → P next.0) → P (accepted_if room m o).0
accepted_if-keeps P room m None same done = same
accepted_if-keeps P room m (Some next) same done = accepted-keeps P room m next.0 next.1 same (done next refl)

-- what a rule after another gives, it gives on what the first gave
pub and_then_is : {A B : Type 0} (f : A → Option B) (o : Option A) (b : B) → option_and_then f o ≡ Some b → (a : A) × (o ≡ Some a) × (f a ≡ Some b)
and_then_is f None b e = cc
and_then_is f (Some a) b e = (a, refl, e)

-- what a change of an option's value gives, it makes of that value
pub map_is : {A B : Type 0} (f : A → B) (o : Option A) (b : B) → option_map f o ≡ Some b → (a : A) × (o ≡ Some a) × (f a ≡ b)
map_is f None b e = cc
map_is f (Some a) b e = (a, refl, some_is (f a) b e)
