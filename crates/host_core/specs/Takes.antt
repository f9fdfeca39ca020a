-- What a device takes: of the requests in flight that no other device took last, the one of least issue (our profile). And the rule of Take.
use Rattle.std.specs.Prelude.{◌≡◌, ◌≢◌, ℕ, ◌≤◌, true, false, List, Option, None, Some, slice_get}
use Rattle.std.specs.Option.{option_map}
use Rattle.plain.specs.Machine.{Plain}
use Rattle.plain.specs.declared.answer.Answer.{Answer}
use Rattle.plain.specs.declared.answer.Answer.TheVariants.{Accepted, Refused, NotYet}
use Rattle.plain.specs.declared.answer.Cause.TheVariants.{Held, NothingToTake}
use Rattle.plain.specs.declared.answer.Code.TheVariants.{BadWorker}
use Rattle.plain.specs.declared.answer.Reply.TheVariants.{Taken}
use Rattle.plain.specs.declared.answer.Work.{Work}
use Rattle.plain.specs.Keeper.{State, machine_of}
use Rattle.plain.specs.Device.{work_of}

-- another device took this issue last
abbrev pub IsOthers : List (Option ℕ) → ℕ → ℕ → Type 0
IsOthers lasts own issue = (device : ℕ) × (device ≢ own) × (slice_get lasts device ≡ Some (Some issue))

-- what is in flight under a tag, and no other device's
pub record IsFree (m : Plain) (lasts : List (Option ℕ)) (own tag : ℕ) (work : Work) : Type 0 where
  pub flies : option_map (work_of tag) (m.flight tag) ≡ Some work
  pub free : IsOthers lasts own work.issue → ⊥

-- of what is free under the tags that satisfy this, the one of least issue
pub record IsLeast (Among : ℕ → Type 0) (m : Plain) (lasts : List (Option ℕ)) (own : ℕ) (work : Work) : Type 0 where
  pub tag : ℕ
  pub among : Among tag
  pub free : IsFree m lasts own tag work
  pub least : (t : ℕ) (other : Work) → Among t → IsFree m lasts own t other → work.issue ≤ other.issue

-- that one, or nothing where none is free
abbrev pub IsBestOf : (ℕ → Type 0) → Plain → List (Option ℕ) → ℕ → Option Work → Type 0
IsBestOf Among m lasts own None = (t : ℕ) (other : Work) → Among t → IsFree m lasts own t other → ⊥
IsBestOf Among m lasts own (Some work) = IsLeast Among m lasts own work

-- of all tags
abbrev pub IsBest : Plain → List (Option ℕ) → ℕ → Option Work → Type 0
IsBest m lasts own best = IsBestOf (λ tag. Unit {0}) m lasts own best

-- work, or that there is none yet
abbrev pub of_best : Option Work → Answer
of_best None = NotYet NothingToTake
of_best (Some work) = Accepted (Taken work)

-- a Take at a device's seat, on a keeper, where these are the issues that the devices took last: not while the host is held, not under
-- another's number, and then the device's next work (our profile)
pub record TakeRule (k : State) (own worker : ℕ) (lasts : List (Option ℕ)) (answer : Answer) : Type 0 where
  pub held : k.held ≡ true → answer ≡ NotYet Held
  pub stranger : k.held ≡ false → worker ≢ own → answer ≡ Refused BadWorker
  pub takes : k.held ≡ false → worker ≡ own → (best : Option Work) × IsBest (machine_of k) lasts own best × (answer ≡ of_best best)
