-- What the contracts of `Keeper::call`, `Keeper::run` and the journal cite: read this first.
use Rattle.std.specs.Prelude.{◌≡◌, ℕ, List, [], ◌∷◌, ◌⊎◌}
use Rattle.plain.specs.declared.call.Call.{Call}
use Rattle.plain.specs.declared.answer.Answer.{Answer}
use Rattle.plain.specs.declared.answer.Answer.TheVariants.{Refused}
use Rattle.plain.specs.declared.answer.Code.TheVariants.{OutOfMemory}
use Rattle.plain.specs.Opening.{Limits}
use Rattle.plain.specs.Step.{MayGiveWay}
use Rattle.plain.specs.Keeper.{State, opened, called, MayWant}

-- what a call may be answered: the plain answer; or, but for Undo, want of memory with no change, if the plain one accepts or finds a time too great
-- (our profile)
abbrev pub MayCall : State → Call → Answer → State → Type 0
MayCall k call answer next =
    ((next, answer) ≡ called k call) ⊎ (MayGiveWay (called k call).1 × MayWant call × (answer ≡ Refused OutOfMemory) × (next ≡ k))

-- calls one after the other, each with one answer that it may have (our profile)
abbrev pub MayRun : State → List Call → List Answer → State → Type 0
MayRun k [] [] next = next ≡ k
MayRun k [] (answer ∷ answers) next = ⊥
MayRun k (call ∷ calls) [] next = ⊥
MayRun k (call ∷ calls) (answer ∷ answers) next = (mid : State) × MayCall k call answer mid × MayRun mid calls answers next

-- a keeper after some more calls, one after the other (our profile)
abbrev pub replayed : State → List Call → State
replayed k [] = k
replayed k (call ∷ calls) = replayed (called k call).0 calls

-- the keeper of a journal: its calls, one after the other, from a new keeper (our profile)
abbrev pub replay : Limits → ℕ → List Call → State
replay l most journal = replayed (opened l most) journal
