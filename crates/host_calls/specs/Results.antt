-- Which bios have a result, and who is told of it.
use Rattle.std.specs.Prelude.{◌≡◌, ℕ, true, List, ◌∷◌, All, Some, None, is_some}
use Rattle.sector_core.specs.declared.bio.BioFields.{BioFields as Bio}
use Rattle.sector_core.specs.declared.bio.BioResult.{BioResult}
use Rattle.plain.specs.Machine.{WholeRequest, Plain}
use Rattle.plain.specs.declared.answer.Reply.TheVariants.{Completed}
use Rattle.plain.specs.declared.answer.Answer.TheVariants.{Accepted}
use Rattle.plain.specs.declared.step.Step.TheVariants.{Reap}
use Rattle.plain.specs.declared.call.Call.{Call}
use Rattle.plain.specs.declared.call.Call.TheVariants.{Do}
use Rattle.plain.specs.Opening.{Limits}
use Rattle.plain.specs.Keeper.{State, machine_of}
use Rattle.plain.specs.Headline.{replay, MayCall}
use Rattle.plain_laws.specs.Requests.{EachRequest}

-- a bio has a result
abbrev pub HasResult : Bio → Type 0
HasResult bio = is_some bio.result ≡ true

-- no bio of a request has one
abbrev pub Waits : WholeRequest → Type 0
Waits request = All (λ bio. bio.result ≡ None) request.bios

-- each bio in an outbox has one, and no bio that is queued, in the dispatch list or in flight (our profile)
abbrev pub ResultsAreOut : Plain → Type 0
ResultsAreOut m = EachRequest Waits m × ((seat : ℕ) → All HasResult (m.outbox seat))

-- so it is on the machine of every keeper that a journal makes
abbrev pub OutboxesHaveResults : Limits → ℕ → List Call → Type 0
OutboxesHaveResults l most journal = ResultsAreOut (machine_of (replay l most journal))

-- the first bio of an outbox has this serial and this result
abbrev pub IsFirst : ℕ → BioResult → List Bio → Type 0
IsFirst serial result outbox = (bio : Bio) × (rest : List Bio) × (outbox ≡ bio ∷ rest) × (bio.serial ≡ serial) × (bio.result ≡ Some result)

-- whatever a client reaps from the keeper of a journal, it is told the serial and the result of the first bio in its outbox (our profile)
abbrev pub ReapsTellResults : Limits → ℕ → List Call → Type 0
ReapsTellResults l most journal =
    (seat session serial : ℕ) (result : BioResult) (next : State)
    → MayCall (replay l most journal) (Do (Reap seat session)) (Accepted (Completed serial result)) next
    → IsFirst serial result ((machine_of (replay l most journal)).outbox seat)
