-- Requeue: the device gives a request back, which goes to the end of the dispatch list (blk-mq; the end is our profile).
use Rattle.std.specs.Prelude.{ℕ, ◌+◌, ◌==◌, nat_le, Bool, not, [], ◌∷◌, ◌++◌, Option, None, Some}
use Rattle.plain.specs.Machine.{WholeRequest, Flight, Plain, put}
use Rattle.plain.specs.Opening.{Limits}
use Rattle.plain.specs.declared.answer.Code.TheVariants.{BadTag, NotInFlight}
use Rattle.plain.specs.declared.answer.Reply.TheVariants.{Requeued}
use Rattle.plain.specs.declared.answer.Answer.TheVariants.{Refused}
use Rattle.plain.specs.Tests.{StepResult, unless, accepted}

-- the request goes to the end of the dispatch list, and its tag is free (blk-mq; the end is our profile)
abbrev pub requeued : Plain → Bool → ℕ → WholeRequest → StepResult
requeued m room tag request = accepted room m
    (record m {
      flight = put m.flight tag None;
      requeued = m.requeued ++ request ∷ [];
    }) Requeued

-- what a tag bears is given back if it has this issue (blk-mq; the issue is our profile)
abbrev pub requeue_of : Plain → Bool → ℕ → ℕ → Option Flight → StepResult
requeue_of m room tag issue None = (m, Refused NotInFlight)
requeue_of m room tag issue (Some flight) = unless ((not (flight.issue == issue), Refused NotInFlight) ∷ []) m (requeued m room tag flight.request)

-- a Requeue names a tag that there is, and what that bears is given back (blk-mq; the refusal is our profile)
abbrev pub requeue : Limits → Plain → Bool → ℕ → ℕ → StepResult
requeue l m room tag issue = unless ((nat_le l.tags tag, Refused BadTag) ∷ []) m (requeue_of m room tag issue (m.flight tag))
