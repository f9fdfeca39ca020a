-- Freeze: submits wait from now on (blk-mq: a frozen queue takes no new request).
use Rattle.std.specs.Prelude.{Bool, true, [], ◌∷◌}
use Rattle.plain.specs.Machine.{Plain}
use Rattle.plain.specs.declared.answer.Code.TheVariants.{AlreadyFrozen}
use Rattle.plain.specs.declared.answer.Reply.TheVariants.{Done}
use Rattle.plain.specs.declared.answer.Answer.TheVariants.{Refused}
use Rattle.plain.specs.Tests.{StepResult, unless, accepted}

-- the host is frozen from now on, unless it is so already (blk-mq; the refusal is our profile)
abbrev pub freeze : Plain → Bool → StepResult
freeze m room = unless ((m.frozen, Refused AlreadyFrozen) ∷ []) m (accepted room m (record m { frozen = true }) Done)
