-- Thaw: submits wait no longer (blk-mq: a queue is frozen until it is thawed).
use Rattle.std.specs.Prelude.{Bool, false, not, [], ◌∷◌}
use Rattle.plain.specs.Machine.{Plain}
use Rattle.plain.specs.declared.answer.Code.TheVariants.{NotFrozen}
use Rattle.plain.specs.declared.answer.Reply.TheVariants.{Done}
use Rattle.plain.specs.declared.answer.Answer.TheVariants.{Refused}
use Rattle.plain.specs.Tests.{StepResult, unless, accepted}

-- a frozen host is frozen no longer (blk-mq; the refusal is our profile)
abbrev pub thaw : Plain → Bool → StepResult
thaw m room = unless ((not m.frozen, Refused NotFrozen) ∷ []) m (accepted room m (record m { frozen = false }) Done)
