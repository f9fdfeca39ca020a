-- Tick: the queue in service is one tick older (our profile: time is calls).
use Rattle.std.specs.Prelude.{◌+◌, Bool, Option, None, Some}
use Rattle.plain.specs.Machine.{Plain}
use Rattle.plain.specs.declared.seat.InService.{InService}
use Rattle.plain.specs.declared.answer.Code.TheVariants.{NoneInService}
use Rattle.plain.specs.declared.answer.Reply.TheVariants.{Done}
use Rattle.plain.specs.declared.answer.Answer.TheVariants.{Refused}
use Rattle.plain.specs.Tests.{StepResult, accepted}

-- the queue in service has been there for one tick more (our profile)
abbrev pub older : InService → InService
older current = record current { age = current.age + 1 }

-- a tick passes if a queue is in service (our profile)
abbrev pub ticked : Plain → Bool → Option InService → StepResult
ticked m room None = (m, Refused NoneInService)
ticked m room (Some current) = accepted room m (record m { bfq = record m.bfq { in_service = Some (older current) } }) Done

-- what a Tick does on a machine, by its queue in service (our profile)
abbrev pub tick : Plain → Bool → StepResult
tick m room = ticked m room m.bfq.in_service
