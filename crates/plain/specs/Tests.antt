-- A step is answered by the first of its tests that holds, and then nothing changes. Behind them come a full history, and then a time that would be
-- too great (our profile).
use Rattle.std.specs.Prelude.{Bool, List, Option, None, Some, if◌then◌else◌}
use Rattle.plain.specs.Lists.{first_of}
use Rattle.plain.specs.Machine.{Plain}
use Rattle.plain.specs.declared.answer.Code.TheVariants.{VtimeFull, HistoryFull}
use Rattle.plain.specs.declared.answer.Reply.{Reply}
use Rattle.plain.specs.declared.answer.Answer.{Answer}
use Rattle.plain.specs.declared.answer.Answer.TheVariants.{Accepted, Refused}

-- what a step gives: the machine after it, and the answer (our profile)
abbrev pub StepResult : Type 0
StepResult = Plain × Answer

-- the step has the answer of the first test that holds, and else does this (our profile)
abbrev pub unless : List (Bool × Answer) → Plain → StepResult → StepResult
unless tests m outcome = elim (first_of tests) [ None ↦ outcome | Some answer ↦ (m, answer) ]

-- with room in the history the step is accepted, and else it changes nothing (our profile)
abbrev pub accepted : Bool → Plain → Plain → Reply → StepResult
accepted room m next reply = if room then (next, Accepted reply) else (m, Refused HistoryFull)

-- the same of a step that may give no machine, which is refused as a time too great; a full history is the answer before that (our profile)
abbrev pub accepted_if : Bool → Plain → Option (Plain × Reply) → StepResult
accepted_if room m None = (m, Refused (if room then VtimeFull else HistoryFull))
accepted_if room m (Some next) = accepted room m next.0 next.1
