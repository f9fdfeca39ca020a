-- What the functions of the steps say: the plain step's answer, and what is left behind.
use Rattle.std.specs.Prelude.{◌≡◌, true, false, ℕ, ◌+◌, ◌≤◌, Result, MatchResult, List, length}
use Rattle.sector_core.specs.declared.memory.OutOfMemory.{OutOfMemory as WantOfMemory}
use Rattle.change_record.specs.declared.change.Change.{Change}
use Rattle.change_record.specs.Tables.{Tables}
use Rattle.plain.specs.Machine.{Plain}
use Rattle.change_record.specs.Machine.{meaning}
use Rattle.plain.specs.declared.answer.Answer.{Answer}
use Rattle.plain.specs.declared.answer.Answer.TheVariants.{Accepted, Refused, NotYet}
use Rattle.plain.specs.Opening.{Limits}
use Rattle.plain.specs.Tests.{StepResult}
use Rattle.plain.specs.Step.{MayGiveWay}
use Rattle.dispatch_core.specs.WellFormed.{WellFormed}

-- the answer and the machine are those of the plain step; memory was wanting only where the plain step accepts, or finds a time
-- too great
abbrev pub Answers : (Plain → StepResult) → Tables → Result Answer WantOfMemory → Tables → Type 0
Answers plain before result now = MatchResult result (λ answer. (meaning now, answer) ≡ plain (meaning before)) (λ _. MayGiveWay (plain (meaning before)).1)

-- an accepted step leaves a machine for the next serial, at least so many changes on the tape and so many more at most, and room for its
-- end; a refused one leaves all as it was
abbrev pub Leaves : Limits → ℕ → ℕ → ℕ → Answer → Tables → List Change → Tables → List Change → ℕ → Type 0
Leaves l n least more (Accepted reply) before changes now left spare =
    WellFormed l (n + 1) now × (1 ≤ spare) × (length changes + least ≤ length left) × (length left ≤ length changes + (least + more))
Leaves l n least more (Refused code) before changes now left spare = (now ≡ before) × (left ≡ changes)
Leaves l n least more (NotYet cause) before changes now left spare = (now ≡ before) × (left ≡ changes)

-- the plain step does not accept: this is its answer, and the machine stays as it is
abbrev pub Declines : Plain → Answer → StepResult → Type 0
Declines m (Accepted reply) outcome = true ≡ false
Declines m (Refused code) outcome = (m, Refused code) ≡ outcome
Declines m (NotYet cause) outcome = (m, NotYet cause) ≡ outcome
