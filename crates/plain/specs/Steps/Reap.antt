-- Reap: the first completed bio of the session is handed out (our profile).
use Rattle.std.specs.Prelude.{ℕ, ◌+◌, ◌-◌, ◌==◌, Bool, List, [], ◌∷◌, ◌++◌, unwrap_or}
use Rattle.std.specs.Option.{option_map}
use Rattle.sector_core.specs.declared.bio.BioFields.{BioFields as Bio}
use Rattle.sector_core.specs.declared.bio.BioResult.TheVariants.{Written}
use Rattle.plain.specs.Machine.{Plain, put}
use Rattle.plain.specs.declared.answer.Code.TheVariants.{NothingOwed}
use Rattle.plain.specs.declared.answer.Cause.TheVariants.{NotCompleted}
use Rattle.plain.specs.declared.answer.Reply.TheVariants.{Completed}
use Rattle.plain.specs.declared.answer.Answer.TheVariants.{Refused, NotYet}
use Rattle.plain.specs.Tests.{StepResult, unless, accepted}
use Rattle.plain.specs.Sessions.{seat_tests, unreaped, with_unreaped}

-- the first bio leaves the outbox with its result, and its session has one fewer to reap; with no bio there the call waits (our profile)
abbrev pub reaped : Bool → Plain → ℕ → List Bio → StepResult
reaped room m seat [] = (m, NotYet NotCompleted)
reaped room m seat (bio ∷ bios) = accepted room m
    (record m {
      seat = put m.seat seat (option_map (with_unreaped (unreaped m seat - 1)) (m.seat seat));
      outbox = put m.outbox seat bios;
    }) (Completed bio.serial (unwrap_or bio.result Written))

-- a session may reap if it has submitted a bio that is not yet reaped (our profile)
abbrev pub reap : Plain → Bool → ℕ → ℕ → StepResult
reap m room seat session = unless (seat_tests m seat session ++ (
    (unreaped m seat == 0, Refused NothingOwed)
    ∷ [])) m
    (reaped room m seat (m.outbox seat))
