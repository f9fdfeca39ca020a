-- A part of a step: what it does to the tables beside BFQ's, and to the tape.
use Rattle.std.specs.Prelude.{◌≡◌, ℕ, ◌+◌, ◌≤◌, length}
use Rattle.change_record.specs.Tables.{Tables}
use Rattle.change_record.specs.Tape.{Record}
use Rattle.change_record.specs.Trail.{KeepsTrail}
use Rattle.bfq_select.specs.Service.{OnlyServes}

-- at most so many exchanges, on BFQ's places alone: the tables and the tape before them, and those after them (our profile)
pub record Exchanges (most : ℕ) (before : Tables) (old : Record) (now : Tables) (new : Record) : Type 0 where
  pub others : OnlyServes before now
  pub trail : KeepsTrail old.current before new.current now
  pub steps : new.steps ≡ old.steps
  pub room : old.room ≤ new.room + most
  pub spare : new.spare ≡ old.spare
  pub some : length old.current ≤ length new.current
  pub few : length new.current ≤ length old.current + most
