-- A machine as its callers see it: its sizes, its tables, and how many exchanges were made.
use Rattle.std.specs.Prelude.{◌≡◌, ℕ, List, [], ◌∷◌, ◌++◌, length}
use Rattle.change_record.specs.declared.change.Change.{Change}
use Rattle.sector_core.specs.declared.config.Config.{Config}
use Rattle.change_record.specs.declared.change.Making.{Making}
use Rattle.change_record.specs.Tables.{Tables}
use Rattle.change_record.specs.Trail.{IsTrail}
use Rattle.plain.specs.Machine.{Plain}
use Rattle.change_record.specs.Machine.{meaning}
use Rattle.plain.specs.declared.sizes.Sizes.{Sizes}
use Rattle.plain.specs.declared.answer.Answer.{Answer}
use Rattle.plain.specs.declared.answer.Answer.TheVariants.{Accepted, Refused, NotYet}
use Rattle.plain.specs.Step.{of_sizes}
use Rattle.dispatch_core.specs.WellFormed.{IsSound}

pub record Running : Type 0 where
  pub sizes : Sizes
  pub tables : Tables
  pub turns : ℕ

-- what a machine of a configuration is made for
abbrev pub sizes_of : Config → ℕ → Sizes
sizes_of config sectors = record {
  sectors = sectors;
  requests = config.nr_requests;
  tags = config.tags;
  scheduler = config.scheduler;
  first_budget = config.first_budget;
  max_budget = config.max_budget;
  timeout = config.timeout;
  first_vtime = config.first_vtime;
}

-- and its tables
abbrev pub making_of : Config → Making
making_of config = record {
  requests = config.nr_requests;
  tags = config.tags;
  scheduler = config.scheduler;
  first_budget = config.first_budget;
  max_budget = config.max_budget;
  first_vtime = config.first_vtime;
}

-- what the machine is
abbrev pub plain_of : Running → Plain
plain_of m = meaning m.tables

-- steps up to this serial may have made it
abbrev pub IsFor : ℕ → Running → Type 0
IsFor n m = IsSound (of_sizes m.sizes) n m.tables

-- an accepted step adds its changes to the tape, so many as its rules make, which lead back to the tables from before; a refused one
-- adds none and changes nothing
abbrev pub Records : Answer → (ℕ → Type 0) → List (List Change) → Tables → List (List Change) → Tables → Type 0
Records (Accepted reply) IsOne steps before now_steps now =
    (changes : List Change) × (now_steps ≡ steps ++ changes ∷ []) × IsOne (length changes) × IsTrail changes now before
Records (Refused code) IsOne steps before now_steps now = (now_steps ≡ steps) × (now ≡ before)
Records (NotYet cause) IsOne steps before now_steps now = (now_steps ≡ steps) × (now ≡ before)
