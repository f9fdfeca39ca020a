-- The first line of a record: what the host was made for.
use Rattle.std.specs.Prelude.{◌≡◌, ℕ, List, [], ◌∷◌, ◌++◌, codes}
use Rattle.std.specs.Fmt.{decimal}
use Rattle.sector_core.specs.declared.config.Config.{Config}
use Rattle.sector_core.specs.declared.config.Scheduler.{Scheduler}
use Rattle.sector_core.specs.declared.config.Scheduler.TheVariants.{Plain, Bfq}

-- a scheduler's name (blk-mq)
abbrev pub scheduler_name : Scheduler → List ℕ
scheduler_name Plain = codes "none"
scheduler_name Bfq = codes "bfq"

-- the format and its version, the scheduler, how many requests and tags there are, and the budgets (our format)
abbrev pub first_half : Config → List ℕ
first_half c =
    codes "bfqhost record 1 " ++ (scheduler_name c.scheduler ++ 32 ∷ (decimal c.nr_requests ++ 32 ∷ (decimal c.tags ++ 32 ∷ (decimal c.first_budget ++ 32 ∷ decimal c.max_budget))))

-- the timeout, the most calls of the history, the first virtual time, and how many sectors the image has (our format)
abbrev pub second_half : Config → ℕ → List ℕ
second_half c sectors = 32 ∷ (decimal c.timeout ++ 32 ∷ (decimal c.history_max ++ 32 ∷ (decimal c.first_vtime ++ 32 ∷ (decimal sectors ++ 10 ∷ []))))

-- the line, with its end (our format)
abbrev pub header_text : Config → ℕ → List ℕ
header_text c sectors = first_half c ++ second_half c sectors

-- two configurations have the same numbers, and the same scheduler
pub record IsSameConfig (c d : Config) : Type 0 where
  pub scheduler : c.scheduler ≡ d.scheduler
  pub nr_requests : c.nr_requests ≡ d.nr_requests
  pub tags : c.tags ≡ d.tags
  pub first_budget : c.first_budget ≡ d.first_budget
  pub max_budget : c.max_budget ≡ d.max_budget
  pub timeout : c.timeout ≡ d.timeout
  pub history_max : c.history_max ≡ d.history_max
  pub first_vtime : c.first_vtime ≡ d.first_vtime
