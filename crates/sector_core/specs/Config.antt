-- The limits of a configuration (our profile).
use Rattle.std.specs.Prelude.{◌≡◌, ℕ, ◌^◌, Bool, ◌||◌, nat_lt, [], ◌∷◌, Option, find}
use Rattle.std.specs.Option.{option_map}
use Rattle.sector_core.specs.declared.config.Config.{Config}
use Rattle.sector_core.specs.declared.config.ConfigDraft.{ConfigDraft}
use Rattle.sector_core.specs.declared.config.ConfigFault.{ConfigFault}
use Rattle.sector_core.specs.declared.config.Scheduler.TheVariants.{Bfq}
use Rattle.sector_core.specs.declared.config.ConfigFault.TheVariants.{NrRequests, Tags, MaxBudget, FirstBudget, Timeout, HistoryMax, FirstVtime}

-- the numbers of a host that says nothing of them
abbrev pub default_draft : ConfigDraft
default_draft = record {
  scheduler = Bfq;
  nr_requests = 64;
  tags = 4;
  first_budget = 1024;
  max_budget = 4096;
  timeout = 8;
  history_max = 65536;
  first_vtime = 0;
}

-- a number that is not from `least` to `most`
abbrev pub is_outside : ℕ → ℕ → ℕ → Bool
is_outside least most n = nat_lt n least || nat_lt most n

-- the first field out of its limits
abbrev pub fault_of : ConfigDraft → Option ConfigFault
fault_of draft = option_map (λ (test : Bool × ConfigFault). test.1) (find (λ (test : Bool × ConfigFault). test.0) (
    (is_outside 1 256 draft.nr_requests, NrRequests)
    ∷ (is_outside 1 64 draft.tags, Tags)
    ∷ (is_outside 256 65536 draft.max_budget, MaxBudget)
    ∷ (is_outside 256 draft.max_budget draft.first_budget, FirstBudget)
    ∷ (is_outside 1 1000 draft.timeout, Timeout)
    ∷ (is_outside 1 16777216 draft.history_max, HistoryMax)
    ∷ (is_outside 0 (2 ^ 62) draft.first_vtime, FirstVtime)
    ∷ []))

-- the configuration has the draft's numbers
pub record IsDraftOf (config : Config) (draft : ConfigDraft) : Type 0 where
  pub scheduler : config.scheduler ≡ draft.scheduler
  pub nr_requests : config.nr_requests ≡ draft.nr_requests
  pub tags : config.tags ≡ draft.tags
  pub first_budget : config.first_budget ≡ draft.first_budget
  pub max_budget : config.max_budget ≡ draft.max_budget
  pub timeout : config.timeout ≡ draft.timeout
  pub history_max : config.history_max ≡ draft.history_max
  pub first_vtime : config.first_vtime ≡ draft.first_vtime
