-- A script that runs in a page.
use Rattle.std.specs.Prelude.{◌≡◌, ℕ, ◌*◌, ◌<◌, Bool, true, false, List, [], ◌++◌, Some, IsSome, length, take, drop, replicate, ◌⊎◌}
use Rattle.sector_core.specs.Config.{fault_of, IsDraftOf}
use Rattle.sector_core.specs.declared.config.Config.{Config}
use Rattle.sector_core.specs.declared.config.ConfigDraft.{ConfigDraft}
use Rattle.sector_core.specs.declared.config.Scheduler.{Scheduler}
use Rattle.sector_core.specs.declared.config.Scheduler.TheVariants.{Plain, Bfq}
use Rattle.plain.specs.Step.{of_sizes}
use Rattle.dispatch_core.specs.Running.{sizes_of}
use Rattle.base_image.specs.Kinds.{fresh}
use Rattle.script_line.specs.Script.{Known}
use Rattle.script_line.specs.declared.ending.ScriptEnd.{ScriptEnd}
use Rattle.script_line.specs.declared.ending.ScriptEnd.TheVariants.{Done, BadLine, ReadFault, WriteFault, OutOfMemory}
use Rattle.script_host.specs.Run.{IsRun}
use Rattle.bfq_page.specs.declared.Dials.{Dials}

-- the scheduler of a flag (our profile)
abbrev pub scheduler_of : Bool → Scheduler
scheduler_of true = Bfq
scheduler_of false = Plain

-- the draft of some dials (our profile)
abbrev pub draft_of : Dials → ConfigDraft
draft_of dials = record {
  scheduler = scheduler_of dials.is_bfq;
  nr_requests = dials.nr_requests;
  tags = dials.tags;
  first_budget = dials.first_budget;
  max_budget = dials.max_budget;
  timeout = dials.timeout;
  history_max = dials.history_max;
  first_vtime = dials.first_vtime;
}

-- the status of each end, as that of the command (our profile)
abbrev pub status_of : ScriptEnd → ℕ
status_of Done = 0
status_of (BadLine n) = 2
status_of ReadFault = 3
status_of WriteFault = 4
status_of OutOfMemory = 5

-- a number is out of its limits (our profile)
abbrev pub IsRefused : ConfigDraft → ℕ → Type 0
IsRefused draft sectors = IsSome (fault_of draft) ⊎ (65536 < sectors)

-- the text and the status are those of a run of the script on a new host, over a device of so many sectors of zeros (our profile)
abbrev pub IsRunOver : Config → ℕ → List ℕ → List ℕ → ℕ → Type 0
IsRunOver config sectors script text status =
    (left : Known) × (end : ScriptEnd)
    × IsRun (of_sizes (sizes_of config sectors)) config.history_max (fresh sectors (Some (replicate (512 * sectors) 0)) false)
    (Some script) left (Some []) (Some text) end
    × (status ≡ status_of end)

-- the dials are refused and nothing is written, or the script ran (our profile)
abbrev pub Tells : ConfigDraft → ℕ → List ℕ → List ℕ → ℕ → Type 0
Tells draft sectors script text status =
    (IsRefused draft sectors × (status ≡ 6) × (text ≡ []))
    ⊎ ((config : Config) × IsDraftOf config draft × IsRunOver config sectors script text status)

-- a room begins with as much of the text as it holds, and is as it was behind that (our profile)
abbrev pub IsFront : List ℕ → List ℕ → List ℕ → Type 0
IsFront text before after = after ≡ take (length before) text ++ drop (length text) before
