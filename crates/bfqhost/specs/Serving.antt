-- The exit status of a server.
use Rattle.std.specs.Prelude.{◌≡◌, ℕ, ◌<◌, nat_le, nat_lt, Bool, false, ◌&&◌, List, length, IsSome, All, ◌⊎◌}
use Rattle.std.specs.List.{list_all}
use Rattle.sector_core.specs.declared.range.Range.{Range}
use Rattle.sector_core.specs.Config.{fault_of}
use Rattle.sector_core.specs.declared.config.ConfigDraft.{ConfigDraft}
use Rattle.bad_sectors.specs.Bad.{Marked}
use Rattle.host_paths.specs.declared.end.ServeEnd.{ServeEnd}
use Rattle.host_paths.specs.declared.end.ServeEnd.TheVariants.{Stopped, Socket, OutOfMemory}

-- the status of each end (our profile)
abbrev pub serve_status_of : ServeEnd → ℕ
serve_status_of Stopped = 0
serve_status_of OutOfMemory = 5
serve_status_of Socket = 7

-- at most 16 runs of sectors, each of a sector at least (our profile)
abbrev pub runs_fit : List Range → Bool
runs_fit runs = nat_le (length runs) 16 && list_all (λ run. nat_lt 0 run.count) runs

-- a field is out of its limits: 1 to 4 workers, 1 to 16 clients, a second of delay at most, in microseconds, and the runs of bad sectors
-- (our profile)
abbrev pub IsRefusedServe : ConfigDraft → ℕ → ℕ → ℕ → List Range → Type 0
IsRefusedServe draft clients workers delay bad =
    IsSome (fault_of draft) ⊎ (workers ≡ 0) ⊎ (4 < workers) ⊎ (clients ≡ 0) ⊎ (16 < clients) ⊎ (1000000 < delay) ⊎ (runs_fit bad ≡ false)

-- it is refused for its image, or it comes to an end, which want of memory may be (our profile)
abbrev pub IsEndStatus : ℕ → Type 0
IsEndStatus status = (status ≡ 6) ⊎ ((end : ServeEnd) × (status ≡ serve_status_of end))

-- a server is refused for a field, or its status is that of its image or of its end (our profile)
abbrev pub IsServeStatus : ConfigDraft → ℕ → ℕ → ℕ → List Range → ℕ → Type 0
IsServeStatus draft clients workers delay bad status = (IsRefusedServe draft clients workers delay bad → status ≡ 6) × IsEndStatus status

-- each image has these runs of bad sectors (our profile)
abbrev pub HaveBad : {I : Type 0} → List Range → List (Marked I) → Type 0
HaveBad bad images = All (λ image. image.bad ≡ bad) images
