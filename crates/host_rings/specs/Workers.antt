-- How many workers a host has.
use Rattle.std.specs.Prelude.{ℕ, ◌==◌, nat_lt, ◌||◌, Bool, true, false}
use Rattle.host_rings.specs.declared.opening.HostFault.{HostFault}
use Rattle.host_rings.specs.declared.opening.HostFault.TheVariants.{BadWorkers, OutOfMemory}

-- a host has 1 to 4 workers (our profile)
abbrev pub are_bad_workers : ℕ → Bool
are_bad_workers workers = (workers == 0) || nat_lt 4 workers

abbrev pub is_bad_workers : HostFault → Bool
is_bad_workers BadWorkers = true
is_bad_workers OutOfMemory = false
