-- The exit status.
use Rattle.std.specs.Prelude.{◌≡◌, ℕ, ◌⊎◌}
use Rattle.operator_asking.specs.Ending.{status_of}
use Rattle.operator_asking.specs.declared.ending.CallEnd.{CallEnd}

-- a status: that of bad words, or of the end of a call's run (our profile)
abbrev pub IsStatus : ℕ → Type 0
IsStatus status = (status ≡ 2) ⊎ ((end : CallEnd) × (status ≡ status_of end))
