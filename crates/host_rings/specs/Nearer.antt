-- Which of two is issued first.
use Rattle.std.specs.Prelude.{◌≡◌, ◌<◌, ◌≤◌, Option, None, Some, ◌⊎◌}
use Rattle.plain.specs.declared.answer.Work.{Work}

-- the one of lesser issue
abbrev pub IsNearer : Option Work → Work → Option Work → Type 0
IsNearer None work result = result ≡ Some work
IsNearer (Some known) work result = ((known.issue ≤ work.issue) × (result ≡ Some known)) ⊎ ((work.issue < known.issue) × (result ≡ Some work))
