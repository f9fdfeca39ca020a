-- What a look at a machine shows.
use Rattle.std.specs.Prelude.{◌≡◌, ℕ, ◌<◌, ◌≤◌, Some, None}
use Rattle.std.specs.FinMap as map
use Rattle.plain.specs.declared.view.SectorView.{SectorView}
use Rattle.plain.specs.declared.view.SectorView.TheVariants.{Outside, Base, Stored}
use Rattle.dispatch_core.specs.Running.{Running, plain_of}

-- the content of a sector: none past the image, the overlay's block where it has one, else the image's
abbrev pub ShowsSector : SectorView → Running → ℕ → Type 0
ShowsSector Outside m number = m.sizes.sectors ≤ number
ShowsSector Base m number = (number < m.sizes.sectors) × (map.get (plain_of m).overlay number ≡ None)
ShowsSector (Stored block) m number = (number < m.sizes.sectors) × (map.get (plain_of m).overlay number ≡ Some block.now)
