-- What every request of a machine is: a few bios, each from the sector where the one before it ends.
use Rattle.std.specs.Prelude.{◌≡◌, ℕ, ◌+◌, ◌≤◌, Bool, List, [], ◌∷◌, length, All, Some}
use Rattle.sector_core.specs.declared.bio.BioFields.{BioFields as Bio}
use Rattle.plain.specs.Machine.{WholeRequest, Flight, Plain}
use Rattle.plain.specs.declared.step.Step.{Step}
use Rattle.plain.specs.declared.call.Call.{Call}
use Rattle.plain.specs.Opening.{Limits}
use Rattle.plain.specs.Step.{step}
use Rattle.plain.specs.Requests.{size_of, range_of}
use Rattle.plain.specs.Keeper.{machine_of}
use Rattle.plain.specs.Headline.{replay}

-- bios one after the other from a sector on (blk-mq: the bios of a request are adjacent, in the order of their sectors)
abbrev pub AreInOrder : ℕ → List Bio → Type 0
AreInOrder start [] = Unit {0}
AreInOrder start (bio ∷ bios) = (bio.range.start ≡ start) × AreInOrder (start + bio.range.count) bios

-- a bio has 1 to 64 sectors (our profile)
abbrev pub HasSectors : Bio → Type 0
HasSectors bio = (1 ≤ bio.range.count) × (bio.range.count ≤ 64)

-- 1 to 32 bios with at most 256 sectors together (our profile)
pub record IsWhole (request : WholeRequest) : Type 0 where
  pub some_bios : 1 ≤ length request.bios
  pub few_bios : length request.bios ≤ 32
  pub few_sectors : size_of request.bios ≤ 256
  pub each : All HasSectors request.bios
  pub in_order : AreInOrder (range_of request.bios).start request.bios

-- so is each request that is queued, in the dispatch list or in flight
pub record AreWhole (m : Plain) : Type 0 where
  pub queued : (seat : ℕ) → All IsWhole (m.queue seat)
  pub requeued : All IsWhole m.requeued
  pub flying : (tag : ℕ) (flight : Flight) → m.flight tag ≡ Some flight → IsWhole flight.request

-- every step leaves them so
abbrev pub KeepsWhole : Limits → Plain → Type 0
KeepsWhole l m = (n : ℕ) (room : Bool) (s : Step) → AreWhole m → AreWhole (step l m n room s).0

-- so they are on the machine of every keeper that a journal makes
abbrev pub RequestsAreWhole : Limits → ℕ → List Call → Type 0
RequestsAreWhole l most journal = AreWhole (machine_of (replay l most journal))
