-- An image some sectors of which are bad (our profile).
use Rattle.std.specs.Prelude.{ℕ, ◌+◌, ◌*◌, nat_lt, Bool, true, ◌&&◌, List, Option}
use Rattle.std.specs.List.{list_any}
use Rattle.sector_core.specs.declared.range.Range.{Range}
use Rattle.base_image.specs.Image.{Disk, Log}
use Rattle.base_image.specs.Kinds.{latest}
use Rattle.base_image.specs.declared.image.ImageFault.{ImageFault}

-- so many bytes from an offset on have one of the bytes of these sectors: there are some, they begin before the last sector's end, and end
-- behind the first sector's begin
abbrev pub has_sector : ℕ → ℕ → Range → Bool
has_sector offset length range = nat_lt 0 length && nat_lt (512 * range.start) (offset + length) && nat_lt offset (512 * range.start + 512 * range.count)

-- they have a byte of a sector of one of these ranges
abbrev pub touches : ℕ → ℕ → List Range → Bool
touches offset length ranges = list_any (has_sector offset length) ranges

-- The image inside, its bad sectors, how many reads failed, how the last of these failed here, and the reads that were made here.
pub record Marked (I : Type 0) : Type 0 where
  pub inner : I
  pub bad : List Range
  pub faults : ℕ
  pub last : Option ImageFault
  pub log : Log

-- what is known of it, from what is known of the image inside
abbrev pub marked : {I : Type 0} → (I → Disk) → Marked I → Disk
marked disk image =
    record {
      sectors = (disk image.inner).sectors;
      bytes = (disk image.inner).bytes;
      may_fail = true;
      faults = image.faults;
      last = latest image.last (disk image.inner).last;
    }
