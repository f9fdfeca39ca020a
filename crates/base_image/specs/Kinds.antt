-- The images that this crate has, as their contracts speak of them.
use Rattle.std.specs.Prelude.{◌≡◌, ℕ, ◌-◌, ◌<◌, Bool, true, List, [], length, min, Option, None, Some, Result, Ok, slice_get}
use Rattle.std.specs.declared.io.ErrorKind.{ErrorKind}
use Rattle.std.specs.declared.io.ErrorKind.TheVariants.{Interrupted, WouldBlock}
use Rattle.base_image.specs.declared.image.ImageFault.{ImageFault}
use Rattle.base_image.specs.declared.image.ImageFault.TheVariants.{Busy, Device}
use Rattle.base_image.specs.Image.{Known, Disk, Log}

-- an image of which no read has failed (our profile)
abbrev pub fresh : ℕ → Known → Bool → Disk
fresh sectors bytes may_fail = record { sectors = sectors; bytes = bytes; may_fail = may_fail; faults = 0; last = None }

-- An image, and the reads that were made of it (our profile).
pub record Read : Type 0 where
  pub disk : Disk
  pub log : Log

-- an image that was not read yet (our profile)
abbrev pub unread : Disk → Read
unread disk = record { disk = disk; log = [] }

-- images of files, none of which was read yet (our profile)
abbrev pub AreUnread : List Read → Type 0
AreUnread images = (i : ℕ) (image : Read) → slice_get images i ≡ Some image → image ≡ unread (fresh image.disk.sectors None true)

-- a read that never fails, and fills as much of the buffer as the known bytes reach (our profile)
abbrev pub FillsAll : Known → ℕ → List ℕ → Result ℕ ImageFault → Type 0
FillsAll None offset buffer result = Unit {0}
FillsAll (Some bytes) offset buffer result = result ≡ Ok (min (length buffer) (length bytes - offset))

-- An image of which one read fails: the image inside, how many reads there are to the one that fails
-- (0: none fails of itself), how that one fails, how many failed, how the last of these failed here, and the reads that were made here
-- (our profile).
pub record Failing (I : Type 0) : Type 0 where
  pub inner : I
  pub left : ℕ
  pub fault : ImageFault
  pub faults : ℕ
  pub last : Option ImageFault
  pub log : Log

-- the last failure here, or else that of the image inside (our profile)
abbrev pub latest : Option ImageFault → Option ImageFault → Option ImageFault
latest None inner = inner
latest (Some fault) inner = Some fault

-- what is known of an image of which one read fails, from what is known of the image inside (our profile)
abbrev pub seen : {I : Type 0} → (I → Disk) → Failing I → Disk
seen disk image =
    record {
      sectors = (disk image.inner).sectors;
      bytes = (disk image.inner).bytes;
      may_fail = true;
      faults = image.faults;
      last = latest image.last (disk image.inner).last;
    }

-- why a read of a file failed: a read that was cut short or would have waited may succeed later (our profile)
abbrev pub fault_of : ErrorKind → ImageFault
fault_of Interrupted = Busy
fault_of WouldBlock = Busy
fault_of _ = Device

-- the first so many images tell as many sectors as the first; and so do all (our profile)
abbrev pub AreAlikeUpto : ℕ → List Read → Type 0
AreAlikeUpto n images =
    (i : ℕ) (x y : Read) → i < n → slice_get images 0 ≡ Some x → slice_get images i ≡ Some y → y.disk.sectors ≡ x.disk.sectors

abbrev pub AreAlike : List Read → Type 0
AreAlike images = (i : ℕ) (x y : Read) → slice_get images 0 ≡ Some x → slice_get images i ≡ Some y → y.disk.sectors ≡ x.disk.sectors
