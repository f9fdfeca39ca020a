-- An image, as those who read it know it: what it tells, and what a read may do.
use Rattle.std.specs.Prelude.{◌≡◌, ℕ, ◌+◌, ◌<◌, ◌≤◌, ◌^◌, Bool, IsTrue, List, ◌∷◌, length, take, drop, Option, None, Some, Result, Ok, Err}
use Rattle.base_image.specs.declared.image.ImageFault.{ImageFault}
use Rattle.base_image.specs.declared.read.LoggedRead.{LoggedRead}

-- bytes that are known, or not: of a real file no contract can tell them (our profile)
abbrev pub Known : Type 0
Known = Option (List ℕ)

-- What is known of an image: the sectors that it tells, its bytes, whether a read of it may fail, how many reads failed, and how the
-- last of these failed (our profile).
-- It may tell more sectors than it has bytes for.
pub record Disk : Type 0 where
  pub sectors : ℕ
  pub bytes : Known
  pub may_fail : Bool
  pub faults : ℕ
  pub last : Option ImageFault

-- the image after a read of it failed: the failure is counted, and it is the last (our profile)
abbrev pub failed : Disk → ImageFault → Disk
failed disk fault = record disk { faults = disk.faults + 1; last = Some fault }

-- the first n bytes of a buffer are the image's bytes from an offset on; there are none only at the image's end (our profile)
abbrev pub Tells : Known → ℕ → List ℕ → ℕ → Type 0
Tells None offset buffer n = Unit {0}
Tells (Some bytes) offset buffer n =
    (take n buffer ≡ take n (drop offset bytes)) × (n ≡ 0 → 0 < length buffer → length bytes ≤ offset)

-- a read gives bytes of the image and leaves it as it is, or it fails where one may, and that is counted (our profile)
abbrev pub Reads : Disk → ℕ → List ℕ → Result ℕ ImageFault → Disk → Type 0
Reads before offset buffer (Ok n) after = (n ≤ length buffer) × Tells before.bytes offset buffer n × (after ≡ before)
Reads before offset buffer (Err fault) after = IsTrue before.may_fail × (after ≡ failed before fault)

-- the reads that were made of an image, the latest first (our profile)
abbrev pub Log : Type 0
Log = List LoggedRead

-- the log after one read more: from which byte on, how many were asked for, and what came of it (our profile)
abbrev pub logged : Log → ℕ → ℕ → Result ℕ ImageFault → Log
logged log offset asked outcome = record { offset = offset; asked = asked; outcome = outcome } ∷ log

-- the image's bytes, where they are known, can be counted (our profile)
abbrev pub CanBeCounted : Known → Type 0
CanBeCounted None = Unit {0}
CanBeCounted (Some bytes) = length bytes < 2 ^ 64
