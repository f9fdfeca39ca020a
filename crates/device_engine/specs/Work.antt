-- What a device answers for the work of one request, from an image (our profile).
use Rattle.std.specs.Prelude.{◌≡◌, ℕ, ◌+◌, ◌*◌, ◌^◌, ◌<◌, ◌≤◌, ◌⊎◌, IsTrue, length, Ok, Err}
use Rattle.sector_core.specs.declared.bio.Op.{Op}
use Rattle.sector_core.specs.declared.bio.Op.TheVariants as op
use Rattle.sector_core.specs.declared.bio.FailKind.TheVariants.{Short, Fault}
use Rattle.sector_core.specs.declared.bio.Outcome.{Outcome}
use Rattle.sector_core.specs.declared.bio.Outcome.TheVariants.{Stored, Fetched, Failed}
use Rattle.sector_core.specs.declared.range.Range.{Range}
use Rattle.base_image.specs.Image.{Disk, Log, failed}
use Rattle.base_image.specs.declared.image.ImageFault.TheVariants.{Busy, Device}
use Rattle.device_engine.specs.Fill.{IsPart, EndsBefore, FillsUp, StopsAt, Made}
use Rattle.plain.specs.declared.answer.Work.{Work}
use Rattle.plain.specs.declared.call.DeviceCall.{DeviceCall}
use Rattle.plain.specs.declared.call.DeviceCall.TheVariants.{Take, Finish, Requeue}

-- a fetch ends: the bytes of all its sectors were read, or the image ended before, or a read failed where one may, which is counted
abbrev pub FetchEnds : Disk → Range → Outcome → Disk → Type 0
FetchEnds before range Stored after = ⊥
FetchEnds before range (Fetched bytes) after =
    (length bytes ≡ 512 * range.count) × IsPart before.bytes (512 * range.start) bytes × (after ≡ before)
FetchEnds before range (Failed Short) after = EndsBefore before.bytes (512 * (range.start + range.count)) × (after ≡ before)
FetchEnds before range (Failed Fault) after = IsTrue before.may_fail × (after ≡ failed before Device)

-- a store or a discard is stored, and nothing is read; a fetch is read
abbrev pub Ends : Disk → Op → Range → Outcome → Disk → Type 0
Ends before op.Store range outcome after = (outcome ≡ Stored) × (after ≡ before)
Ends before op.Discard range outcome after = (outcome ≡ Stored) × (after ≡ before)
Ends before op.Fetch range outcome after = FetchEnds before range outcome after

-- what the device answers, under the tag and the issue of its work; a fetch that met a busy image is given back
abbrev pub Works : Disk → Work → DeviceCall → Disk → Type 0
Works before work (Take worker) after = ⊥
Works before work (Finish tag issue outcome) after =
    (tag ≡ work.tag) × (issue ≡ work.issue) × Ends before work.op work.range outcome after
Works before work (Requeue tag issue) after =
    (tag ≡ work.tag) × (issue ≡ work.issue) × (work.op ≡ op.Fetch) × IsTrue before.may_fail × (after ≡ failed before Busy)

-- The reads that it makes.

-- those of a range, from an offset on and so many bytes long, that is answered so
abbrev pub IsReadFor : ℕ → ℕ → DeviceCall → Log → Type 0
IsReadFor offset bytes (Finish tag issue (Fetched got)) reads = FillsUp offset bytes reads
IsReadFor offset bytes (Finish tag issue (Failed Short)) reads = StopsAt offset bytes (Ok 0) reads
IsReadFor offset bytes (Finish tag issue (Failed Fault)) reads = StopsAt offset bytes (Err Device) reads
IsReadFor offset bytes (Requeue tag issue) reads = StopsAt offset bytes (Err Busy) reads
IsReadFor offset bytes call reads = ⊥

-- the range of a fetch ends where no 64-bit number counts its bytes
abbrev pub IsPastAll : Range → Type 0
IsPastAll range = 2 ^ 64 ≤ 512 * (range.start + range.count)

-- a store, a discard, and a range past all bytes, is answered with no read; another range once it was read
abbrev pub ReadsFor : Work → DeviceCall → Log → Log → Type 0
ReadsFor work call before after =
    (((work.op ≡ op.Store) ⊎ (work.op ≡ op.Discard) ⊎ IsPastAll work.range) × (after ≡ before))
    ⊎ ((work.op ≡ op.Fetch) × (512 * (work.range.start + work.range.count) < 2 ^ 64)
    × Made (IsReadFor (512 * work.range.start) (512 * work.range.count) call) before after)

-- where memory was wanting: no read was made, or all bytes of a fetch were read
abbrev pub ReadsInVain : Work → Log → Log → Type 0
ReadsInVain work before after =
    (after ≡ before) ⊎ ((work.op ≡ op.Fetch) × Made (FillsUp (512 * work.range.start) (512 * work.range.count)) before after)
