-- Entries of a journal that were written as a record.
use Rattle.std.specs.Prelude.{◌≡◌, ℕ, ◌-◌, ◌<◌, ◌≤◌, List, [], ◌∷◌, ◌++◌, length, take, drop, Bool, true, false, Option, None, Some, slice_get, ◌⊎◌}
use Rattle.std.specs.Io.KnownBytes.{Appends}
use Rattle.plain.specs.declared.call.Call.{Call}
use Rattle.host_calls.specs.declared.seat.SeatName.{SeatName}
use Rattle.host_core.specs.Journal.{Entry as Page}
use Rattle.session_proto.specs.Frame.{framed}
use Rattle.run_record.specs.Entry.{entry_body}
use Rattle.run_record.specs.Naming.{IsEntryOf}
use Rattle.run_record.specs.declared.entry.Entry.{Entry}

-- bytes that are known, or not
abbrev pub Known : Type 0
Known = Option (List ℕ)

-- the bytes are the frame of the entry of a call under this name (our format)
abbrev pub IsFrameOf : SeatName → Call → List ℕ → Type 0
IsFrameOf name call bytes = (entry : Entry) × IsEntryOf name call entry × (bytes ≡ framed (entry_body entry))

-- a front of the entry's frame that is not all of it, or nothing (our profile)
abbrev pub IsFrontOf : SeatName → Call → List ℕ → Type 0
IsFrontOf name call front = (front ≡ []) ⊎ ((frame : List ℕ) × (unwritten : List ℕ) × IsFrameOf name call frame × (0 < length unwritten) × (frame ≡ front ++ unwritten))

-- the frame of an entry was written, or only a front of it (our profile)
abbrev pub IsPut : Known → Known → SeatName → Call → Bool → Type 0
IsPut w0 w1 name call true = (frame : List ℕ) × IsFrameOf name call frame × Appends w0 w1 frame
IsPut w0 w1 name call false = (front : List ℕ) × IsFrontOf name call front × Appends w0 w1 front

-- the bytes are the frames of these entries, in order (our format)
abbrev pub AreFrames : List Page → List ℕ → Type 0
AreFrames [] bytes = bytes ≡ []
AreFrames (page ∷ pages) bytes = (frame : List ℕ) × (rest : List ℕ) × IsFrameOf page.name page.call frame × AreFrames pages rest × (bytes ≡ frame ++ rest)

-- the entries of a journal from a number on
abbrev pub between : List Page → ℕ → ℕ → List Page
between pages from to = take (to - from) (drop from pages)

-- the frames of a journal's entries were written, from a number on, up to another one (our profile)
pub record HasRecorded (w0 w1 : Known) (pages : List Page) (from to : ℕ) : Type 0 where
  pub order : from ≤ to
  pub within : to ≤ length pages
  pub bytes : List ℕ
  pub frames : AreFrames (between pages from to) bytes
  pub appended : Appends w0 w1 bytes

-- the frames of a journal's entries were written, from a number on, up to another one, of which only a front was (our profile)
pub record HasStopped (w0 w1 : Known) (pages : List Page) (from to : ℕ) : Type 0 where
  pub mid : Known
  pub recorded : HasRecorded w0 mid pages from to
  pub page : Page
  pub next : slice_get pages to ≡ Some page
  pub front : List ℕ
  pub is_front : IsFrontOf page.name page.call front
  pub appended : Appends mid w1 front

-- of a journal as it is now all that is new was written; if this ends the record, a front of that, or all of it and the flush failed (our profile)
abbrev pub WritesNew : Known → Known → List Page → ℕ → ℕ → Bool → Type 0
WritesNew w0 w1 pages from to false = HasRecorded w0 w1 pages from to × (to ≡ length pages)
WritesNew w0 w1 pages from to true = HasStopped w0 w1 pages from to ⊎ (HasRecorded w0 w1 pages from to × (to ≡ length pages))
