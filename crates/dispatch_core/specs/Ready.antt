-- What has been shown before the tables are changed (our profile).
use Rattle.std.specs.Prelude.{◌≡◌, ℕ, ◌+◌, ◌*◌, ◌<◌, ◌≤◌, ◌^◌, ◌≢◌, slice_get, true, Bool, false, List, length, All, Option, None, Some}
use Rattle.sector_core.specs.declared.range.Range.{Range}
use Rattle.sector_core.specs.declared.bio.Op.{Op}
use Rattle.sector_core.specs.declared.bio.BioFields.{BioFields as Bio}
use Rattle.sector_core.specs.declared.bio.Outcome.{Outcome}
use Rattle.sector_core.specs.declared.bio.Effect.{Effect}
use Rattle.sector_core.specs.declared.bio.Effect.TheVariants.{Reads, Writes, Clears, Fails}
use Rattle.request_pool.specs.declared.RequestFields.{RequestFields as Request}
use Rattle.plain.specs.declared.seat.Seat.{Seat}
use Rattle.change_record.specs.Tables.{Tables}
use Rattle.change_record.specs.Machine.{outbox_at}
use Rattle.plain.specs.Opening.{Limits}
use Rattle.plain.specs.Steps.Submit.{payload_length}
use Rattle.plain.specs.Steps.Finish.{fits}
use Rattle.dispatch_core.specs.WellFormed.{at, one, times, IsSlotOf}
use Rattle.dispatch_core.specs.Ranges.{total_count}

-- the effect has the bytes of so many sectors, if it has any
abbrev pub HasBytes : ℕ → Effect → Type 0
HasBytes sectors (Reads bytes) = 512 * sectors ≤ length bytes
HasBytes sectors Writes = Unit {0}
HasBytes sectors Clears = Unit {0}
HasBytes sectors (Fails kind) = Unit {0}

-- what is stored has the bytes of its sectors
abbrev pub HasPayload : Effect → Bio → Type 0
HasPayload (Reads bytes) bio = Unit {0}
HasPayload Writes bio = 512 * bio.range.count ≤ length bio.payload
HasPayload Clears bio = Unit {0}
HasPayload (Fails kind) bio = Unit {0}

-- the bios of a request that the device has finished: each in a slot of its own, with all the bytes that it needs
pub record IsReady (bios : List (Option Bio)) (slots : List ℕ) (effect : Effect) : Type 0 where
  -- no slot stands twice in the list, and each has a bio
  pub distinct : (slot : ℕ) → times slot slots ≤ 1
  pub taken : All (λ slot. one (at bios slot) ≡ 1) slots
  -- every bio's range ends somewhere
  pub ranges : (slot : ℕ) (bio : Bio) → at bios slot ≡ Some bio → bio.range.start + bio.range.count < 2 ^ 64
  pub small : (slot : ℕ) (bio : Bio) → at bios slot ≡ Some bio → bio.range.count ≤ 64
  pub payloads : All (λ slot. (bio : Bio) → at bios slot ≡ Some bio → HasPayload effect bio) slots
  pub bytes : HasBytes (total_count bios slots) effect

-- what Submit's tests have shown before a request is sought that the bio joins, and a free slot for the bio
pub record MaySubmit (l : Limits) (t : Tables) (seat : ℕ) (entry : Seat) (place session : ℕ) (op : Op) (range : Range) (payload : List ℕ) : Type 0 where
  pub within : seat < 16
  pub sits : at t.seats seat ≡ Some entry
  pub stays : entry.leaving ≡ false
  pub session_is : entry.session ≡ session
  pub thawed : t.frozen ≡ false
  pub few : entry.unreaped < 32
  pub some_sectors : 1 ≤ range.count
  pub few_sectors : range.count ≤ 64
  pub in_image : range.start + range.count ≤ l.sectors
  pub payload_fits : length payload ≡ payload_length op range.count
  pub place_of : IsSlotOf seat place
  pub place_free : at t.bios place ≡ None

-- what Finish's tests have shown before memory is sought: the tag bears this issue and a request of a session that sits, the size is the
-- request's, the outcome fits it, and the history has room
pub record MayFinish (l : Limits) (t : Tables) (room : Bool) (tag issue : ℕ) (outcome : Outcome) (slot seat size : ℕ) : Type 0 where
  pub within : tag < l.tags
  pub in_time : room ≡ true
  pub borne : at t.tags tag ≡ Some (record { issue = issue; slot = slot })
  pub request : Request
  pub here : at t.requests slot ≡ Some request
  pub seat_within : seat < 16
  pub entry : Seat
  pub sits : at t.seats seat ≡ Some entry
  pub session : entry.session ≡ request.session
  pub size_is : size ≡ total_count t.bios request.bios.items
  pub good : fits request.op size outcome ≡ true

-- what Reap's tests have shown: the session that asks sits at the seat and stays, bios are owed to it, the first of its outbox is this one,
-- and the history has room
pub record MayReap (t : Tables) (room : Bool) (seat session : ℕ) (entry : Seat) (place : ℕ) : Type 0 where
  pub within : seat < 16
  pub sits : at t.seats seat ≡ Some entry
  pub stays : entry.leaving ≡ false
  pub session_is : entry.session ≡ session
  pub owed : entry.unreaped ≢ 0
  pub first : slice_get (outbox_at t.outboxes seat) 0 ≡ Some place
  pub in_time : room ≡ true
