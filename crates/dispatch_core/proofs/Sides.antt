-- What has been found before a step's exchanges are made.
use Rattle.std.proofs.Common.{◌≡◌, ℕ, ◌+◌, ◌<◌, ◌≤◌, List, ◌∷◌, length, Some, None}
use Rattle.dispatch_core.proofs.Words.{Range, Op, Bio, Request, Link, first_slot, Seat, Tables, outbox_at, Limits, payload_length, at, IsSlotOf}
use Rattle.dispatch_core.specs.Ready.{MaySubmit}

pub record CanAttach (t : Tables) (seat : ℕ) : Type 0 where
  pub within : seat < 16
  pub free : at t.seats seat ≡ None

-- a free slot of the requests, and one of the seat's bios
pub record CanSubmit (l : Limits) (t : Tables) (seat : ℕ) (entry : Seat) (slot place session : ℕ) (op : Op) (range : Range) (payload : List ℕ) : Type 0 where
  pub within : seat < 16
  pub sits : at t.seats seat ≡ Some entry
  pub session_is : entry.session ≡ session
  pub few : entry.unreaped < 32
  pub slot_within : slot < l.requests
  pub slot_free : at t.requests slot ≡ None
  pub place_of : IsSlotOf seat place
  pub place_free : at t.bios place ≡ None
  pub some_sectors : 1 ≤ range.count
  pub few_sectors : range.count ≤ 64
  pub in_image : range.start + range.count ≤ l.sectors
  pub payload_fits : length payload ≡ payload_length op range.count

-- a request that is linked to the seat, with room for one bio more, and one of the seat's free slots
pub record CanJoin (l : Limits) (t : Tables) (seat : ℕ) (entry : Seat) (slot place session : ℕ) (op : Op) (range : Range) (payload : List ℕ) (request : Request) : Type 0 where
  pub may : MaySubmit l t seat entry place session op range payload
  pub here : at t.requests slot ≡ Some request
  pub session_is : request.session ≡ session
  pub op_is : request.op ≡ op
  pub link : Link
  pub linked : at t.links slot ≡ Some link
  pub link_seat : link.seat ≡ seat

-- the first completed bio of the seat
pub record CanReap (t : Tables) (seat : ℕ) (entry : Seat) (place : ℕ) (rest : List ℕ) (bio : Bio) : Type 0 where
  pub within : seat < 16
  pub sits : at t.seats seat ≡ Some entry
  pub outbox : outbox_at t.outboxes seat ≡ place ∷ rest
  pub here : at t.bios place ≡ Some bio

-- the earliest request of the seat's queue, and a free tag
pub record CanSend (l : Limits) (t : Tables) (seat slot tag : ℕ) (request : Request) : Type 0 where
  pub within : seat < 16
  pub first : first_slot seat t.links ≡ Some slot
  pub here : at t.requests slot ≡ Some request
  pub tag_within : tag < l.tags
  pub tag_free : at t.tags tag ≡ None

-- the request that the tag bears, and its session's seat
pub record CanFinish (t : Tables) (tag issue slot seat : ℕ) (entry : Seat) (request : Request) : Type 0 where
  pub borne : at t.tags tag ≡ Some (record { issue = issue; slot = slot })
  pub here : at t.requests slot ≡ Some request
  pub within : seat < 16
  pub sits : at t.seats seat ≡ Some entry
  pub session : entry.session ≡ request.session
