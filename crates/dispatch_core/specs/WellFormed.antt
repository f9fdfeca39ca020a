-- What joins the tables of a machine that steps have made: every link, index and count; and what their requests are (our profile).
use Rattle.std.specs.Prelude.{◌≡◌, ℕ, ◌+◌, ◌*◌, ◌<◌, ◌≤◌, ◌==◌, Bool, ◌^◌, true, false, List, [], length, sum_by, count_by, Option, None, Some, is_some, IsSome, All, slice_index_or, if◌then◌else◌}
use Rattle.std.specs.Option.{option_map_or}
use Rattle.sector_core.specs.declared.bio.Op.{Op}
use Rattle.sector_core.specs.declared.bio.BioFields.{BioFields as Bio}
use Rattle.request_pool.specs.declared.RequestFields.{RequestFields as Request}
use Rattle.request_pool.specs.Slots.{seat_slots}
use Rattle.tag_set.specs.declared.Issue.{Issue}
use Rattle.process_queue.specs.declared.Link.{Link}
use Rattle.plain.specs.declared.seat.Seat.{Seat}
use Rattle.plain.specs.declared.seat.InService.{InService}
use Rattle.change_record.specs.Tables.{Tables}
use Rattle.change_record.specs.Machine.{meaning, outbox_at, bfq_in}
use Rattle.arrayvec.specs.ArrayVec.{ArrayVec}
use Rattle.plain.specs.Classes.{Classes}
use Rattle.bfq_select.specs.Service.{IsSizedIn, IsBounded}
use Rattle.plain.specs.Opening.{Limits}
use Rattle.plain.specs.Steps.Submit.{payload_length}
use Rattle.plain_laws.specs.Whole.{AreWhole}

-- what a table has at a place
abbrev pub at : {A : Type 0} → List (Option A) → ℕ → Option A
at table place = slice_index_or table place None

-- one where there is something
abbrev pub one : {A : Type 0} → Option A → ℕ
one value = if is_some value then 1 else 0

-- how many places of a table are taken
abbrev pub taken : {A : Type 0} → List (Option A) → ℕ
taken table = count_by (λ value. is_some value) table

-- how often a slot stands in a list
abbrev pub times : ℕ → List ℕ → ℕ
times slot slots = count_by (λ s. s == slot) slots

-- Each part names the tables that it reads, so that it holds as it is when others change.

-- the lengths of the tables
pub record SizedIn (l : Limits) (rs : List (Option Request)) (bs : List (Option Bio)) (ts : List (Option Issue)) (ls back : List (Option Link)) (os : List (ArrayVec ℕ)) (ss : List (Option Seat)) : Type 0 where
  pub requests : length rs ≡ l.requests
  pub bios : length bs ≡ 512
  pub tags : length ts ≡ l.tags
  pub links : length ls ≡ l.requests
  pub requeued : length back ≡ l.requests
  pub outboxes : length os ≡ 16
  pub seats : length ss ≡ 16
  pub few_tags : l.tags ≤ 255
  pub few_requests : l.requests < 2 ^ 16
  pub small_image : l.sectors < 2 ^ 55

abbrev pub Sized : Limits → Tables → Type 0
Sized l t = SizedIn l t.requests t.bios t.tags t.links t.requeued t.outboxes t.seats

-- the seats: sessions are earlier serials, each at one seat; each seat counts the taken slots of its bios, and one that is leaving has an
-- empty outbox
pub record SeatedIn (n : ℕ) (seats : List (Option Seat)) (bios : List (Option Bio)) (outboxes : List (ArrayVec ℕ)) : Type 0 where
  pub early : (k : ℕ) (s : Seat) → at seats k ≡ Some s → s.session < n
  pub apart : (j k : ℕ) (a b : Seat) → at seats j ≡ Some a → at seats k ≡ Some b → a.session ≡ b.session → j ≡ k
  pub counted : (k : ℕ) → k < 16 → option_map_or (λ s. s.unreaped) (at seats k) 0 ≡ taken (seat_slots k bios)
  pub left : (k : ℕ) (s : Seat) → at seats k ≡ Some s → s.leaving ≡ true → outbox_at outboxes k ≡ []

abbrev pub Seated : ℕ → Tables → Type 0
Seated n t = SeatedIn n t.seats t.bios t.outboxes

-- a slot of a seat's bios
pub record IsSlotOf (seat slot : ℕ) : Type 0 where
  pub least : 32 * seat ≤ slot
  pub most : slot < 32 * seat + 32

-- a bio's sectors lie within the image
pub record IsBio (l : Limits) (bio : Bio) : Type 0 where
  pub some_sectors : 1 ≤ bio.range.count
  pub few_sectors : bio.range.count ≤ 64
  pub within : bio.range.start + bio.range.count ≤ l.sectors

-- a slot holds a waiting bio of an operation and a seat
pub record IsWaiting (bios : List (Option Bio)) (op : Op) (seat slot : ℕ) : Type 0 where
  pub slot_of : IsSlotOf seat slot
  pub bio : Bio
  pub here : at bios slot ≡ Some bio
  pub waits : bio.result ≡ None
  pub payload : length bio.payload ≡ payload_length op bio.range.count

-- a slot holds a completed bio of a seat
pub record IsCompleted (bios : List (Option Bio)) (seat slot : ℕ) : Type 0 where
  pub slot_of : IsSlotOf seat slot
  pub bio : Bio
  pub here : at bios slot ≡ Some bio
  pub done : IsSome bio.result

-- a request's session sits at a seat, and its bios wait in that seat's slots
pub record IsOwnedIn (seats : List (Option Seat)) (slots : List (Option Bio)) (request : Request) : Type 0 where
  pub seat : ℕ
  pub entry : Seat
  pub within : seat < 16
  pub sits : at seats seat ≡ Some entry
  pub session : entry.session ≡ request.session
  pub bios : All (IsWaiting slots request.op seat) request.bios.items
  pub some_bios : 1 ≤ length request.bios.items

abbrev pub IsOwned : Tables → Request → Type 0
IsOwned t request = IsOwnedIn t.seats t.bios request

-- how many requests and outboxes name a slot of a bio
abbrev pub named_in : List (Option Request) → List (ArrayVec ℕ) → ℕ → ℕ
named_in requests outboxes slot = sum_by (λ request. option_map_or (λ r. times slot r.bios.items) request 0) requests + sum_by (λ outbox. times slot outbox.items) outboxes

abbrev pub named : Tables → ℕ → ℕ
named t slot = named_in t.requests t.outboxes slot

-- bios: each is named once, by its request or by an outbox
pub record KeptIn (l : Limits) (seats : List (Option Seat)) (requests : List (Option Request)) (bios : List (Option Bio)) (outboxes : List (ArrayVec ℕ)) : Type 0 where
  pub bio : (slot : ℕ) (b : Bio) → at bios slot ≡ Some b → IsBio l b
  pub request : (slot : ℕ) (r : Request) → at requests slot ≡ Some r → IsOwnedIn seats bios r
  pub outbox : (seat : ℕ) → seat < 16 → All (IsCompleted bios seat) (outbox_at outboxes seat)
  pub once : (slot : ℕ) → named_in requests outboxes slot ≡ one (at bios slot)

abbrev pub Kept : Limits → Tables → Type 0
Kept l t = KeptIn l t.seats t.requests t.bios t.outboxes

-- an issue is of the request in a slot
abbrev pub bears : ℕ → Option Issue → Bool
bears slot None = false
bears slot (Some issue) = issue.slot == slot

-- a link's seat is that of its request's session
pub record IsQueuedIn (n : ℕ) (seats : List (Option Seat)) (requests : List (Option Request)) (slot : ℕ) (link : Link) : Type 0 where
  pub early : link.serial < n
  pub within : link.seat < 16
  pub request : Request
  pub here : at requests slot ≡ Some request
  pub entry : Seat
  pub sits : at seats link.seat ≡ Some entry
  pub session : entry.session ≡ request.session

abbrev pub IsQueued : ℕ → Tables → ℕ → Link → Type 0
IsQueued n t slot link = IsQueuedIn n t.seats t.requests slot link

-- a link of the dispatch list, which is the queue of number 0, is that of a request
pub record IsRequeuedIn (n : ℕ) (requests : List (Option Request)) (slot : ℕ) (link : Link) : Type 0 where
  pub early : link.serial < n
  pub number : link.seat ≡ 0
  pub here : IsSome (at requests slot)

abbrev pub IsRequeued : ℕ → Tables → ℕ → Link → Type 0
IsRequeued n t slot link = IsRequeuedIn n t.requests slot link

-- requests: each is queued, in the dispatch list or in flight, once
pub record PlacedIn (n : ℕ) (seats : List (Option Seat)) (requests : List (Option Request)) (tags : List (Option Issue)) (links back : List (Option Link)) : Type 0 where
  pub link : (slot : ℕ) (link : Link) → at links slot ≡ Some link → IsQueuedIn n seats requests slot link
  pub apart : (i j : ℕ) (a b : Link) → at links i ≡ Some a → at links j ≡ Some b → a.serial ≡ b.serial → i ≡ j
  pub again : (i j : ℕ) (a b : Link) → at back i ≡ Some a → at back j ≡ Some b → a.serial ≡ b.serial → i ≡ j
  pub tag : (tag : ℕ) (issue : Issue) → at tags tag ≡ Some issue → (issue.issue < n) × IsSome (at requests issue.slot)
  pub requeued : (slot : ℕ) (link : Link) → at back slot ≡ Some link → IsRequeuedIn n requests slot link
  pub once : (slot : ℕ) → count_by (bears slot) tags + one (at links slot) + one (at back slot) ≡ one (at requests slot)
  pub counted : taken requests ≡ taken links + taken tags + taken back

abbrev pub Placed : ℕ → Tables → Type 0
Placed n t = PlacedIn n t.seats t.requests t.tags t.links t.requeued

-- what the rules of bfq ask of the tables, and of what these were made for
pub record RuledIn (l : Limits) (hs : List ℕ) (trees : List Classes) (parents : List (Option ℕ)) (weights budgets : List ℕ) (slot : Option InService) : Type 0 where
  pub heads : length hs ≡ 16
  pub sized : IsSizedIn trees parents weights budgets slot
  pub bounded : IsBounded (bfq_in trees parents weights budgets slot)
  pub first_vtime : l.first_vtime ≤ 2 ^ 62
  pub least_budget : 256 ≤ l.first_budget
  pub first_budget : l.first_budget ≤ l.max_budget
  pub most_budget : l.max_budget ≤ 65536

abbrev pub Ruled : Limits → Tables → Type 0
Ruled l t = RuledIn l t.heads t.trees t.parents t.weights t.budgets t.in_service

pub record WellFormed (l : Limits) (n : ℕ) (t : Tables) : Type 0 where
  pub sized : Sized l t
  pub seated : Seated n t
  pub kept : Kept l t
  pub placed : Placed n t
  pub ruled : Ruled l t
  -- the queue in service is no older than the steps are many
  pub young : (slot : InService) → t.in_service ≡ Some slot → slot.age < n
  pub first : 1 ≤ n
  pub served : t.served < 16

-- tables that steps up to this serial may have made: they hold together, and the requests that they mean are whole (our profile)
abbrev pub IsSound : Limits → ℕ → Tables → Type 0
IsSound l n t = WellFormed l n t × AreWhole (meaning t)
