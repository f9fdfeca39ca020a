-- What is printed of a machine (our profile). Numbers are in decimal.
use Rattle.std.specs.Prelude.{ℕ, ◌+◌, Bool, List, [], ◌∷◌, ◌++◌, codes, Option, None, Some, if◌then◌else◌}
use Rattle.std.specs.List.{flat_map}
use Rattle.std.specs.Fmt.{decimal}
use Rattle.sector_core.specs.declared.bio.Op.{Op}
use Rattle.sector_core.specs.declared.bio.Op.TheVariants.{Fetch, Store, Discard}
use Rattle.sector_core.specs.declared.bio.BioFields.{BioFields as Bio}
use Rattle.sector_core.specs.declared.bio.BioResult.{BioResult}
use Rattle.sector_core.specs.declared.bio.BioResult.TheVariants.{Read, Written, Discarded, IoError}
use Rattle.sector_core.specs.declared.bio.FailKind.TheVariants.{Short, Fault}
use Rattle.sector_core.specs.declared.range.Range.{Range}
use Rattle.sector_core.specs.declared.config.Scheduler.{Scheduler}
use Rattle.sector_core.specs.declared.config.Scheduler.TheVariants as scheduler
use Rattle.sector_core.specs.declared.class.Class.{Class}
use Rattle.sector_core.specs.declared.class.Class.TheVariants.{RealTime, BestEffort, Idle}
use Rattle.plain.specs.Lists.{numbers}
use Rattle.plain.specs.declared.seat.Seat.{Seat}
use Rattle.plain.specs.Machine.{WholeRequest, Plain}
use Rattle.plain.specs.Rules.{group_of, vtime_of, stands}
use Rattle.plain.specs.Requests.{range_of, size_of}
use Rattle.plain.specs.Steps.Finish.{seat_of}
use Rattle.plain.specs.Steps.GroupDrop.{is_in}
use Rattle.plain.specs.Looks.{entity_view}
use Rattle.plain.specs.declared.view.EntityView.{EntityView}
use Rattle.host_console.specs.Texts.{state_text}

-- Seats.

-- the session at a seat is there, or it leaves
abbrev pub presence_text : Bool → List ℕ
presence_text leaving = if leaving then codes "leaving" else codes "here"

-- a session at a seat: its group, its priority, how many of its bios are not reaped, and where the head of its queue is
abbrev pub sitting_text : ℕ → Seat → ℕ → ℕ → List ℕ
sitting_text seat s group head =
    codes "seat "
    ++ (decimal seat ++ 32 ∷ (decimal s.session ++ 32 ∷ (decimal group ++ 32 ∷ (decimal s.prio ++ 32 ∷ (decimal s.unreaped ++ 32 ∷ (decimal head ++ 32 ∷ presence_text s.leaving))))))

abbrev pub seat_look : Plain → ℕ → List ℕ
seat_look m seat = elim (m.seat seat) [
  | None ↦ codes "seat " ++ (decimal seat ++ codes " none")
  | Some s ↦ sitting_text seat s (group_of m.bfq seat) (m.head seat)
]

-- Outboxes.

-- what became of a bio
abbrev pub result_text : Option BioResult → List ℕ
result_text None = codes "open"
result_text (Some (Read bytes)) = codes "read"
result_text (Some Written) = codes "written"
result_text (Some Discarded) = codes "discarded"
result_text (Some (IoError Short)) = codes "short"
result_text (Some (IoError Fault)) = codes "fault"

-- a completed bio, after one space
abbrev pub completed_text : Bio → List ℕ
completed_text bio = 32 ∷ (decimal bio.serial ++ 58 ∷ result_text bio.result)

abbrev pub outbox_look : Plain → ℕ → List ℕ
outbox_look m seat = elim (m.seat seat) [
  | None ↦ codes "outbox " ++ (decimal seat ++ codes " none")
  | Some s ↦ codes "outbox " ++ (decimal seat ++ flat_map completed_text (m.outbox seat))
]

-- Requests.

abbrev pub op_text : Op → List ℕ
op_text Fetch = codes "fetch"
op_text Store = codes "store"
op_text Discard = codes "discard"

-- the serial of a bio after a comma
abbrev pub next_text : Bio → List ℕ
next_text bio = 44 ∷ decimal bio.serial

-- the serials of bios, the first after a colon
abbrev pub bios_text : List Bio → List ℕ
bios_text [] = []
bios_text (bio ∷ bios) = 58 ∷ (decimal bio.serial ++ flat_map next_text bios)

-- a request: what it does, its first sector, how many sectors it has, and its bios
abbrev pub listed_text : WholeRequest → List ℕ
listed_text r = op_text r.op ++ 58 ∷ (decimal (range_of r.bios).start ++ 43 ∷ (decimal (size_of r.bios) ++ bios_text r.bios))

-- the same after one space
abbrev pub queued_text : WholeRequest → List ℕ
queued_text r = 32 ∷ listed_text r

abbrev pub queue_look : Plain → ℕ → List ℕ
queue_look m seat = elim (m.seat seat) [
  | None ↦ codes "queue " ++ (decimal seat ++ codes " none")
  | Some s ↦ codes "queue " ++ (decimal seat ++ flat_map queued_text (m.queue seat))
]

-- the seat of a session, or that it has none
abbrev pub owner_text : Option ℕ → List ℕ
owner_text None = codes "-"
owner_text (Some seat) = decimal seat

-- a request with the seat of its session
abbrev pub owned_text : Plain → WholeRequest → List ℕ
owned_text m r = owner_text (seat_of m r.session) ++ 58 ∷ listed_text r

abbrev pub again_text : Plain → WholeRequest → List ℕ
again_text m r = 32 ∷ owned_text m r

abbrev pub requeued_look : Plain → List ℕ
requeued_look m = codes "requeued" ++ flat_map (again_text m) m.requeued

-- what a tag bears, if it bears anything
abbrev pub tag_text : Plain → ℕ → List ℕ
tag_text m tag = elim (m.flight tag) [
  | None ↦ []
  | Some f ↦ 32 ∷ (decimal tag ++ 58 ∷ (decimal f.issue ++ 58 ∷ owned_text m f.request))
]

abbrev pub flight_look : Plain → ℕ → List ℕ
flight_look m tags = codes "flight" ++ flat_map (tag_text m) (numbers 0 tags)

-- Entities.

-- the queue in service: its seat, the sectors sent for it, its age in ticks, and its budget
abbrev pub service_look : Plain → List ℕ
service_look m = elim m.bfq.in_service [
  | None ↦ codes "service none"
  | Some slot ↦
      codes "service "
      ++ (decimal slot.seat ++ 32 ∷ (decimal slot.service ++ 32 ∷ (decimal slot.age ++ 32 ∷ decimal (m.bfq.budget slot.seat))))
]

-- the class of a member, after a colon, and nothing if it is best effort
abbrev pub other_class_text : Class → List ℕ
other_class_text RealTime = codes ":rt"
other_class_text BestEffort = []
other_class_text Idle = codes ":idle"

-- an entity after one space: its state, start and finish, its weight in effect, its pending weight, and its class if it is not best effort
abbrev pub known_text : ℕ → EntityView → ℕ → List ℕ
known_text entity known pending =
    32 ∷ (decimal entity ++ 58 ∷ (state_text known.state ++ 58 ∷ (decimal known.start ++ 58 ∷ (decimal known.finish ++ 58 ∷ (decimal known.weight ++ 58 ∷ (decimal pending ++ other_class_text known.class))))))

-- the same of an entity that a look shows, and nothing if it shows none
abbrev pub shown_text : ℕ → Option EntityView → ℕ → List ℕ
shown_text entity None pending = []
shown_text entity (Some known) pending = known_text entity known pending

-- the same, if the entity is in the group
abbrev pub member_text : Plain → ℕ → ℕ → List ℕ
member_text m group entity =
    if is_in group (m.bfq.parent entity) then shown_text entity (entity_view m entity) (m.bfq.pending entity) else []

-- the group that a group is in; the root is in none
abbrev pub parent_text : Option ℕ → List ℕ
parent_text None = codes "-"
parent_text (Some parent) = decimal parent

abbrev pub tree_look : Plain → ℕ → List ℕ
tree_look m group =
    if stands m.bfq group then codes "tree " ++ (decimal group ++ 32 ∷ (parent_text (m.bfq.parent (16 + group)) ++ 32 ∷ (decimal (vtime_of m.bfq group BestEffort) ++ flat_map (member_text m group) (numbers 0 48))))
    else codes "tree " ++ (decimal group ++ codes " none")

-- The whole.

abbrev pub scheduler_text : Scheduler → List ℕ
scheduler_text scheduler.Plain = codes "none"
scheduler_text scheduler.Bfq = codes "bfq"

-- a run of stored sectors, or that there is none
abbrev pub stored_look : Option Range → List ℕ
stored_look None = codes "stored none"
stored_look (Some run) = codes "stored " ++ (decimal run.start ++ 43 ∷ decimal run.count)
