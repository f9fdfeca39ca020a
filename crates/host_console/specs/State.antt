-- What `show state` prints: a machine in one line, without names (our profile). No session, serial, issue or tag stands there: a session is
-- told by its seat, and bytes by their sum. What is stored is not told.
use Rattle.std.specs.Prelude.{ℕ, ◌+◌, Bool, List, [], ◌∷◌, ◌++◌, codes, Option, None, Some, if◌then◌else◌, map}
use Rattle.std.specs.List.{flat_map}
use Rattle.std.specs.Ordering.{nat_cmp, is_lt}
use Rattle.std.specs.Cmp.Lexicographic.{slice_cmp}
use Rattle.std.specs.Fmt.{decimal}
use Rattle.sector_core.specs.declared.bio.BioFields.{BioFields as Bio}
use Rattle.sector_core.specs.declared.bio.BioResult.{BioResult}
use Rattle.sector_core.specs.declared.bio.BioResult.TheVariants.{Read}
use Rattle.sector_core.specs.declared.class.Class.TheVariants.{RealTime, BestEffort, Idle}
use Rattle.checksum.specs.Crc.{crc32, sum_digits}
use Rattle.plain.specs.Lists.{numbers, seats}
use Rattle.plain.specs.declared.seat.Seat.{Seat}
use Rattle.plain.specs.declared.seat.InService.{InService}
use Rattle.plain.specs.Machine.{WholeRequest, Flight, Plain}
use Rattle.plain.specs.Rules.{group_of, vtime_of, stands}
use Rattle.plain.specs.Steps.Finish.{seat_of}
use Rattle.plain.specs.Steps.GroupDrop.{is_in}
use Rattle.plain.specs.Looks.{entity_view}
use Rattle.plain.specs.declared.view.EntityView.{EntityView}
use Rattle.host_console.specs.Texts.{state_text}
use Rattle.host_console.specs.Views.{presence_text, result_text, op_text, owner_text, other_class_text, parent_text, scheduler_text}

-- Bios.

-- the sum of bytes behind `=`, and nothing if there are none
abbrev pub bytes_text : List ℕ → List ℕ
bytes_text [] = []
bytes_text (byte ∷ bytes) = 61 ∷ sum_digits (crc32 (byte ∷ bytes))

-- a bio: its first sector, how many sectors it has, and the bytes that it stores
abbrev pub bio_text : Bio → List ℕ
bio_text bio = decimal bio.range.start ++ 43 ∷ (decimal bio.range.count ++ bytes_text bio.payload)

-- what became of a bio, with the bytes that it read
abbrev pub became_text : Option BioResult → List ℕ
became_text None = result_text None
became_text (Some (Read bytes)) = result_text (Some (Read bytes)) ++ bytes_text bytes
became_text (Some result) = result_text (Some result)

-- a completed bio after one space
abbrev pub done_text : Bio → List ℕ
done_text bio = 32 ∷ (bio_text bio ++ 58 ∷ became_text bio.result)

-- Requests.

-- a bio after a comma
abbrev pub next_text : Bio → List ℕ
next_text bio = 44 ∷ bio_text bio

-- bios, the first after a colon
abbrev pub bios_text : List Bio → List ℕ
bios_text [] = []
bios_text (bio ∷ bios) = 58 ∷ (bio_text bio ++ flat_map next_text bios)

-- a request: what it does, and its bios
abbrev pub request_text : WholeRequest → List ℕ
request_text r = op_text r.op ++ bios_text r.bios

-- the same after one space
abbrev pub waiting_text : WholeRequest → List ℕ
waiting_text r = 32 ∷ request_text r

-- a request with the seat of its session
abbrev pub owned_text : Plain → WholeRequest → List ℕ
owned_text m r = owner_text (seat_of m r.session) ++ 58 ∷ request_text r

-- the same after one space
abbrev pub again_text : Plain → WholeRequest → List ℕ
again_text m r = 32 ∷ owned_text m r

-- Flight.

-- a text among others, before the first that is greater
abbrev pub placed : List ℕ → List (List ℕ) → List (List ℕ)
placed text [] = text ∷ []
placed text (first ∷ others) = if is_lt (slice_cmp nat_cmp text first) then text ∷ first ∷ others else first ∷ placed text others

-- texts in their order
abbrev pub in_order : List (List ℕ) → List (List ℕ)
in_order [] = []
in_order (text ∷ texts) = placed text (in_order texts)

-- the request that a tag bears, if it bears one
abbrev pub borne : Option Flight → List WholeRequest
borne None = []
borne (Some f) = f.request ∷ []

-- the requests in flight, by their tags
abbrev pub under_tags : ℕ → Plain → List WholeRequest
under_tags tags m = flat_map (λ tag. borne (m.flight tag)) (numbers 0 tags)

-- a text after one space
abbrev pub spaced : List ℕ → List ℕ
spaced text = 32 ∷ text

-- the requests in flight, in the order of their texts
abbrev pub flight_text : ℕ → Plain → List ℕ
flight_text tags m = flat_map spaced (in_order (map (owned_text m) (under_tags tags m)))

-- Seats.

-- a session by its seat: its group, its priority, how many of its bios are not reaped, and where the head of its queue is
abbrev pub sitting_text : ℕ → Seat → ℕ → ℕ → List ℕ
sitting_text seat s group head =
    codes " seat "
    ++ (decimal seat ++ 32 ∷ (decimal group ++ 32 ∷ (decimal s.prio ++ 32 ∷ (decimal s.unreaped ++ 32 ∷ (decimal head ++ 32 ∷ presence_text s.leaving)))))

-- a seat with the texts of its queue and its outbox, and nothing if it is free
abbrev pub seated_text : ℕ → Option Seat → ℕ → ℕ → List ℕ → List ℕ → List ℕ
seated_text seat None group head queue outbox = []
seated_text seat (Some s) group head queue outbox = sitting_text seat s group head ++ (codes " queue" ++ (queue ++ (codes " outbox" ++ outbox)))

-- the same of a seat of the machine
abbrev pub taken_text : Plain → ℕ → List ℕ
taken_text m seat =
    seated_text seat (m.seat seat) (group_of m.bfq seat) (m.head seat) (flat_map waiting_text (m.queue seat)) (flat_map done_text (m.outbox seat))

-- Entities.

-- the queue in service: its seat, the sectors sent for it, and its age in ticks
abbrev pub served_text : Option InService → List ℕ
served_text None = codes " service none"
served_text (Some slot) = codes " service " ++ (decimal slot.seat ++ 32 ∷ (decimal slot.service ++ 32 ∷ decimal slot.age))

-- an entity after one space: its state, start and finish, its weight in effect, its pending weight, its budget, and its class if it is
-- not best effort
abbrev pub known_text : ℕ → EntityView → ℕ → List ℕ
known_text entity known pending =
    32 ∷ (decimal entity ++ 58 ∷ (state_text known.state ++ 58 ∷ (decimal known.start ++ 58 ∷ (decimal known.finish ++ 58 ∷ (decimal known.weight ++ 58 ∷ (decimal pending ++ 58 ∷ (decimal known.budget ++ other_class_text known.class)))))))

-- the same of an entity that a look shows, and nothing if it shows none
abbrev pub shown_text : ℕ → Option EntityView → ℕ → List ℕ
shown_text entity None pending = []
shown_text entity (Some known) pending = known_text entity known pending

-- the same, if the entity is in the group
abbrev pub member_text : Plain → ℕ → ℕ → List ℕ
member_text m group entity =
    if is_in group (m.bfq.parent entity) then shown_text entity (entity_view m entity) (m.bfq.pending entity) else []

-- a group: the one that it is in, and its virtual times, of real time, of best effort and of the idle class
abbrev pub times_text : Plain → ℕ → List ℕ
times_text m group =
    codes " tree "
    ++ (decimal group ++ 32 ∷ (parent_text (m.bfq.parent (16 + group)) ++ 32 ∷ (decimal (vtime_of m.bfq group RealTime) ++ 32 ∷ (decimal (vtime_of m.bfq group BestEffort) ++ 32 ∷ decimal (vtime_of m.bfq group Idle)))))

-- a group with its members, and nothing if no such group stands
unfoldable pub group_text : Plain → ℕ → List ℕ
group_text m group = if stands m.bfq group then times_text m group ++ flat_map (member_text m group) (numbers 0 48) else []

-- The whole.

abbrev pub run_text : Bool → List ℕ
run_text frozen = if frozen then codes "frozen" else codes "running"

-- the scheduler, whether submits wait, and the seat that the round robin served last; then seats, the dispatch list, what is in flight,
-- the queue in service, and the groups
unfoldable pub state_look : ℕ → Plain → List ℕ
state_look tags m =
    codes "state "
    ++ (scheduler_text m.scheduler ++ 32 ∷ (run_text m.frozen ++ 32 ∷ (decimal m.served ++ (flat_map (taken_text m) seats ++ (codes " requeued"
    ++ (flat_map (again_text m) m.requeued ++ (codes " flight" ++ (flight_text tags m ++ (served_text m.bfq.in_service ++ flat_map (group_text m) (numbers 0 32))))))))))
