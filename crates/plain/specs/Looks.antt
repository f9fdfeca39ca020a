-- What a look at a group, at an entity or at a place of a queue shows.
use Rattle.std.specs.Prelude.{ℕ, Option, None, Some, is_some, if◌then◌else◌, zero, suc, List, [], ◌∷◌, length}
use Rattle.std.specs.Option.{option_map_or}
use Rattle.sector_core.specs.declared.class.Class.{Class}
use Rattle.plain.specs.declared.member.State.{State}
use Rattle.plain.specs.declared.member.State.TheVariants.{Idle, Active, Serving}
use Rattle.plain.specs.Machine.{Bfq, Plain, WholeRequest}
use Rattle.plain.specs.Rules.{member_of, stands, vtime_of}
use Rattle.plain.specs.declared.view.EntityView.{EntityView}
use Rattle.plain.specs.declared.seat.Seat.{Seat}
use Rattle.plain.specs.Requests.{range_of}
use Rattle.plain.specs.declared.view.RequestView.{RequestView}
use Rattle.plain.specs.declared.view.RequestView.TheVariants.{Free, Past, Queued}

-- the virtual time of a class of a group, if the group stands (our profile)
abbrev pub vtime_view : Plain → ℕ → Class → Option ℕ
vtime_view m group class = if stands m.bfq group then Some (vtime_of m.bfq group class) else None

-- the sectors sent for an entity: those of the queue in service if the entity is served, else none (bfq)
abbrev pub service_of : State → Bfq → ℕ
service_of Idle b = 0
service_of Active b = 0
service_of Serving b = option_map_or (λ current. current.service) b.in_service 0

-- what is known of an entity, if it is in a group (our profile)
abbrev pub entity_view : Plain → ℕ → Option EntityView
entity_view m entity =
    if is_some (m.bfq.parent entity) then Some (record {
      class = (member_of m.bfq entity).class;
      state = (member_of m.bfq entity).state;
      start = (member_of m.bfq entity).start;
      finish = (member_of m.bfq entity).finish;
      weight = (member_of m.bfq entity).weight;
      budget = m.bfq.budget entity;
      service = service_of (member_of m.bfq entity).state m.bfq;
    }) else None

-- the request at a place of a queue: its sectors, and how many bios it has; or that the queue has no such place (our profile)
abbrev pub view_in : List WholeRequest → ℕ → RequestView
view_in [] place = Past
view_in (request ∷ queue) zero = Queued (range_of request.bios) (length request.bios)
view_in (request ∷ queue) (suc place) = view_in queue place

-- a seat that is free has no queue to look at (our profile)
abbrev pub view_at : Option Seat → List WholeRequest → ℕ → RequestView
view_at None queue place = Free
view_at (Some seat) queue place = view_in queue place

-- what stands at a place of a seat's queue, in order of insertion (our profile)
abbrev pub request_view : Plain → ℕ → ℕ → RequestView
request_view m seat place = view_at (m.seat seat) (m.queue seat) place
