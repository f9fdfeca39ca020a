-- What each step does to the tables, place by place (our profile).
use Rattle.std.specs.Prelude.{ℕ, ◌+◌, ◌-◌, nat_le, Bool, true, false, List, [], ◌∷◌, ◌++◌, length, Option, None, Some, unwrap_or, slice_set, if◌then◌else◌}
use Rattle.std.specs.Option.{option_map_or}
use Rattle.sector_core.specs.declared.range.Range.{Range}
use Rattle.sector_core.specs.declared.bio.Op.{Op}
use Rattle.sector_core.specs.declared.bio.BioFields.{BioFields as Bio}
use Rattle.sector_core.specs.declared.bio.Effect.{Effect}
use Rattle.sector_core.specs.declared.class.Class.{Class}
use Rattle.request_pool.specs.declared.RequestFields.{RequestFields as Request}
use Rattle.plain.specs.declared.seat.Seat.{Seat}
use Rattle.change_record.specs.Tables.{Tables}
use Rattle.change_record.specs.Exchange.{tree_at}
use Rattle.plain.specs.Classes.{with_member}
use Rattle.plain.specs.declared.member.State.TheVariants.{Idle}
use Rattle.process_queue.specs.Merge.{bios_at}
use Rattle.change_record.specs.Machine.{outbox_at}
use Rattle.plain.specs.Opening.{Limits}
use Rattle.plain.specs.Steps.Attach.{prio_weight}
use Rattle.plain.specs.Sessions.{with_unreaped}
use Rattle.plain.specs.Steps.Submit.{new_bio}
use Rattle.plain.specs.Steps.Finish.{after_effect, completed}
use Rattle.dispatch_core.specs.WellFormed.{at}

abbrev pub unreaped_at : Tables → ℕ → ℕ
unreaped_at t seat = option_map_or (λ s. s.unreaped) (at t.seats seat) 0

-- an entity of this class and weight in a group, with its times at the first virtual time
abbrev pub entered : Limits → Tables → ℕ → ℕ → Class → ℕ → Tables
entered l t entity group class weight = record t {
  parents = slice_set t.parents entity (Some group);
  trees = slice_set t.trees group (with_member (tree_at t group) entity (Some (record { class = class; state = Idle; start = l.first_vtime; finish = l.first_vtime; weight = weight })));
  weights = slice_set t.weights entity weight;
}

abbrev pub attached_tables : Limits → Tables → ℕ → ℕ → ℕ → ℕ → Class → Tables
attached_tables l t n seat group prio class = record (entered l t seat group class (prio_weight prio)) {
  seats = slice_set t.seats seat (Some (record { session = n; prio = prio; unreaped = 0; leaving = false }));
  heads = slice_set t.heads seat 0;
  budgets = slice_set t.budgets seat l.first_budget;
}

-- the bio goes into one slot, the request into another, and that slot to the end of the queue
abbrev pub submitted_tables : Tables → ℕ → ℕ → Seat → ℕ → ℕ → ℕ → Op → Range → List ℕ → Tables
submitted_tables t n seat entry slot place session op range payload = record t {
  bios = slice_set t.bios place (Some (new_bio n range payload));
  requests = slice_set t.requests slot (Some (record { session = session; op = op; bios = record { items = place ∷ [] } }));
  links = slice_set t.links slot (Some (record { seat = seat; serial = n }));
  seats = slice_set t.seats seat (Some (with_unreaped (entry.unreaped + 1) entry));
}

-- the slots of a request's bios with one more, at the front or at the end
abbrev pub joined_slots : Bool → ℕ → List ℕ → List ℕ
joined_slots front place slots = if front then place ∷ slots else slots ++ place ∷ []

-- the request with that slot
abbrev pub joined_request : Bool → ℕ → Request → Request
joined_request front place request = record { session = request.session; op = request.op; bios = record { items = joined_slots front place request.bios.items } }

-- the bio goes into a slot, and that slot to the front or the end of the bios of a queued request
abbrev pub joined_tables : Tables → ℕ → ℕ → Seat → ℕ → ℕ → Request → Bool → Range → List ℕ → Tables
joined_tables t n seat entry slot place request front range payload = record t {
  bios = slice_set t.bios place (Some (new_bio n range payload));
  requests = slice_set t.requests slot (Some (joined_request front place request));
  seats = slice_set t.seats seat (Some (with_unreaped (entry.unreaped + 1) entry));
}

abbrev pub reaped_tables : Tables → ℕ → Seat → ℕ → List ℕ → Tables
reaped_tables t seat entry place rest = record t {
  outboxes = slice_set t.outboxes seat (record { items = rest });
  bios = slice_set t.bios place None;
  seats = slice_set t.seats seat (Some (with_unreaped (entry.unreaped - 1) entry));
}

abbrev pub sent_tables : Tables → ℕ → ℕ → ℕ → ℕ → Tables
sent_tables t n seat slot tag = record t {
  links = slice_set t.links slot None;
  tags = slice_set t.tags tag (Some (record { issue = n; slot = slot }));
  served = seat;
}

-- the first of the dispatch list leaves it, and a tag bears it
abbrev pub sent_again_tables : Tables → ℕ → ℕ → ℕ → Tables
sent_again_tables t n slot tag = record t {
  requeued = slice_set t.requeued slot None;
  tags = slice_set t.tags tag (Some (record { issue = n; slot = slot }));
}

-- a request goes to the end of the dispatch list
abbrev pub requeued_tables : Tables → ℕ → ℕ → ℕ → Tables
requeued_tables t n slot tag = record t {
  tags = slice_set t.tags tag None;
  requeued = slice_set t.requeued slot (Some (record { seat = 0; serial = n }));
}

-- under bfq the queue's head is the end of what was sent
abbrev pub sent_next_tables : Tables → ℕ → ℕ → ℕ → ℕ → ℕ → Tables
sent_next_tables t n seat slot tag head = record t {
  links = slice_set t.links slot None;
  tags = slice_set t.tags tag (Some (record { issue = n; slot = slot }));
  heads = slice_set t.heads seat head;
}

-- the slots with these bios in them
abbrev pub with_bios : List (Option Bio) → List ℕ → List Bio → List (Option Bio)
with_bios table [] bios = table
with_bios table (slot ∷ slots) [] = table
with_bios table (slot ∷ slots) (bio ∷ bios) = with_bios (slice_set table slot (Some bio)) slots bios

abbrev pub finished_tables : Tables → ℕ → ℕ → ℕ → List ℕ → Effect → Tables
finished_tables t tag slot seat slots effect = record t {
  overlay = after_effect effect t.overlay (bios_at t.bios slots);
  bios = with_bios t.bios slots (completed effect t.overlay (bios_at t.bios slots));
  requests = slice_set t.requests slot None;
  tags = slice_set t.tags tag None;
  outboxes = slice_set t.outboxes seat (record { items = outbox_at t.outboxes seat ++ slots });
}

-- the slots without the bios in them
abbrev pub without_bios : List (Option Bio) → List ℕ → List (Option Bio)
without_bios table [] = table
without_bios table (slot ∷ slots) = without_bios (slice_set table slot None) slots

-- a seat that is leaving, with fewer bios
abbrev pub leaving_entry : Seat → ℕ → Seat
leaving_entry entry count = record entry { unreaped = entry.unreaped - count; leaving = true }

-- its session and its entity are gone
abbrev pub gone_tables : Tables → ℕ → Tables
gone_tables t seat = record t {
  seats = slice_set t.seats seat None;
  trees = slice_set t.trees (unwrap_or (at t.parents seat) 0) (with_member (tree_at t (unwrap_or (at t.parents seat) 0)) seat None);
  parents = slice_set t.parents seat None;
}

-- so many bios of a session that leaves are dropped; with the last of them its seat is free
abbrev pub fewer_tables : Tables → ℕ → Seat → ℕ → Tables
fewer_tables t seat entry count =
    if nat_le entry.unreaped count then gone_tables t seat else record t { seats = slice_set t.seats seat (Some (leaving_entry entry count)) }

-- a session leaves: the bios of its outbox are dropped
abbrev pub left_tables : Tables → ℕ → Seat → List ℕ → Tables
left_tables t seat entry slots = fewer_tables (record t {
  bios = without_bios t.bios slots;
  outboxes = slice_set t.outboxes seat (record { items = [] });
}) seat entry (length slots)

-- a request of a session that leaves is finished, and its bios are dropped
abbrev pub dropped_tables : Tables → ℕ → ℕ → ℕ → Seat → List ℕ → Effect → Tables
dropped_tables t tag slot seat entry slots effect = fewer_tables (record t {
  overlay = after_effect effect t.overlay (bios_at t.bios slots);
  bios = without_bios t.bios slots;
  requests = slice_set t.requests slot None;
  tags = slice_set t.tags tag None;
}) seat entry (length slots)

-- a request is finished: its bios go to the outbox of its session's seat, or are dropped where the session leaves
abbrev pub ended_tables : Tables → ℕ → ℕ → ℕ → Seat → List ℕ → Effect → Tables
ended_tables t tag slot seat entry slots effect =
    if entry.leaving then dropped_tables t tag slot seat entry slots effect else finished_tables t tag slot seat slots effect
