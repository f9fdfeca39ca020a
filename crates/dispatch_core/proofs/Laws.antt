-- Each step leaves a machine for later serials, and means what the plain step does.
use Rattle.std.proofs.Common.{◌≡◌, ℕ, ◌+◌, ◌-◌, ◌<◌, List, Option, Some, None, Bool, sym, ap, ◌∙◌, arith, length-set}
use Rattle.dispatch_core.proofs.Words.{Range, Op, Bio, Request, Seat, InService, Tables, queue_slots, bios_at, merge_place, WholeRequest, Plain, put, meaning, Limits, submitted, merge_in, queue_with, new_bio, unreaped, with_unreaped, WellFormed, IsSound, attached_tables, submitted_tables, joined_tables, reaped_tables, sent_tables}
use Rattle.process_queue.specs.declared.merge.Place.{Place}
use Rattle.plain.specs.Steps.Attach.{attached}
use Rattle.std.specs.Option.{option_map}
use Rattle.sector_core.specs.declared.class.Class.{Class}
use Rattle.dispatch_core.proofs.Sides.{CanAttach, CanSubmit, CanJoin, CanReap, CanSend}
use Rattle.dispatch_core.proofs.Bios.{attached-seated, attached-kept, attached-seat, submitted-seated, submitted-kept, submitted-seat, submitted-outbox, reaped-seated, reaped-kept, reaped-seat, reaped-outbox, sent-seated, sent-kept}
use Rattle.dispatch_core.proofs.QueueFacts.{whole_with}
use Rattle.dispatch_core.proofs.Merges.{merge_found, merge_some}
use Rattle.dispatch_core.proofs.Requeued.{requeued_still}
use Rattle.dispatch_core.proofs.Ruling.{IsYoung, ruled_like, ruled_attached, attached-bfq, put_set}
use Rattle.dispatch_core.proofs.Joined as join
use Rattle.dispatch_core.proofs.JoinedQueues as join_queue
use Rattle.dispatch_core.proofs.Queues.{whole, attached-placed, submitted-placed, submitted-queue, submitted-requeued, submitted-flight, reaped-placed, reaped-queue, reaped-requeued, reaped-flight, sent-placed, sent-queue, sent-flight}

-- a queue in service that is younger than the steps are many stays so
pub young_later : (n : ℕ) (o : Option InService) → IsYoung n o → IsYoung (n + 1) o
young_later n o young slot e = let h = young slot e in omega arith

-- serials that are earlier stay earlier
pub WellFormed-later : (l : Limits) (n : ℕ) (t : Tables) → WellFormed l n t → WellFormed l (n + 1) t
WellFormed-later l n t w = record {
  sized = w.sized;
  seated = record {
    early = λ k s e. let h = w.seated.early k s e in omega arith;
    apart = w.seated.apart;
    counted = w.seated.counted;
    left = w.seated.left;
  };
  kept = w.kept;
  placed = record {
    link = λ slot link e. let q = w.placed.link slot link e in record {
      early = let h = q.early in omega arith;
      within = q.within;
      request = q.request;
      here = q.here;
      entry = q.entry;
      sits = q.sits;
      session = q.session;
    };
    apart = w.placed.apart;
    again = w.placed.again;
    tag = λ tag issue e. let h = w.placed.tag tag issue e in (omega (arith, h.0), h.1);
    requeued = λ slot link e. let q = w.placed.requeued slot link e in requeued_still n t t slot link q q.here;
    once = w.placed.once;
    counted = w.placed.counted;
  };
  ruled = w.ruled;
  young = young_later n t.in_service w.young;
  first = let h = w.first in omega arith;
  served = w.served;
}

-- and the requests stay whole
pub IsSound-later : (l : Limits) (n : ℕ) (t : Tables) → IsSound l n t → IsSound l (n + 1) t
IsSound-later l n t h = (WellFormed-later l n t h.0, h.1)

pub attached-well : (l : Limits) (n : ℕ) (t : Tables) (seat group prio : ℕ) (class : Class) → WellFormed l n t → CanAttach t seat → group < 32 → WellFormed l (n + 1) (attached_tables l t n seat group prio class)
attached-well l n t seat group prio class w can there = record {
  sized = record {
    requests = w.sized.requests;
    bios = w.sized.bios;
    tags = w.sized.tags;
    links = w.sized.links;
    requeued = w.sized.requeued;
    outboxes = w.sized.outboxes;
    seats = length-set t.seats seat _ ∙ w.sized.seats;
    few_tags = w.sized.few_tags;
    few_requests = w.sized.few_requests;
    small_image = w.sized.small_image;
  };
  seated = attached-seated l n t seat group prio class w can;
  kept = attached-kept l n t seat group prio class w can;
  placed = attached-placed l n t seat group prio class w can;
  ruled = ruled_attached l n t seat group prio class w can.within there;
  young = young_later n t.in_service w.young;
  first = let h = w.first in omega arith;
  served = w.served;
}

pub attached-meaning : (l : Limits) (n : ℕ) (t : Tables) (seat group prio : ℕ) (class : Class) → WellFormed l n t → CanAttach t seat → group < 32
    → meaning (attached_tables l t n seat group prio class) ≡ attached l (meaning t) n seat group prio class
attached-meaning l n t seat group prio class w can there i = record {
  overlay = t.overlay;
  seat = attached-seat l n t seat group prio class w can i;
  queue = (meaning t).queue;
  requeued = (meaning t).requeued;
  outbox = (meaning t).outbox;
  flight = (meaning t).flight;
  frozen = t.frozen;
  served = t.served;
  head = put_set t.heads seat 0 0 (omega (arith, can.within, w.ruled.heads)) i;
  bfq = attached-bfq l n t seat group prio class w can.within there i;
  scheduler = t.scheduler;
}

pub submitted-well : (l : Limits) (n : ℕ) (t : Tables) (seat : ℕ) (entry : Seat) (slot place session : ℕ) (op : Op) (range : Range) (payload : List ℕ)
    → WellFormed l n t → CanSubmit l t seat entry slot place session op range payload → WellFormed l (n + 1) (submitted_tables t n seat entry slot place session op range payload)
submitted-well l n t seat entry slot place session op range payload w can = record {
  sized = record {
    requests = length-set t.requests slot _ ∙ w.sized.requests;
    bios = length-set t.bios place _ ∙ w.sized.bios;
    tags = w.sized.tags;
    links = length-set t.links slot _ ∙ w.sized.links;
    requeued = w.sized.requeued;
    outboxes = w.sized.outboxes;
    seats = length-set t.seats seat _ ∙ w.sized.seats;
    few_tags = w.sized.few_tags;
    few_requests = w.sized.few_requests;
    small_image = w.sized.small_image;
  };
  seated = submitted-seated l n t seat entry slot place session op range payload w can;
  kept = submitted-kept l n t seat entry slot place session op range payload w can;
  placed = submitted-placed l n t seat entry slot place session op range payload w can;
  ruled = ruled_like l t (submitted_tables t n seat entry slot place session op range payload) w.ruled;
  young = young_later n t.in_service w.young;
  first = let h = w.first in omega arith;
  served = w.served;
}

-- the plain machine after a bio was submitted that joins this, or nothing
abbrev queued_with : Plain → ℕ → ℕ → ℕ → Op → Range → List ℕ → Option (WholeRequest × Bool) → Plain
queued_with m n seat session op range payload found = record m {
  seat = put m.seat seat (option_map (with_unreaped (unreaped m seat + 1)) (m.seat seat));
  queue = put m.queue seat (queue_with session op (new_bio n range payload) found (m.queue seat));
}

pub submitted-meaning : (l : Limits) (n : ℕ) (t : Tables) (seat : ℕ) (entry : Seat) (slot place session : ℕ) (op : Op) (range : Range) (payload : List ℕ)
    → WellFormed l n t → CanSubmit l t seat entry slot place session op range payload → merge_in (meaning t) seat session op range ≡ None
    → meaning (submitted_tables t n seat entry slot place session op range payload) ≡ submitted (meaning t) n seat session op range payload
submitted-meaning l n t seat entry slot place session op range payload w can alone =
    let with_queue : Plain = record (meaning t) {
      seat = put (meaning t).seat seat (option_map (with_unreaped (unreaped (meaning t) seat + 1)) ((meaning t).seat seat));
      queue = put (meaning t).queue seat (queue_with session op (new_bio n range payload) None ((meaning t).queue seat));
    } in
    let changed : meaning (submitted_tables t n seat entry slot place session op range payload) ≡ with_queue = λ i. record {
      overlay = t.overlay;
      seat = submitted-seat l n t seat entry slot place session op range payload w can i;
      queue = submitted-queue l n t seat entry slot place session op range payload w can i;
      requeued = submitted-requeued l n t seat entry slot place session op range payload w can i;
      outbox = submitted-outbox l n t seat entry slot place session op range payload w can i;
      flight = submitted-flight l n t seat entry slot place session op range payload w can i;
      frozen = t.frozen;
      served = t.served;
      head = (meaning t).head;
      bfq = (meaning t).bfq;
      scheduler = t.scheduler;
    } in
    changed ∙ ap (queued_with (meaning t) n seat session op range payload) (sym alone)

pub joined-well : (l : Limits) (n : ℕ) (t : Tables) (seat : ℕ) (entry : Seat) (slot place session : ℕ) (op : Op) (range : Range) (payload : List ℕ) (request : Request) (front : Bool)
    → WellFormed l n t → CanJoin l t seat entry slot place session op range payload request → WellFormed l (n + 1) (joined_tables t n seat entry slot place request front range payload)
joined-well l n t seat entry slot place session op range payload request front w can = record {
  sized = record {
    requests = length-set t.requests slot _ ∙ w.sized.requests;
    bios = length-set t.bios place _ ∙ w.sized.bios;
    tags = w.sized.tags;
    links = w.sized.links;
    requeued = w.sized.requeued;
    outboxes = w.sized.outboxes;
    seats = length-set t.seats seat _ ∙ w.sized.seats;
    few_tags = w.sized.few_tags;
    few_requests = w.sized.few_requests;
    small_image = w.sized.small_image;
  };
  seated = join.seated l n t seat entry slot place session op range payload request front w can;
  kept = join.kept l n t seat entry slot place session op range payload request front w can;
  placed = join_queue.placed l n t seat entry slot place session op range payload request front w can;
  ruled = ruled_like l t (joined_tables t n seat entry slot place request front range payload) w.ruled;
  young = young_later n t.in_service w.young;
  first = let h = w.first in omega arith;
  served = w.served;
}

pub joined-meaning : (l : Limits) (n : ℕ) (t : Tables) (seat : ℕ) (entry : Seat) (place session : ℕ) (op : Op) (range : Range) (payload : List ℕ) (request : Request) (found : Place)
    → WellFormed l n t → CanJoin l t seat entry found.slot place session op range payload request
    → merge_place t.requests t.bios (queue_slots seat t.links) session op range ≡ Some found
    → meaning (joined_tables t n seat entry found.slot place request found.front range payload) ≡ submitted (meaning t) n seat session op range payload
joined-meaning l n t seat entry place session op range payload request found w can joins =
    let with_queue : Plain = queued_with (meaning t) n seat session op range payload (Some (whole_with t.bios request, found.front)) in
    let changed : meaning (joined_tables t n seat entry found.slot place request found.front range payload) ≡ with_queue = λ i. record {
      overlay = t.overlay;
      seat = join.seat_is l n t seat entry found.slot place session op range payload request found.front w can i;
      queue = join_queue.queue_is l n t seat entry found.slot place session op range payload request found.front w can (merge_found t seat session op range found joins) i;
      requeued = join_queue.requeued_is l n t seat entry found.slot place session op range payload request found.front w can i;
      outbox = join.outbox_is l n t seat entry found.slot place session op range payload request found.front w can i;
      flight = join_queue.flight_is l n t seat entry found.slot place session op range payload request found.front w can i;
      frozen = t.frozen;
      served = t.served;
      head = (meaning t).head;
      bfq = (meaning t).bfq;
      scheduler = t.scheduler;
    } in
    changed ∙ ap (queued_with (meaning t) n seat session op range payload) (sym (merge_some t seat session op range found joins request can.here))

pub reaped-well : (l : Limits) (n : ℕ) (t : Tables) (seat : ℕ) (entry : Seat) (place : ℕ) (rest : List ℕ) (bio : Bio) → WellFormed l n t → CanReap t seat entry place rest bio
    → WellFormed l (n + 1) (reaped_tables t seat entry place rest)
reaped-well l n t seat entry place rest bio w can = record {
  sized = record {
    requests = w.sized.requests;
    bios = length-set t.bios place _ ∙ w.sized.bios;
    tags = w.sized.tags;
    links = w.sized.links;
    requeued = w.sized.requeued;
    outboxes = length-set t.outboxes seat _ ∙ w.sized.outboxes;
    seats = length-set t.seats seat _ ∙ w.sized.seats;
    few_tags = w.sized.few_tags;
    few_requests = w.sized.few_requests;
    small_image = w.sized.small_image;
  };
  seated = reaped-seated l n t seat entry place rest bio w can;
  kept = reaped-kept l n t seat entry place rest bio w can;
  placed = reaped-placed l n t seat entry place rest bio w can;
  ruled = ruled_like l t (reaped_tables t seat entry place rest) w.ruled;
  young = young_later n t.in_service w.young;
  first = let h = w.first in omega arith;
  served = w.served;
}

pub sent-well : (l : Limits) (n : ℕ) (t : Tables) (seat slot tag : ℕ) (request : Request) → WellFormed l n t → CanSend l t seat slot tag request → WellFormed l (n + 1) (sent_tables t n seat slot tag)
sent-well l n t seat slot tag request w can = record {
  sized = record {
    requests = w.sized.requests;
    bios = w.sized.bios;
    tags = length-set t.tags tag _ ∙ w.sized.tags;
    links = length-set t.links slot _ ∙ w.sized.links;
    requeued = w.sized.requeued;
    outboxes = w.sized.outboxes;
    seats = w.sized.seats;
    few_tags = w.sized.few_tags;
    few_requests = w.sized.few_requests;
    small_image = w.sized.small_image;
  };
  seated = sent-seated l n t seat slot tag request w can;
  kept = sent-kept l n t seat slot tag request w can;
  placed = sent-placed l n t seat slot tag request w can;
  ruled = ruled_like l t (sent_tables t n seat slot tag) w.ruled;
  young = young_later n t.in_service w.young;
  first = let h = w.first in omega arith;
  served = can.within;
}

pub reaped-meaning : (l : Limits) (n : ℕ) (t : Tables) (seat : ℕ) (entry : Seat) (place : ℕ) (rest : List ℕ) (bio : Bio) → WellFormed l n t → CanReap t seat entry place rest bio
    → meaning (reaped_tables t seat entry place rest) ≡ record (meaning t) {
      seat = put (meaning t).seat seat (option_map (with_unreaped (unreaped (meaning t) seat - 1)) ((meaning t).seat seat));
      outbox = put (meaning t).outbox seat (bios_at t.bios rest);
    }
reaped-meaning l n t seat entry place rest bio w can i = record {
  overlay = t.overlay;
  seat = reaped-seat l n t seat entry place rest bio w can i;
  queue = reaped-queue l n t seat entry place rest bio w can i;
  requeued = reaped-requeued l n t seat entry place rest bio w can i;
  outbox = reaped-outbox l n t seat entry place rest bio w can i;
  flight = reaped-flight l n t seat entry place rest bio w can i;
  frozen = t.frozen;
  served = t.served;
  head = (meaning t).head;
  bfq = (meaning t).bfq;
  scheduler = t.scheduler;
}

pub sent-meaning : (l : Limits) (n : ℕ) (t : Tables) (seat slot tag : ℕ) (request : Request) → WellFormed l n t → CanSend l t seat slot tag request
    → meaning (sent_tables t n seat slot tag) ≡ record (meaning t) {
      queue = put (meaning t).queue seat ((meaning (sent_tables t n seat slot tag)).queue seat);
      flight = put (meaning t).flight tag (Some (record { issue = n; request = whole t request }));
      served = seat;
    }
sent-meaning l n t seat slot tag request w can i = record {
  overlay = t.overlay;
  seat = (meaning t).seat;
  queue = sent-queue l n t seat slot tag request w can i;
  requeued = (meaning t).requeued;
  outbox = (meaning t).outbox;
  flight = sent-flight l n t seat slot tag request w can i;
  frozen = t.frozen;
  served = seat;
  head = (meaning t).head;
  bfq = (meaning t).bfq;
  scheduler = t.scheduler;
}
