-- Queues, tags and requests through each step.
use Rattle.std.proofs.Common.{◌≡◌, ◌≢◌, ℕ, zero, suc, ◌+◌, ◌-◌, ◌*◌, ◌<◌, ◌≤◌, List, [], ◌∷◌, ◌++◌, length, drop, take, Option, Some, None, true, false, not, is_some, IsSome, All, inl, inr, ◌==◌, set, nat_le, count_by, refl, sym, ap, ◌∙◌, subst, arith, le-leb, eq-eqb, ne_eqb}
use Rattle.std.specs.List.{filter_map, cons_option, AllByRecursion}
use Rattle.std.proofs.Math.Path.{fun_ext}
use Rattle.std.proofs.lemmas.Bool.{lt-leb, cases_eq, cond-true, cond-false}
use Rattle.std.proofs.lemmas.List.{get_or-set_same, get_or-set_other}
use Rattle.std.proofs.lemmas.Option.{same_Some}
use Rattle.std.proofs.lemmas.List.Elements.{All-from_recursion, recursion_from_All, All-append, All-drop, All-take}
use Rattle.std.proofs.lemmas.List.Sums.{sum_by-set}
use Rattle.std.specs.Option.{option_map, is_none}
use Rattle.dispatch_core.proofs.Words.{Range, Op, Bio, Effect, Request, Issue, Link, queue_slots, first_slot, first_in, is_empty, numbers, seats, Seat, Tables, bios_at, WholeRequest, Flight, put, meaning, whole_at, Limits, requests_of, with_unreaped, at, one, bears, WellFormed, Placed, IsQueued, attached_tables, submitted_tables, reaped_tables, sent_tables, finished_tables}
use Rattle.sector_core.specs.Table.{AllTaken, IsFirstFree}
use Rattle.sector_core.specs.declared.class.Class.{Class}
use Rattle.soft_queue.specs.Turn.{is_waiting, next_seat}
use Rattle.plain.specs.Steps.Dispatch.{next_queue, lowest_free}
use Rattle.dispatch_core.specs.WellFormed.{taken}
use Rattle.dispatch_core.proofs.Sides.{CanAttach, CanSubmit, CanReap, CanSend, CanFinish}
use Rattle.dispatch_core.proofs.QueueLists.{within_of, freed, kept_of, same_queue, queue-put_last, queue-put_other, queue-taken_first, queue-taken_other, first_linked, queue_empty, find_agree, find_first, find_none, find_passes}
use Rattle.dispatch_core.proofs.Counts.{taken_all, taken_less, taken-set}
use Rattle.dispatch_core.proofs.Requeued.{requeued_still, requeued_same, requeued_is, requeued_apart, unrequeued_free, unrequeued_borne}
use Rattle.dispatch_core.proofs.QueueFacts.{put_is, some_of, is_some_of, set_cases, bios_at_other, bios_at_with, whole_same, flight_of, flight_same, unnamed_free, unnamed_outbox, unnamed_other, unlinked_free, unlinked_borne, other_slot, borne, linked_some, queued_is, flight_some, in_flight_is}

-- a request as the plain machine has it
abbrev pub whole : Tables → Request → WholeRequest
whole t r = record { session = r.session; op = r.op; bios = bios_at t.bios r.bios.items }

-- what is there is not nothing
not_none : {A : Type 0} (o : Option A) → is_some o ≡ true → is_none o ≡ false
not_none None h = cc
not_none (Some v) h = refl

-- the flight of a tag whose issue and request are known
pub flight_borne : (t : Tables) (o : Option Issue) (issue : Issue) (request : Request) → o ≡ Some issue → at t.requests issue.slot ≡ Some request
    → flight_of t.requests t.bios o ≡ Some (record { issue = issue.issue; request = whole t request })
flight_borne t o issue request here found =
    let f : Option Request → Option Flight = λ r. option_map (λ (r : WholeRequest). let w : Flight = record { issue = issue.issue; request = r } in w) (option_map (whole t) r) in
    ap (flight_of t.requests t.bios) here ∙ ap f found

-- a free tag bears nothing
pub no_flight : (t : Tables) (tag : ℕ) → at t.tags tag ≡ None → (meaning t).flight tag ≡ None
no_flight t tag none = ap (flight_of t.requests t.bios) none

-- where no request is free, those queued and in flight are as many as there may be
pub requests_full : (l : Limits) (n : ℕ) (t : Tables) → WellFormed l n t → AllTaken t.requests → nat_le l.requests (requests_of l (meaning t)) ≡ true
requests_full l n t w all =
    let e : taken t.requests ≡ length t.requests = taken_all t.requests all in
    le-leb l.requests (requests_of l (meaning t))
    (omega (arith, e, w.sized.requests, w.placed.counted, queued_is n t w.placed, in_flight_is l n t w.placed w.sized.tags, requeued_is n t w.placed))

-- and where one is free, they are fewer
pub requests_free : (l : Limits) (n : ℕ) (t : Tables) (slot : ℕ) → WellFormed l n t → IsFirstFree t.requests slot → nat_le l.requests (requests_of l (meaning t)) ≡ false
requests_free l n t slot w free =
    let h : taken t.requests < length t.requests = taken_less t.requests slot free.within free.is_free in
    lt-leb l.requests (requests_of l (meaning t))
    (omega (arith, h, w.sized.requests, w.placed.counted, queued_is n t w.placed, in_flight_is l n t w.placed w.sized.tags, requeued_is n t w.placed))

-- the next queue of the plain machine is that of the next waiting seat
pub next_queue_is : (l : Limits) (n : ℕ) (t : Tables) → WellFormed l n t → next_queue (meaning t) ≡ next_seat t.served t.links
next_queue_is l n t w =
    find_agree (λ seat. not (is_empty ((meaning t).queue seat))) (is_waiting t.links) (drop (t.served + 1) seats ++ take (t.served + 1) seats)
    (λ seat. ap not (queue_empty (whole_at t.requests t.bios) seat t.links (linked_some n t w.placed)))

-- a taken tag bears something
taken_flight : (n : ℕ) (t : Tables) (tag : ℕ) → Placed n t → IsSome (at t.tags tag) → is_none ((meaning t).flight tag) ≡ false
taken_flight n t tag p h = not_none ((meaning t).flight tag) (flight_some n t tag p ∙ h)

-- where no tag is free, the plain machine has none free
pub no_tag_free : (l : Limits) (n : ℕ) (t : Tables) → WellFormed l n t → AllTaken t.tags → lowest_free l (meaning t) ≡ None
no_tag_free l n t w all =
    find_none (λ tag. is_none ((meaning t).flight tag)) 0 l.tags
    (λ tag _ h. taken_flight n t tag w.placed (all tag (omega (arith, h, w.sized.tags))))

-- the first free tag is its lowest free one
pub tag_free : (l : Limits) (n : ℕ) (t : Tables) (tag : ℕ) → WellFormed l n t → IsFirstFree t.tags tag → lowest_free l (meaning t) ≡ Some tag
tag_free l n t tag w free =
    find_first (λ tag. is_none ((meaning t).flight tag)) 0 l.tags tag (omega arith) (omega (arith, free.within, w.sized.tags)) (ap is_none (no_flight t tag free.is_free))
    (λ j _ h. taken_flight n t j w.placed (free.lower j h))

-- a list that is not empty has a first element
first_some : (xs : List ℕ) → not (is_empty xs) ≡ true → (slot : ℕ) × (first_in xs ≡ Some slot)
first_some [] h = cc
first_some (x ∷ xs) h = (x, refl)

-- the numbers of a run are below its end
numbers_below : (from count bound : ℕ) → from + count ≤ bound → AllByRecursion (λ s. s < bound) (numbers from count)
numbers_below from zero bound h = tt
numbers_below from (suc count) bound h = (omega arith, numbers_below (from + 1) count bound (omega arith))

-- and so are those of a turn
turn_below : (count k : ℕ) → AllByRecursion (λ s. s < count) (drop k (numbers 0 count) ++ take k (numbers 0 count))
turn_below count k =
    let P : ℕ → Type 0 = λ s. s < count in
    let each : All P (numbers 0 count) = All-from_recursion P (numbers 0 count) (numbers_below 0 count count (omega arith)) in
    recursion_from_All P (drop k (numbers 0 count) ++ take k (numbers 0 count))
    (All-append P (drop k (numbers 0 count)) (take k (numbers 0 count)) (All-drop P k (numbers 0 count) each) (All-take P k (numbers 0 count) each))

-- a seat that waits has a first slot, and a request in it
pub first_found : (l : Limits) (n : ℕ) (t : Tables) (seat : ℕ) → WellFormed l n t → next_seat t.served t.links ≡ Some seat
    → (slot : ℕ) × (first_slot seat t.links ≡ Some slot) × (request : Request) × (at t.requests slot ≡ Some request) × (seat < 16)
first_found l n t seat w next =
    let passed : (is_waiting t.links seat ≡ true) × (seat < 16) =
    find_passes (is_waiting t.links) (λ s. s < 16) (drop (t.served + 1) seats ++ take (t.served + 1) seats) seat (turn_below 16 (t.served + 1)) next in
    let first : (slot : ℕ) × (first_slot seat t.links ≡ Some slot) = first_some (queue_slots seat t.links) passed.0 in
    let linked : (link : Link) × (at t.links first.0 ≡ Some link) × (link.seat ≡ seat) = first_linked seat first.0 t.links first.1 in
    let queued_at : IsQueued n t first.0 linked.0 = w.placed.link first.0 linked.0 linked.1 in
    (first.0, first.1, queued_at.request, queued_at.here, passed.1)

-- a taken tag bears the request of its slot
pub flight_is : (l : Limits) (n : ℕ) (t : Tables) (tag : ℕ) (issue : Issue) → WellFormed l n t → at t.tags tag ≡ Some issue
    → (request : Request) × (at t.requests issue.slot ≡ Some request) × ((meaning t).flight tag ≡ Some (record { issue = issue.issue; request = whole t request }))
flight_is l n t tag issue w here =
    let found : (request : Request) × (at t.requests issue.slot ≡ Some request) = some_of (at t.requests issue.slot) (w.placed.tag tag issue here).1 in
    (found.0, found.1, flight_borne t (at t.tags tag) issue found.0 here found.1)

-- Attach.

-- a session that still sits at its seat
pub record IsKept (t now_tables : Tables) (k : ℕ) (s : Seat) : Type 0 where
  pub now : Seat
  pub there : at now_tables.seats k ≡ Some now
  pub session : now.session ≡ s.session

-- a link stays one of a queued request while its request stays and the sessions stay at their seats
pub moved : (n : ℕ) (t u : Tables) (slot : ℕ) (link : Link) → IsQueued n t slot link → at u.requests slot ≡ at t.requests slot
    → ((k : ℕ) (s : Seat) → at t.seats k ≡ Some s → IsKept t u k s) → IsQueued (n + 1) u slot link
moved n t u slot link q e seats =
    let k : IsKept t u link.seat q.entry = seats link.seat q.entry q.sits in
    let early : link.serial < n = q.early in
    record {
      early = omega (arith, early);
      within = q.within;
      request = q.request;
      here = e ∙ q.here;
      entry = k.now;
      sits = k.there;
      session = k.session ∙ q.session;
    }

-- the entry of a seat with another count is of the same session
pub counted_again : (t u : Tables) (seat : ℕ) (entry : Seat) (count : ℕ) → at t.seats seat ≡ Some entry → u.seats ≡ set t.seats seat (Some (with_unreaped count entry))
    → (k : ℕ) (s : Seat) → at t.seats k ≡ Some s → IsKept t u k s
counted_again t u seat entry count sits same k s e = elim (cases_eq k seat) [
  | inl here ↦
      let f : at t.seats seat ≡ Some s = sym (ap (at t.seats) here) ∙ e in
      let g : s ≡ entry = cc in
      record {
        now = with_unreaped count entry;
        there = ap (λ l. at l k) same ∙ ap (at (set t.seats seat (Some (with_unreaped count entry)))) here
            ∙ get_or-set_same t.seats seat (Some (with_unreaped count entry)) None (within_of t.seats seat entry sits);
        session = ap (λ (x : Seat). x.session) (sym g);
      }
  | inr other ↦ record { now = s; there = ap (λ l. at l k) same ∙ get_or-set_other t.seats seat k (Some (with_unreaped count entry)) None other ∙ e; session = refl }
]

-- a new session moves no request
pub attached-placed : (l : Limits) (n : ℕ) (t : Tables) (seat group prio : ℕ) (class : Class) → WellFormed l n t → CanAttach t seat → Placed (n + 1) (attached_tables l t n seat group prio class)
attached-placed l n t seat group prio class w can =
    let same : (k : ℕ) (s : Seat) → at t.seats k ≡ Some s → IsKept t (attached_tables l t n seat group prio class) k s = λ k s e. record {
      now = s;
      there = get_or-set_other t.seats seat k _ None (λ f. let g : at t.seats k ≡ None = ap (at t.seats) f ∙ can.free in cc) ∙ e;
      session = refl;
    } in
    record {
      link = λ slot link e. moved n t (attached_tables l t n seat group prio class) slot link (w.placed.link slot link e) refl same;
      apart = w.placed.apart;
      again = w.placed.again;
      requeued = λ slot link e. let q = w.placed.requeued slot link e in requeued_still n t (attached_tables l t n seat group prio class) slot link q q.here;
      tag = λ tag issue e. let h = w.placed.tag tag issue e in (omega (arith, h.0), h.1);
      once = w.placed.once;
      counted = w.placed.counted;
    }

-- Submit.

-- the new request is queued, and the others stay where they are
pub submitted-placed : (l : Limits) (n : ℕ) (t : Tables) (seat : ℕ) (entry : Seat) (slot place session : ℕ) (op : Op) (range : Range) (payload : List ℕ)
    → WellFormed l n t → CanSubmit l t seat entry slot place session op range payload → Placed (n + 1) (submitted_tables t n seat entry slot place session op range payload)
submitted-placed l n t seat entry slot place session op range payload w can =
    let u : Tables = submitted_tables t n seat entry slot place session op range payload in
    let link_new : Link = record { seat = seat; serial = n } in
    let request_new : Request = record { session = session; op = op; bios = record { items = place ∷ [] } } in
    let entry_new : Seat = with_unreaped (entry.unreaped + 1) entry in
    let free : (at t.links slot ≡ None) × (count_by (bears slot) t.tags ≡ 0) = unlinked_free n t slot w.placed can.slot_free in
    let none : at t.requeued slot ≡ None = unrequeued_free n t slot w.placed can.slot_free in
    let hl : slot < length t.links = omega (arith, can.slot_within, w.sized.links) in
    let hr : slot < length t.requests = omega (arith, can.slot_within, w.sized.requests) in
    let queued_new : IsQueued (n + 1) u slot link_new = record {
      early = omega arith;
      within = can.within;
      request = request_new;
      here = get_or-set_same t.requests slot (Some request_new) None hr;
      entry = entry_new;
      sits = get_or-set_same t.seats seat (Some entry_new) None (within_of t.seats seat entry can.sits);
      session = can.session_is;
    } in
    record {
      link = λ k link e. elim (set_cases t.links slot k (Some link_new) link hl e) [
        | inl g ↦
            let P : Link → Type 0 = λ x. IsQueued (n + 1) u slot x in
            let Q : ℕ → Type 0 = λ i. IsQueued (n + 1) u i link in
            let same : link_new ≡ link = same_Some link_new link g.1 in
            subst Q (sym g.0) (subst P same queued_new)
        | inr g ↦
            moved n t u k link (w.placed.link k link g.1) (get_or-set_other t.requests slot k (Some request_new) None g.0)
            (counted_again t u seat entry (entry.unreaped + 1) can.sits refl)
      ];
      apart = λ i j a b e f same. elim (set_cases t.links slot i (Some link_new) a hl e) [
        | inl g ↦ elim (set_cases t.links slot j (Some link_new) b hl f) [
          | inl h ↦ g.0 ∙ sym h.0
          | inr h ↦
              let x : link_new ≡ a = same_Some link_new a g.1 in
              let y : n ≡ a.serial = ap (λ (m : Link). m.serial) x in
              let z : b.serial < n = (w.placed.link j b h.1).early in
              absurd (omega (arith, y, z, same))
        ]
        | inr g ↦ elim (set_cases t.links slot j (Some link_new) b hl f) [
          | inl h ↦
              let x : link_new ≡ b = same_Some link_new b h.1 in
              let y : n ≡ b.serial = ap (λ (m : Link). m.serial) x in
              let z : a.serial < n = (w.placed.link i a g.1).early in
              absurd (omega (arith, y, z, same))
          | inr h ↦ w.placed.apart i j a b g.1 h.1 same
        ]
      ];
      again = w.placed.again;
      requeued = λ k link e.
          let q = w.placed.requeued k link e in
          let some : IsSome (at t.requests k) = q.here in
          requeued_still n t u k link q (ap is_some (get_or-set_other t.requests slot k (Some request_new) None (requeued_apart t slot k link none e)) ∙ some);
      tag = λ tag issue e.
          let h = w.placed.tag tag issue e in
          let some : IsSome (at t.requests issue.slot) = h.1 in
          let other : issue.slot ≢ slot = λ f. let g : at t.requests issue.slot ≡ None = ap (at t.requests) f ∙ can.slot_free in cc in
          (omega (arith, h.0), ap is_some (get_or-set_other t.requests slot issue.slot (Some request_new) None other) ∙ some);
      once = λ k. elim (cases_eq k slot) [
        | inl same ↦
            let a : one (at u.links k) ≡ 1 = ap one (ap (at u.links) same ∙ get_or-set_same t.links slot (Some link_new) None hl) in
            let b : one (at u.requests k) ≡ 1 = ap one (ap (at u.requests) same ∙ get_or-set_same t.requests slot (Some request_new) None hr) in
            let c : count_by (bears k) t.tags ≡ 0 = ap (λ i. count_by (bears i) t.tags) same ∙ free.1 in
            let d : one (at t.requeued k) ≡ 0 = ap one (ap (at t.requeued) same ∙ none) in
            omega (arith, a, b, c, d)
        | inr other ↦
            ap (λ o. count_by (bears k) t.tags + one o + one (at t.requeued k)) (get_or-set_other t.links slot k (Some link_new) None other) ∙ w.placed.once k
            ∙ sym (ap one (get_or-set_other t.requests slot k (Some request_new) None other))
      ];
      counted =
          let a : one (at t.requests slot) ≡ 0 = ap one can.slot_free in
          let b : one (at t.links slot) ≡ 0 = ap one free.0 in
          omega (arith, a, b, taken-set t.requests slot (Some request_new) hr, taken-set t.links slot (Some link_new) hl, w.placed.counted);
    }

-- a request in another slot stays as it was
submitted-whole : (l : Limits) (n : ℕ) (t : Tables) (seat : ℕ) (entry : Seat) (slot place session : ℕ) (op : Op) (range : Range) (payload : List ℕ)
    → WellFormed l n t → CanSubmit l t seat entry slot place session op range payload → (k : ℕ) → k ≢ slot
    → whole_at (submitted_tables t n seat entry slot place session op range payload).requests (submitted_tables t n seat entry slot place session op range payload).bios k
    ≡ whole_at t.requests t.bios k
submitted-whole l n t seat entry slot place session op range payload w can k other =
    whole_same t.requests _ t.bios _ k (get_or-set_other t.requests slot k _ None other)
    (λ r e. bios_at_other t.bios place _ r.bios.items (unnamed_free l t place k r w.kept can.place_free e))

-- the new request is of the new bio
submitted-new : (l : Limits) (n : ℕ) (t : Tables) (seat : ℕ) (entry : Seat) (slot place session : ℕ) (op : Op) (range : Range) (payload : List ℕ)
    → WellFormed l n t → CanSubmit l t seat entry slot place session op range payload
    → whole_at (submitted_tables t n seat entry slot place session op range payload).requests (submitted_tables t n seat entry slot place session op range payload).bios slot
    ≡ Some (record { session = session; op = op; bios = record { serial = n; range = range; payload = payload; result = None } ∷ [] })
submitted-new l n t seat entry slot place session op range payload w can =
    let u : Tables = submitted_tables t n seat entry slot place session op range payload in
    let bio : Bio = record { serial = n; range = range; payload = payload; result = None } in
    let most : place < 32 * seat + 32 = can.place_of.most in
    let there : at u.bios place ≡ Some bio = get_or-set_same t.bios place (Some bio) None (omega (arith, most, can.within, w.sized.bios)) in
    ap (option_map (whole u)) (get_or-set_same t.requests slot _ None (omega (arith, can.slot_within, w.sized.requests)))
    ∙ ap (λ o. Some (let x : WholeRequest = record { session = session; op = op; bios = cons_option o [] } in x)) there

-- the new request is the last of its queue
pub submitted-queue : (l : Limits) (n : ℕ) (t : Tables) (seat : ℕ) (entry : Seat) (slot place session : ℕ) (op : Op) (range : Range) (payload : List ℕ)
    → WellFormed l n t → CanSubmit l t seat entry slot place session op range payload
    → (meaning (submitted_tables t n seat entry slot place session op range payload)).queue
    ≡ put (meaning t).queue seat ((meaning t).queue seat ++ record { session = session; op = op; bios = record { serial = n; range = range; payload = payload; result = None } ∷ [] } ∷ [])
submitted-queue l n t seat entry slot place session op range payload w can =
    let u : Tables = submitted_tables t n seat entry slot place session op range payload in
    let link : Link = record { seat = seat; serial = n } in
    let new : WholeRequest = record { session = session; op = op; bios = record { serial = n; range = range; payload = payload; result = None } ∷ [] } in
    let free : at t.links slot ≡ None = (unlinked_free n t slot w.placed can.slot_free).0 in
    let within : slot < length t.links = omega (arith, can.slot_within, w.sized.links) in
    let same : (q : ℕ) → filter_map (whole_at u.requests u.bios) (queue_slots q t.links) ≡ (meaning t).queue q = λ q.
    same_queue (whole_at u.requests u.bios) (whole_at t.requests t.bios) q t.links (λ k m e _.
    submitted-whole l n t seat entry slot place session op range payload w can k (λ f. let g : at t.links k ≡ None = ap (at t.links) f ∙ free in cc)) in
    put_is (meaning t).queue (meaning u).queue seat ((meaning t).queue seat ++ new ∷ [])
    (queue-put_last (whole_at u.requests u.bios) new seat slot t.links link within free (λ j m e. (w.placed.link j m e).early) refl
    (submitted-new l n t seat entry slot place session op range payload w can)
    ∙ ap (λ xs. xs ++ new ∷ []) (same seat))
    (λ q other.
    ap (filter_map (whole_at u.requests u.bios)) (queue-put_other q slot t.links link within free
    (λ j m e f. let h : m.serial < n = (w.placed.link j m e).early in omega (arith, h, f)) (λ f. other (sym f)))
    ∙ same q)

-- the dispatch list stays
pub submitted-requeued : (l : Limits) (n : ℕ) (t : Tables) (seat : ℕ) (entry : Seat) (slot place session : ℕ) (op : Op) (range : Range) (payload : List ℕ)
    → WellFormed l n t → CanSubmit l t seat entry slot place session op range payload
    → (meaning (submitted_tables t n seat entry slot place session op range payload)).requeued ≡ (meaning t).requeued
submitted-requeued l n t seat entry slot place session op range payload w can =
    requeued_same t (submitted_tables t n seat entry slot place session op range payload) refl (λ k link e.
    submitted-whole l n t seat entry slot place session op range payload w can k (requeued_apart t slot k link (unrequeued_free n t slot w.placed can.slot_free) e))

-- what is in flight stays
pub submitted-flight : (l : Limits) (n : ℕ) (t : Tables) (seat : ℕ) (entry : Seat) (slot place session : ℕ) (op : Op) (range : Range) (payload : List ℕ)
    → WellFormed l n t → CanSubmit l t seat entry slot place session op range payload
    → (meaning (submitted_tables t n seat entry slot place session op range payload)).flight ≡ (meaning t).flight
submitted-flight l n t seat entry slot place session op range payload w can =
    fun_ext (λ tag. flight_same t.requests _ t.bios _ (at t.tags tag) (λ issue e.
    submitted-whole l n t seat entry slot place session op range payload w can issue.slot (λ f.
    let g : at t.requests issue.slot ≡ None = ap (at t.requests) f ∙ can.slot_free in
    let h : IsSome (at t.requests issue.slot) = (w.placed.tag tag issue e).1 in
    cc)))

-- Reap.

-- a reaped bio moves no request
pub reaped-placed : (l : Limits) (n : ℕ) (t : Tables) (seat : ℕ) (entry : Seat) (place : ℕ) (rest : List ℕ) (bio : Bio) → WellFormed l n t → CanReap t seat entry place rest bio
    → Placed (n + 1) (reaped_tables t seat entry place rest)
reaped-placed l n t seat entry place rest bio w can =
    let u : Tables = reaped_tables t seat entry place rest in
    record {
      link = λ slot link e. moved n t u slot link (w.placed.link slot link e) refl (counted_again t u seat entry (entry.unreaped - 1) can.sits refl);
      apart = w.placed.apart;
      again = w.placed.again;
      requeued = λ slot link e. let q = w.placed.requeued slot link e in requeued_still n t u slot link q q.here;
      tag = λ tag issue e. let h = w.placed.tag tag issue e in (omega (arith, h.0), h.1);
      once = w.placed.once;
      counted = w.placed.counted;
    }

-- every request stays as it was, as none names the bio of an outbox
reaped-whole : (l : Limits) (n : ℕ) (t : Tables) (seat : ℕ) (entry : Seat) (place : ℕ) (rest : List ℕ) (bio : Bio) → WellFormed l n t → CanReap t seat entry place rest bio
    → (k : ℕ) → whole_at (reaped_tables t seat entry place rest).requests (reaped_tables t seat entry place rest).bios k ≡ whole_at t.requests t.bios k
reaped-whole l n t seat entry place rest bio w can k =
    whole_same t.requests t.requests t.bios _ k refl
    (λ r e. bios_at_other t.bios place None r.bios.items (unnamed_outbox l t seat place rest k r w.kept (omega (arith, can.within, w.sized.outboxes)) can.outbox e))

-- the queues stay
pub reaped-queue : (l : Limits) (n : ℕ) (t : Tables) (seat : ℕ) (entry : Seat) (place : ℕ) (rest : List ℕ) (bio : Bio) → WellFormed l n t → CanReap t seat entry place rest bio
    → (meaning (reaped_tables t seat entry place rest)).queue ≡ (meaning t).queue
reaped-queue l n t seat entry place rest bio w can =
    fun_ext (λ q. same_queue _ (whole_at t.requests t.bios) q t.links (λ k m e _. reaped-whole l n t seat entry place rest bio w can k))

-- the dispatch list stays
pub reaped-requeued : (l : Limits) (n : ℕ) (t : Tables) (seat : ℕ) (entry : Seat) (place : ℕ) (rest : List ℕ) (bio : Bio) → WellFormed l n t → CanReap t seat entry place rest bio
    → (meaning (reaped_tables t seat entry place rest)).requeued ≡ (meaning t).requeued
reaped-requeued l n t seat entry place rest bio w can =
    requeued_same t (reaped_tables t seat entry place rest) refl (λ k _ _. reaped-whole l n t seat entry place rest bio w can k)

-- what is in flight stays
pub reaped-flight : (l : Limits) (n : ℕ) (t : Tables) (seat : ℕ) (entry : Seat) (place : ℕ) (rest : List ℕ) (bio : Bio) → WellFormed l n t → CanReap t seat entry place rest bio
    → (meaning (reaped_tables t seat entry place rest)).flight ≡ (meaning t).flight
reaped-flight l n t seat entry place rest bio w can =
    fun_ext (λ tag. flight_same t.requests _ t.bios _ (at t.tags tag) (λ issue _. reaped-whole l n t seat entry place rest bio w can issue.slot))

-- Dispatch.

-- the request that is sent goes from its queue to its tag
pub sent-placed : (l : Limits) (n : ℕ) (t : Tables) (seat slot tag : ℕ) (request : Request) → WellFormed l n t → CanSend l t seat slot tag request → Placed (n + 1) (sent_tables t n seat slot tag)
sent-placed l n t seat slot tag request w can =
    let u : Tables = sent_tables t n seat slot tag in
    let issue_new : Issue = record { issue = n; slot = slot } in
    let linked : (link : Link) × (at t.links slot ≡ Some link) × (link.seat ≡ seat) = first_linked seat slot t.links can.first in
    let hl : slot < length t.links = within_of t.links slot linked.0 linked.1 in
    let ht : tag < length t.tags = omega (arith, can.tag_within, w.sized.tags) in
    record {
      link = λ k link e. moved n t u k link (w.placed.link k link (kept_of t.links slot k linked.0 link linked.1 e).1) refl (λ _ s f. record { now = s; there = f; session = refl });
      apart = λ i j a b e f same.
          w.placed.apart i j a b (kept_of t.links slot i linked.0 a linked.1 e).1 (kept_of t.links slot j linked.0 b linked.1 f).1 same;
      again = w.placed.again;
      requeued = λ k link e. let q = w.placed.requeued k link e in requeued_still n t u k link q q.here;
      tag = λ j issue e. elim (set_cases t.tags tag j (Some issue_new) issue ht e) [
        | inl g ↦
            let P : Issue → Type 0 = λ x. (x.issue < n + 1) × IsSome (at t.requests x.slot) in
            subst P (same_Some issue_new issue g.1) (omega arith, is_some_of (at t.requests slot) request can.here)
        | inr g ↦ let h = w.placed.tag j issue g.1 in (omega (arith, h.0), h.1)
      ];
      once = λ k.
          let put : count_by (bears k) u.tags + borne k (at t.tags tag) ≡ count_by (bears k) t.tags + borne k (Some issue_new) =
          sum_by-set (borne k) t.tags tag (Some issue_new) None ht in
          let was : borne k (at t.tags tag) ≡ 0 = ap (borne k) can.tag_free in
          elim (cases_eq k slot) [
            | inl same ↦
                let a : one (at t.links k) ≡ 1 = ap one (ap (at t.links) same ∙ linked.1) in
                let b : one (at u.links k) ≡ 0 = ap one (ap (at u.links) same ∙ freed t.links slot linked.0 linked.1) in
                let c : borne k (Some issue_new) ≡ 1 = cond-true (slot == k) 1 0 (eq-eqb slot k (sym same)) in
                omega (arith, put, was, a, b, c, w.placed.once k)
            | inr other ↦
                let b : one (at u.links k) ≡ one (at t.links k) = ap one (get_or-set_other t.links slot k None None other) in
                let c : borne k (Some issue_new) ≡ 0 = cond-false (slot == k) 1 0 (ne_eqb slot k (λ f. other (sym f))) in
                omega (arith, put, was, b, c, w.placed.once k)
          ];
      counted =
          let a : one (at t.links slot) ≡ 1 = ap one linked.1 in
          let b : one (at t.tags tag) ≡ 0 = ap one can.tag_free in
          omega (arith, a, b, taken-set t.links slot None hl, taken-set t.tags tag (Some issue_new) ht, w.placed.counted);
    }

-- the request that is sent was the first of its queue
pub sent-queue_was : (l : Limits) (n : ℕ) (t : Tables) (seat slot tag : ℕ) (request : Request) → WellFormed l n t → CanSend l t seat slot tag request
    → (meaning t).queue seat ≡ whole t request ∷ (meaning (sent_tables t n seat slot tag)).queue seat
sent-queue_was l n t seat slot tag request w can =
    queue-taken_first (whole_at t.requests t.bios) (whole t request) seat slot t.links w.placed.apart can.first (ap (option_map (whole t)) can.here)

-- the other queues stay
pub sent-queue : (l : Limits) (n : ℕ) (t : Tables) (seat slot tag : ℕ) (request : Request) → WellFormed l n t → CanSend l t seat slot tag request
    → (meaning (sent_tables t n seat slot tag)).queue ≡ put (meaning t).queue seat ((meaning (sent_tables t n seat slot tag)).queue seat)
sent-queue l n t seat slot tag request w can =
    let linked : (link : Link) × (at t.links slot ≡ Some link) × (link.seat ≡ seat) = first_linked seat slot t.links can.first in
    put_is (meaning t).queue (meaning (sent_tables t n seat slot tag)).queue seat ((meaning (sent_tables t n seat slot tag)).queue seat) refl
    (λ q other. ap (filter_map (whole_at t.requests t.bios))
    (queue-taken_other q slot t.links linked.0 w.placed.apart linked.1 (λ f. other (sym f ∙ linked.2))))

-- the tag bears the request that is sent
pub sent-flight : (l : Limits) (n : ℕ) (t : Tables) (seat slot tag : ℕ) (request : Request) → WellFormed l n t → CanSend l t seat slot tag request
    → (meaning (sent_tables t n seat slot tag)).flight ≡ put (meaning t).flight tag (Some (record { issue = n; request = whole t request }))
sent-flight l n t seat slot tag request w can =
    let u : Tables = sent_tables t n seat slot tag in
    put_is (meaning t).flight (meaning u).flight tag (Some (record { issue = n; request = whole t request }))
    (flight_borne t (at u.tags tag) (record { issue = n; slot = slot }) request (get_or-set_same t.tags tag _ None (omega (arith, can.tag_within, w.sized.tags))) can.here)
    (λ j other. ap (flight_of t.requests t.bios) (get_or-set_other t.tags tag j _ None other))

-- Finish.

-- the request that is finished leaves its tag and its slot
pub finished-placed : (l : Limits) (n : ℕ) (t : Tables) (tag issue slot seat : ℕ) (entry : Seat) (request : Request) (effect : Effect) → WellFormed l n t → CanFinish t tag issue slot seat entry request
    → Placed (n + 1) (finished_tables t tag slot seat request.bios.items effect)
finished-placed l n t tag issue slot seat entry request effect w can =
    let u : Tables = finished_tables t tag slot seat request.bios.items effect in
    let gone : Issue = record { issue = issue; slot = slot } in
    let free : at t.links slot ≡ None = unlinked_borne n t tag gone w.placed can.borne in
    let ht : tag < length t.tags = within_of t.tags tag gone can.borne in
    let hr : slot < length t.requests = within_of t.requests slot request can.here in
    let put : (k : ℕ) → count_by (bears k) u.tags + borne k (at t.tags tag) ≡ count_by (bears k) t.tags + 0 = λ k. sum_by-set (borne k) t.tags tag None None ht in
    record {
      link = λ k link e.
          let other : k ≢ slot = λ f. let g : at t.links k ≡ None = ap (at t.links) f ∙ free in cc in
          moved n t u k link (w.placed.link k link e) (get_or-set_other t.requests slot k None None other) (λ _ s f. record { now = s; there = f; session = refl });
      apart = w.placed.apart;
      again = w.placed.again;
      requeued = λ k link e.
          let q = w.placed.requeued k link e in
          let some : IsSome (at t.requests k) = q.here in
          let none : at t.requeued slot ≡ None = unrequeued_borne n t tag gone w.placed can.borne in
          requeued_still n t u k link q (ap is_some (get_or-set_other t.requests slot k None None (requeued_apart t slot k link none e)) ∙ some);
      tag = λ j b e.
          let h = w.placed.tag j b (kept_of t.tags tag j gone b can.borne e).1 in
          let some : IsSome (at t.requests b.slot) = h.1 in
          (omega (arith, h.0), ap is_some (get_or-set_other t.requests slot b.slot None None (other_slot n t tag j gone b w.placed can.borne e)) ∙ some);
      once = λ k. elim (cases_eq k slot) [
        | inl same ↦
            let a : borne k (at t.tags tag) ≡ 1 = ap (borne k) can.borne ∙ cond-true (slot == k) 1 0 (eq-eqb slot k (sym same)) in
            let b : one (at t.requests k) ≡ 1 = ap one (ap (at t.requests) same ∙ can.here) in
            let c : one (at u.requests k) ≡ 0 = ap one (ap (at u.requests) same ∙ freed t.requests slot request can.here) in
            omega (arith, put k, a, b, c, w.placed.once k)
        | inr other ↦
            let a : borne k (at t.tags tag) ≡ 0 = ap (borne k) can.borne ∙ cond-false (slot == k) 1 0 (ne_eqb slot k (λ f. other (sym f))) in
            let c : one (at u.requests k) ≡ one (at t.requests k) = ap one (get_or-set_other t.requests slot k None None other) in
            omega (arith, put k, a, c, w.placed.once k)
      ];
      counted =
          let a : one (at t.requests slot) ≡ 1 = ap one can.here in
          let b : one (at t.tags tag) ≡ 1 = ap one can.borne in
          omega (arith, a, b, taken-set t.requests slot None hr, taken-set t.tags tag None ht, w.placed.counted);
    }

-- a request in another slot stays as it was, as no two requests name one bio
finished-whole : (l : Limits) (n : ℕ) (t : Tables) (tag issue slot seat : ℕ) (entry : Seat) (request : Request) (effect : Effect) → WellFormed l n t
    → CanFinish t tag issue slot seat entry request → (k : ℕ) → k ≢ slot
    → whole_at (finished_tables t tag slot seat request.bios.items effect).requests (finished_tables t tag slot seat request.bios.items effect).bios k ≡ whole_at t.requests t.bios k
finished-whole l n t tag issue slot seat entry request effect w can k other =
    whole_same t.requests _ t.bios _ k (get_or-set_other t.requests slot k None None other)
    (λ r e. bios_at_with t.bios request.bios.items _ r.bios.items (λ place. unnamed_other l t place slot k request r w.kept can.here e other))

-- the queues stay
pub finished-queue : (l : Limits) (n : ℕ) (t : Tables) (tag issue slot seat : ℕ) (entry : Seat) (request : Request) (effect : Effect) → WellFormed l n t → CanFinish t tag issue slot seat entry request
    → (meaning (finished_tables t tag slot seat request.bios.items effect)).queue ≡ (meaning t).queue
finished-queue l n t tag issue slot seat entry request effect w can =
    let free : at t.links slot ≡ None = unlinked_borne n t tag (record { issue = issue; slot = slot }) w.placed can.borne in
    fun_ext (λ q. same_queue _ (whole_at t.requests t.bios) q t.links (λ k m e _.
    finished-whole l n t tag issue slot seat entry request effect w can k (λ f. let g : at t.links k ≡ None = ap (at t.links) f ∙ free in cc)))

-- the dispatch list stays
pub finished-requeued : (l : Limits) (n : ℕ) (t : Tables) (tag issue slot seat : ℕ) (entry : Seat) (request : Request) (effect : Effect) → WellFormed l n t → CanFinish t tag issue slot seat entry request
    → (meaning (finished_tables t tag slot seat request.bios.items effect)).requeued ≡ (meaning t).requeued
finished-requeued l n t tag issue slot seat entry request effect w can =
    let none : at t.requeued slot ≡ None = unrequeued_borne n t tag (record { issue = issue; slot = slot }) w.placed can.borne in
    requeued_same t (finished_tables t tag slot seat request.bios.items effect) refl (λ k link e.
    finished-whole l n t tag issue slot seat entry request effect w can k (requeued_apart t slot k link none e))

-- the tag is free, and the other tags bear what they bore
pub finished-flight : (l : Limits) (n : ℕ) (t : Tables) (tag issue slot seat : ℕ) (entry : Seat) (request : Request) (effect : Effect) → WellFormed l n t → CanFinish t tag issue slot seat entry request
    → (meaning (finished_tables t tag slot seat request.bios.items effect)).flight ≡ put (meaning t).flight tag None
finished-flight l n t tag issue slot seat entry request effect w can =
    let u : Tables = finished_tables t tag slot seat request.bios.items effect in
    let borne_issue : Issue = record { issue = issue; slot = slot } in
    put_is (meaning t).flight (meaning u).flight tag None
    (no_flight u tag (freed t.tags tag borne_issue can.borne))
    (λ j other.
    flight_same t.requests u.requests t.bios u.bios (at u.tags j) (λ b e.
    finished-whole l n t tag issue slot seat entry request effect w can b.slot (other_slot n t tag j borne_issue b w.placed can.borne e))
    ∙ ap (flight_of t.requests t.bios) (get_or-set_other t.tags tag j None None other))
