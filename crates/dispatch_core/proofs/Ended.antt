-- A request of a session that leaves is finished: its bios are dropped.
use Rattle.std.proofs.Common.{◌≡◌, ◌≢◌, inl, inr, ℕ, ◌+◌, ◌<◌, List, [], true, Some, None, length, set, refl, sym, ap, ◌∙◌, subst, arith, length-set}
use Rattle.std.specs.Prelude.{All, sum_by}
use Rattle.std.proofs.Math.Path.{fun_ext}
use Rattle.std.proofs.lemmas.Bool.{cases_lt}
use Rattle.std.proofs.lemmas.List.{get_or-set_same, get_or-set_other}
use Rattle.dispatch_core.proofs.Words.{Bio, Effect, Request, Issue, bios_at, Seat, Tables, Plain, put, meaning, whole_at, outbox_at, Limits, after_effect, completed, at, one, times, WellFormed, IsCompleted, leaving_entry, finished_tables, dropped_tables, without_bios}
use Rattle.plain.specs.Entities.{owed_fewer, without_gone}
use Rattle.dispatch_core.proofs.Sides.{CanFinish}
use Rattle.dispatch_core.proofs.Times.{Apart, set_cases, at_within}
use Rattle.dispatch_core.proofs.Keeping.{put-set, outbox_past, by_request, by_outbox, requests_set}
use Rattle.dispatch_core.proofs.Written.{length-bios_at, length-completed}
use Rattle.dispatch_core.proofs.Dropped.{length-without_bios, bios_at-without}
use Rattle.dispatch_core.proofs.QueueLists.{same_queue, freed}
use Rattle.dispatch_core.proofs.QueueFacts.{put_is, whole_same, flight_of, flight_same, unlinked_borne, other_slot}
use Rattle.dispatch_core.proofs.Requeued.{requeued_same, requeued_apart, unrequeued_borne}
use Rattle.dispatch_core.proofs.Queues.{no_flight, finished-placed}
use Rattle.dispatch_core.proofs.Laws.{WellFormed-later}
use Rattle.dispatch_core.proofs.Lessened.{placed_like, sessions_less, less-seated, less-kept, less-seat}
use Rattle.dispatch_core.proofs.Freed.{or_gone, or_gone-well, or_gone-meaning, fewer_is}
use Rattle.dispatch_core.proofs.Finishes.{slots_of, slots_taken, distinct, other_apart, outbox_apart}

module _ (l : Limits) (n : ℕ) (t : Tables) (tag issue slot seat : ℕ) (entry : Seat) (request : Request) (effect : Effect) (w : WellFormed l n t) (can : CanFinish t tag issue slot seat entry request)
    (leaves : entry.leaving ≡ true) where
  -- the request's slots
  abbrev slots : List ℕ
  slots = request.bios.items

  -- the bios with their results
  abbrev results : List Bio
  results = completed effect t.overlay (bios_at t.bios slots)

  -- the entry that counts fewer
  abbrev fewer : Seat
  fewer = leaving_entry entry (length slots)

  -- the tables without those bios
  abbrev now : Tables
  now = record t {
    overlay = after_effect effect t.overlay (bios_at t.bios slots);
    bios = without_bios t.bios slots;
    requests = set t.requests slot None;
    tags = set t.tags tag None;
    outboxes = t.outboxes;
    seats = set t.seats seat (Some fewer);
  }

  were : (k : ℕ) (r : Request) → at now.requests k ≡ Some r → (at t.requests k ≡ Some r) × All (λ q. Apart q slots) r.bios.items
  were k r h = elim (set_cases t.requests slot k None (at_within t.requests slot request can.here)) [
    | inl here ↦ let both : None ≡ Some r = sym here.1 ∙ h in absurd cc
    | inr other ↦
        let was : at t.requests k ≡ Some r = sym other.1 ∙ h in
        (was, other_apart l n t tag issue slot seat entry request w can k r other.0 was)
  ]

  boxed : (j : ℕ) → j < 16 → All (λ q. Apart q slots × IsCompleted t.bios j q) (outbox_at t.outboxes j)
  boxed j h i d lt = (outbox_apart l n t tag issue slot seat entry request w can j h i d lt, w.kept.outbox j h i d lt)

  once_less : (q : ℕ) → sum_by (by_request q) now.requests + sum_by (by_outbox q) t.outboxes + times q slots ≡ one (at t.bios q)
  once_less q =
      let asked : sum_by (by_request q) now.requests + by_request q (at t.requests slot) ≡ sum_by (by_request q) t.requests + 0 =
      requests_set q t.requests slot None (at_within t.requests slot request can.here) in
      let gone : by_request q (at t.requests slot) ≡ times q slots = ap (by_request q) can.here in
      let once : sum_by (by_request q) t.requests + sum_by (by_outbox q) t.outboxes ≡ one (at t.bios q) = w.kept.once q in
      omega (arith, asked, gone, once)

  later : WellFormed l (n + 1) t
  later = WellFormed-later l n t w

  now-well : WellFormed l (n + 1) now
  now-well =
      let of = slots_of l n t tag issue slot seat entry request w can in
      let few = distinct l n t tag issue slot seat entry request w can in
      let have = slots_taken l n t tag issue slot seat entry request w can in
      record {
        sized = record {
          requests = length-set t.requests slot _ ∙ w.sized.requests;
          bios = length-without_bios t.bios slots ∙ w.sized.bios;
          tags = length-set t.tags tag _ ∙ w.sized.tags;
          links = w.sized.links;
          requeued = w.sized.requeued;
          outboxes = w.sized.outboxes;
          seats = length-set t.seats seat _ ∙ w.sized.seats;
          few_tags = w.sized.few_tags;
          few_requests = w.sized.few_requests;
          small_image = w.sized.small_image;
        };
        seated = less-seated l n t seat entry slots w can.within can.sits of few have now.overlay now.requests now.tags t.outboxes (w.seated.left seat entry can.sits leaves) (λ k other. refl);
        kept = less-kept l n t seat entry slots w can.within can.sits of few have now.overlay now.requests now.tags t.outboxes were boxed once_less;
        placed = placed_like (n + 1) (finished_tables t tag slot seat slots effect) now.overlay now.bios t.outboxes now.seats
            (sessions_less l n t seat entry slots w can.within can.sits of few have) (finished-placed l n t tag issue slot seat entry request effect w can);
        ruled = w.ruled;
        young = later.young;
        first = later.first;
        served = w.served;
      }

  -- what it means

  -- every other request stays
  whole_still : (k : ℕ) → k ≢ slot → whole_at now.requests now.bios k ≡ whole_at t.requests t.bios k
  whole_still k other = whole_same t.requests now.requests t.bios now.bios k (get_or-set_other t.requests slot k None None other)
      (λ r e. bios_at-without t.bios slots r.bios.items (other_apart l n t tag issue slot seat entry request w can k r other e))

  -- the issue that the tag bears
  abbrev borne_issue : Issue
  borne_issue = record { issue = issue; slot = slot }

  -- the plain machine with the request off its tag
  abbrev off : Plain
  off = record (meaning t) { overlay = after_effect effect t.overlay (bios_at t.bios slots); flight = put (meaning t).flight tag None }

  seat_is : (meaning now).seat ≡ (owed_fewer seat (length results) off).seat
  seat_is =
      let of = slots_of l n t tag issue slot seat entry request w can in
      let few = distinct l n t tag issue slot seat entry request w can in
      let have = slots_taken l n t tag issue slot seat entry request w can in
      let count : length results ≡ length slots = length-completed effect t.overlay (bios_at t.bios slots) ∙ length-bios_at t.bios slots have in
      put-set t.seats seat (Some fewer) (at_within t.seats seat entry can.sits)
      ∙ sym (less-seat l n t seat entry slots w can.within can.sits of few have (meaning t).seat entry (length results) can.sits refl leaves count)

  queue_is : (meaning now).queue ≡ (meaning t).queue
  queue_is =
      let free : at t.links slot ≡ None = unlinked_borne n t tag borne_issue w.placed can.borne in
      fun_ext (λ q. same_queue (whole_at now.requests now.bios) (whole_at t.requests t.bios) q t.links (λ k m e _.
      whole_still k (λ f. let g : at t.links k ≡ None = ap (at t.links) f ∙ free in cc)))

  again_is : (meaning now).requeued ≡ (meaning t).requeued
  again_is =
      let none : at t.requeued slot ≡ None = unrequeued_borne n t tag borne_issue w.placed can.borne in
      requeued_same t now refl (λ k link e. whole_still k (requeued_apart t slot k link none e))

  flight_is : (meaning now).flight ≡ put (meaning t).flight tag None
  flight_is =
      put_is (meaning t).flight (meaning now).flight tag None
      (no_flight now tag (freed t.tags tag borne_issue can.borne))
      (λ j other.
      flight_same t.requests now.requests t.bios now.bios (at now.tags j) (λ b e. whole_still b.slot (other_slot n t tag j borne_issue b w.placed can.borne e))
      ∙ ap (flight_of t.requests t.bios) (get_or-set_other t.tags tag j None None other))

  outbox_is : (meaning now).outbox ≡ (meaning t).outbox
  outbox_is = fun_ext (λ j. elim (cases_lt j 16) [
    | inl h ↦ bios_at-without t.bios slots (outbox_at t.outboxes j) (outbox_apart l n t tag issue slot seat entry request w can j h)
    | inr past ↦
        let none : outbox_at t.outboxes j ≡ [] = outbox_past t.outboxes j (omega (arith, past, w.sized.outboxes)) in
        ap (bios_at now.bios) none ∙ sym (ap (bios_at t.bios) none)
  ])

  now-meaning : meaning now ≡ owed_fewer seat (length results) off
  now-meaning i = record {
    overlay = now.overlay;
    seat = seat_is i;
    queue = queue_is i;
    requeued = again_is i;
    outbox = outbox_is i;
    flight = flight_is i;
    frozen = t.frozen;
    served = t.served;
    head = (meaning t).head;
    bfq = (meaning t).bfq;
    scheduler = t.scheduler;
  }

  now_sits : at now.seats seat ≡ Some fewer
  now_sits = get_or-set_same t.seats seat (Some fewer) None (at_within t.seats seat entry can.sits)

  tables_are : dropped_tables t tag slot seat entry slots effect ≡ or_gone now seat fewer
  tables_are = fewer_is (record t { overlay = now.overlay; bios = now.bios; requests = now.requests; tags = now.tags }) seat entry (length slots)

  -- the tables hold together
  pub dropped-well : WellFormed l (n + 1) (dropped_tables t tag slot seat entry request.bios.items effect)
  dropped-well = subst (WellFormed l (n + 1)) (sym tables_are) (or_gone-well l (n + 1) now seat fewer now-well can.within now_sits)

  -- and mean what the plain step does
  pub dropped-meaning : meaning (dropped_tables t tag slot seat entry request.bios.items effect)
      ≡ without_gone l seat (owed_fewer seat (length (completed effect t.overlay (bios_at t.bios request.bios.items)))
      (let m : Plain = record (meaning t) { overlay = after_effect effect t.overlay (bios_at t.bios request.bios.items); flight = put (meaning t).flight tag None } in m))
  dropped-meaning = ap meaning tables_are ∙ or_gone-meaning l (n + 1) now seat fewer now-well can.within now_sits refl ∙ ap (without_gone l seat) now-meaning
