-- A bio that joins a queued request: queues, tags and requests.
use Rattle.std.proofs.Common.{◌≡◌, ◌≢◌, ℕ, ◌+◌, ◌*◌, ◌<◌, List, [], ◌∷◌, ◌++◌, length, Option, Some, None, Bool, true, false, IsSome, inl, inr, set, refl, sym, ap, ◌∙◌, subst, arith}
use Rattle.std.specs.List.{cons_option, find}
use Rattle.std.specs.Option.{option_map}
use Rattle.std.proofs.Math.Path.{fun_ext}
use Rattle.std.proofs.lemmas.Bool.{cases_eq}
use Rattle.std.proofs.lemmas.List.{get_or-set_same, get_or-set_other}
use Rattle.std.proofs.lemmas.List.Elements.{filter_map-append}
use Rattle.dispatch_core.proofs.Words.{Range, Op, Bio, Request, Link, queue_slots, bios_at, shape_at, joins_at, Seat, Tables, WholeRequest, put, meaning, whole_at, Limits, new_bio, with_bio, change_first, shape, at, one, times, WellFormed, Placed, IsQueued, joined_slots, joined_request, joined_tables}
use Rattle.dispatch_core.proofs.Sides.{CanJoin}
use Rattle.dispatch_core.proofs.QueueLists.{within_of, same_queue}
use Rattle.dispatch_core.proofs.Counts.{taken-set}
use Rattle.dispatch_core.proofs.QueueFacts.{put_is, bios_at_other, whole_with, whole_same, flight_same, unnamed_free, unlinked_borne}
use Rattle.dispatch_core.proofs.Requeued.{requeued_still, requeued_same, requeued_apart, unrequeued_linked}
use Rattle.dispatch_core.proofs.Queues.{moved, counted_again}
use Rattle.dispatch_core.proofs.Joins.{change_read, queue_distinct}
use Rattle.dispatch_core.proofs.Merges.{tests_agree}

-- a request that was there, with its slot, is one still
one_there : {A : Type 0} (xs : List (Option A)) (k j : ℕ) (old new : A) → at xs k ≡ Some old → one (at (set xs k (Some new)) j) ≡ one (at xs j)
one_there xs k j old new here = elim (cases_eq j k) [
  | inl e ↦ ap (λ i. one (at (set xs k (Some new)) i)) e ∙ ap one (get_or-set_same xs k (Some new) None (within_of xs k old here)) ∙ sym (ap (λ i. one (at xs i)) e ∙ ap one here)
  | inr ne ↦ ap one (get_or-set_other xs k j (Some new) None ne)
]

-- bios in some slots and one more, at the front or at the end
bios_joined : (bios : List (Option Bio)) (place : ℕ) (new : Bio) (front : Bool) (slots : List ℕ) (session : ℕ) (op : Op) → place < length bios → times place slots ≡ 0
    → bios_at (set bios place (Some new)) (joined_slots front place slots) ≡ (with_bio front new (record { session = session; op = op; bios = bios_at bios slots })).bios
bios_joined bios place new true slots session op within other =
    ap (λ o. cons_option o (bios_at (set bios place (Some new)) slots)) (get_or-set_same bios place (Some new) None within)
    ∙ ap (λ l. new ∷ l) (bios_at_other bios place (Some new) slots other)
bios_joined bios place new false slots session op within other =
    filter_map-append (at (set bios place (Some new))) slots (place ∷ [])
    ∙ ap (λ o. bios_at (set bios place (Some new)) slots ++ cons_option o []) (get_or-set_same bios place (Some new) None within)
    ∙ ap (λ l. l ++ new ∷ []) (bios_at_other bios place (Some new) slots other)

module _ (l : Limits) (n : ℕ) (t : Tables) (seat : ℕ) (entry : Seat) (slot place session : ℕ) (op : Op) (range : Range) (payload : List ℕ) (request : Request) (front : Bool)
    (w : WellFormed l n t) (can : CanJoin l t seat entry slot place session op range payload request) where
  -- the tables with the bio and its request
  abbrev now : Tables
  now = joined_tables t n seat entry slot place request front range payload

  -- the request with the new bio
  abbrev joined : Request
  joined = joined_request front place request

  -- the request's slot is in its table
  slot_within : slot < length t.requests
  slot_within = within_of t.requests slot request can.here

  -- the bio's slot is in its table
  place_within : place < length t.bios
  place_within = let most : place < 32 * seat + 32 = can.may.place_of.most in omega (arith, most, can.may.within, w.sized.bios)

  -- the request is queued where it was
  queued_still : (link : Link) → IsQueued n t slot link → IsQueued (n + 1) now slot link
  queued_still link q =
      let kept = counted_again t now seat entry (entry.unreaped + 1) can.may.sits refl link.seat q.entry q.sits in
      let both : Some q.request ≡ Some request = sym q.here ∙ can.here in
      let same_request : q.request ≡ request = cc in
      record {
        early = let h = q.early in omega arith;
        within = q.within;
        request = joined;
        here = get_or-set_same t.requests slot (Some joined) None slot_within;
        entry = kept.now;
        sits = kept.there;
        session = kept.session ∙ q.session ∙ ap (λ (r : Request). r.session) same_request;
      }

  -- every request is queued or in flight as it was
  pub placed : Placed (n + 1) now
  placed = record {
    link = λ k link e. elim (cases_eq k slot) [
      | inl here ↦
          let Q : ℕ → Type 0 = λ i. IsQueued (n + 1) now i link in
          let P : ℕ → Type 0 = λ i. IsQueued n t i link in
          subst Q (sym here) (queued_still link (subst P here (w.placed.link k link e)))
      | inr other ↦
          moved n t now k link (w.placed.link k link e) (get_or-set_other t.requests slot k (Some joined) None other)
          (counted_again t now seat entry (entry.unreaped + 1) can.may.sits refl)
    ];
    apart = w.placed.apart;
    again = w.placed.again;
    requeued = λ k link e.
        let q = w.placed.requeued k link e in
        requeued_still n t now k link q (some_still (at t.requests k) (at now.requests k) (one_there t.requests slot k request joined can.here) q.here);
    tag = λ tag issue e.
        let h = w.placed.tag tag issue e in
        (omega (arith, h.0), some_still (at t.requests issue.slot) (at now.requests issue.slot) (one_there t.requests slot issue.slot request joined can.here) h.1);
    once = λ k. w.placed.once k ∙ sym (one_there t.requests slot k request joined can.here);
    counted =
        let here : one (at t.requests slot) ≡ 1 = ap one can.here in
        omega (arith, here, taken-set t.requests slot (Some joined) slot_within, w.placed.counted);
  } where
    -- what is one is there
    some_still : {A B : Type 0} (o : Option A) (p : Option B) → one p ≡ one o → IsSome o → IsSome p
    some_still None p e h = cc
    some_still (Some a) None e h = cc
    some_still (Some a) (Some b) e h = refl

  -- a request in another slot stays as it was
  whole_away : (k : ℕ) → k ≢ slot → whole_at now.requests now.bios k ≡ whole_at t.requests t.bios k
  whole_away k other =
      whole_same t.requests _ t.bios _ k (get_or-set_other t.requests slot k _ None other)
      (λ r e. bios_at_other t.bios place _ r.bios.items (unnamed_free l t place k r w.kept can.may.place_free e))

  -- this one has one bio more
  whole_here : whole_at now.requests now.bios slot ≡ option_map (with_bio front (new_bio n range payload)) (whole_at t.requests t.bios slot)
  whole_here =
      let bios : bios_at now.bios (joined_slots front place request.bios.items) ≡ (with_bio front (new_bio n range payload) (whole_with t.bios request)).bios =
      bios_joined t.bios place (new_bio n range payload) front request.bios.items request.session request.op place_within (unnamed_free l t place slot request w.kept can.may.place_free can.here) in
      ap (option_map (whole_with now.bios)) (get_or-set_same t.requests slot (Some joined) None slot_within)
      ∙ ap (λ b. Some (let r : WholeRequest = record { session = request.session; op = request.op; bios = b } in r)) bios
      ∙ sym (ap (λ o. option_map (with_bio front (new_bio n range payload)) (option_map (whole_with t.bios) o)) can.here)

  -- in its queue it is changed where it stands, and the other queues stay
  pub queue_is : find (joins_at (shape_at t.requests t.bios) front session op range) (queue_slots seat t.links) ≡ Some slot
      → (meaning now).queue ≡ put (meaning t).queue seat (change_first (joins_at shape front session op range) (with_bio front (new_bio n range payload)) ((meaning t).queue seat))
  queue_is found =
      put_is (meaning t).queue (meaning now).queue seat (change_first (joins_at shape front session op range) (with_bio front (new_bio n range payload)) ((meaning t).queue seat))
      (change_read (joins_at (shape_at t.requests t.bios) front session op range) (joins_at shape front session op range) (with_bio front (new_bio n range payload))
      (whole_at t.requests t.bios) (whole_at now.requests now.bios) slot (queue_slots seat t.links) (tests_agree t seat session op range front) found (queue_distinct seat t.links) whole_away whole_here)
      (λ q other. same_queue (whole_at now.requests now.bios) (whole_at t.requests t.bios) q t.links (λ k m e h. whole_away k (λ f.
      let both : Some m ≡ Some can.link = sym e ∙ ap (at t.links) f ∙ can.linked in
      let same_link : m ≡ can.link = cc in
      other (sym h ∙ ap (λ (x : Link). x.seat) same_link ∙ can.link_seat))))

  -- the dispatch list stays
  pub requeued_is : (meaning now).requeued ≡ (meaning t).requeued
  requeued_is = requeued_same t now refl (λ k link e. whole_away k (requeued_apart t slot k link (unrequeued_linked n t slot can.link w.placed can.linked) e))

  -- what is in flight stays
  pub flight_is : (meaning now).flight ≡ (meaning t).flight
  flight_is =
      fun_ext (λ tag. flight_same t.requests _ t.bios _ (at t.tags tag) (λ issue e. whole_away issue.slot (λ f.
      let none : at t.links issue.slot ≡ None = unlinked_borne n t tag issue w.placed e in
      let linked : at t.links issue.slot ≡ Some can.link = ap (at t.links) f ∙ can.linked in
      cc)))
