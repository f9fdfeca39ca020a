-- A bio goes into a free slot of its seat, and that slot into a request of the seat's queue: seats, bios and outboxes.
use Rattle.std.proofs.Common.{◌≡◌, inl, inr, ℕ, ◌+◌, ◌<◌, ◌≤◌, List, [], ◌∷◌, Bool, true, false, Some, None, length, get_or, refl, sym, ap, ◌∙◌, subst, arith}
use Rattle.std.specs.Prelude.{All, sum_by}
use Rattle.std.specs.Option.{option_map, option_map_or}
use Rattle.std.proofs.Math.Path.{fun_ext}
use Rattle.std.proofs.lemmas.Bool.{cases_lt}
use Rattle.std.proofs.lemmas.List.{get_or-set_same, length-append}
use Rattle.std.proofs.lemmas.List.Elements.{All-nil, All-cons, All-append}
use Rattle.dispatch_core.proofs.Words.{Range, Op, Bio, Request, Seat, Tables, bios_at, meaning, outbox_at, put, Limits, with_unreaped, unreaped, new_bio, at, one, times, named, WellFormed, Seated, Kept, IsBio, IsWaiting, IsCompleted, IsOwned, joined_slots, joined_request, joined_tables}
use Rattle.dispatch_core.proofs.Sides.{CanJoin}
use Rattle.dispatch_core.proofs.Times.{set_cases, at_within, same, same_is, same_not, times-cons, times-append, bios_at-set}
use Rattle.dispatch_core.proofs.SlotCounts.{counted_set}
use Rattle.dispatch_core.proofs.Keeping.{put-set, outbox_past, waiting_set, completed_set, free_apart, IsBio_set, sessions_set, left_set, early_set, apart_set, owned_by, by_request, by_outbox, requests_set}

-- a slot stands in a request's list as often as before, and once more where it is the new one
times-joined : (q place : ℕ) (front : Bool) (slots : List ℕ) → times q (joined_slots front place slots) ≡ same place q + times q slots
times-joined q place true slots = times-cons q place slots
times-joined q place false slots = omega (arith, times-append q slots (place ∷ []), times-cons q place [])

-- what holds of the new slot and of the others holds of all
All-joined : (P : ℕ → Type 0) (place : ℕ) (front : Bool) (slots : List ℕ) → P place → All P slots → All P (joined_slots front place slots)
All-joined P place true slots p ps = All-cons P place slots p ps
All-joined P place false slots p ps = All-append P slots (place ∷ []) ps (All-cons P place [] p (All-nil P))

-- the list has one slot more
some-joined : (place : ℕ) (front : Bool) (slots : List ℕ) → 1 ≤ length (joined_slots front place slots)
some-joined place true slots = omega arith
some-joined place false slots = omega (arith, length-append slots (place ∷ []))

module _ (l : Limits) (n : ℕ) (t : Tables) (seat : ℕ) (entry : Seat) (slot place session : ℕ) (op : Op) (range : Range) (payload : List ℕ) (request : Request) (front : Bool)
    (w : WellFormed l n t) (can : CanJoin l t seat entry slot place session op range payload request) where
  -- the new bio
  abbrev bio : Bio
  bio = new_bio n range payload

  -- the request with it
  abbrev joined : Request
  joined = joined_request front place request

  -- the seat's entry with one more bio
  abbrev now_entry : Seat
  now_entry = with_unreaped (entry.unreaped + 1) entry

  -- the tables with them
  abbrev now : Tables
  now = joined_tables t n seat entry slot place request front range payload

  -- the seat is in its table
  seat_within : seat < length t.seats
  seat_within = at_within t.seats seat entry can.may.sits

  -- the bio's slot is in its table
  place_within : place < length t.bios
  place_within = omega (arith, can.may.place_of.most, can.may.within, w.sized.bios)

  -- the request's slot is in its table
  slot_within : slot < length t.requests
  slot_within = at_within t.requests slot request can.here

  -- the seats keep their rules
  pub seated : Seated (n + 1) now
  seated = record {
    early = early_set n t.seats seat now_entry seat_within (let early = w.seated.early seat entry can.may.sits in omega arith) w.seated.early;
    apart = apart_set t.seats seat now_entry seat_within w.seated.apart (λ j a h e. w.seated.apart j seat a entry h can.may.sits e);
    counted = counted_set t.seats t.bios seat place now_entry (Some bio) can.may.within w.sized.seats w.sized.bios can.may.place_of change w.seated.counted;
    left = left_set t.seats t.outboxes seat now_entry seat_within (w.seated.left seat entry can.may.sits) w.seated.left;
  } where
    -- how many bios the seat had
    was : option_map_or (λ s. s.unreaped) (at t.seats seat) 0 ≡ entry.unreaped
    was = ap (λ o. option_map_or (λ s. s.unreaped) o 0) can.may.sits

    -- the slot is free
    free : one (at t.bios place) ≡ 0
    free = ap one can.may.place_free

    -- the seat has one more bio, and one more taken slot
    change : now_entry.unreaped + one (at t.bios place) ≡ option_map_or (λ s. s.unreaped) (at t.seats seat) 0 + one (Some bio)
    change = omega (arith, was, free)

  -- the bio lies within the image
  is_bio : IsBio l bio
  is_bio = record { some_sectors = can.may.some_sectors; few_sectors = can.may.few_sectors; within = can.may.in_image }

  -- the request's session sits somewhere
  owned_was : IsOwned t request
  owned_was = w.kept.request slot request can.here

  -- namely at this seat
  owned_here : owned_was.seat ≡ seat
  owned_here = w.seated.apart owned_was.seat seat owned_was.entry entry owned_was.sits can.may.sits (owned_was.session ∙ can.session_is ∙ sym can.may.session_is)

  -- its bios wait in the seat's slots
  waits_was : All (IsWaiting t.bios request.op seat) request.bios.items
  waits_was = subst (λ j. All (IsWaiting t.bios request.op j) request.bios.items) owned_here owned_was.bios

  -- and still do
  waits_old : All (IsWaiting now.bios request.op seat) request.bios.items
  waits_old k d lt =
      let here = waits_was k d lt in
      waiting_set t.bios request.op seat (get_or request.bios.items k d) place (Some bio) (free_apart t.bios _ place here.bio here.here can.may.place_free) here

  -- so does the new one
  waits_new : IsWaiting now.bios request.op seat place
  waits_new = subst (λ o. IsWaiting now.bios o seat place) (sym can.op_is)
      (record { slot_of = can.may.place_of; bio = bio; here = get_or-set_same t.bios place (Some bio) None place_within; waits = refl; payload = can.may.payload_fits })

  -- the request's session sits at the seat
  owned_new : IsOwned now joined
  owned_new = record {
    seat = seat;
    entry = now_entry;
    within = can.may.within;
    sits = get_or-set_same t.seats seat (Some now_entry) None seat_within;
    session = can.may.session_is ∙ sym can.session_is;
    bios = All-joined (IsWaiting now.bios request.op seat) place front request.bios.items waits_new waits_old;
    some_bios = some-joined place front request.bios.items;
  }

  -- the other requests are as they were
  owned_old : (r : Request) → IsOwned t r → IsOwned now r
  owned_old r h = owned_by t now r (sessions_set t.seats seat entry now_entry can.may.sits refl)
      (λ j all k d lt. let here = all k d lt in waiting_set t.bios r.op j (get_or r.bios.items k d) place (Some bio) (free_apart t.bios _ place here.bio here.here can.may.place_free) here) h

  -- so every request is owned
  kept_request : (k : ℕ) (r : Request) → at now.requests k ≡ Some r → IsOwned now r
  kept_request k r h = elim (set_cases t.requests slot k (Some joined) slot_within) [
    | inl here ↦ let both : Some joined ≡ Some r = sym here.1 ∙ h in let e : joined ≡ r = cc in subst (IsOwned now) e owned_new
    | inr other ↦ owned_old r (w.kept.request k r (sym other.1 ∙ h))
  ]

  -- the outboxes are as they were
  kept_outbox : (j : ℕ) → j < 16 → All (IsCompleted now.bios j) (outbox_at now.outboxes j)
  kept_outbox j h k d lt =
      let here = w.kept.outbox j h k d lt in
      completed_set t.bios j (get_or (outbox_at t.outboxes j) k d) place (Some bio) (free_apart t.bios _ place here.bio here.here can.may.place_free) here

  -- each bio is named once
  kept_once : (q : ℕ) → named now q ≡ one (at now.bios q)
  kept_once q =
      let sums : sum_by (by_request q) now.requests + by_request q (at t.requests slot) ≡ sum_by (by_request q) t.requests + times q (joined_slots front place request.bios.items) =
      requests_set q t.requests slot (Some joined) slot_within in
      let was : by_request q (at t.requests slot) ≡ times q request.bios.items = ap (by_request q) can.here in
      let new : times q (joined_slots front place request.bios.items) ≡ same place q + times q request.bios.items = times-joined q place front request.bios.items in
      let once : sum_by (by_request q) t.requests + sum_by (by_outbox q) t.outboxes ≡ one (at t.bios q) = w.kept.once q in
      let goal : sum_by (by_request q) now.requests + sum_by (by_outbox q) t.outboxes ≡ one (at now.bios q) =
      elim (set_cases t.bios place q (Some bio) place_within) [
        | inl here ↦
            let s : same place q ≡ 1 = ap (same place) here.0 ∙ same_is place in
            let o : one (at t.bios q) ≡ 0 = ap (λ k. one (at t.bios k)) here.0 ∙ ap one can.may.place_free in
            let p : one (at now.bios q) ≡ 1 = ap one here.1 in
            omega arith
        | inr other ↦
            let s : same place q ≡ 0 = same_not place q (λ e. other.0 (sym e)) in
            let p : one (at now.bios q) ≡ one (at t.bios q) = ap one other.1 in
            omega arith
      ] in
      goal

  -- the bios keep their rules
  pub kept : Kept l now
  kept = record { bio = IsBio_set l t.bios place bio place_within is_bio w.kept.bio; request = kept_request; outbox = kept_outbox; once = kept_once }

  -- what it means for the seats
  pub seat_is : (meaning now).seat ≡ put (meaning t).seat seat (option_map (with_unreaped (unreaped (meaning t) seat + 1)) ((meaning t).seat seat))
  seat_is =
      let value : option_map (with_unreaped (unreaped (meaning t) seat + 1)) (at t.seats seat) ≡ Some now_entry =
      ap (λ o. option_map (with_unreaped (option_map_or (λ s. s.unreaped) o 0 + 1)) o) can.may.sits in
      put-set t.seats seat (Some now_entry) seat_within ∙ ap (put (at t.seats) seat) (sym value)

  -- it means nothing for the outboxes
  pub outbox_is : (meaning now).outbox ≡ (meaning t).outbox
  outbox_is = fun_ext (λ j. elim (cases_lt j 16) [
    | inl within ↦ bios_at-set t.bios place (Some bio) (outbox_at t.outboxes j)
        (λ k d lt. let here = w.kept.outbox j within k d lt in free_apart t.bios _ place here.bio here.here can.may.place_free)
    | inr past ↦
        let none : outbox_at t.outboxes j ≡ [] = outbox_past t.outboxes j (omega (arith, w.sized.outboxes)) in
        ap (bios_at now.bios) none ∙ sym (ap (bios_at t.bios) none)
  ])
