-- A bio goes into a free slot of its seat, and a request of its own into another.
use Rattle.std.proofs.Common.{◌≡◌, inl, inr, ℕ, ◌+◌, ◌<◌, List, [], ◌∷◌, Some, None, length, get_or, refl, sym, ap, ◌∙◌, subst, arith}
use Rattle.std.specs.Prelude.{All, sum_by}
use Rattle.std.specs.Option.{option_map, option_map_or}
use Rattle.std.proofs.Math.Path.{fun_ext}
use Rattle.std.proofs.lemmas.Bool.{cases_lt}
use Rattle.std.proofs.lemmas.List.{get_or-set_same}
use Rattle.std.proofs.lemmas.List.Elements.{All-nil, All-cons}
use Rattle.dispatch_core.proofs.Words.{Range, Op, Bio, Request, Seat, Tables, bios_at, meaning, outbox_at, put, Limits, with_unreaped, unreaped, at, one, times, named, WellFormed, Seated, Kept, IsBio, IsWaiting, IsCompleted, IsOwned, submitted_tables}
use Rattle.dispatch_core.proofs.Sides.{CanSubmit}
use Rattle.dispatch_core.proofs.Times.{set_cases, at_within, same, same_is, same_not, times-cons, bios_at-set}
use Rattle.dispatch_core.proofs.SlotCounts.{counted_set}
use Rattle.dispatch_core.proofs.Keeping.{put-set, outbox_past, waiting_set, completed_set, free_apart, IsBio_set, sessions_set, left_set, early_set, apart_set, owned_by, by_request, by_outbox, requests_set}

module _ (l : Limits) (n : ℕ) (t : Tables) (seat : ℕ) (entry : Seat) (slot place session : ℕ) (op : Op) (range : Range) (payload : List ℕ)
    (w : WellFormed l n t) (can : CanSubmit l t seat entry slot place session op range payload) where
  -- the new bio
  abbrev bio : Bio
  bio = record { serial = n; range = range; payload = payload; result = None }

  -- the bio's request
  abbrev request : Request
  request = record { session = session; op = op; bios = record { items = place ∷ [] } }

  -- the seat's entry with one more bio
  abbrev now_entry : Seat
  now_entry = with_unreaped (entry.unreaped + 1) entry

  -- the tables with them
  abbrev now : Tables
  now = submitted_tables t n seat entry slot place session op range payload

  -- the seat is in its table
  seat_within : seat < length t.seats
  seat_within = at_within t.seats seat entry can.sits

  -- the bio's slot is in its table
  place_within : place < length t.bios
  place_within = omega (arith, can.place_of.most, can.within, w.sized.bios)

  -- the request's slot is in its table
  slot_within : slot < length t.requests
  slot_within = omega (arith, can.slot_within, w.sized.requests)

  -- the seats keep their rules
  pub seated : Seated (n + 1) now
  seated = record {
    early = early_set n t.seats seat now_entry seat_within (let early = w.seated.early seat entry can.sits in omega arith) w.seated.early;
    apart = apart_set t.seats seat now_entry seat_within w.seated.apart (λ j a h e. w.seated.apart j seat a entry h can.sits e);
    counted = counted_set t.seats t.bios seat place now_entry (Some bio) can.within w.sized.seats w.sized.bios can.place_of change w.seated.counted;
    left = left_set t.seats t.outboxes seat now_entry seat_within (w.seated.left seat entry can.sits) w.seated.left;
  } where
    -- how many bios the seat had
    was : option_map_or (λ s. s.unreaped) (at t.seats seat) 0 ≡ entry.unreaped
    was = ap (λ o. option_map_or (λ s. s.unreaped) o 0) can.sits

    -- the slot is free
    free : one (at t.bios place) ≡ 0
    free = ap one can.place_free

    -- the seat has one more bio, and one more taken slot
    change : now_entry.unreaped + one (at t.bios place) ≡ option_map_or (λ s. s.unreaped) (at t.seats seat) 0 + one (Some bio)
    change = omega (arith, was, free)

  -- the bio lies within the image
  is_bio : IsBio l bio
  is_bio = record { some_sectors = can.some_sectors; few_sectors = can.few_sectors; within = can.in_image }

  -- it waits in its slot
  waits : IsWaiting now.bios op seat place
  waits = record { slot_of = can.place_of; bio = bio; here = get_or-set_same t.bios place (Some bio) None place_within; waits = refl; payload = can.payload_fits }

  -- its request's session sits at the seat
  owned_new : IsOwned now request
  owned_new = record {
    seat = seat;
    entry = now_entry;
    within = can.within;
    sits = get_or-set_same t.seats seat (Some now_entry) None seat_within;
    session = can.session_is;
    bios = All-cons (IsWaiting now.bios op seat) place [] waits (All-nil (IsWaiting now.bios op seat));
    some_bios = omega arith;
  }

  -- the other requests are as they were
  owned_old : (r : Request) → IsOwned t r → IsOwned now r
  owned_old r h = owned_by t now r (sessions_set t.seats seat entry now_entry can.sits refl)
      (λ j all k d lt. let here = all k d lt in waiting_set t.bios r.op j (get_or r.bios.items k d) place (Some bio) (free_apart t.bios _ place here.bio here.here can.place_free) here) h

  -- so every request is owned
  kept_request : (k : ℕ) (r : Request) → at now.requests k ≡ Some r → IsOwned now r
  kept_request k r h = elim (set_cases t.requests slot k (Some request) slot_within) [
    | inl here ↦ let both : Some request ≡ Some r = sym here.1 ∙ h in let e : request ≡ r = cc in subst (IsOwned now) e owned_new
    | inr other ↦ owned_old r (w.kept.request k r (sym other.1 ∙ h))
  ]

  -- the outboxes are as they were
  kept_outbox : (j : ℕ) → j < 16 → All (IsCompleted now.bios j) (outbox_at now.outboxes j)
  kept_outbox j h k d lt =
      let here = w.kept.outbox j h k d lt in
      completed_set t.bios j (get_or (outbox_at t.outboxes j) k d) place (Some bio) (free_apart t.bios _ place here.bio here.here can.place_free) here

  -- each bio is named once
  kept_once : (q : ℕ) → named now q ≡ one (at now.bios q)
  kept_once q =
      let sums : sum_by (by_request q) now.requests + by_request q (at t.requests slot) ≡ sum_by (by_request q) t.requests + times q (place ∷ []) = requests_set q t.requests slot (Some request) slot_within in
      let none : by_request q (at t.requests slot) ≡ 0 = ap (by_request q) can.slot_free in
      let new : times q (place ∷ []) ≡ same place q + 0 = times-cons q place [] in
      let once : sum_by (by_request q) t.requests + sum_by (by_outbox q) t.outboxes ≡ one (at t.bios q) = w.kept.once q in
      let goal : sum_by (by_request q) now.requests + sum_by (by_outbox q) t.outboxes ≡ one (at now.bios q) =
      elim (set_cases t.bios place q (Some bio) place_within) [
        | inl here ↦
            let s : same place q ≡ 1 = ap (same place) here.0 ∙ same_is place in
            let o : one (at t.bios q) ≡ 0 = ap (λ k. one (at t.bios k)) here.0 ∙ ap one can.place_free in
            let p : one (at now.bios q) ≡ 1 = ap one here.1 in
            omega arith
        | inr other ↦
            let s : same place q ≡ 0 = same_not place q (λ e. other.0 (sym e)) in
            let p : one (at now.bios q) ≡ one (at t.bios q) = ap one other.1 in
            omega arith
      ] in
      goal

  -- the bios keep their rules
  pub kept : Kept l now
  kept = record { bio = IsBio_set l t.bios place bio place_within is_bio w.kept.bio; request = kept_request; outbox = kept_outbox; once = kept_once }

  -- what it means for the seats
  pub seat_is : (meaning now).seat ≡ put (meaning t).seat seat (option_map (with_unreaped (unreaped (meaning t) seat + 1)) ((meaning t).seat seat))
  seat_is =
      let value : option_map (with_unreaped (unreaped (meaning t) seat + 1)) (at t.seats seat) ≡ Some now_entry =
      ap (λ o. option_map (with_unreaped (option_map_or (λ s. s.unreaped) o 0 + 1)) o) can.sits in
      put-set t.seats seat (Some now_entry) seat_within ∙ ap (put (at t.seats) seat) (sym value)

  -- it means nothing for the outboxes
  pub outbox_is : (meaning now).outbox ≡ (meaning t).outbox
  outbox_is = fun_ext (λ j. elim (cases_lt j 16) [
    | inl within ↦ bios_at-set t.bios place (Some bio) (outbox_at t.outboxes j)
        (λ k d lt. let here = w.kept.outbox j within k d lt in free_apart t.bios _ place here.bio here.here can.place_free)
    | inr past ↦
        let none : outbox_at t.outboxes j ≡ [] = outbox_past t.outboxes j (omega (arith, w.sized.outboxes)) in
        ap (bios_at now.bios) none ∙ sym (ap (bios_at t.bios) none)
  ])
