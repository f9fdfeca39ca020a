-- The bios of a request get their results and go to the outbox of its session's seat.
use Rattle.std.proofs.Common.{◌≡◌, inl, inr, ℕ, ◌+◌, ◌*◌, ◌<◌, ◌≤◌, List, [], ◌++◌, true, false, Some, None, length, get_or, refl, sym, ap, ◌∙◌, subst, arith, length-append}
use Rattle.std.specs.Prelude.{All, sum_by}
use Rattle.std.proofs.lemmas.Bool.{cases_eq, cases_lt, eq-eqb, ne_eqb}
use Rattle.std.proofs.lemmas.List.Elements.{All-append, All-same, filter_map-append}
use Rattle.dispatch_core.proofs.Words.{Bio, Effect, Request, Seat, Tables, bios_at, meaning, outbox_at, put, Limits, completed, seat_of, is_session, at, one, times, named, WellFormed, Seated, Kept, IsSlotOf, IsBio, IsWaiting, IsCompleted, IsOwned, finished_tables}
use Rattle.dispatch_core.proofs.Sides.{CanFinish}
use Rattle.dispatch_core.proofs.QueueLists.{find_first}
use Rattle.dispatch_core.proofs.Times.{Apart, Apart_from_times, set_cases, at_within, times-append, times_here, filter_map_same}
use Rattle.dispatch_core.proofs.Keeping.{put_from, outbox_same, outbox_other, outbox_past, waiting_same, completed_same, waiting_apart, sessions_same, owned_by, by_request, by_outbox, requests_set, outboxes_set, outbox_named, request_named, requests_named}
use Rattle.dispatch_core.proofs.Room.{Distinct, room}
use Rattle.dispatch_core.proofs.Written.{one-le, AreTaken, length-bios_at, All-bios_at, with_bios_apart, bios_at-with_bios, with_bios_each, one-with_bios, taken-with_bios, completed_written, length-completed, completed_done, completed_bios}

module _ (l : Limits) (n : ℕ) (t : Tables) (tag issue slot seat : ℕ) (entry : Seat) (request : Request) (w : WellFormed l n t) (can : CanFinish t tag issue slot seat entry request) where
  -- the request's slots
  abbrev slots : List ℕ
  slots = request.bios.items

  -- the slots in the seat's outbox
  abbrev box : List ℕ
  box = outbox_at t.outboxes seat

  -- the request's session sits somewhere
  owned : IsOwned t request
  owned = w.kept.request slot request can.here

  -- namely at this seat
  owned_here : owned.seat ≡ seat
  owned_here = w.seated.apart owned.seat seat owned.entry entry owned.sits can.sits (owned.session ∙ sym can.session)

  -- its bios wait
  waits : All (IsWaiting t.bios request.op seat) slots
  waits = subst (λ j. All (IsWaiting t.bios request.op j) slots) owned_here owned.bios

  -- they are in slots of the seat
  pub slots_of : All (IsSlotOf seat) slots
  slots_of k d lt = (waits k d lt).slot_of

  -- which are taken
  pub slots_taken : AreTaken t.bios slots
  slots_taken k d lt = ap one (waits k d lt).here

  -- the outbox is in its table
  outbox_within : seat < length t.outboxes
  outbox_within = omega (arith, can.within, w.sized.outboxes)

  -- the slots of the outbox and of the request are all different
  both_distinct : Distinct (box ++ slots)
  both_distinct q =
      let once : sum_by (by_request q) t.requests + sum_by (by_outbox q) t.outboxes ≡ one (at t.bios q) = w.kept.once q in
      let few : one (at t.bios q) ≤ 1 = one-le (at t.bios q) in
      let first : times q box ≤ sum_by (by_outbox q) t.outboxes = outbox_named q t.outboxes seat outbox_within in
      let second : times q slots ≤ sum_by (by_request q) t.requests = request_named q t.requests slot request can.here in
      let both : times q (box ++ slots) ≡ times q box + times q slots = times-append q box slots in
      omega (arith, once, few, first, second, both)

  -- the request's slots are all different
  pub distinct : Distinct slots
  distinct q = omega (arith, both_distinct q, times-append q box slots)

  -- all of them are slots of the seat
  both_of : All (IsSlotOf seat) (box ++ slots)
  both_of = All-append (IsSlotOf seat) box slots (λ k d lt. (w.kept.outbox seat can.within k d lt).slot_of) slots_of

  -- so they fit into the outbox
  pub outbox_room : length box + length slots ≤ 32
  outbox_room =
      let few = room (32 * seat) 32 (box ++ slots) both_distinct (λ k d lt. let of = both_of k d lt in (of.least, of.most)) in
      omega (arith, few, length-append box slots)

  -- a slot of another request
  pub other_apart : (k : ℕ) (r : Request) → (k ≡ slot → ⊥) → at t.requests k ≡ Some r → (i d : ℕ) → i < length r.bios.items → Apart (get_or r.bios.items i d) slots
  other_apart k r other h i d lt =
      let q = get_or r.bios.items i d in
      let once : sum_by (by_request q) t.requests + sum_by (by_outbox q) t.outboxes ≡ one (at t.bios q) = w.kept.once q in
      let few : one (at t.bios q) ≤ 1 = one-le (at t.bios q) in
      let here : 1 ≤ times q r.bios.items = times_here r.bios.items i d lt in
      let both : times q slots + times q r.bios.items ≤ sum_by (by_request q) t.requests = requests_named q t.requests slot k request r other can.here h in
      Apart_from_times q slots (omega (arith, once, few, here, both))

  -- a slot of an outbox
  pub outbox_apart : (j : ℕ) → j < 16 → (i d : ℕ) → i < length (outbox_at t.outboxes j) → Apart (get_or (outbox_at t.outboxes j) i d) slots
  outbox_apart j h i d lt m c le = waiting_apart t.bios request.op seat j (get_or slots m c) (get_or (outbox_at t.outboxes j) i d) (waits m c le) (w.kept.outbox j h i d lt)

  -- the session sits at no other seat
  pub no_session : (j : ℕ) → (j ≡ seat → ⊥) → is_session request.session (at t.seats j) ≡ false
  no_session j other = (elim (at t.seats j) as (λ o. at t.seats j ≡ o → is_session request.session o ≡ false) [
    | None ↦ λ e. refl
    | Some s ↦ λ e. ne_eqb s.session request.session (λ p. other (w.seated.apart j seat s entry e can.sits (p ∙ sym can.session)))
  ]) refl

  -- the session sits at this seat
  pub session_here : is_session request.session (at t.seats seat) ≡ true
  session_here = ap (is_session request.session) can.sits ∙ eq-eqb entry.session request.session can.session

  -- so this is the seat of the session
  pub seat_found : seat_of (meaning t) request.session ≡ Some seat
  seat_found = find_first (λ k. is_session request.session (at t.seats k)) 0 16 seat (omega arith) (omega (arith, can.within)) session_here
      (λ j _ lt. no_session j (λ e. absurd (omega (arith, e, lt))))

  module _ (effect : Effect) where
    -- the bios with their results
    abbrev results : List Bio
    results = completed effect t.overlay (bios_at t.bios slots)

    -- the tables afterwards
    abbrev now : Tables
    now = finished_tables t tag slot seat slots effect

    -- there are as many results as slots
    length-results : length results ≡ length slots
    length-results = length-completed effect t.overlay (bios_at t.bios slots) ∙ length-bios_at t.bios slots slots_taken

    -- the slots have the results
    results_are : bios_at now.bios slots ≡ results
    results_are = bios_at-with_bios t.bios slots results distinct slots_taken length-results

    -- the seats keep their rules
    pub seated : entry.leaving ≡ false → Seated (n + 1) now
    seated stays = record {
      early = λ k s h. let early = w.seated.early k s h in omega arith;
      apart = w.seated.apart;
      counted = λ k h. w.seated.counted k h ∙ sym (taken-with_bios seat k t.bios slots results can.within w.sized.bios slots_of slots_taken);
      left = λ k s h leaves. elim (cases_eq k seat) [
        | inl e ↦
            let both : Some entry ≡ Some s = sym can.sits ∙ sym (ap (at t.seats) e) ∙ h in
            let is : entry ≡ s = cc in
            let no : false ≡ true = sym stays ∙ ap (λ (x : Seat). x.leaving) is ∙ leaves in
            absurd cc
        | inr other ↦ outbox_other t.outboxes seat k (box ++ slots) other ∙ w.seated.left k s h leaves
      ];
    }

    -- each bio lies within the image
    kept_bio : (q : ℕ) (b : Bio) → at now.bios q ≡ Some b → IsBio l b
    kept_bio = with_bios_each (IsBio l) t.bios slots results slots_taken (completed_bios l effect t.overlay (bios_at t.bios slots) (All-bios_at (IsBio l) t.bios slots slots_taken w.kept.bio)) w.kept.bio

    -- every other request is owned
    kept_request : (k : ℕ) (r : Request) → at now.requests k ≡ Some r → IsOwned now r
    kept_request k r h = elim (set_cases t.requests slot k None (at_within t.requests slot request can.here)) [
      | inl here ↦ let both : None ≡ Some r = sym here.1 ∙ h in absurd cc
      | inr other ↦
          let was : at t.requests k ≡ Some r = sym other.1 ∙ h in
          owned_by t now r (sessions_same t.seats)
          (λ j all i d lt. waiting_same t.bios now.bios r.op j (get_or r.bios.items i d) (with_bios_apart t.bios slots results (get_or r.bios.items i d) (other_apart k r other.0 was i d lt)) (all i d lt))
          (w.kept.request k r was)
    ]

    -- the outboxes have the bios that they had
    outbox_keeps : (j : ℕ) → j < 16 → All (λ q. at now.bios q ≡ at t.bios q) (outbox_at t.outboxes j)
    outbox_keeps j h i d lt = with_bios_apart t.bios slots results (get_or (outbox_at t.outboxes j) i d) (outbox_apart j h i d lt)

    -- which are completed still
    still_done : (j : ℕ) → j < 16 → All (IsCompleted now.bios j) (outbox_at t.outboxes j)
    still_done j h i d lt = completed_same t.bios now.bios j (get_or (outbox_at t.outboxes j) i d) (outbox_keeps j h i d lt) (w.kept.outbox j h i d lt)

    -- and the request's bios are completed
    now_done : All (IsCompleted now.bios seat) slots
    now_done = completed_written seat t.bios slots results distinct slots_taken length-results slots_of (completed_done effect t.overlay (bios_at t.bios slots))

    -- so the outboxes have completed bios
    kept_outbox : (j : ℕ) → j < 16 → All (IsCompleted now.bios j) (outbox_at now.outboxes j)
    kept_outbox j h = elim (cases_eq j seat) [
      | inl e ↦ subst (λ i. All (IsCompleted now.bios i) (outbox_at now.outboxes i)) (sym e)
          (All-same (IsCompleted now.bios seat) (outbox_at now.outboxes seat) (box ++ slots) (outbox_same t.outboxes seat (box ++ slots) outbox_within)
          (All-append (IsCompleted now.bios seat) box slots (still_done seat can.within) now_done))
      | inr other ↦ All-same (IsCompleted now.bios j) (outbox_at now.outboxes j) (outbox_at t.outboxes j) (outbox_other t.outboxes seat j (box ++ slots) other) (still_done j h)
    ]

    -- each bio is named once
    kept_once : (q : ℕ) → named now q ≡ one (at now.bios q)
    kept_once q =
        let asked : sum_by (by_request q) now.requests + by_request q (at t.requests slot) ≡ sum_by (by_request q) t.requests + 0 =
        requests_set q t.requests slot None (at_within t.requests slot request can.here) in
        let gone : by_request q (at t.requests slot) ≡ times q slots = ap (by_request q) can.here in
        let boxed : sum_by (by_outbox q) now.outboxes + times q box ≡ sum_by (by_outbox q) t.outboxes + times q (box ++ slots) = outboxes_set q t.outboxes seat (box ++ slots) outbox_within in
        let both : times q (box ++ slots) ≡ times q box + times q slots = times-append q box slots in
        let once : sum_by (by_request q) t.requests + sum_by (by_outbox q) t.outboxes ≡ one (at t.bios q) = w.kept.once q in
        let same_one : one (at now.bios q) ≡ one (at t.bios q) = one-with_bios t.bios slots results q slots_taken in
        let goal : sum_by (by_request q) now.requests + sum_by (by_outbox q) now.outboxes ≡ one (at now.bios q) = omega (arith, asked, gone, boxed, both, once, same_one) in
        goal

    -- the bios keep their rules
    pub kept : Kept l now
    kept = record { bio = kept_bio; request = kept_request; outbox = kept_outbox; once = kept_once }

    -- what an outbox had means what it meant
    outbox_bios : (j : ℕ) → j < 16 → bios_at now.bios (outbox_at t.outboxes j) ≡ bios_at t.bios (outbox_at t.outboxes j)
    outbox_bios j h = filter_map_same (at now.bios) (at t.bios) (outbox_at t.outboxes j) (outbox_keeps j h)

    -- what it means for the outboxes
    pub outbox_is : (meaning now).outbox ≡ put (meaning t).outbox seat ((meaning t).outbox seat ++ completed effect t.overlay (bios_at t.bios request.bios.items))
    outbox_is = put_from (meaning t).outbox (meaning now).outbox seat (bios_at t.bios box ++ results)
        (ap (bios_at now.bios) (outbox_same t.outboxes seat (box ++ slots) outbox_within) ∙ filter_map-append (at now.bios) box slots
        ∙ ap (λ xs. xs ++ bios_at now.bios slots) (outbox_bios seat can.within) ∙ ap (λ xs. bios_at t.bios box ++ xs) results_are)
        (λ j other. ap (bios_at now.bios) (outbox_other t.outboxes seat j (box ++ slots) other) ∙ elim (cases_lt j 16) [
          | inl h ↦ outbox_bios j h
          | inr past ↦
              let none : outbox_at t.outboxes j ≡ [] = outbox_past t.outboxes j (omega (arith, past, w.sized.outboxes)) in
              ap (bios_at now.bios) none ∙ sym (ap (bios_at t.bios) none)
        ])
