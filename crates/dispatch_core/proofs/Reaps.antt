-- The first completed bio of a seat leaves its outbox and its slot.
use Rattle.std.proofs.Common.{true, ◌≡◌, inl, inr, ℕ, ◌+◌, ◌-◌, ◌<◌, ◌≤◌, List, [], ◌∷◌, Some, None, length, get_or, refl, sym, ap, ◌∙◌, subst, arith}
use Rattle.std.specs.Prelude.{All, sum_by}
use Rattle.std.specs.Option.{option_map, option_map_or}
use Rattle.std.proofs.lemmas.Bool.{cases_eq, cases_lt}
use Rattle.std.proofs.lemmas.List.Elements.{All-head, All-tail, All-same}
use Rattle.dispatch_core.proofs.Words.{Bio, Request, Seat, Tables, bios_at, meaning, outbox_at, put, Limits, with_unreaped, unreaped, at, one, times, named, WellFormed, Seated, Kept, IsSlotOf, IsCompleted, IsOwned, reaped_tables}
use Rattle.dispatch_core.specs.WellFormed.{taken}
use Rattle.request_pool.specs.Slots.{seat_slots}
use Rattle.dispatch_core.proofs.Sides.{CanReap}
use Rattle.dispatch_core.proofs.Times.{Apart, Apart_from_times, set_cases, at_within, same, same_is, same_not, times-cons, bios_at-set}
use Rattle.dispatch_core.proofs.SlotCounts.{counted_set, one_taken}
use Rattle.dispatch_core.proofs.Keeping.{put-set, put_from, outbox_same, outbox_other, outbox_past, one_seat, waiting_set, completed_set, waiting_apart, IsBio_cleared, sessions_set, early_set, apart_set, owned_by, by_request, by_outbox, outboxes_set, outbox_named}

-- a bio in an outbox is counted by its seat
pub counted_once : (l : Limits) (n : ℕ) (t : Tables) (seat : ℕ) (entry : Seat) (place : ℕ) → WellFormed l n t → seat < 16 → at t.seats seat ≡ Some entry
    → IsCompleted t.bios seat place → 1 ≤ entry.unreaped
counted_once l n t seat entry place w h sits done =
    let counted : option_map_or (λ s. s.unreaped) (at t.seats seat) 0 ≡ taken (seat_slots seat t.bios) = w.seated.counted seat h in
    let was : option_map_or (λ s. s.unreaped) (at t.seats seat) 0 ≡ entry.unreaped = ap (λ o. option_map_or (λ s. s.unreaped) o 0) sits in
    let le : 1 ≤ taken (seat_slots seat t.bios) = one_taken seat place t.bios done.bio h w.sized.bios done.slot_of done.here in
    omega (arith, counted, was, le)

-- and its seat is taken
pub entry_of : (l : Limits) (n : ℕ) (t : Tables) (seat place : ℕ) → WellFormed l n t → seat < 16 → IsCompleted t.bios seat place → (entry : Seat) × (at t.seats seat ≡ Some entry)
entry_of l n t seat place w h done =
    let counted : option_map_or (λ s. s.unreaped) (at t.seats seat) 0 ≡ taken (seat_slots seat t.bios) = w.seated.counted seat h in
    let le : 1 ≤ taken (seat_slots seat t.bios) = one_taken seat place t.bios done.bio h w.sized.bios done.slot_of done.here in
    (elim (at t.seats seat) as (λ o. at t.seats seat ≡ o → (entry : Seat) × (o ≡ Some entry)) [
      | None ↦ λ e. let none : option_map_or (λ s. s.unreaped) (at t.seats seat) 0 ≡ 0 = ap (λ o. option_map_or (λ s. s.unreaped) o 0) e in absurd (omega arith)
      | Some entry ↦ λ e. (entry, refl)
    ]) refl

-- the first bio of an outbox has been completed
pub first_done : (l : Limits) (n : ℕ) (t : Tables) (seat place : ℕ) (rest : List ℕ) → WellFormed l n t → seat < 16 → outbox_at t.outboxes seat ≡ place ∷ rest
    → All (IsCompleted t.bios seat) (place ∷ rest)
first_done l n t seat place rest w h o = All-same (IsCompleted t.bios seat) (place ∷ rest) (outbox_at t.outboxes seat) (sym o) (w.kept.outbox seat h)

module _ (l : Limits) (n : ℕ) (t : Tables) (seat : ℕ) (entry : Seat) (place : ℕ) (rest : List ℕ) (bio : Bio) (w : WellFormed l n t) (can : CanReap t seat entry place rest bio) where
  -- the seat's entry with one bio less
  abbrev now_entry : Seat
  now_entry = with_unreaped (entry.unreaped - 1) entry

  -- the tables afterwards
  abbrev now : Tables
  now = reaped_tables t seat entry place rest

  -- the seat is in its table
  seat_within : seat < length t.seats
  seat_within = at_within t.seats seat entry can.sits

  -- the slot is in its table
  place_within : place < length t.bios
  place_within = at_within t.bios place bio can.here

  -- the outbox is in its table
  outbox_within : seat < length t.outboxes
  outbox_within = omega (arith, can.within, w.sized.outboxes)

  -- the outbox's bios are completed
  all_done : All (IsCompleted t.bios seat) (place ∷ rest)
  all_done = first_done l n t seat place rest w can.within can.outbox

  -- so is the first
  done : IsCompleted t.bios seat place
  done = All-head (IsCompleted t.bios seat) place rest all_done

  -- and so are the others
  rest_done : All (IsCompleted t.bios seat) rest
  rest_done = All-tail (IsCompleted t.bios seat) place rest all_done

  -- the slot stands in its outbox once
  apart_rest : Apart place rest
  apart_rest =
      let once : sum_by (by_request place) t.requests + sum_by (by_outbox place) t.outboxes ≡ one (at t.bios place) = w.kept.once place in
      let is_one : one (at t.bios place) ≡ 1 = ap one can.here in
      let le : times place (outbox_at t.outboxes seat) ≤ sum_by (by_outbox place) t.outboxes = outbox_named place t.outboxes seat outbox_within in
      let parts : times place (outbox_at t.outboxes seat) ≡ same place place + times place rest = ap (times place) can.outbox ∙ times-cons place place rest in
      let here : same place place ≡ 1 = same_is place in
      Apart_from_times place rest (omega (arith, once, is_one, le, parts, here))

  -- and it stands in no other outbox
  apart_other : (j : ℕ) → j < 16 → (j ≡ seat → ⊥) → Apart place (outbox_at t.outboxes j)
  apart_other j h other k d lt e =
      let there = w.kept.outbox j h k d lt in
      let of : IsSlotOf j place = subst (IsSlotOf j) e there.slot_of in
      other (one_seat j seat place of done.slot_of)

  -- what the outbox meant
  pub outbox_was : (meaning t).outbox seat ≡ bio ∷ bios_at t.bios rest
  outbox_was = ap (bios_at t.bios) can.outbox ∙ rw can.here refl

  -- the seats keep their rules
  pub seated : Seated (n + 1) now
  seated = record {
    early = early_set n t.seats seat now_entry seat_within (let early = w.seated.early seat entry can.sits in omega arith) w.seated.early;
    apart = apart_set t.seats seat now_entry seat_within w.seated.apart (λ j a h e. w.seated.apart j seat a entry h can.sits e);
    counted = counted_set t.seats t.bios seat place now_entry None can.within w.sized.seats w.sized.bios done.slot_of change w.seated.counted;
    left = left_reap;
  } where
    -- a seat that is leaving has no bio to be reaped
    left_reap : (k : ℕ) (s : Seat) → at now.seats k ≡ Some s → s.leaving ≡ true → outbox_at now.outboxes k ≡ []
    left_reap k s h leaves = elim (set_cases t.seats seat k (Some now_entry) seat_within) [
      | inl here ↦
          let both : Some now_entry ≡ Some s = sym here.1 ∙ h in
          let e : now_entry ≡ s = cc in
          let none : outbox_at t.outboxes seat ≡ [] = w.seated.left seat entry can.sits (ap (λ (x : Seat). x.leaving) e ∙ leaves) in
          let full : [] ≡ place ∷ rest = sym none ∙ can.outbox in
          absurd cc
      | inr other ↦ outbox_other t.outboxes seat k rest other.0 ∙ w.seated.left k s (sym other.1 ∙ h) leaves
    ]

    -- how many bios the seat had
    was : option_map_or (λ s. s.unreaped) (at t.seats seat) 0 ≡ entry.unreaped
    was = ap (λ o. option_map_or (λ s. s.unreaped) o 0) can.sits

    -- the slot is taken
    is_one : one (at t.bios place) ≡ 1
    is_one = ap one can.here

    -- the seat has one bio less, and one taken slot less
    change : now_entry.unreaped + one (at t.bios place) ≡ option_map_or (λ s. s.unreaped) (at t.seats seat) 0 + 0
    change = omega (arith, was, is_one, counted_once l n t seat entry place w can.within can.sits done)

  -- every request is owned
  kept_request : (k : ℕ) (r : Request) → at now.requests k ≡ Some r → IsOwned now r
  kept_request k r h = owned_by t now r (sessions_set t.seats seat entry now_entry can.sits refl)
      (λ j all i d lt. let here = all i d lt in waiting_set t.bios r.op j (get_or r.bios.items i d) place None (waiting_apart t.bios r.op j seat _ place here done) here)
      (w.kept.request k r h)

  -- completed bios in other slots stay
  still_done : (j : ℕ) (xs : List ℕ) → Apart place xs → All (IsCompleted t.bios j) xs → All (IsCompleted now.bios j) xs
  still_done j xs apart all k d lt = completed_set t.bios j (get_or xs k d) place None (apart k d lt) (all k d lt)

  -- so the outboxes have completed bios
  kept_outbox : (j : ℕ) → j < 16 → All (IsCompleted now.bios j) (outbox_at now.outboxes j)
  kept_outbox j h = elim (cases_eq j seat) [
    | inl e ↦ subst (λ i. All (IsCompleted now.bios i) (outbox_at now.outboxes i)) (sym e)
        (All-same (IsCompleted now.bios seat) (outbox_at now.outboxes seat) rest (outbox_same t.outboxes seat rest outbox_within) (still_done seat rest apart_rest rest_done))
    | inr other ↦ All-same (IsCompleted now.bios j) (outbox_at now.outboxes j) (outbox_at t.outboxes j) (outbox_other t.outboxes seat j rest other)
        (still_done j (outbox_at t.outboxes j) (apart_other j h other) (w.kept.outbox j h))
  ]

  -- each bio is named once
  kept_once : (q : ℕ) → named now q ≡ one (at now.bios q)
  kept_once q =
      let sums : sum_by (by_outbox q) now.outboxes + times q (outbox_at t.outboxes seat) ≡ sum_by (by_outbox q) t.outboxes + times q rest = outboxes_set q t.outboxes seat rest outbox_within in
      let parts : times q (outbox_at t.outboxes seat) ≡ same place q + times q rest = ap (times q) can.outbox ∙ times-cons q place rest in
      let once : sum_by (by_request q) t.requests + sum_by (by_outbox q) t.outboxes ≡ one (at t.bios q) = w.kept.once q in
      let goal : sum_by (by_request q) t.requests + sum_by (by_outbox q) now.outboxes ≡ one (at now.bios q) =
      elim (set_cases t.bios place q None place_within) [
        | inl here ↦
            let s : same place q ≡ 1 = ap (same place) here.0 ∙ same_is place in
            let o : one (at t.bios q) ≡ 1 = ap (λ k. one (at t.bios k)) here.0 ∙ ap one can.here in
            let p : one (at now.bios q) ≡ 0 = ap one here.1 in
            omega arith
        | inr other ↦
            let s : same place q ≡ 0 = same_not place q (λ e. other.0 (sym e)) in
            let p : one (at now.bios q) ≡ one (at t.bios q) = ap one other.1 in
            omega arith
      ] in
      goal

  -- the bios keep their rules
  pub kept : Kept l now
  kept = record { bio = IsBio_cleared l t.bios place place_within w.kept.bio; request = kept_request; outbox = kept_outbox; once = kept_once }

  -- what it means for the seats
  pub seat_is : (meaning now).seat ≡ put (meaning t).seat seat (option_map (with_unreaped (unreaped (meaning t) seat - 1)) ((meaning t).seat seat))
  seat_is =
      let value : option_map (with_unreaped (unreaped (meaning t) seat - 1)) (at t.seats seat) ≡ Some now_entry =
      ap (λ o. option_map (with_unreaped (option_map_or (λ s. s.unreaped) o 0 - 1)) o) can.sits in
      put-set t.seats seat (Some now_entry) seat_within ∙ ap (put (at t.seats) seat) (sym value)

  -- what it means for the outboxes
  pub outbox_is : (meaning now).outbox ≡ put (meaning t).outbox seat (bios_at t.bios rest)
  outbox_is = put_from (meaning t).outbox (meaning now).outbox seat (bios_at t.bios rest)
      (ap (bios_at now.bios) (outbox_same t.outboxes seat rest outbox_within) ∙ bios_at-set t.bios place None rest apart_rest)
      (λ j other. ap (bios_at now.bios) (outbox_other t.outboxes seat j rest other) ∙ elim (cases_lt j 16) [
        | inl h ↦ bios_at-set t.bios place None (outbox_at t.outboxes j) (apart_other j h other)
        | inr past ↦
            let none : outbox_at t.outboxes j ≡ [] = outbox_past t.outboxes j (omega (arith, w.sized.outboxes)) in
            ap (bios_at now.bios) none ∙ sym (ap (bios_at t.bios) none)
      ])
