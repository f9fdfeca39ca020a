-- Seats, bios and outboxes through each step.
use Rattle.std.proofs.Common.{◌≡◌, ℕ, ◌+◌, ◌-◌, ◌<◌, List, ◌∷◌, inl, inr, length, false, Some, set, sym, ap, ◌∙◌, arith}
use Rattle.std.specs.Option.{option_map, option_map_or}
use Rattle.dispatch_core.proofs.Words.{Range, Op, Bio, Request, Seat, Tables, bios_at, meaning, put, Limits, with_unreaped, unreaped, at, WellFormed, Seated, Kept, attached_tables, submitted_tables, reaped_tables, sent_tables}
use Rattle.request_pool.specs.Slots.{seat_slots}
use Rattle.sector_core.specs.Table.{AllTaken}
use Rattle.sector_core.specs.declared.class.Class.{Class}
use Rattle.dispatch_core.specs.WellFormed.{taken}
use Rattle.dispatch_core.proofs.Sides.{CanAttach, CanSubmit, CanReap, CanSend}
use Rattle.dispatch_core.proofs.Times.{set_cases}
use Rattle.dispatch_core.proofs.SlotCounts.{all_taken}
use Rattle.dispatch_core.proofs.Keeping.{put-set, sessions_same, sessions_free, left_set, early_set, apart_set, owned_by}
use Rattle.dispatch_core.proofs.Submits as submit
use Rattle.dispatch_core.proofs.Reaps as reap
use Rattle.dispatch_core.proofs.Reaps.{first_done, counted_once, entry_of}

-- Attach
pub attached-seated : (l : Limits) (n : ℕ) (t : Tables) (seat group prio : ℕ) (class : Class) → WellFormed l n t → CanAttach t seat → Seated (n + 1) (attached_tables l t n seat group prio class)
attached-seated l n t seat group prio class w can = record {
  early = early_set n t.seats seat entry within (omega arith) w.seated.early;
  apart = apart_set t.seats seat entry within w.seated.apart (λ j a h e. let early = w.seated.early j a h in absurd (omega arith));
  counted = λ k h. counted_attach k h;
  left = left_set t.seats t.outboxes seat entry within (λ e. absurd cc) w.seated.left;
} where
  entry : Seat
  entry = record { session = n; prio = prio; unreaped = 0; leaving = false }

  within : seat < length t.seats
  within = omega (arith, can.within, w.sized.seats)

  counted_attach : (k : ℕ) → k < 16 → option_map_or (λ s. s.unreaped) (at (set t.seats seat (Some entry)) k) 0 ≡ taken (seat_slots k t.bios)
  counted_attach k h = elim (set_cases t.seats seat k (Some entry) within) [
    | inl here ↦ ap (λ o. option_map_or (λ s. s.unreaped) o 0) here.1 ∙ sym (ap (λ j. option_map_or (λ s. s.unreaped) (at t.seats j) 0) here.0 ∙ ap (λ o. option_map_or (λ s. s.unreaped) o 0) can.free) ∙ w.seated.counted k h
    | inr other ↦ ap (λ o. option_map_or (λ s. s.unreaped) o 0) other.1 ∙ w.seated.counted k h
  ]

pub attached-kept : (l : Limits) (n : ℕ) (t : Tables) (seat group prio : ℕ) (class : Class) → WellFormed l n t → CanAttach t seat → Kept l (attached_tables l t n seat group prio class)
attached-kept l n t seat group prio class w can = record {
  bio = w.kept.bio;
  request = λ k r h. owned_by t (attached_tables l t n seat group prio class) r
      (sessions_free t.seats seat (record { session = n; prio = prio; unreaped = 0; leaving = false }) (omega (arith, can.within, w.sized.seats)) can.free) (λ j all. all) (w.kept.request k r h);
  outbox = w.kept.outbox;
  once = w.kept.once;
}

pub attached-seat : (l : Limits) (n : ℕ) (t : Tables) (seat group prio : ℕ) (class : Class) → WellFormed l n t → CanAttach t seat
    → (meaning (attached_tables l t n seat group prio class)).seat ≡ put (meaning t).seat seat (Some (record { session = n; prio = prio; unreaped = 0; leaving = false }))
attached-seat l n t seat group prio class w can = put-set t.seats seat (Some (record { session = n; prio = prio; unreaped = 0; leaving = false })) (omega (arith, can.within, w.sized.seats))

-- Submit: where fewer than 32 bios are not yet reaped, the seat has a free slot
pub free_place : (l : Limits) (n : ℕ) (t : Tables) (seat : ℕ) (entry : Seat) → WellFormed l n t → seat < 16 → at t.seats seat ≡ Some entry → entry.unreaped < 32
    → AllTaken (seat_slots seat t.bios) → ⊥
free_place l n t seat entry w h s few = λ all.
    let counted : option_map_or (λ e. e.unreaped) (at t.seats seat) 0 ≡ taken (seat_slots seat t.bios) = w.seated.counted seat h in
    let was : option_map_or (λ e. e.unreaped) (at t.seats seat) 0 ≡ entry.unreaped = ap (λ o. option_map_or (λ e. e.unreaped) o 0) s in
    let full : taken (seat_slots seat t.bios) ≡ 32 = all_taken seat t.bios h w.sized.bios all in
    absurd (omega (arith, counted, was, full, few))

pub submitted-seated : (l : Limits) (n : ℕ) (t : Tables) (seat : ℕ) (entry : Seat) (slot place session : ℕ) (op : Op) (range : Range) (payload : List ℕ)
    → WellFormed l n t → CanSubmit l t seat entry slot place session op range payload → Seated (n + 1) (submitted_tables t n seat entry slot place session op range payload)
submitted-seated l n t seat entry slot place session op range payload w can = submit.seated l n t seat entry slot place session op range payload w can

pub submitted-kept : (l : Limits) (n : ℕ) (t : Tables) (seat : ℕ) (entry : Seat) (slot place session : ℕ) (op : Op) (range : Range) (payload : List ℕ)
    → WellFormed l n t → CanSubmit l t seat entry slot place session op range payload → Kept l (submitted_tables t n seat entry slot place session op range payload)
submitted-kept l n t seat entry slot place session op range payload w can = submit.kept l n t seat entry slot place session op range payload w can

pub submitted-seat : (l : Limits) (n : ℕ) (t : Tables) (seat : ℕ) (entry : Seat) (slot place session : ℕ) (op : Op) (range : Range) (payload : List ℕ)
    → WellFormed l n t → CanSubmit l t seat entry slot place session op range payload
    → (meaning (submitted_tables t n seat entry slot place session op range payload)).seat
    ≡ put (meaning t).seat seat (option_map (with_unreaped (unreaped (meaning t) seat + 1)) ((meaning t).seat seat))
submitted-seat l n t seat entry slot place session op range payload w can = submit.seat_is l n t seat entry slot place session op range payload w can

pub submitted-outbox : (l : Limits) (n : ℕ) (t : Tables) (seat : ℕ) (entry : Seat) (slot place session : ℕ) (op : Op) (range : Range) (payload : List ℕ)
    → WellFormed l n t → CanSubmit l t seat entry slot place session op range payload
    → (meaning (submitted_tables t n seat entry slot place session op range payload)).outbox ≡ (meaning t).outbox
submitted-outbox l n t seat entry slot place session op range payload w can = submit.outbox_is l n t seat entry slot place session op range payload w can

pub reaped-outbox_was : (l : Limits) (n : ℕ) (t : Tables) (seat : ℕ) (entry : Seat) (place : ℕ) (rest : List ℕ) (bio : Bio) → WellFormed l n t → CanReap t seat entry place rest bio
    → (meaning t).outbox seat ≡ bio ∷ bios_at t.bios rest
reaped-outbox_was l n t seat entry place rest bio w can = reap.outbox_was l n t seat entry place rest bio w can

pub reaped-seated : (l : Limits) (n : ℕ) (t : Tables) (seat : ℕ) (entry : Seat) (place : ℕ) (rest : List ℕ) (bio : Bio) → WellFormed l n t → CanReap t seat entry place rest bio
    → Seated (n + 1) (reaped_tables t seat entry place rest)
reaped-seated l n t seat entry place rest bio w can = reap.seated l n t seat entry place rest bio w can

pub reaped-kept : (l : Limits) (n : ℕ) (t : Tables) (seat : ℕ) (entry : Seat) (place : ℕ) (rest : List ℕ) (bio : Bio) → WellFormed l n t → CanReap t seat entry place rest bio
    → Kept l (reaped_tables t seat entry place rest)
reaped-kept l n t seat entry place rest bio w can = reap.kept l n t seat entry place rest bio w can

pub reaped-seat : (l : Limits) (n : ℕ) (t : Tables) (seat : ℕ) (entry : Seat) (place : ℕ) (rest : List ℕ) (bio : Bio) → WellFormed l n t → CanReap t seat entry place rest bio
    → (meaning (reaped_tables t seat entry place rest)).seat ≡ put (meaning t).seat seat (option_map (with_unreaped (unreaped (meaning t) seat - 1)) ((meaning t).seat seat))
reaped-seat l n t seat entry place rest bio w can = reap.seat_is l n t seat entry place rest bio w can

pub reaped-outbox : (l : Limits) (n : ℕ) (t : Tables) (seat : ℕ) (entry : Seat) (place : ℕ) (rest : List ℕ) (bio : Bio) → WellFormed l n t → CanReap t seat entry place rest bio
    → (meaning (reaped_tables t seat entry place rest)).outbox ≡ put (meaning t).outbox seat (bios_at t.bios rest)
reaped-outbox l n t seat entry place rest bio w can = reap.outbox_is l n t seat entry place rest bio w can

-- Dispatch
pub sent-seated : (l : Limits) (n : ℕ) (t : Tables) (seat slot tag : ℕ) (request : Request) → WellFormed l n t → CanSend l t seat slot tag request → Seated (n + 1) (sent_tables t n seat slot tag)
sent-seated l n t seat slot tag request w can = record { early = λ k s h. let early = w.seated.early k s h in omega arith; apart = w.seated.apart; counted = w.seated.counted; left = w.seated.left }

pub sent-kept : (l : Limits) (n : ℕ) (t : Tables) (seat slot tag : ℕ) (request : Request) → WellFormed l n t → CanSend l t seat slot tag request → Kept l (sent_tables t n seat slot tag)
sent-kept l n t seat slot tag request w can = record {
  bio = w.kept.bio;
  request = λ k r h. owned_by t (sent_tables t n seat slot tag) r (sessions_same t.seats) (λ j all. all) (w.kept.request k r h);
  outbox = w.kept.outbox;
  once = w.kept.once;
}
