-- An outbox has no more bios than its seat has slots.
use Rattle.std.proofs.Common.{◌≡◌, inl, inr, ℕ, ◌+◌, ◌*◌, ◌<◌, ◌≤◌, [], length, sum_by, ap, arith}
use Rattle.std.proofs.lemmas.Bool.{cases_lt}
use Rattle.dispatch_core.proofs.Words.{Tables, meaning, outbox_at, Limits, at, one, times, WellFormed, IsSlotOf}
use Rattle.dispatch_core.proofs.Counts.{one-le}
use Rattle.dispatch_core.proofs.Keeping.{by_request, by_outbox, outbox_named, outbox_past}
use Rattle.dispatch_core.proofs.Looks.{length-outbox}
use Rattle.dispatch_core.proofs.Room.{Distinct, room}

-- no slot stands in it twice
pub outbox_distinct : (l : Limits) (n : ℕ) (t : Tables) (seat : ℕ) → WellFormed l n t → seat < 16 → Distinct (outbox_at t.outboxes seat)
outbox_distinct l n t seat w h q =
    let once : sum_by (by_request q) t.requests + sum_by (by_outbox q) t.outboxes ≡ one (at t.bios q) = w.kept.once q in
    let few : one (at t.bios q) ≤ 1 = one-le (at t.bios q) in
    let first : times q (outbox_at t.outboxes seat) ≤ sum_by (by_outbox q) t.outboxes = outbox_named q t.outboxes seat (omega (arith, h, w.sized.outboxes)) in
    omega (arith, once, few, first)

-- and all of them are the seat's
pub outbox_few : (l : Limits) (n : ℕ) (t : Tables) (seat : ℕ) → WellFormed l n t → seat < 16 → length (outbox_at t.outboxes seat) ≤ 32
outbox_few l n t seat w h =
    room (32 * seat) 32 (outbox_at t.outboxes seat) (outbox_distinct l n t seat w h)
    (λ k d lt. let of : IsSlotOf seat _ = (w.kept.outbox seat h k d lt).slot_of in (of.least, of.most))

-- so has the plain machine's
pub outbox_short : (l : Limits) (n : ℕ) (t : Tables) (seat : ℕ) → WellFormed l n t → length ((meaning t).outbox seat) ≤ 32
outbox_short l n t seat w =
    let same : length (outbox_at t.outboxes seat) ≡ length ((meaning t).outbox seat) = length-outbox l n t seat w in
    elim (cases_lt seat 16) [
      | inl h ↦ omega (arith, same, outbox_few l n t seat w h)
      | inr past ↦
          let none : outbox_at t.outboxes seat ≡ [] = outbox_past t.outboxes seat (omega (arith, w.sized.outboxes)) in
          let nothing : length (outbox_at t.outboxes seat) ≡ 0 = ap length none in
          omega (arith, same, nothing)
    ]
