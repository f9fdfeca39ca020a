-- What the code reads off the tables is what the machine shows.
use Rattle.std.proofs.Common.{◌≡◌, ℕ, ◌<◌, List, [], length, Some, refl, sym, ap, ◌∙◌, subst, arith, inl, inr}
use Rattle.std.proofs.lemmas.Bool.{cases_lt}
use Rattle.dispatch_core.proofs.Words.{Tables, Range, Request, Issue, bios_at, meaning, outbox_at, Limits, range_of, first_start, total_count, at, one, WellFormed}
use Rattle.std.specs.Option.{option_map}
use Rattle.plain.specs.declared.answer.Work.{Work}
use Rattle.plain.specs.Device.{work_of}
use Rattle.dispatch_core.proofs.Queues.{flight_borne}
use Rattle.dispatch_core.proofs.Sectors.{range_is, request_taken}
use Rattle.dispatch_core.proofs.Keeping.{outbox_past}
use Rattle.dispatch_core.proofs.Written.{AreTaken, length-bios_at}

outbox_taken : (l : Limits) (n : ℕ) (t : Tables) (seat : ℕ) → WellFormed l n t → seat < 16 → AreTaken t.bios (outbox_at t.outboxes seat)
outbox_taken l n t seat w h k d lt = ap one ((w.kept.outbox seat h k d lt).here)

-- an outbox has as many bios as slots
pub length-outbox : (l : Limits) (n : ℕ) (t : Tables) (seat : ℕ) → WellFormed l n t → length (outbox_at t.outboxes seat) ≡ length (bios_at t.bios (outbox_at t.outboxes seat))
length-outbox l n t seat w = elim (cases_lt seat 16) [
  | inl here ↦ sym (length-bios_at t.bios (outbox_at t.outboxes seat) (outbox_taken l n t seat w here))
  | inr past ↦
      let none : outbox_at t.outboxes seat ≡ [] = outbox_past t.outboxes seat (omega (arith, w.sized.outboxes)) in
      let P : List ℕ → Type 0 = λ s. length s ≡ length (bios_at t.bios s) in
      subst P (sym none) refl
]

-- what a tag bears, as a device takes it
pub shown_flight : (l : Limits) (n : ℕ) (t : Tables) (tag : ℕ) (issue : Issue) (r : Request) (range : Range) → WellFormed l n t → at t.tags tag ≡ Some issue → at t.requests issue.slot ≡ Some r
    → range.start ≡ first_start t.bios r.bios.items → range.count ≡ total_count t.bios r.bios.items
    → Some (record { tag = tag; issue = issue.issue; op = r.op; range = range }) ≡ option_map (work_of tag) ((meaning t).flight tag)
shown_flight l n t tag issue r range w tagged here start count =
    let read : range ≡ record { start = first_start t.bios r.bios.items; count = total_count t.bios r.bios.items } = (λ i. record { start = start i; count = count i }) in
    let whole_range : range ≡ range_of (bios_at t.bios r.bios.items) = read ∙ sym (range_is t.bios r.bios.items (request_taken l n t issue.slot r w here)) in
    sym (ap (option_map (work_of tag)) (flight_borne t (at t.tags tag) issue r tagged here)
    ∙ ap (λ (g : Range). let v : Work = record { tag = tag; issue = issue.issue; op = r.op; range = g } in Some v) (sym whole_range))
