-- The queue in service expires if it is due, by whether a request waits there.
use Rattle.std.proofs.Common.{true, false, Bool, not, ◌≡◌, ℕ, ◌+◌, nat_le, nat_lt, Option, Some, ap, sym, ◌∙◌}
use Rattle.std.proofs.lemmas.Bool.{cond-true, cond-false}
use Rattle.plain.specs.declared.seat.InService.{InService}
use Rattle.plain.specs.declared.seat.Expiry.TheVariants.{Exhaustion, Timeout}
use Rattle.plain.specs.Machine.{Bfq}
use Rattle.plain.specs.Opening.{Limits}
use Rattle.plain.specs.Steps.Dispatch.{has_queued, next_size, with_budget_in}
use Rattle.dispatch_core.proofs.Words.{Tables, WellFormed, meaning, bfq_of, expire, is_empty, queue_slots, whole_at}
use Rattle.dispatch_core.proofs.QueueLists.{queue_empty}
use Rattle.dispatch_core.proofs.QueueFacts.{linked_some}

-- a queue has a request exactly if it has a link
queued_is : (l : Limits) (n : ℕ) (t : Tables) (seat : ℕ) (none : Bool) → WellFormed l n t → none ≡ is_empty (queue_slots seat t.links) → not none ≡ has_queued (meaning t) seat
queued_is l n t seat none well e = ap not (e ∙ sym (queue_empty (whole_at t.requests t.bios) seat t.links (linked_some n t well.placed)))

module _ (l : Limits) (n : ℕ) (t : Tables) (slot : InService) (none : Bool) (o : Option Bfq) (well : WellFormed l n t) (serves : t.in_service ≡ Some slot)
    (asked : none ≡ is_empty (queue_slots slot.seat t.links)) where
  -- its time is up
  pub room_late : nat_le l.timeout slot.age ≡ true → expire Timeout l.max_budget (not none) (bfq_of t) ≡ o → with_budget_in l (meaning t) t.in_service ≡ o
  room_late late made =
      ap (with_budget_in l (meaning t)) serves ∙ cond-true (nat_le l.timeout slot.age) _ _ late
      ∙ ap (λ q. expire Timeout l.max_budget q (bfq_of t)) (sym (queued_is l n t slot.seat none well asked)) ∙ made

  -- its budget has no room
  pub room_full : nat_le l.timeout slot.age ≡ false → nat_lt ((bfq_of t).budget slot.seat) (slot.service + next_size (meaning t) slot.seat) ≡ true
      → expire Exhaustion l.max_budget (not none) (bfq_of t) ≡ o → with_budget_in l (meaning t) t.in_service ≡ o
  room_full early full made =
      ap (with_budget_in l (meaning t)) serves ∙ cond-false (nat_le l.timeout slot.age) _ _ early ∙ cond-true (nat_lt ((bfq_of t).budget slot.seat) (slot.service + next_size (meaning t) slot.seat)) _ _ full
      ∙ ap (λ q. expire Exhaustion l.max_budget q (bfq_of t)) (sym (queued_is l n t slot.seat none well asked)) ∙ made
