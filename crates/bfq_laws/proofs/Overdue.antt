-- Before a dispatch the queue in service expires, for its time or its budget, or has room for its next request.
use Rattle.std.proofs.Common.{Bool, true, false, ◌≡◌, ◌⊎◌, inl, inr, ℕ, ◌+◌, ◌≤◌, nat_le, nat_lt, Some, cond, refl}
use Rattle.std.proofs.lemmas.Bool.{ltb-false}
use Rattle.plain.specs.declared.seat.InService.{InService}
use Rattle.plain.specs.Machine.{Bfq, Plain}
use Rattle.plain.specs.declared.seat.Expiry.{Expiry}
use Rattle.plain.specs.declared.seat.Expiry.TheVariants.{Exhaustion, Timeout}
use Rattle.plain.specs.Rules.{expire}
use Rattle.plain.specs.Opening.{Limits}
use Rattle.plain.specs.Steps.Dispatch.{has_queued, next_size, with_budget_in}
use Rattle.plain_laws.proofs.Puts.{some_is}

pub overdue : (l : Limits) (m : Plain) (slot : InService) (b : Bfq) → with_budget_in l m (Some slot) ≡ Some b
    → ((cause : Expiry) × (expire cause l.max_budget (has_queued m slot.seat) m.bfq ≡ Some b)) ⊎ ((slot.service + next_size m slot.seat ≤ m.bfq.budget slot.seat) × (m.bfq ≡ b))
overdue l m slot b e =
    let room : ℕ = m.bfq.budget slot.seat in
    let queued : Bool = has_queued m slot.seat in
    let asked : ℕ = slot.service + next_size m slot.seat in
    let R : Type 0 = ((cause : Expiry) × (expire cause l.max_budget (has_queued m slot.seat) m.bfq ≡ Some b)) ⊎ ((asked ≤ room) × (m.bfq ≡ b)) in
    elim (nat_le l.timeout slot.age) as (λ t. cond t (expire Timeout l.max_budget queued m.bfq) (cond (nat_lt room asked) (expire Exhaustion l.max_budget queued m.bfq) (Some m.bfq)) ≡ Some b → R) [
      | true ↦ λ late. inl (Timeout, late)
      | false ↦ λ early. elim (nat_lt room asked) as (λ t. nat_lt room asked ≡ t → cond t (expire Exhaustion l.max_budget queued m.bfq) (Some m.bfq) ≡ Some b → R) [
        | true ↦ λ _ f. inl (Exhaustion, f)
        | false ↦ λ fits f. inr (ltb-false room asked fits, some_is m.bfq b f)
      ] refl early
    ] e
