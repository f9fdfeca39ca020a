use Rattle.std.proofs.Common.{◌≡◌, ℕ, zero, suc, List, [], ◌∷◌, None, get_or, refl, sym, ap, rules}
use Rattle.std.specs.Prelude.{slice_get}
use Rattle.dispatch_core.proofs.slots.outbox_slots.Goals as goal

slice_get-none : {A : Type 0} (xs : List A) (i : ℕ) (d : A) → slice_get xs i ≡ None → get_or xs i d ≡ d
slice_get-none [] i d e = refl
slice_get-none (x ∷ xs) zero d e = cc
slice_get-none (x ∷ xs) (suc i) d e = slice_get-none xs i d e

pub returns-in-None-clause-slots : goal.returns-in-None-clause-slots
returns-in-None-clause-slots c =
    let none : slice_get c.args.parts.now.tables.outboxes c.args.seat ≡ None = search rules in
    sym (ap (λ o. o.items) (slice_get-none c.args.parts.now.tables.outboxes c.args.seat (record { items = [] }) none))
