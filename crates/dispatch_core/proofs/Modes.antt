-- Freeze, Thaw and Tick: one place of the tables changes.
use Rattle.std.proofs.Common.{◌≡◌, ℕ, ◌+◌, ◌<◌, ◌≤◌, Bool, Some, arith, subst}
use Rattle.std.proofs.lemmas.Option.{same_Some}
use Rattle.dispatch_core.proofs.Words.{InService, Tables, Limits, WellFormed, Ruled}
use Rattle.plain.specs.Steps.Tick.{older}
use Rattle.dispatch_core.proofs.Ruling.{with_bfq, well_with}
use Rattle.dispatch_core.proofs.Laws.{WellFormed-later}

-- tables with another word on whether submits wait
abbrev with_frozen : Tables → Bool → Tables
with_frozen t frozen = record t { frozen = frozen }

-- they hold together as before
pub frozen-well : (l : Limits) (n : ℕ) (t : Tables) (frozen : Bool) → WellFormed l n t → WellFormed l (n + 1) (record t { frozen = frozen })
frozen-well l n t frozen w = WellFormed-later l n (with_frozen t frozen) (record {
  sized = w.sized;
  seated = w.seated;
  kept = w.kept;
  placed = w.placed;
  ruled = w.ruled;
  young = w.young;
  first = w.first;
  served = w.served;
})

-- with the queue in service one tick older the rules of bfq hold as before
ticked-ruled : (l : Limits) (n : ℕ) (t : Tables) (slot : InService) → WellFormed l n t → t.in_service ≡ Some slot
    → Ruled l (with_bfq t t.heads t.trees t.parents t.weights t.budgets (Some (older slot)))
ticked-ruled l n t slot w here =
    let r = w.ruled in
    let seat : slot.seat < 16 = r.sized.seat slot here in
    let served : slot.service ≤ 65536 = r.bounded.served slot here in
    record {
      heads = r.heads;
      sized = record {
        trees = r.sized.trees;
        parents = r.sized.parents;
        weights = r.sized.weights;
        budgets = r.sized.budgets;
        groups = r.sized.groups;
        seat = λ x e. let P : InService → Type 0 = λ y. y.seat < 16 in subst P (same_Some (older slot) x e) seat;
      };
      bounded = record {
        vtimes = r.bounded.vtimes;
        starts = r.bounded.starts;
        finishes = r.bounded.finishes;
        least_budgets = r.bounded.least_budgets;
        most_budgets = r.bounded.most_budgets;
        served = λ x e. let P : InService → Type 0 = λ y. y.service ≤ 65536 in subst P (same_Some (older slot) x e) served;
      };
      first_vtime = r.first_vtime;
      least_budget = r.least_budget;
      first_budget = r.first_budget;
      most_budget = r.most_budget;
    }

-- and it is young still for the next step
pub ticked-well : (l : Limits) (n : ℕ) (t : Tables) (slot : InService) → WellFormed l n t → t.in_service ≡ Some slot
    → WellFormed l (n + 1) (record t { in_service = Some (record { seat = slot.seat; service = slot.service; age = slot.age + 1 }) })
ticked-well l n t slot w here =
    let young : slot.age < n = w.young slot here in
    let aged : slot.age + 1 < n + 1 = omega arith in
    well_with l (n + 1) t t.heads t.trees t.parents t.weights t.budgets (Some (older slot)) (WellFormed-later l n t w) (ticked-ruled l n t slot w here)
    (λ x e. let P : InService → Type 0 = λ y. y.age < n + 1 in subst P (same_Some (older slot) x e) aged)
