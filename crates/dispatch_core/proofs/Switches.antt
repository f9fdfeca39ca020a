-- Switch: its tests, and the tables after it.
use Rattle.std.proofs.Common.{◌≡◌, ℕ, zero, suc, ◌+◌, ◌<◌, ◌≤◌, List, [], ◌∷◌, Option, None, Bool, true, false, cond, is_some, nat_lt, length, get_or, refl, sym, ap, ◌∙◌, subst, arith}
use Rattle.std.proofs.Math.Path.{fun_ext}
use Rattle.std.proofs.lemmas.List.Sums.{sum_by-cons}
use Rattle.sector_core.specs.declared.config.Scheduler.{Scheduler}
use Rattle.dispatch_core.proofs.Words.{Tables, Bfq, Plain, bfq_of, meaning, Limits, requests_of, at, one, WellFormed, Ruled, Classes}
use Rattle.bfq_select.specs.Service.{IsSized, IsBounded}
use Rattle.plain.specs.declared.answer.Code.TheVariants.{NotFrozen, NotDrained, SameScheduler, HistoryFull}
use Rattle.plain.specs.declared.answer.Reply.TheVariants.{Done}
use Rattle.plain.specs.declared.answer.Answer.{Answer}
use Rattle.plain.specs.declared.answer.Answer.TheVariants.{Accepted, Refused}
use Rattle.plain.specs.Tests.{accepted}
use Rattle.plain.specs.Steps.Switch.{is_same, begun_again, switched, switch}
use Rattle.plain.specs.Step.{MayGiveWay}
use Rattle.dispatch_core.specs.WellFormed.{taken}
use Rattle.dispatch_core.proofs.QueueFacts.{queued_is, in_flight_is}
use Rattle.dispatch_core.proofs.Requeued.{requeued_is}
use Rattle.dispatch_core.proofs.Ruling.{with_bfq, well_with}
use Rattle.dispatch_core.proofs.Laws.{WellFormed-later}

-- a table with a place that is taken has one at least
some_counted : {A : Type 0} (xs : List (Option A)) (k : ℕ) → is_some (at xs k) ≡ true → 1 ≤ taken xs
some_counted [] k h = absurd cc
some_counted (x ∷ xs) zero h =
    let here : one x ≡ 1 = ap (λ b. cond b 1 0) h in
    omega (arith, sum_by-cons (λ v. cond (is_some v) 1 0) x xs, here)
some_counted (x ∷ xs) (suc k) h = omega (arith, sum_by-cons (λ v. cond (is_some v) 1 0) x xs, some_counted xs k h)

-- and one without such a place has none
none_counted : {A : Type 0} (xs : List (Option A)) → ((j : ℕ) → j < length xs → at xs j ≡ None) → taken xs ≡ 0
none_counted [] h = refl
none_counted (x ∷ xs) h =
    let here : one x ≡ 0 = ap one (h zero (omega arith)) in
    omega (arith, sum_by-cons (λ v. cond (is_some v) 1 0) x xs, here, none_counted xs (λ j l. h (suc j) (omega arith)))

pub none_taken : {A : Type 0} (xs : List (Option A)) → ((j : ℕ) → j < length xs → at xs j ≡ None) → nat_lt 0 (taken xs) ≡ false
none_taken xs h = ap (nat_lt 0) (none_counted xs h)

-- the taken slots are the requests
pub any_request : (l : Limits) (n : ℕ) (t : Tables) → WellFormed l n t → nat_lt 0 (taken t.requests) ≡ nat_lt 0 (requests_of l (meaning t))
any_request l n t w =
    let all : taken t.requests ≡ requests_of l (meaning t) =
    omega (arith, w.placed.counted, queued_is n t w.placed, in_flight_is l n t w.placed w.sized.tags, requeued_is n t w.placed) in
    ap (nat_lt 0) all

-- What the plain step says.
module _ (l : Limits) (m : Plain) (room : Bool) (scheduler : Scheduler) where
  pub switch_thawed : m.frozen ≡ false → switch l m room scheduler ≡ (m, Refused NotFrozen)
  switch_thawed thawed = rw thawed refl

  module _ (frozen : m.frozen ≡ true) where
    pub switch_full : nat_lt 0 (requests_of l m) ≡ true → switch l m room scheduler ≡ (m, Refused NotDrained)
    switch_full full = rw (frozen, full) refl

    module _ (drained : nat_lt 0 (requests_of l m) ≡ false) where
      pub switch_same : is_same scheduler m.scheduler ≡ true → switch l m room scheduler ≡ (m, Refused SameScheduler)
      switch_same same = rw (frozen, drained, same) refl

      pub switch_goes : is_same scheduler m.scheduler ≡ false → switch l m room scheduler ≡ accepted room m (switched l m scheduler) Done
      switch_goes other = rw (frozen, drained, other) refl

      pub switch_late : is_same scheduler m.scheduler ≡ false → room ≡ false → switch l m room scheduler ≡ (m, Refused HistoryFull)
      switch_late other e = switch_goes other ∙ ap (λ b. accepted b m (switched l m scheduler) Done) e

      pub switch_does : is_same scheduler m.scheduler ≡ false → room ≡ true → switch l m room scheduler ≡ (switched l m scheduler, Accepted Done)
      switch_does other e = switch_goes other ∙ ap (λ b. accepted b m (switched l m scheduler) Done) e

      pub switch_accepts : is_same scheduler m.scheduler ≡ false → room ≡ true → MayGiveWay (switch l m room scheduler).1
      switch_accepts other e = let P : Plain × Answer → Type 0 = λ o. MayGiveWay o.1 in subst P (sym (switch_does other e)) tt

-- the tables with another scheduler, where the turns, the heads, the trees and the budgets begin again
abbrev pub begun : Tables → Scheduler → List ℕ → List Classes → List ℕ → Tables
begun t scheduler heads trees budgets =
    record t { scheduler = scheduler; frozen = true; served = 15; heads = heads; trees = trees; budgets = budgets }

-- so they are after the heads, and after the rest
pub heads_begun : (t a h : Tables) (scheduler : Scheduler) → a ≡ record t { scheduler = scheduler; frozen = true; served = 15 } → h ≡ record a { heads = h.heads }
    → h ≡ begun t scheduler h.heads t.trees t.budgets
heads_begun t a h scheduler first second = second ∙ ap (λ (x : Tables). let y : Tables = record x { heads = h.heads } in y) first

pub all_begun : (t h u : Tables) (scheduler : Scheduler) → h ≡ begun t scheduler h.heads t.trees t.budgets → u ≡ record h { trees = u.trees; budgets = u.budgets }
    → u ≡ begun t scheduler h.heads u.trees u.budgets
all_begun t h u scheduler first second = second ∙ ap (λ (x : Tables). let y : Tables = record x { trees = u.trees; budgets = u.budgets } in y) first

-- the mode and the heads are nothing to bfq
pub bfq_kept : (t h : Tables) (scheduler : Scheduler) → h ≡ begun t scheduler h.heads t.trees t.budgets → bfq_of h ≡ bfq_of t
bfq_kept t h scheduler e = ap bfq_of e

pub sized_kept : (t h : Tables) (scheduler : Scheduler) → h ≡ begun t scheduler h.heads t.trees t.budgets → IsSized t → IsSized h
sized_kept t h scheduler e s =
    let now : IsSized (begun t scheduler h.heads t.trees t.budgets) =
    record { trees = s.trees; parents = s.parents; weights = s.weights; budgets = s.budgets; groups = s.groups; seat = s.seat } in
    subst IsSized (sym e) now

-- they mean the plain step
pub begun-meaning : (l : Limits) (t : Tables) (scheduler : Scheduler) (heads : List ℕ) (trees : List Classes) (budgets : List ℕ) → t.frozen ≡ true
    → ((k : ℕ) → get_or heads k 0 ≡ 0) → bfq_of (begun t scheduler heads trees budgets) ≡ begun_again l scheduler (bfq_of t)
    → meaning (begun t scheduler heads trees budgets) ≡ switched l (meaning t) scheduler
begun-meaning l t scheduler heads trees budgets frozen each again =
    let now : Bfq = bfq_of (begun t scheduler heads trees budgets) in
    ap (λ (f : Bool). let m : Plain = record (meaning t) { scheduler = scheduler; frozen = f; served = 15; head = λ k. get_or heads k 0; bfq = now } in m) (sym frozen)
    ∙ ap (λ (h : ℕ → ℕ). let m : Plain = record (meaning t) { scheduler = scheduler; served = 15; head = h; bfq = now } in m) (fun_ext each)
    ∙ ap (λ (b : Bfq). let m : Plain = record (meaning t) { scheduler = scheduler; served = 15; head = λ _. 0; bfq = b } in m) again

-- with another mode they hold together
moded-well : (l : Limits) (n : ℕ) (t : Tables) (scheduler : Scheduler) → WellFormed l n t → WellFormed l n (record t { scheduler = scheduler; frozen = true; served = 15 })
moded-well l n t scheduler w = record {
  sized = w.sized;
  seated = w.seated;
  kept = w.kept;
  placed = w.placed;
  ruled = w.ruled;
  young = w.young;
  first = w.first;
  served = omega arith;
}

-- and so they do where the rest begins again
pub begun-well : (l : Limits) (n : ℕ) (t : Tables) (scheduler : Scheduler) (heads : List ℕ) (trees : List Classes) (budgets : List ℕ) → WellFormed l n t
    → length heads ≡ 16 → IsSized (begun t scheduler heads trees budgets) → IsBounded (bfq_of (begun t scheduler heads trees budgets))
    → WellFormed l (n + 1) (begun t scheduler heads trees budgets)
begun-well l n t scheduler heads trees budgets w long s bounded =
    let u : Tables = with_bfq t heads trees t.parents t.weights budgets t.in_service in
    let ruled : Ruled l u = record {
      heads = long;
      sized = record { trees = s.trees; parents = s.parents; weights = s.weights; budgets = s.budgets; groups = s.groups; seat = s.seat };
      bounded = bounded;
      first_vtime = w.ruled.first_vtime;
      least_budget = w.ruled.least_budget;
      first_budget = w.ruled.first_budget;
      most_budget = w.ruled.most_budget;
    } in
    let well : WellFormed l n u = well_with l n t heads trees t.parents t.weights budgets t.in_service w ruled w.young in
    WellFormed-later l n (begun t scheduler heads trees budgets) (moded-well l n u scheduler well)

-- how many exchanges there are, where so many entities are in groups
pub count_begun : (before heads now one_less grouped : ℕ) → one_less ≡ before + 1 → heads ≡ one_less + 16 → now ≡ heads + (48 + grouped) → now ≡ before + (65 + grouped)
count_begun before heads now one_less grouped a b c = omega (arith, a, b, c)

pub exactly : (before now count : ℕ) → now ≡ before + count → (before + count ≤ now) × (now ≤ before + (count + 0))
exactly before now count e = (omega (arith, e), omega (arith, e))
