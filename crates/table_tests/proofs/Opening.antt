-- Tables of a new machine are sized and bounded, and stay so as entities come into groups, and as groups get other times.
use Rattle.std.proofs.Common.{◌≡◌, ℕ, zero, suc, ◌<◌, ◌≤◌, ◌^◌, List, [], ◌∷◌, ◌++◌, Option, Some, None, replicate, slice_index_or, slice_set, refl, sym, subst, ◌∙◌, length-set, arith}
use Rattle.sector_core.specs.declared.class.Class.{Class}
use Rattle.plain.specs.declared.member.Member.{Member}
use Rattle.plain.specs.declared.member.Vtimes.{Vtimes}
use Rattle.plain.specs.Classes.{Classes, same_times, time_of, with_vtimes}
use Rattle.class_laws.proofs.Times.{same_most}
use Rattle.change_record.specs.declared.change.Making.{Making}
use Rattle.change_record.specs.Tables.{Tables, empty_tables}
use Rattle.plain.specs.Opening.{empty_service}
use Rattle.change_record.specs.Exchange.{tree_at}
use Rattle.change_record.specs.Machine.{bfq_of}
use Rattle.bfq_select.specs.Service.{IsSized, IsBounded}
use Rattle.bfq_select.proofs.Bounds.{each_set}

-- what holds of the element and of the default holds at each place
each_replicate : {A : Type 0} (P : A → Type 0) (n i : ℕ) (x d : A) → P x → P d → P (slice_index_or (replicate n x) i d)
each_replicate P zero i x d here there = there
each_replicate P (suc n) zero x d here there = here
each_replicate P (suc n) (suc i) x d here there = each_replicate P n i x d here there

each_append : {A : Type 0} (P : A → Type 0) (xs ys : List A) (i : ℕ) (d : A) → ((j : ℕ) → P (slice_index_or xs j d)) → ((j : ℕ) → P (slice_index_or ys j d))
    → P (slice_index_or (xs ++ ys) i d)
each_append P [] ys i d first second = second i
each_append P (x ∷ xs) ys zero d first second = first 0
each_append P (x ∷ xs) ys (suc i) d first second = each_append P xs ys i d (λ j. first (suc j)) second

-- what holds at each place and of the new element holds at each place after it is put
each_placed : {A : Type 0} (P : A → Type 0) (xs : List A) (i : ℕ) (new d : A) → ((j : ℕ) → P (slice_index_or xs j d)) → P new
    → (j : ℕ) → P (slice_index_or (slice_set xs i new) j d)
each_placed P [] i new d all here j = all j
each_placed P (x ∷ xs) zero new d all here zero = here
each_placed P (x ∷ xs) zero new d all here (suc j) = all (suc j)
each_placed P (x ∷ xs) (suc i) new d all here zero = all zero
each_placed P (x ∷ xs) (suc i) new d all here (suc j) = each_placed P xs i new d (λ k. all (suc k)) here j

-- nothing stands in a list of none
no_place : {A : Type 0} (n i : ℕ) (x : A) → slice_index_or (replicate n None) i None ≡ Some x → ⊥
no_place zero i x e = cc
no_place (suc n) zero x e = cc
no_place (suc n) (suc i) x e = no_place n i x e

pub sized_opening : (making : Making) → IsSized (empty_tables making)
sized_opening making = record {
  trees = refl;
  parents = refl;
  weights = refl;
  budgets = refl;
  groups = λ entity group e. absurd (no_place 48 entity group e);
  seat = λ slot e. absurd cc;
}

-- what is read where no group is
abbrev no_group : Classes
no_group = record { vtimes = same_times 0; members = [] }

-- each virtual time is 2^62 at most
abbrev AreVtimes : Classes → Type 0
AreVtimes s = (class : Class) → time_of s.vtimes class ≤ 2 ^ 62

-- no member of a new group, so what is said of its members holds
abbrev AreBelow : (Member → ℕ) → Classes → Type 0
AreBelow f s = (entity : ℕ) (m : Member) → slice_index_or s.members entity None ≡ Some m → f m ≤ 2 ^ 62

below_empty : (f : Member → ℕ) (vtime group : ℕ) → AreBelow f (slice_index_or (replicate 32 (empty_service vtime)) group no_group)
below_empty f vtime group =
    each_replicate (AreBelow f) 32 group (empty_service vtime) no_group (λ entity m e. absurd (no_place 48 entity m e)) (λ entity m e. absurd cc)

pub bounded_opening : (making : Making) → making.first_vtime ≤ 2 ^ 62 → 256 ≤ making.first_budget → making.first_budget ≤ 65536 → 256 ≤ making.max_budget → making.max_budget ≤ 65536
    → IsBounded (bfq_of (empty_tables making))
bounded_opening making vtime first_least first_most max_least max_most =
    let one : ℕ = making.first_budget in
    let all : ℕ = making.max_budget in
    record {
      vtimes = λ group. each_replicate AreVtimes 32 group (empty_service making.first_vtime) no_group
          (same_most making.first_vtime (2 ^ 62) vtime) (same_most 0 (2 ^ 62) (omega arith));
      starts = below_empty (λ m. m.start) making.first_vtime;
      finishes = below_empty (λ m. m.finish) making.first_vtime;
      least_budgets = λ entity. each_append (λ n. 256 ≤ n) (replicate 16 one) (replicate 32 all) entity 256
          (λ j. each_replicate (λ n. 256 ≤ n) 16 j one 256 first_least (omega arith)) (λ j. each_replicate (λ n. 256 ≤ n) 32 j all 256 max_least (omega arith));
      most_budgets = λ entity. each_append (λ n. n ≤ 65536) (replicate 16 one) (replicate 32 all) entity 256
          (λ j. each_replicate (λ n. n ≤ 65536) 16 j one 256 first_most (omega arith)) (λ j. each_replicate (λ n. n ≤ 65536) 32 j all 256 max_most (omega arith));
      served = λ slot e. absurd cc;
    }

-- an entity comes into a group
pub sized_joined : (t u : Tables) (entity group : ℕ) → u ≡ record t { parents = slice_set t.parents entity (Some group) } → IsSized t → group < 32 → IsSized u
sized_joined t u entity group e v h =
    let joined : IsSized (record t { parents = slice_set t.parents entity (Some group) }) = record {
      trees = v.trees;
      parents = length-set t.parents entity (Some group) ∙ v.parents;
      weights = v.weights;
      budgets = v.budgets;
      groups = each_set (λ g. g < 32) t.parents entity group v.groups h;
      seat = v.seat;
    } in
    subst IsSized (sym e) joined

pub bounded_joined : (t u : Tables) (entity : ℕ) (group : Option ℕ) → u ≡ record t { parents = slice_set t.parents entity group } → IsBounded (bfq_of t) → IsBounded (bfq_of u)
bounded_joined t u entity group e v =
    let joined : IsBounded (bfq_of (record t { parents = slice_set t.parents entity group })) = record {
      vtimes = v.vtimes;
      starts = v.starts;
      finishes = v.finishes;
      least_budgets = v.least_budgets;
      most_budgets = v.most_budgets;
      served = v.served;
    } in
    subst (λ (x : Tables). IsBounded (bfq_of x)) (sym e) joined

-- a group gets other virtual times
abbrev timed : Tables → ℕ → Vtimes → Tables
timed t group times = record t { trees = slice_set t.trees group (with_vtimes (tree_at t group) times) }

pub sized_timed : (t u : Tables) (group : ℕ) (times : Vtimes) → u ≡ timed t group times → IsSized t → IsSized u
sized_timed t u group times e v =
    let now : IsSized (timed t group times) = record {
      trees = length-set t.trees group (with_vtimes (tree_at t group) times) ∙ v.trees;
      parents = v.parents;
      weights = v.weights;
      budgets = v.budgets;
      groups = v.groups;
      seat = v.seat;
    } in
    subst IsSized (sym e) now

pub bounded_timed : (t u : Tables) (group : ℕ) (times : Vtimes) → u ≡ timed t group times → IsBounded (bfq_of t)
    → ((class : Class) → time_of times class ≤ 2 ^ 62) → IsBounded (bfq_of u)
bounded_timed t u group times e v small =
    let tree : Classes = with_vtimes (tree_at t group) times in
    let now : IsBounded (bfq_of (timed t group times)) = record {
      vtimes = each_placed AreVtimes t.trees group tree no_group v.vtimes small;
      starts = each_placed (AreBelow (λ m. m.start)) t.trees group tree no_group v.starts (v.starts group);
      finishes = each_placed (AreBelow (λ m. m.finish)) t.trees group tree no_group v.finishes (v.finishes group);
      least_budgets = v.least_budgets;
      most_budgets = v.most_budgets;
      served = v.served;
    } in
    subst (λ (x : Tables). IsBounded (bfq_of x)) (sym e) now
