-- What steps leave of the tables of bfq.
use Rattle.std.proofs.Common.{◌≡◌, ◌⊎◌, inl, inr, ℕ, zero, suc, ◌<◌, ◌≤◌, ◌^◌, ◌==◌, List, [], ◌∷◌, Option, None, Some, Bool, true, false, cond, length, get_or, set, refl, sym, ap, ◌∙◌, subst, arith, length-set, eqb-true}
use Rattle.std.proofs.Math.Path.{fun_ext}
use Rattle.std.proofs.lemmas.Bool.{cases_eq, eq-eqb, ne_eqb}
use Rattle.std.proofs.lemmas.List.{get_or-set_same, get_or-set_other}
use Rattle.std.proofs.lemmas.Option.{same_Some}
use Rattle.sector_core.specs.declared.class.Class.{Class}
use Rattle.dispatch_core.proofs.Words.{Member, InService, Tables, with_member, with_vtimes, Classes, same_times, time_of, tree_at, Bfq, Plain, put, bfq_of, meaning, group_of, put_vtimes, Limits, WellFormed, Ruled, entered, attached_tables}
use Rattle.plain.specs.declared.member.State.TheVariants.{Idle}
use Rattle.bfq_select.specs.Service.{IsSized, IsBounded, OnlyServes}
use Rattle.plain.specs.Entities.{with_entity, without_entity}
use Rattle.plain.specs.Steps.Attach.{prio_weight}
use Rattle.plain.specs.declared.member.Vtimes.{Vtimes}

-- tables with what bfq has in others
abbrev pub like : Tables → Tables → Tables
like t u = record u { heads = t.heads; trees = t.trees; parents = t.parents; weights = t.weights; budgets = t.budgets; in_service = t.in_service }

-- a step that touches nothing of bfq leaves it as it is
pub ruled_like : (l : Limits) (t u : Tables) → Ruled l t → Ruled l (like t u)
ruled_like l t u r = record {
  heads = r.heads;
  sized = r.sized;
  bounded = r.bounded;
  first_vtime = r.first_vtime;
  least_budget = r.least_budget;
  first_budget = r.first_budget;
  most_budget = r.most_budget;
}

-- a table with a value at one place, as a function
pub put_set : {A : Type 0} (xs : List A) (k : ℕ) (v d : A) → k < length xs → (λ (n : ℕ). get_or (set xs k v) n d) ≡ put (λ n. get_or xs n d) k v
put_set xs k v d within = fun_ext (λ n. elim (cases_eq n k) [
  | inl e ↦ ap (λ j. get_or (set xs k v) j d) e ∙ get_or-set_same xs k v d within ∙ sym (ap (λ b. cond b v (get_or xs n d)) (eq-eqb n k e))
  | inr other ↦ get_or-set_other xs k n v d other ∙ sym (ap (λ b. cond b v (get_or xs n d)) (ne_eqb n k other))
])

-- what stands in a table after one place was written is what was written, or stood there before
pub written : {A : Type 0} (xs : List (Option A)) (k n : ℕ) (v : Option A) (w : A) → get_or (set xs k v) n None ≡ Some w → (v ≡ Some w) ⊎ (get_or xs n None ≡ Some w)
written [] k n v w h = inr h
written (x ∷ xs) zero zero v w h = inl h
written (x ∷ xs) zero (suc n) v w h = inr h
written (x ∷ xs) (suc k) zero v w h = inr h
written (x ∷ xs) (suc k) (suc n) v w h = written xs k n v w h

-- what a tree has of an entity, after one place of one tree was written
placed : (b : ℕ → Classes) (g e : ℕ) (v : Option Member) (group entity : ℕ) (m : Member)
    → get_or (put b g (with_member (b g) e v) group).members entity None ≡ Some m → (v ≡ Some m) ⊎ (get_or (b group).members entity None ≡ Some m)
placed b g e v group entity m h =
    either (group == g) refl h where
      either : (c : Bool) → (group == g) ≡ c → get_or (cond c (with_member (b g) e v) (b group)).members entity None ≡ Some m → (v ≡ Some m) ⊎ (get_or (b group).members entity None ≡ Some m)
      either true p k = elim (written (b g).members e entity v m k) [
        | inl new ↦ inl new
        | inr old ↦ inr (ap (λ j. get_or (b j).members entity None) (eqb-true group g p) ∙ old)
      ]
      either false p k = inr k

-- tables with other values of bfq
abbrev pub with_bfq : Tables → List ℕ → List Classes → List (Option ℕ) → List ℕ → List ℕ → Option InService → Tables
with_bfq t heads trees parents weights budgets slot =
    record t { heads = heads; trees = trees; parents = parents; weights = weights; budgets = budgets; in_service = slot }

-- a queue in service is no older than this
abbrev pub IsYoung : ℕ → Option InService → Type 0
IsYoung n o = (slot : InService) → o ≡ Some slot → slot.age < n

-- all else holds of them as before
pub well_with : (l : Limits) (n : ℕ) (t : Tables) (heads : List ℕ) (trees : List Classes) (parents : List (Option ℕ)) (weights budgets : List ℕ) (slot : Option InService)
    → WellFormed l n t → Ruled l (with_bfq t heads trees parents weights budgets slot) → IsYoung n slot → WellFormed l n (with_bfq t heads trees parents weights budgets slot)
well_with l n t heads trees parents weights budgets slot w ruled young = record {
  sized = w.sized;
  seated = w.seated;
  kept = w.kept;
  placed = w.placed;
  ruled = ruled;
  young = young;
  first = w.first;
  served = w.served;
}

-- what the rules of bfq make of tables: another meaning of bfq alone
pub served-meaning : (t u : Tables) → OnlyServes t u → meaning u ≡ record (meaning t) { bfq = bfq_of u }
served-meaning t u others =
    ap meaning others ∙ ap (λ b. let m : Plain = record (meaning t) { bfq = b } in m) (sym (ap bfq_of others))

-- and they hold together as before
pub served-well : (l : Limits) (n : ℕ) (t u : Tables) → OnlyServes t u → WellFormed l n t → IsSized u → IsBounded (bfq_of u) → IsYoung n u.in_service → WellFormed l n u
served-well l n t u others w sized bounded young =
    let v : Tables = with_bfq t t.heads u.trees t.parents t.weights u.budgets u.in_service in
    let ruled : Ruled l v = record {
      heads = w.ruled.heads;
      sized = subst IsSized others sized;
      bounded = let P : Tables → Type 0 = λ x. IsBounded (bfq_of x) in subst P others bounded;
      first_vtime = w.ruled.first_vtime;
      least_budget = w.ruled.least_budget;
      first_budget = w.ruled.first_budget;
      most_budget = w.ruled.most_budget;
    } in
    subst (WellFormed l n) (sym others) (well_with l n t t.heads u.trees t.parents t.weights u.budgets u.in_service w ruled young)

-- one step of the rules after another
pub serves_then : (t u v : Tables) → OnlyServes t u → OnlyServes u v → OnlyServes t v
serves_then t u v first second =
    second ∙ ap (λ (x : Tables). let y : Tables = record x { trees = v.trees; budgets = v.budgets; in_service = v.in_service } in y) first

-- a new entity in a group
module _ (l : Limits) (t : Tables) (entity group : ℕ) (class : Class) (weight : ℕ) (e_within : entity < 48) (g_within : group < 32) (r : Ruled l t) where
  member : Member
  member = record { class = class; state = Idle; start = l.first_vtime; finish = l.first_vtime; weight = weight }

  pub entered-bfq : bfq_of (entered l t entity group class weight) ≡ with_entity l entity group class weight (bfq_of t)
  unfolding member
  entered-bfq i = record {
    parent = put_set t.parents entity (Some group) None (omega (arith, e_within, r.sized.parents)) i;
    service = put_set t.trees group (with_member (tree_at t group) entity (Some member)) (record { vtimes = same_times 0; members = [] }) (omega (arith, g_within, r.sized.trees)) i;
    pending = put_set t.weights entity weight 1 (omega (arith, e_within, r.sized.weights)) i;
    budget = (bfq_of t).budget;
    in_service = t.in_service;
  }

-- the members of a tree where one was put
pub bounded-put_member : (b : Bfq) (group entity : ℕ) (v : Option Member) (f : ℕ → Classes) → f ≡ put b.service group (with_member (b.service group) entity v)
    → ((m : Member) → v ≡ Some m → (m.start ≤ 2 ^ 62) × (m.finish ≤ 2 ^ 62)) → IsBounded b
    → ((g e : ℕ) (m : Member) → get_or (f g).members e None ≡ Some m → (m.start ≤ 2 ^ 62) × (m.finish ≤ 2 ^ 62)) × ((g : ℕ) (d : Class) → time_of (f g).vtimes d ≤ 2 ^ 62)
bounded-put_member b group entity v f is new old = (
  λ g e m h. elim (placed b.service group entity v g e m (sym (ap (λ (s : ℕ → Classes). get_or (s g).members e None) is) ∙ h)) [
    | inl k ↦ new m k
    | inr k ↦ (old.starts g e m k, old.finishes g e m k)
  ],
  λ g d. let P : (ℕ → Classes) → Type 0 = λ s. time_of (s g).vtimes d ≤ 2 ^ 62 in
      subst P (sym is) (vtime_same b.service group entity v g d (old.vtimes g d) (old.vtimes group d)),
) where
  vtime_same : (s : ℕ → Classes) (group entity : ℕ) (v : Option Member) (g : ℕ) (d : Class) → time_of (s g).vtimes d ≤ 2 ^ 62 → time_of (s group).vtimes d ≤ 2 ^ 62
      → time_of (put s group (with_member (s group) entity v) g).vtimes d ≤ 2 ^ 62
  vtime_same s group entity v g d h k = elim (g == group) as (λ c. (let x : Classes = cond c (with_member (s group) entity v) (s g) in time_of x.vtimes d) ≤ 2 ^ 62) [ true ↦ k | false ↦ h ]

-- with a new entity the numbers of bfq are within their limits
pub bounded_entity : (l : Limits) (entity group : ℕ) (class : Class) (weight : ℕ) (b : Bfq) → l.first_vtime ≤ 2 ^ 62 → IsBounded b → IsBounded (with_entity l entity group class weight b)
bounded_entity l entity group class weight b first old =
    let v : Option Member = Some (record { class = class; state = Idle; start = l.first_vtime; finish = l.first_vtime; weight = weight }) in
    let times = bounded-put_member b group entity v (put b.service group (with_member (b.service group) entity v)) refl
    (λ m h. let p : Member → Type 0 = λ x. (x.start ≤ 2 ^ 62) × (x.finish ≤ 2 ^ 62) in subst p (same_Some _ m h) (first, first)) old in
    record {
      vtimes = times.1;
      starts = λ g e m h. (times.0 g e m h).0;
      finishes = λ g e m h. (times.0 g e m h).1;
      least_budgets = old.least_budgets;
      most_budgets = old.most_budgets;
      served = old.served;
    }

-- and without an entity
pub bounded_without : (entity : ℕ) (b : Bfq) → IsBounded b → IsBounded (without_entity entity b)
bounded_without entity b old =
    let group = group_of b entity in
    let times = bounded-put_member b group entity None (put b.service group (with_member (b.service group) entity None)) refl (λ m h. absurd cc) old in
    record {
      vtimes = times.1;
      starts = λ g e m h. (times.0 g e m h).0;
      finishes = λ g e m h. (times.0 g e m h).1;
      least_budgets = old.least_budgets;
      most_budgets = old.most_budgets;
      served = old.served;
    }

-- with another budget
pub bounded_budget : (seat budget : ℕ) (b : Bfq) → 256 ≤ budget → budget ≤ 65536 → IsBounded b → IsBounded (let c : Bfq = record b { budget = put b.budget seat budget } in c)
bounded_budget seat budget b least most old = record {
  vtimes = old.vtimes;
  starts = old.starts;
  finishes = old.finishes;
  least_budgets = λ k. let here = old.least_budgets k in elim (k == seat) as (λ c. 256 ≤ cond c budget (b.budget k)) [ true ↦ least | false ↦ here ];
  most_budgets = λ k. let here = old.most_budgets k in elim (k == seat) as (λ c. cond c budget (b.budget k) ≤ 65536) [ true ↦ most | false ↦ here ];
  served = old.served;
}

-- with another virtual time
pub bounded_vtime : (group : ℕ) (vtime : Vtimes) (b : Bfq) → ((d : Class) → time_of vtime d ≤ 2 ^ 62) → IsBounded b → IsBounded (put_vtimes group vtime b)
bounded_vtime group vtime b h old = record {
  vtimes = λ g d. let here = old.vtimes g d in elim (g == group) as (λ c. (let s : Classes = cond c (with_vtimes (b.service group) vtime) (b.service g) in time_of s.vtimes d) ≤ 2 ^ 62) [ true ↦ h d | false ↦ here ];
  starts = λ g e m k. old.starts (cond (g == group) group g) e m (same_members g e m k);
  finishes = λ g e m k. old.finishes (cond (g == group) group g) e m (same_members g e m k);
  least_budgets = old.least_budgets;
  most_budgets = old.most_budgets;
  served = old.served;
} where
  same_members : (g e : ℕ) (m : Member) → get_or (put b.service group (with_vtimes (b.service group) vtime) g).members e None ≡ Some m → get_or (b.service (cond (g == group) group g)).members e None ≡ Some m
  same_members g e m = elim (g == group) as (λ c. get_or (let s : Classes = cond c (with_vtimes (b.service group) vtime) (b.service g) in s.members) e None ≡ Some m
      → get_or (b.service (cond c group g)).members e None ≡ Some m) [ true ↦ λ k. k | false ↦ λ k. k ]

-- with another pending weight
pub bounded_pending : (entity weight : ℕ) (b : Bfq) → IsBounded b → IsBounded (let c : Bfq = record b { pending = put b.pending entity weight } in c)
bounded_pending entity weight b old = record {
  vtimes = old.vtimes;
  starts = old.starts;
  finishes = old.finishes;
  least_budgets = old.least_budgets;
  most_budgets = old.most_budgets;
  served = old.served;
}

-- tables of other lengths or groups, with bounded numbers
pub ruled_of : (l : Limits) (t u : Tables) → Ruled l t → length u.heads ≡ 16 → IsSized u → IsBounded (bfq_of u) → Ruled l u
ruled_of l t u r heads sized bounded =
    record { heads = heads; sized = sized; bounded = bounded; first_vtime = r.first_vtime; least_budget = r.least_budget; first_budget = r.first_budget; most_budget = r.most_budget }

-- where an entity was put into a group, or taken out
pub groups_set : (t : Tables) (entity : ℕ) (v : Option ℕ) → ((g : ℕ) → v ≡ Some g → g < 32) → IsSized t → (e g : ℕ) → get_or (set t.parents entity v) e None ≡ Some g → g < 32
groups_set t entity v new sized e g h = elim (written t.parents entity e v g h) [
  | inl k ↦ new g k
  | inr k ↦ sized.groups e g k
]

-- Attach.
module _ (l : Limits) (n : ℕ) (t : Tables) (seat group prio : ℕ) (class : Class) (w : WellFormed l n t) (s_within : seat < 16) (g_within : group < 32) where
  pub attached-bfq : bfq_of (attached_tables l t n seat group prio class)
      ≡ record (with_entity l seat group class (prio_weight prio) (bfq_of t)) { budget = put (bfq_of t).budget seat l.first_budget }
  attached-bfq i =
      let b = entered-bfq l t seat group class (prio_weight prio) (omega arith) g_within w.ruled i in
      record b { budget = put_set t.budgets seat l.first_budget 256 (omega (arith, s_within, w.ruled.sized.budgets)) i }

  pub ruled_attached : Ruled l (attached_tables l t n seat group prio class)
  ruled_attached =
      let r = w.ruled in
      let member : Option Member = Some (record { class = class; state = Idle; start = l.first_vtime; finish = l.first_vtime; weight = prio_weight prio }) in
      ruled_of l t (attached_tables l t n seat group prio class) r (length-set t.heads seat 0 ∙ r.heads)
      (record {
        trees = length-set t.trees group (with_member (tree_at t group) seat member) ∙ r.sized.trees;
        parents = length-set t.parents seat (Some group) ∙ r.sized.parents;
        weights = length-set t.weights seat (prio_weight prio) ∙ r.sized.weights;
        budgets = length-set t.budgets seat l.first_budget ∙ r.sized.budgets;
        groups = groups_set t seat (Some group) (λ g h. let e : group ≡ g = same_Some group g h in omega arith) r.sized;
        seat = r.sized.seat;
      })
      (subst IsBounded (sym attached-bfq)
      (bounded_budget seat l.first_budget (with_entity l seat group class (prio_weight prio) (bfq_of t)) r.least_budget (omega (arith, r.first_budget, r.most_budget))
      (bounded_entity l seat group class (prio_weight prio) (bfq_of t) r.first_vtime r.bounded)))
