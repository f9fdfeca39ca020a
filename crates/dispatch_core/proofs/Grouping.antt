-- Groups: what the steps of groups make of the tables, and what the plain steps say where the code has made its tests.
use Rattle.std.proofs.Common.{◌≡◌, ◌≢◌, inl, inr, ℕ, zero, suc, ◌+◌, ◌^◌, ◌<◌, ◌≤◌, ◌==◌, List, [], ◌∷◌, length, Option, None, Some, MatchOption, Bool, true, false, cond, not, is_some, nat_le, unwrap_or, get_or, set, refl, sym, ap, ◌∙◌, subst, arith, length-set}
use Rattle.std.specs.List.{find}
use Rattle.std.proofs.lemmas.Bool.{cases_eq, eq-eqb, ne_eqb}
use Rattle.std.proofs.lemmas.Bool.Decides.{nat_tests}
use Rattle.std.proofs.lemmas.Option.{same_Some}
use Rattle.sector_core.specs.declared.class.Class.TheVariants.{BestEffort}
use Rattle.dispatch_core.proofs.Words.{numbers, Member, Tables, after, tree_at, with_member, with_vtimes, same_times, Bfq, Plain, put, bfq_of, meaning, stands, group_of, put_vtimes, Limits, WellFormed, Ruled, entered}
use Rattle.plain.specs.Groups.{depth, entity_of, most_levels, parent}
use Rattle.plain.specs.declared.member.State.TheVariants.{Idle}
use Rattle.change_record.specs.declared.change.Change.TheVariants.{TreeMember, Vtime, GroupEntry, Pending}
use Rattle.bfq_select.specs.Service.{IsSized, IsBounded}
use Rattle.plain.specs.declared.answer.Code.TheVariants.{NoGroup, RootGroup, BadWeight, TooDeep, GroupInUse}
use Rattle.plain.specs.declared.answer.Reply.TheVariants.{Group, Done}
use Rattle.plain.specs.declared.answer.Answer.TheVariants.{Accepted, Refused}
use Rattle.plain.specs.declared.answer.Answer.{Answer}
use Rattle.plain.specs.Tests.{StepResult, unless, accepted}
use Rattle.plain.specs.Entities.{with_entity, without_entity, is_weight}
use Rattle.plain.specs.Steps.GroupMake.{free_group, made_group, group_make}
use Rattle.plain.specs.Steps.GroupDrop.{is_in, is_used, group_drop}
use Rattle.plain.specs.Steps.SetWeight.{set_weight}
use Rattle.dispatch_core.proofs.QueueLists.{find_first, find_none}
use Rattle.dispatch_core.proofs.Ruling.{put_set, well_with, entered-bfq, bounded_entity, bounded_without, bounded_vtime, bounded_pending, ruled_of, groups_set}
use Rattle.dispatch_core.proofs.Laws.{WellFormed-later}
use Rattle.class_laws.proofs.Times.{same_most}

-- the first group that does not stand is the free one
pub free_is : (b : Bfq) (group : ℕ) → 1 ≤ group → group < 32 → stands b group ≡ false → ((j : ℕ) → 1 ≤ j → j < group → stands b j ≡ true) → Some group ≡ free_group b
free_is b group least most free before =
    sym (find_first (λ g. not (stands b g)) 1 31 group least (omega (arith, most)) (ap not free) (λ j a c. ap not (before j a c)))

pub free_none : (b : Bfq) → ((j : ℕ) → 1 ≤ j → j < 32 → stands b j ≡ true) → None ≡ free_group b
free_none b all = sym (find_none (λ g. not (stands b g)) 1 31 (λ j a c. ap not (all j a (omega (arith, c)))))

-- where a number passes a test one is found
found_some : (p : ℕ → Bool) (from count k : ℕ) → from ≤ k → k < from + count → p k ≡ true → is_some (find p (numbers from count)) ≡ true
found_some p from zero k lo hi passes = absurd (omega arith)
found_some p from (suc count) k lo hi passes =
    elim (p from) as (λ b. p from ≡ b → is_some (cond b (Some from) (find p (numbers (from + 1) count))) ≡ true) [
      | true ↦ λ _. refl
      | false ↦ λ fails. elim (cases_eq from k) [
        | inl e ↦ let same : p from ≡ true = ap p e ∙ passes in absurd cc
        | inr ne ↦ found_some p (from + 1) count k (omega arith) (omega arith) passes
      ]
    ] refl

-- an entity is in its parent
pub is_in-same : (group parent : ℕ) (o : Option ℕ) → o ≡ Some parent → parent ≡ group → is_in group o ≡ true
is_in-same group parent o there e = ap (is_in group) there ∙ eq-eqb parent group e

-- a group with an entity in it is used, and one without is not
pub used_by : (b : Bfq) (group entity : ℕ) → entity < 48 → is_in group (b.parent entity) ≡ true → true ≡ is_used b group
used_by b group entity within e = sym (found_some (λ k. is_in group (b.parent k)) 0 48 entity (omega arith) (omega (arith, within)) e)

pub used_none : (b : Bfq) (group : ℕ) → ((j : ℕ) → j < 48 → is_in group (b.parent j) ≡ false) → false ≡ is_used b group
used_none b group none = sym (ap is_some (find_none (λ k. is_in group (b.parent k)) 0 48 (λ j _ c. none j (omega (arith, c)))))

-- a list has something at its places alone
place_in : (xs : List (Option ℕ)) (i a : ℕ) → get_or xs i None ≡ Some a → i < length xs
place_in [] i a e = cc
place_in (x ∷ xs) zero a e = omega arith
place_in (x ∷ xs) (suc i) a e = let h = place_in xs i a e in omega (arith, h)

not_in : (group : ℕ) (o : Option ℕ) → o ≢ Some group → is_in group o ≡ false
not_in group None other = refl
not_in group (Some parent) other = ne_eqb parent group (λ (same : parent ≡ group). other (ap (λ (g : ℕ). let o : Option ℕ = Some g in o) same))

-- a group is used if it has a first child
pub used_child : (t : Tables) (group : ℕ) (child : Option ℕ) → length t.parents ≡ 48
    → MatchOption child ((e : ℕ) → parent t.parents e ≢ Some group) (λ e. parent t.parents e ≡ Some group) → is_some child ≡ is_used (bfq_of t) group
used_child t group None size none = used_none (bfq_of t) group (λ j _. not_in group (parent t.parents j) (none j))
used_child t group (Some e) size there =
    let within = place_in t.parents e group there in
    used_by (bfq_of t) group e (omega (arith, within, size)) (is_in-same group group (parent t.parents e) there refl)

not_zero : (a : ℕ) → a ≢ 0 → (a == 0) ≡ false
not_zero a h = grind (arith, nat_tests)

not_deep : (levels : ℕ) → levels < 4 → nat_le most_levels levels ≡ false
not_deep levels h = grind (arith, nat_tests)

-- three tests that have passed
tested : (a b c : Bool) (x y z : Answer) (m : Plain) (o : StepResult) → a ≡ false → b ≡ false → c ≡ false → unless ((a, x) ∷ (b, y) ∷ (c, z) ∷ []) m o ≡ o
tested a b c x y z m o p q r = rw (p, q, r) refl

-- SetWeight where its tests have passed
pub set_weight_does : (m : Plain) (room : Bool) (group weight : ℕ) → stands m.bfq group ≡ true → group ≢ 0 → is_weight weight ≡ true → room ≡ true
    → set_weight m room group weight ≡ (record m { bfq = record m.bfq { pending = put m.bfq.pending (entity_of group) weight } }, Accepted Done)
set_weight_does m room group weight there under good e =
    tested (not (stands m.bfq group)) (group == 0) (not (is_weight weight)) (Refused NoGroup) (Refused RootGroup) (Refused BadWeight) m
    (accepted room m (record m { bfq = record m.bfq { pending = put m.bfq.pending (entity_of group) weight } }) Done)
    (ap not there) (not_zero group under) (ap not good)
    ∙ ap (λ b. accepted b m (record m { bfq = record m.bfq { pending = put m.bfq.pending (entity_of group) weight } }) Done) e

-- GroupDrop where its tests have passed
pub group_drop_does : (m : Plain) (room : Bool) (group : ℕ) → stands m.bfq group ≡ true → group ≢ 0 → is_used m.bfq group ≡ false → room ≡ true
    → group_drop m room group ≡ (record m { bfq = without_entity (entity_of group) m.bfq }, Accepted Done)
group_drop_does m room group there under unused e =
    tested (not (stands m.bfq group)) (group == 0) (is_used m.bfq group) (Refused NoGroup) (Refused RootGroup) (Refused GroupInUse) m
    (accepted room m (record m { bfq = without_entity (entity_of group) m.bfq }) Done)
    (ap not there) (not_zero group under) unused
    ∙ ap (λ b. accepted b m (record m { bfq = without_entity (entity_of group) m.bfq }) Done) e

-- GroupMake where its tests have passed
pub group_make_goes : (l : Limits) (m : Plain) (room : Bool) (parent weight : ℕ) → stands m.bfq parent ≡ true → is_weight weight ≡ true → depth m.bfq.parent parent < 4
    → group_make l m room parent weight ≡ made_group l m room parent weight (free_group m.bfq)
group_make_goes l m room parent weight there good high =
    tested (not (stands m.bfq parent)) (not (is_weight weight)) (nat_le most_levels (depth m.bfq.parent parent)) (Refused NoGroup) (Refused BadWeight) (Refused TooDeep) m
    (made_group l m room parent weight (free_group m.bfq))
    (ap not there) (ap not good) (not_deep (depth m.bfq.parent parent) high)

pub group_make_does : (l : Limits) (m : Plain) (room : Bool) (parent weight group : ℕ) → stands m.bfq parent ≡ true → is_weight weight ≡ true → depth m.bfq.parent parent < 4
    → free_group m.bfq ≡ Some group → room ≡ true
    → group_make l m room parent weight ≡ (record m { bfq = put_vtimes group (same_times l.first_vtime) (with_entity l (entity_of group) parent BestEffort weight m.bfq) }, Accepted (Group group))
group_make_does l m room parent weight group there good high free e =
    group_make_goes l m room parent weight there good high
    ∙ ap (made_group l m room parent weight) free
    ∙ ap (λ b. accepted b m (record m { bfq = put_vtimes group (same_times l.first_vtime) (with_entity l (entity_of group) parent BestEffort weight m.bfq) }) (Group group)) e

-- the group of an entity is below 32
pub group_of_below : (t : Tables) (entity : ℕ) → IsSized t → group_of (bfq_of t) entity < 32
group_of_below t entity sized = either ((bfq_of t).parent entity) refl where
  either : (o : Option ℕ) → (bfq_of t).parent entity ≡ o → unwrap_or o 0 < 32
  either None e = omega arith
  either (Some g) e = sized.groups entity g e

-- another pending weight
module _ (l : Limits) (n : ℕ) (t : Tables) (entity weight : ℕ) (w : WellFormed l n t) (within : entity < 48) where
  weighed-bfq : bfq_of (after t (Pending entity weight)) ≡ record (bfq_of t) { pending = put (bfq_of t).pending entity weight }
  weighed-bfq i = record (bfq_of t) { pending = put_set t.weights entity weight 1 (omega (arith, within, w.ruled.sized.weights)) i }

  pub weighed-meaning : meaning (after t (Pending entity weight)) ≡ record (meaning t) { bfq = record (bfq_of t) { pending = put (bfq_of t).pending entity weight } }
  weighed-meaning = ap (λ b. let m : Plain = record (meaning t) { bfq = b } in m) weighed-bfq

  weighed-ruled : Ruled l (after t (Pending entity weight))
  weighed-ruled =
      let s = w.ruled.sized in
      ruled_of l t (after t (Pending entity weight)) w.ruled w.ruled.heads
      (record { trees = s.trees; parents = s.parents; weights = length-set t.weights entity weight ∙ s.weights; budgets = s.budgets; groups = s.groups; seat = s.seat })
      (subst IsBounded (sym weighed-bfq) (bounded_pending entity weight (bfq_of t) w.ruled.bounded))

  pub weighed-well : WellFormed l (n + 1) (after t (Pending entity weight))
  weighed-well = WellFormed-later l n (after t (Pending entity weight))
      (well_with l n t t.heads t.trees t.parents (set t.weights entity weight) t.budgets t.in_service w weighed-ruled w.young)

-- without an entity
module _ (l : Limits) (n : ℕ) (t : Tables) (entity : ℕ) (w : WellFormed l n t) (within : entity < 48) where
  abbrev pub without : Tables
  without = after (after t (TreeMember (group_of (bfq_of t) entity) entity None)) (GroupEntry entity None)

  dropped-bfq : bfq_of without ≡ without_entity entity (bfq_of t)
  dropped-bfq i =
      let group = group_of (bfq_of t) entity in
      record (bfq_of t) {
        parent = put_set t.parents entity None None (omega (arith, within, w.ruled.sized.parents)) i;
        service = put_set t.trees group (with_member (tree_at t group) entity None) (record { vtimes = same_times 0; members = [] }) (omega (arith, group_of_below t entity w.ruled.sized, w.ruled.sized.trees)) i;
      }

  pub dropped-meaning : meaning (after (after t (TreeMember (group_of (bfq_of t) entity) entity None)) (GroupEntry entity None)) ≡ record (meaning t) { bfq = without_entity entity (bfq_of t) }
  dropped-meaning = ap (λ b. let m : Plain = record (meaning t) { bfq = b } in m) dropped-bfq

  pub dropped-ruled : Ruled l without
  dropped-ruled =
      let s = w.ruled.sized in
      let group = group_of (bfq_of t) entity in
      ruled_of l t without w.ruled w.ruled.heads
      (record {
        trees = length-set t.trees group (with_member (tree_at t group) entity None) ∙ s.trees;
        parents = length-set t.parents entity None ∙ s.parents;
        weights = s.weights;
        budgets = s.budgets;
        groups = groups_set t entity None (λ g h. absurd cc) s;
        seat = s.seat;
      })
      (subst IsBounded (sym dropped-bfq) (bounded_without entity (bfq_of t) w.ruled.bounded))

  pub dropped-well : WellFormed l (n + 1) (after (after t (TreeMember (group_of (bfq_of t) entity) entity None)) (GroupEntry entity None))
  dropped-well =
      let group = group_of (bfq_of t) entity in
      WellFormed-later l n without
      (well_with l n t t.heads (set t.trees group (with_member (tree_at t group) entity None)) (set t.parents entity None) t.weights t.budgets t.in_service w dropped-ruled w.young)

-- with a new group
module _ (l : Limits) (n : ℕ) (t : Tables) (group parent weight : ℕ) (w : WellFormed l n t) (g_within : group < 32) (p_within : parent < 32) where
  abbrev inside : Tables
  inside = entered l t (16 + group) parent BestEffort weight

  abbrev made : Tables
  made = after inside (Vtime group (same_times l.first_vtime))

  inside-ruled : Ruled l inside
  inside-ruled =
      let s = w.ruled.sized in
      let member : Option Member = Some (record { class = BestEffort; state = Idle; start = l.first_vtime; finish = l.first_vtime; weight = weight }) in
      ruled_of l t (entered l t (16 + group) parent BestEffort weight) w.ruled w.ruled.heads
      (record {
        trees = length-set t.trees parent (with_member (tree_at t parent) (16 + group) member) ∙ s.trees;
        parents = length-set t.parents (16 + group) (Some parent) ∙ s.parents;
        weights = length-set t.weights (16 + group) weight ∙ s.weights;
        budgets = s.budgets;
        groups = groups_set t (16 + group) (Some parent) (λ g h. let e : parent ≡ g = same_Some parent g h in omega arith) s;
        seat = s.seat;
      })
      (subst IsBounded (sym (entered-bfq l t (16 + group) parent BestEffort weight (omega arith) p_within w.ruled))
      (bounded_entity l (16 + group) parent BestEffort weight (bfq_of t) w.ruled.first_vtime w.ruled.bounded))

  begun-bfq : bfq_of made ≡ put_vtimes group (same_times l.first_vtime) (bfq_of inside)
  begun-bfq i = record (bfq_of inside) {
    service = put_set inside.trees group (with_vtimes (tree_at inside group) (same_times l.first_vtime)) (record { vtimes = same_times 0; members = [] }) (omega (arith, g_within, inside-ruled.sized.trees)) i;
  }

  made-bfq : bfq_of made ≡ put_vtimes group (same_times l.first_vtime) (with_entity l (16 + group) parent BestEffort weight (bfq_of t))
  made-bfq = begun-bfq ∙ ap (put_vtimes group (same_times l.first_vtime)) (entered-bfq l t (16 + group) parent BestEffort weight (omega arith) p_within w.ruled)

  pub made-meaning : meaning (after (entered l t (16 + group) parent BestEffort weight) (Vtime group (same_times l.first_vtime)))
      ≡ record (meaning t) { bfq = put_vtimes group (same_times l.first_vtime) (with_entity l (16 + group) parent BestEffort weight (bfq_of t)) }
  made-meaning = ap (λ b. let m : Plain = record (meaning t) { bfq = b } in m) made-bfq

  made-ruled : Ruled l made
  made-ruled =
      let s = inside-ruled.sized in
      ruled_of l inside made inside-ruled inside-ruled.heads
      (record {
        trees = length-set inside.trees group (with_vtimes (tree_at inside group) (same_times l.first_vtime)) ∙ s.trees;
        parents = s.parents;
        weights = s.weights;
        budgets = s.budgets;
        groups = s.groups;
        seat = s.seat;
      })
      (subst IsBounded (sym begun-bfq) (bounded_vtime group (same_times l.first_vtime) (bfq_of inside) (same_most l.first_vtime (2 ^ 62) w.ruled.first_vtime) inside-ruled.bounded))

  pub made-well : WellFormed l (n + 1) (after (entered l t (16 + group) parent BestEffort weight) (Vtime group (same_times l.first_vtime)))
  made-well = WellFormed-later l n made
      (well_with l n t t.heads made.trees made.parents made.weights t.budgets t.in_service w made-ruled w.young)
