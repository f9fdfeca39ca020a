-- The queue in service is as old as serials allow, and groups have the greatest budget.
use Rattle.std.proofs.Common.{true, false, ◌≡◌, ◌≢◌, ℕ, ◌+◌, ◌<◌, ◌≤◌, nat_lt, List, Some, cond, refl, ◌∙◌, subst, arith, rules}
use Rattle.plain.specs.Groups.{entity_of, path}
use Rattle.plain.specs.declared.seat.InService.{InService}
use Rattle.plain.specs.Machine.{Bfq, put}
use Rattle.plain.specs.Rules.{budget_after}
use Rattle.plain.specs.declared.call.Call.{Call}
use Rattle.plain.specs.Opening.{Limits, opening_bfq}
use Rattle.plain.specs.Steps.Tick.{older}
use Rattle.plain.specs.Keeper.{machine_of}
use Rattle.plain.specs.Headline.{replay}
use Rattle.plain_laws.proofs.Puts.{put_other, some_is}
use Rattle.host_calls.specs.Bounds.{AgesAreBounded, GroupsHaveTheGreatestBudget}
use Rattle.plain_laws.proofs.Rules.{Any, all_any, Changes}
use Rattle.plain_laws.proofs.Ruled.{Ruled, ruled-leads}
use Rattle.plain_laws.proofs.Stamps.{machine-leads}

-- the queue in service is that of a seat, and its age is below a serial
abbrev IsYoung : ℕ → InService → Type 0
IsYoung n slot = (slot.seat < 16) × (slot.age < n)

-- each group has the greatest budget
abbrev AreGreatest : Limits → (ℕ → ℕ) → Type 0
AreGreatest l budget = (group : ℕ) → group < 32 → budget (entity_of group) ≡ l.max_budget

abbrev Slotted : Limits → ℕ → Bfq → Type 0
Slotted l n b = ((slot : InService) → b.in_service ≡ Some slot → IsYoung n slot) × AreGreatest l b.budget

-- another queue in service
one-young : (n : ℕ) (new : InService) → IsYoung n new → (slot : InService) → Some new ≡ Some slot → IsYoung n slot
one-young n new its slot e = subst (IsYoung n) (some_is new slot e) its

-- the budget of a session is another one
put-greatest : (l : Limits) (budget : ℕ → ℕ) (seat v : ℕ) → seat < 16 → AreGreatest l budget → AreGreatest l (put budget seat v)
put-greatest l budget seat v small h group lt =
    let other : entity_of group ≢ seat = λ same. omega (arith, same, small) in
    put_other budget seat v (entity_of group) other ∙ h group lt

slotted-changes : (l : Limits) (n : ℕ) → Changes l.max_budget Any (Slotted l (n + 1))
slotted-changes l n = record {
  paths = λ b slot is h. all_any (path b.parent slot.seat);
  stamps = λ b start entity _ le h. h;
  selects = record {
    jumps = λ b group class start nobody is h. h;
    passes = λ b group class entity is high h. h;
    begins = λ b group class seat is small h. (one-young (n + 1) (record { seat = seat; service = 0; age = 0 }) (small, omega arith), h.1);
  };
  charges = λ b slot sectors is h. (one-young (n + 1) (record slot { service = slot.service + sectors }) (h.0 slot is), h.1);
  rises = λ b group class vtime rise le h. h;
  ends = λ b slot cause is h. (λ s e. cc, put-greatest l b.budget slot.seat (budget_after cause (b.budget slot.seat) slot.service l.max_budget) (h.0 slot is).0 h.1);
  rests = λ b finish entity _ le h. h;
}

slotted-later : (l : Limits) (n n' : ℕ) (b : Bfq) → n ≤ n' → Slotted l n b → Slotted l n' b
slotted-later l n n' b le h = (λ slot e. let its = h.0 slot e in let young : slot.age < n = its.1 in (its.0, omega (arith, young, le)), h.1)

-- sessions begin again, and groups go on
first-greatest : (l : Limits) (budget : ℕ → ℕ) → AreGreatest l budget → AreGreatest l (λ entity. cond (nat_lt entity 16) l.first_budget (budget entity))
first-greatest l budget h group lt = elim (nat_lt (entity_of group) 16) as (λ t. nat_lt (entity_of group) 16 ≡ t → cond t l.first_budget (budget (entity_of group)) ≡ l.max_budget) [
  | true ↦ λ small. let low : entity_of group < 16 = search (rules, small) in absurd (omega (arith, low))
  | false ↦ λ _. h group lt
] refl

slotted-ruled : (l : Limits) → Ruled l (Slotted l)
slotted-ruled l = record {
  later = slotted-later l;
  rules = slotted-changes l;
  enters = λ n b entity group class weight h. h;
  begins = λ n b seat small h. (h.0, put-greatest l b.budget seat l.first_budget small h.1);
  goes = λ n b entity h. h;
  weighs = λ n b entity weight h. h;
  opens = λ n b group h. h;
  restarts = λ n b entity group up h. h;
  budgets = λ n b h. (h.0, first-greatest l b.budget h.1);
  ticks = λ n b slot is h.
      let its = h.0 slot is in
      let young : slot.age < n = its.1 in
      (one-young (n + 1) (older slot) (its.0, omega (arith, young)), h.1);
}

opening-slotted : (l : Limits) → Slotted l 0 (opening_bfq l)
opening-slotted l = (
  λ slot e. cc,
  λ group lt.
      elim (nat_lt (entity_of group) 16) as (λ t. nat_lt (entity_of group) 16 ≡ t → cond t l.first_budget (cond (nat_lt (entity_of group) 48) l.max_budget 256) ≡ l.max_budget) [
        | true ↦ λ small. let low : entity_of group < 16 = search (rules, small) in absurd (omega (arith, low))
        | false ↦ λ _. elim (nat_lt (entity_of group) 48) as (λ t. nat_lt (entity_of group) 48 ≡ t → cond t l.max_budget 256 ≡ l.max_budget) [
          | true ↦ λ _. refl
          | false ↦ λ high. let big : 48 ≤ entity_of group = search (rules, high) in absurd (omega (arith, big, lt))
        ] refl
      ] refl,
)

-- so on every keeper's machine
machine-slotted : (l : Limits) (most : ℕ) (journal : List Call) → Slotted l ((replay l most journal).last + 1) (machine_of (replay l most journal)).bfq
machine-slotted l most journal = machine-leads l most journal (λ n m. Slotted l n m.bfq) (ruled-leads l (Slotted l) (slotted-ruled l)) (opening-slotted l)

pub ages-bounded : (l : Limits) (most : ℕ) (journal : List Call) → AgesAreBounded l most journal
ages-bounded l most journal slot e =
    let its = (machine-slotted l most journal).0 slot e in
    let young : slot.age < (replay l most journal).last + 1 = its.1 in
    (its.0, omega (arith, young))

pub groups-greatest : (l : Limits) (most : ℕ) (journal : List Call) → GroupsHaveTheGreatestBudget l most journal
groups-greatest l most journal = (machine-slotted l most journal).1
