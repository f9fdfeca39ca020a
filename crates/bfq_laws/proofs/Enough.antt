-- No budget is under 256 sectors.
use Rattle.std.proofs.Common.{true, false, ◌≡◌, inl, inr, ℕ, ◌≤◌, nat_lt, List, cond, arith}
use Rattle.std.proofs.lemmas.Bool.{cases_eq}
use Rattle.plain.specs.Groups.{path}
use Rattle.plain.specs.Machine.{put}
use Rattle.plain.specs.declared.seat.Expiry.{Expiry}
use Rattle.plain.specs.declared.seat.Expiry.TheVariants.{Exhaustion, Timeout, Emptying}
use Rattle.plain.specs.Rules.{budget_after}
use Rattle.plain.specs.declared.call.Call.{Call}
use Rattle.plain.specs.Opening.{Limits, opening}
use Rattle.bfq_laws.specs.Budgets.{AreEnough, BudgetsAreEnough}
use Rattle.plain_laws.proofs.Puts.{put_here, put_other}
use Rattle.plain_laws.proofs.Rules.{Any, all_any, Selects, Changes}
use Rattle.plain_laws.proofs.Ruled.{Ruled, ruled-leads}
use Rattle.plain_laws.proofs.Stamps.{machine-leads}

-- one budget is another one, and enough
pub put-enough : (budget : ℕ → ℕ) (entity v : ℕ) → 256 ≤ v → ((e : ℕ) → 256 ≤ budget e) → (e : ℕ) → 256 ≤ put budget entity v e
put-enough budget entity v le h e = elim (cases_eq e entity) [
  | inl same ↦ let now : put budget entity v e ≡ v = put_here budget entity v e same in omega (arith, now, le)
  | inr other ↦ let now : put budget entity v e ≡ budget e = put_other budget entity v e other in omega (arith, now, h e)
]

budget_after-enough : (cause : Expiry) (budget service most : ℕ) → 256 ≤ budget → 256 ≤ most → 256 ≤ budget_after cause budget service most
budget_after-enough Exhaustion budget service most b m = omega (arith, b, m)
budget_after-enough Timeout budget service most b m = omega (arith, b, m)
budget_after-enough Emptying budget service most b m = omega arith

-- select leaves the budgets, whatever the greatest one is
pub enough-selects : Selects AreEnough
enough-selects = record { jumps = λ b group class start nobody is h. h; passes = λ b group class entity is high h. h; begins = λ b group class seat is small h. h }

-- each change of a rule
pub enough-changes : (most : ℕ) → 256 ≤ most → Changes most Any AreEnough
enough-changes most greatest = record {
  paths = λ b slot is h. all_any (path b.parent slot.seat);
  stamps = λ b start entity _ le h. h;
  selects = enough-selects;
  charges = λ b slot sectors is h. h;
  rises = λ b group class vtime rise le h. h;
  ends = λ b slot cause is h. put-enough b.budget slot.seat _ (budget_after-enough cause (b.budget slot.seat) slot.service most (h slot.seat) greatest) h;
  rests = λ b finish entity _ le h. h;
}

pub enough-ruled : (l : Limits) → 256 ≤ l.first_budget → 256 ≤ l.max_budget → Ruled l (λ n. AreEnough)
enough-ruled l first most = record {
  later = λ n n' b le h. h;
  rules = λ n. enough-changes l.max_budget most;
  enters = λ n b entity group class weight h. h;
  begins = λ n b seat small h. put-enough b.budget seat l.first_budget first h;
  goes = λ n b entity h. h;
  weighs = λ n b entity weight h. h;
  opens = λ n b group h. h;
  restarts = λ n b entity group up h. h;
  budgets = λ n b h e. elim (nat_lt e 16) as (λ t. 256 ≤ cond t l.first_budget (b.budget e)) [ true ↦ first | false ↦ h e ];
  ticks = λ n b slot is h. h;
}

-- before the first step
pub opening-enough : (l : Limits) → 256 ≤ l.first_budget → 256 ≤ l.max_budget → AreEnough (opening l).bfq
opening-enough l first most e = elim (nat_lt e 16) as (λ t. 256 ≤ cond t l.first_budget (cond (nat_lt e 48) l.max_budget 256)) [
  | true ↦ first
  | false ↦ elim (nat_lt e 48) as (λ t. 256 ≤ cond t l.max_budget 256) [ true ↦ most | false ↦ omega arith ]
]

-- the law
pub budgets-enough : (l : Limits) (most : ℕ) (journal : List Call) → BudgetsAreEnough l most journal
budgets-enough l most journal first greatest =
    let le : 256 ≤ l.max_budget = omega (arith, first, greatest) in
    machine-leads l most journal (λ n m. AreEnough m.bfq) (ruled-leads l (λ n. AreEnough) (enough-ruled l first le)) (opening-enough l first le)
