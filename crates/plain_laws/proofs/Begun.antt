-- What begins again with another scheduler: what holds of BFQ's part, and of each change of it, holds after all of them.
use Rattle.std.proofs.Common.{◌≡◌, ℕ, List, [], ◌∷◌, Some, None, is_some, cond, refl}
use Rattle.plain.specs.Lists.{numbers}
use Rattle.sector_core.specs.declared.config.Scheduler.{Scheduler}
use Rattle.sector_core.specs.declared.config.Scheduler.TheVariants.{Plain as PlainScheduler, Bfq as BfqScheduler}
use Rattle.plain.specs.Machine.{Bfq}
use Rattle.plain.specs.Rules.{group_of, member_of, put_member, put_vtimes}
use Rattle.plain.specs.Opening.{Limits}
use Rattle.plain.specs.Steps.Switch.{with_first_times, with_first_vtime, with_first_budgets, for_each, begun_again}
use Rattle.plain.specs.Classes.{same_times}

-- an entity has its first times
abbrev pub timed : Limits → ℕ → Bfq → Bfq
timed l e b = put_member (group_of b e) e (record (member_of b e) { start = l.first_vtime; finish = l.first_vtime }) b

-- a change that keeps this
pub record Again (l : Limits) (Q : Bfq → Type 0) : Type 0 where
  pub times : (b : Bfq) (e g : ℕ) → b.parent e ≡ Some g → Q b → Q (timed l e b)
  pub vtimes : (b : Bfq) (g : ℕ) → Q b → Q (put_vtimes g (same_times l.first_vtime) b)
  pub budgets : (b : Bfq) → Q b → Q (with_first_budgets l b)

each-keeps : (Q : Bfq → Type 0) (change : Bfq → ℕ → Bfq) → ((b : Bfq) (n : ℕ) → Q b → Q (change b n)) → (b : Bfq) (numbers : List ℕ) → Q b → Q (for_each change b numbers)
each-keeps Q change keeps b [] h = h
each-keeps Q change keeps b (n ∷ numbers) h = each-keeps Q change keeps (change b n) numbers (keeps b n h)

times-keeps : (l : Limits) (Q : Bfq → Type 0) → Again l Q → (b : Bfq) (e : ℕ) → Q b → Q (with_first_times l b e)
times-keeps l Q again b e h = elim (b.parent e) as (λ o. b.parent e ≡ o → Q (cond (is_some o) (timed l e b) b)) [
  | None ↦ λ _. h
  | Some g ↦ λ up. again.times b e g up h
] refl

pub begun-keeps : (l : Limits) (Q : Bfq → Type 0) → Again l Q → (scheduler : Scheduler) (b : Bfq) → Q b → Q (begun_again l scheduler b)
begun-keeps l Q again PlainScheduler b h = h
begun-keeps l Q again BfqScheduler b h =
    let c : Bfq = for_each (with_first_vtime l) b (numbers 0 32) in
    let first : Q c = each-keeps Q (with_first_vtime l) again.vtimes b (numbers 0 32) h in
    again.budgets (for_each (with_first_times l) c (numbers 0 48)) (each-keeps Q (with_first_times l) (times-keeps l Q again) c (numbers 0 48) first)

-- the slot is as it was
pub begun-slot : (l : Limits) (scheduler : Scheduler) (b : Bfq) → (begun_again l scheduler b).in_service ≡ b.in_service
begun-slot l scheduler b = begun-keeps l (λ c. c.in_service ≡ b.in_service) (record { times = λ c e g _ h. h; vtimes = λ c g h. h; budgets = λ c h. h }) scheduler b refl
