-- What begins again, one number after the other.
use Rattle.std.proofs.Common.{◌≡◌, ◌≢◌, inl, inr, ℕ, zero, suc, ◌+◌, ◌-◌, ◌<◌, ◌≤◌, List, [], ◌∷◌, Some, Bool, true, false, cond, nat_lt, length, get_or, set, sym, ap, ◌∙◌, arith, eq-eqb, ne_eqb}
use Rattle.std.specs.Prelude.{count_by}
use Rattle.std.proofs.Math.Path.{fun_ext}
use Rattle.std.proofs.lemmas.Bool.{cases_eq, cases_lt}
use Rattle.std.proofs.lemmas.Bool.Decides.{nat_tests}
use Rattle.std.proofs.lemmas.List.{get_or-set_same, get_or-set_other, get_or_past}
use Rattle.std.proofs.lemmas.List.Sums.{sum_by-cons}
use Rattle.dispatch_core.proofs.Words.{numbers, Member, Tables, with_member, Classes, same_times, tree_at, Bfq, put, bfq_of, put_member, Limits, one}
use Rattle.plain.specs.Steps.Switch.{with_first_budgets}
use Rattle.dispatch_core.proofs.Ruling.{put_set}

-- the numbers from one on are this one, and those from the next one on
pub numbers_more : (k n : ℕ) → k < n → numbers k (n - k) ≡ k ∷ numbers (k + 1) (n - (k + 1))
numbers_more k n h = let e : n - k ≡ suc (n - (k + 1)) = omega (arith, h) in ap (numbers k) e

-- past the last there is none
pub numbers_none : (k n : ℕ) → n ≤ k → numbers k (n - k) ≡ []
numbers_none k n h = let e : n - k ≡ zero = omega (arith, h) in ap (numbers k) e

-- how many numbers from one on pass a test
pub count_more : (f : ℕ → Bool) (k n : ℕ) → k < n → count_by f (numbers k (n - k)) ≡ cond (f k) 1 0 + count_by f (numbers (k + 1) (n - (k + 1)))
count_more f k n h = ap (count_by f) (numbers_more k n h) ∙ sum_by-cons (λ x. cond (f x) 1 0) k (numbers (k + 1) (n - (k + 1)))

pub count_none : (f : ℕ → Bool) (k n : ℕ) → n ≤ k → count_by f (numbers k (n - k)) ≡ 0
count_none f k n h = ap (count_by f) (numbers_none k n h)

-- what only trees, budgets or heads are changed of twice
pub trees_twice : (t u v : Tables) → u ≡ record t { trees = u.trees } → v ≡ record u { trees = v.trees } → v ≡ record t { trees = v.trees }
trees_twice t u v first second = second ∙ ap (λ (x : Tables). let y : Tables = record x { trees = v.trees } in y) first

pub budgets_twice : (t u v : Tables) → u ≡ record t { budgets = u.budgets } → v ≡ record u { budgets = v.budgets } → v ≡ record t { budgets = v.budgets }
budgets_twice t u v first second = second ∙ ap (λ (x : Tables). let y : Tables = record x { budgets = v.budgets } in y) first

pub heads_twice : (t u v : Tables) (heads : List ℕ) → u ≡ record t { heads = u.heads } → v ≡ record u { heads = heads } → v ≡ record t { heads = v.heads }
heads_twice t u v heads first second =
    let same : v.heads ≡ heads = ap (λ (x : Tables). x.heads) second in
    second ∙ ap (λ (x : Tables). let y : Tables = record x { heads = heads } in y) first ∙ ap (λ h. let y : Tables = record t { heads = h } in y) (sym same)

-- whether an entity is in a group stays where only trees are changed
pub grouped_same : (t u : Tables) (entity : ℕ) → u ≡ record t { trees = u.trees } → one ((bfq_of u).parent entity) ≡ one ((bfq_of t).parent entity)
grouped_same t u entity others = ap (λ (x : Tables). one ((bfq_of x).parent entity)) others

-- a member of a tree, as bfq has it
pub member_put : (t : Tables) (group entity : ℕ) (m : Member) → length t.trees ≡ 32 → group < 32
    → bfq_of (record t { trees = set t.trees group (with_member (tree_at t group) entity (Some m)) }) ≡ put_member group entity m (bfq_of t)
member_put t group entity m long within =
    ap (λ (s : ℕ → Classes). let b : Bfq = record (bfq_of t) { service = s } in b)
    (put_set t.trees group (with_member (tree_at t group) entity (Some m)) (record { vtimes = same_times 0; members = [] }) (omega (arith, within, long)))

-- a number below another, and not
is_lt : (a b : ℕ) → a < b → nat_lt a b ≡ true
is_lt a b h = grind (arith, nat_tests)

not_lt : (a b : ℕ) → b ≤ a → nat_lt a b ≡ false
not_lt a b h = grind (arith, nat_tests)

-- the budgets of sessions, with one more of them begun again
pub budget_more : (f g : ℕ → ℕ) (s v : ℕ) → ((k : ℕ) → f k ≡ cond (nat_lt k s) v (g k)) → (k : ℕ) → put f s v k ≡ cond (nat_lt k (s + 1)) v (g k)
budget_more f g s v old k = elim (cases_eq k s) [
  | inl e ↦ ap (λ b. cond b v (f k)) (eq-eqb k s e) ∙ sym (ap (λ b. cond b v (g k)) (is_lt k (s + 1) (omega (arith, e))))
  | inr other ↦ ap (λ b. cond b v (f k)) (ne_eqb k s other) ∙ old k ∙ elim (cases_lt k s) [
    | inl below ↦ ap (λ b. cond b v (g k)) (is_lt k s below ∙ sym (is_lt k (s + 1) (omega (arith, below))))
    | inr above ↦ ap (λ b. cond b v (g k)) (not_lt k s above ∙ sym (not_lt k (s + 1) (let far : s ≢ k = λ e. other (sym e) in omega (arith, above, far))))
  ]
]

-- and with all of them
pub budgets_all : (l : Limits) (t u : Tables) → u ≡ record t { budgets = u.budgets } → ((k : ℕ) → (bfq_of u).budget k ≡ cond (nat_lt k 16) l.first_budget ((bfq_of t).budget k))
    → bfq_of u ≡ with_first_budgets l (bfq_of t)
budgets_all l t u others each =
    ap bfq_of others ∙ ap (λ (f : ℕ → ℕ). let b : Bfq = record (bfq_of t) { budget = f } in b) (fun_ext each)

-- the heads of queues, with one more of them at the first sector
pub head_more : (heads : List ℕ) (s : ℕ) → s < length heads → ((k : ℕ) → k < s → get_or heads k 0 ≡ 0) → (k : ℕ) → k < s + 1 → get_or (set heads s 0) k 0 ≡ 0
head_more heads s within old k h = elim (cases_eq k s) [
  | inl e ↦ ap (λ j. get_or (set heads s 0) j 0) e ∙ get_or-set_same heads s 0 0 within
  | inr other ↦ get_or-set_other heads s k 0 0 other ∙ old k (omega (arith, h, other))
]

-- and with all of them
pub heads_all : (heads : List ℕ) (s : ℕ) → length heads ≡ 16 → 16 ≤ s → ((k : ℕ) → k < s → get_or heads k 0 ≡ 0) → (k : ℕ) → get_or heads k 0 ≡ 0
heads_all heads s long most each k = elim (cases_lt k 16) [
  | inl within ↦ each k (omega (arith, within, most))
  | inr past ↦ get_or_past heads k 0 (omega (arith, past, long))
]

-- the room on the tape, and how many exchanges there are, over plain numbers
pub room_left : (old left k n : ℕ) → n + k ≤ old → old ≤ left + k → n ≤ left
room_left old left k n h g = omega arith

pub room_enough : (old left : ℕ) → 96 ≤ old → old ≤ left + 32 → 48 ≤ left
room_enough old left h g = omega arith

pub room_thrice : (a b c d : ℕ) → a ≤ b + 32 → b ≤ c + 48 → c ≤ d + 16 → a ≤ d + 96
room_thrice a b c d h g f = omega arith

pub room_at : (old left k n : ℕ) → n ≤ old → old ≤ left + k → k < n → 1 ≤ left
room_at old left k n h g lt = omega arith

pub room_within : (old left k n : ℕ) → old ≤ left + k → k ≤ n → old ≤ left + n
room_within old left k n h le = omega arith

-- the tables change in trees alone, twice, and then in budgets alone
pub trees_then_budgets : (t u v w : Tables) → u ≡ record t { trees = u.trees } → v ≡ record u { trees = v.trees } → w ≡ record v { budgets = w.budgets }
    → w ≡ record t { trees = w.trees; budgets = w.budgets }
trees_then_budgets t u v w first second third =
    let same : w.trees ≡ v.trees = ap (λ (x : Tables). x.trees) third in
    third ∙ ap (λ (x : Tables). let y : Tables = record x { budgets = w.budgets } in y) (trees_twice t u v first second)
    ∙ ap (λ k. let y : Tables = record t { trees = k; budgets = w.budgets } in y) (sym same)
