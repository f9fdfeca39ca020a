-- In each group on the path of the queue in service some weight counts, on the machine of every keeper.
use Rattle.std.proofs.Common.{true, false, Bool, ◌≡◌, ℕ, zero, suc, ◌+◌, ◌≤◌, nat_lt, List, [], ◌∷◌, Option, Some, None, All, cond, slice_index_or, sum_by, unwrap_or, sym, subst, inl, inr, refl, ap, ◌∙◌, arith}
use Rattle.std.specs.List.{filter}
use Rattle.std.proofs.lemmas.List.Elements.{All-nil, All-cons}
use Rattle.std.proofs.lemmas.List.Sums.{sum_by-cons}
use Rattle.sector_core.specs.declared.class.Class.{Class}
use Rattle.plain.specs.declared.member.Member.{Member}
use Rattle.plain.specs.declared.member.State.{State}
use Rattle.plain.specs.declared.member.State.TheVariants.{Idle, Active, Serving}
use Rattle.plain.specs.Members.{counts_in, does_count, numbered}
use Rattle.class_laws.proofs.Highest.{only-own}
use Rattle.plain.specs.Groups.{path}
use Rattle.plain.specs.declared.seat.InService.{InService}
use Rattle.plain.specs.Machine.{Bfq, Plain}
use Rattle.plain.specs.Rules.{absent, class_of, group_of, service_in, vtime_of, wsum, is_idle}
use Rattle.plain.specs.declared.call.Call.{Call}
use Rattle.plain.specs.Opening.{Limits}
use Rattle.plain.specs.Steps.Dispatch.{with_selected}
use Rattle.plain.specs.Keeper.{machine_of}
use Rattle.plain.specs.Headline.{replay}
use Rattle.bfq_laws.specs.Weights.{WeighEnough}
use Rattle.bfq_laws.specs.Sums.{SumsArePositiveIn, SumsArePositive}
use Rattle.plain_laws.proofs.Puts.{some_is}
use Rattle.plain_laws.proofs.Placed.{places_of}
use Rattle.plain_laws.proofs.Rules.{Changes, with_selected-keeps, with_budget_in-keeps}
use Rattle.bfq_laws.proofs.Walk.{machine-keeps}
use Rattle.bfq_laws.proofs.Tree.{idle}
use Rattle.bfq_laws.proofs.Busy.{Busy, Tidy, with_budget_in-busy, with_selected-busy}
use Rattle.bfq_laws.proofs.Shape.{In, member-at}
use Rattle.bfq_laws.proofs.Alive.{Alive, not_idle}
use Rattle.bfq_laws.proofs.Choosing.{with_selected-alive}
use Rattle.bfq_laws.proofs.Calm.{calm-tidy}
use Rattle.bfq_laws.proofs.Sound.{awake-slot, with_budget_in-alive, opening-sound}
use Rattle.bfq_laws.proofs.Weighing.{Weighs, keeps-weighs, opening-weighs, path-awake, InGroup, WeighAt, weigh_at-changes, weigh_at-alive}

-- what holds of whoever is in a list holds of all in it
all-of : (P : ℕ → Type 0) (xs : List ℕ) → ((x : ℕ) → In x xs → P x) → All P xs
all-of P [] each = All-nil P
all-of P (x ∷ xs) each = All-cons P x xs (each x (inl refl)) (all-of P xs (λ y i. each y (inr i)))

abbrev weight_at : ℕ × Member → ℕ
weight_at e = e.1.weight

abbrev counted : ℕ → ℕ → List (Option Member) → List (ℕ × Member)
counted vtime base members = filter (λ e. does_count vtime e.1) (numbered base members)

-- where a member with a weight counts, the sum is not 0
sum-weighs : (vtime base : ℕ) (members : List (Option Member)) (e : ℕ) (m : Member) → slice_index_or members e None ≡ Some m → does_count vtime m ≡ true → 1 ≤ m.weight
    → 1 ≤ sum_by weight_at (counted vtime base members)
sum-weighs vtime base [] e m there ok le = cc
sum-weighs vtime base (None ∷ members) zero m there ok le = cc
sum-weighs vtime base (None ∷ members) (suc e) m there ok le = sum-weighs vtime (base + 1) members e m there ok le
sum-weighs vtime base (Some x ∷ members) zero m there ok le =
    let rest : List (ℕ × Member) = counted vtime (base + 1) members in
    let same : x ≡ m = some_is x m there in
    let now : does_count vtime x ≡ true = ap (does_count vtime) same ∙ ok in
    let weight : x.weight ≡ m.weight = ap (λ (y : Member). y.weight) same in
    elim (does_count vtime x) as (λ t. does_count vtime x ≡ t → 1 ≤ sum_by weight_at (cond t ((base, x) ∷ rest) rest)) [
      | true ↦ λ _. let sum : sum_by weight_at ((base, x) ∷ rest) ≡ x.weight + sum_by weight_at rest = sum_by-cons weight_at (base, x) rest in omega (arith, sum, weight, le)
      | false ↦ λ no. cc
    ] refl
sum-weighs vtime base (Some x ∷ members) (suc e) m there ok le =
    let rest : List (ℕ × Member) = counted vtime (base + 1) members in
    let more : 1 ≤ sum_by weight_at rest = sum-weighs vtime (base + 1) members e m there ok le in
    elim (does_count vtime x) as (λ t. 1 ≤ sum_by weight_at (cond t ((base, x) ∷ rest) rest)) [
      | true ↦ let sum : sum_by weight_at ((base, x) ∷ rest) ≡ x.weight + sum_by weight_at rest = sum_by-cons weight_at (base, x) rest in omega (arith, sum, more)
      | false ↦ more
    ]

-- who is not idle counts
awake-counts : (s : State) (ahead : Bool) → is_idle s ≡ false → counts_in s ahead ≡ true
awake-counts Idle ahead e = cc
awake-counts Active ahead e = refl
awake-counts Serving ahead e = refl

-- who is on the path of the queue in service is not idle, so it counts in its group
sums-there : (b : Bfq) → Alive b → WeighEnough b → (slot : InService) → idle b slot.seat ≡ false → All (λ entity. 1 ≤ wsum b (group_of b entity) (class_of b entity)) (path b.parent slot.seat)
sums-there b h weighs slot awake = all-of (λ entity. 1 ≤ wsum b (group_of b entity) (class_of b entity)) (path b.parent slot.seat)
    (λ i within.
    let awake_i : is_idle (h.st i) ≡ false = path-awake b h slot.seat awake i within in
    let found = member-at h.above h.st b i h.at (not_idle (h.st i) awake_i) in
    let g : ℕ = group_of b i in
    let m : Member = found.0 in
    let awake_m : is_idle m.state ≡ false = ap is_idle found.2 ∙ awake_i in
    let class : class_of b i ≡ m.class = ap (λ o. (unwrap_or o absent).class) found.1 in
    let v : ℕ = vtime_of b g m.class in
    let le : 1 ≤ wsum b g m.class =
    sum-weighs v 0 (service_in b g m.class).members i m (only-own (places_of b g) i m found.1) (awake-counts m.state (nat_lt v m.finish) awake_m) (weighs.1 g i m found.1) in
    subst (λ (k : Class). 1 ≤ wsum b g k) (sym class) le)

sums-in : (l : Limits) (m : Plain) → Weighs m → SumsArePositiveIn l m
sums-in l m h under =
    let tidy : Tidy m = calm-tidy m under h.1.calm in
    let alive : Alive m.bfq = h.1.alive in (
      λ slot is. sums-there m.bfq alive h.0 slot (awake-slot m.seat m.queue m.bfq tidy.busy slot is).1,
      λ b e slot is.
          let ready : Busy m.seat m.queue (with_selected b) = with_selected-busy m.seat m.queue b (with_budget_in-busy l m m.bfq.in_service b refl e tidy.busy) in
          let served : Alive (with_selected b) = with_selected-alive b (with_budget_in-alive l m m.bfq.in_service b e tidy alive) slot is in
          let changes : Changes l.max_budget (InGroup alive.above) (WeighAt alive.above) = weigh_at-changes l.max_budget alive.above alive.levels in
          let weigh : WeighAt alive.above (with_selected b) =
          with_selected-keeps (WeighAt alive.above) changes.selects b (with_budget_in-keeps l (InGroup alive.above) (WeighAt alive.above) changes m m.bfq.in_service b e (weigh_at-alive m.bfq alive h.0)) in
          sums-there (with_selected b) served weigh.weigh slot (awake-slot m.seat m.queue (with_selected b) ready slot is).1,
    )

-- the law
pub sums-positive : (l : Limits) (most : ℕ) (journal : List Call) → SumsArePositive l most journal
sums-positive l most journal =
    sums-in l (machine_of (replay l most journal)) (machine-keeps l most journal Weighs (keeps-weighs l) (opening-weighs l, opening-sound l))
