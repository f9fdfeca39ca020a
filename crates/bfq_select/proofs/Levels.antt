-- The choice, level by level.
use Rattle.std.proofs.Common.{◌≡◌, ℕ, suc, ◌-◌, Option, Some, None, true, false, if◌then◌else◌, nat_lt, sym, ap, ◌∙◌}
use Rattle.sector_core.specs.declared.class.Class.{Class}
use Rattle.plain.specs.Machine.{Bfq}
use Rattle.plain.specs.Rules.{select_from, chosen_in, class_in, on_class, jumped, picked, in_service, on_pick, taken}

-- the choice goes on with so many levels
abbrev next : ℕ → ℕ → Bfq → ℕ → Bfq
next k group j = taken (λ h c. select_from k h c) group j

-- one level, with what the jump and the pick gave
opened : (n k group : ℕ) (class : Class) (m j : Bfq) (o : Option ℕ) → n ≡ suc k → Some class ≡ class_in m group → j ≡ jumped group class m → o ≡ picked j group class → select_from n group m ≡ on_pick o j (next k group j)
unfolding select_from
opened n k group class m j o more first jump pick =
    ap (λ x. select_from x group m) more
    ∙ ap (λ x. on_class x m (chosen_in (λ h c. select_from k h c) group m)) (sym first)
    ∙ ap (λ x. on_pick (picked x group class) x (next k group x)) (sym jump)
    ∙ ap (λ x. on_pick x j (next k group j)) (sym pick)

-- no level is left
pub select_end : (n group : ℕ) (m : Bfq) → n ≡ 0 → select_from n group m ≡ m
unfolding select_from
select_end n group m over = ap (λ x. select_from x group m) over

-- nobody is active in the group
pub select_idle : (n k group : ℕ) (m : Bfq) → n ≡ suc k → None ≡ class_in m group → select_from n group m ≡ m
unfolding select_from
select_idle n k group m more first =
    ap (λ x. select_from x group m) more
    ∙ ap (λ x. on_class x m (chosen_in (λ h c. select_from k h c) group m)) (sym first)

-- nobody is picked in the class
pub select_none : (n k group : ℕ) (class : Class) (m j : Bfq) → n ≡ suc k → Some class ≡ class_in m group → j ≡ jumped group class m → None ≡ picked j group class → select_from n group m ≡ j
select_none n k group class m j more first jump pick = opened n k group class m j None more first jump pick

-- a session is taken
pub select_session : (n k group x : ℕ) (class : Class) (m j i r : Bfq) → n ≡ suc k → Some class ≡ class_in m group → j ≡ jumped group class m → Some x ≡ picked j group class → i ≡ in_service group x j → nat_lt x 16 ≡ true
    → r ≡ record i { in_service = Some (record { seat = x; service = 0; age = 0 }) } → select_from n group m ≡ r
select_session n k group x class m j i r more first jump pick serve seat put =
    opened n k group class m j (Some x) more first jump pick
    ∙ ap (λ t. if t then record (in_service group x j) { in_service = Some (record { seat = x; service = 0; age = 0 }) } else select_from k (x - 16) (in_service group x j)) seat
    ∙ ap (λ (y : Bfq). record y { in_service = Some (record { seat = x; service = 0; age = 0 }) }) (sym serve)
    ∙ sym put

-- a group is taken
pub select_group : (n k group x : ℕ) (class : Class) (m j i : Bfq) → n ≡ suc k → Some class ≡ class_in m group → j ≡ jumped group class m → Some x ≡ picked j group class → i ≡ in_service group x j → nat_lt x 16 ≡ false
    → select_from n group m ≡ select_from k (x - 16) i
select_group n k group x class m j i more first jump pick serve seat =
    opened n k group class m j (Some x) more first jump pick
    ∙ ap (λ t. if t then record (in_service group x j) { in_service = Some (record { seat = x; service = 0; age = 0 }) } else select_from k (x - 16) (in_service group x j)) seat
    ∙ ap (λ y. select_from k (x - 16) y) (sym serve)
