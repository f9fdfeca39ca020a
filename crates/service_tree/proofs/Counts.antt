-- Sums over the members of an order.
use Rattle.std.proofs.Common.{◌≡◌, ◌≢◌, ℕ, zero, suc, ◌+◌, ◌*◌, ◌^◌, ◌<◌, ◌≤◌, inl, inr, ◌==◌, ◌&&◌, Bool, true, false, cond, List, [], ◌∷◌, length, get_or, set, Option, None, Some, refl, ap, sym, subst, ◌∙◌, arith}
use Rattle.std.proofs.lemmas.Bool.{cases_lt}
use Rattle.std.proofs.lemmas.Bool.Decides.{nat_tests}
use Rattle.augmented_tree.specs.declared.row.Figures.{Figures}
use Rattle.augmented_tree.specs.Trees.{Entry, Tree, tally, is_numbered, one, weight_of, Holds}
use Rattle.augmented_tree.proofs.Plain.{holds-tally, tally-holds}
use Rattle.plain.specs.declared.member.Member.{Member}
use Rattle.service_tree.specs.Orders.{counted, share}

abbrev pub By : Type 0
By = Option Member → Option Figures

pub counted-set : (by : By) (f : Entry → ℕ) (base i : ℕ) (xs : List (Option Member)) (w : Option Member) → i < length xs
    → counted by f base (set xs i w) + share f (base + i) (by (get_or xs i None)) ≡ counted by f base xs + share f (base + i) (by w)
counted-set by f base i [] w lt = let no : ⊥ = omega (arith, lt) in absurd no
counted-set by f base zero (x ∷ xs) w lt =
    let e : base + 0 ≡ base = omega arith in
    subst (λ (k : ℕ). share f base (by w) + counted by f (base + 1) xs + share f k (by x) ≡ share f base (by x) + counted by f (base + 1) xs + share f k (by w)) (sym e) (omega arith)
counted-set by f base (suc i) (x ∷ xs) w lt =
    let h = counted-set by f (base + 1) i xs w (omega (arith, lt)) in
    let e : base + 1 + i ≡ base + suc i = omega arith in
    let g : counted by f (base + 1) (set xs i w) + share f (base + suc i) (by (get_or xs i None)) ≡ counted by f (base + 1) xs + share f (base + suc i) (by w)
    = subst (λ (k : ℕ). counted by f (base + 1) (set xs i w) + share f k (by (get_or xs i None)) ≡ counted by f (base + 1) xs + share f k (by w)) e h in
    omega (arith, g)

pub counted-has : (by : By) (f : Entry → ℕ) (base i : ℕ) (xs : List (Option Member)) (g : Figures) → by None ≡ None → by (get_or xs i None) ≡ Some g → f (base + i, g) ≤ counted by f base xs
counted-has by f base i [] g none is = let no : ⊥ = cc in absurd no
counted-has by f base zero (x ∷ xs) g none is =
    let e : base + 0 ≡ base = omega arith in
    let s : share f base (by x) ≡ f (base, g) = ap (share f base) is in
    subst (λ (k : ℕ). f (k, g) ≤ share f base (by x) + counted by f (base + 1) xs) (sym e) (omega (arith, s))
counted-has by f base (suc i) (x ∷ xs) g none is =
    let h = counted-has by f (base + 1) i xs g none is in
    let e : base + 1 + i ≡ base + suc i = omega arith in
    let k : f (base + suc i, g) ≤ counted by f (base + 1) xs = subst (λ (k : ℕ). f (k, g) ≤ counted by f (base + 1) xs) e h in
    omega (arith, k)

-- a member of an order, at a place from `base` on, that passes a test
pub record Found (by : By) (p : Entry → Bool) (base : ℕ) (xs : List (Option Member)) : Type 0 where
  pub place : ℕ
  pub figures : Figures
  pub is : by (get_or xs place None) ≡ Some figures
  pub within : place < length xs
  pub passes : p (base + place, figures) ≡ true

pub counted-some : (by : By) (p : Entry → Bool) (base : ℕ) (xs : List (Option Member)) → 1 ≤ counted by (λ x. cond (p x) 1 0) base xs → Found by p base xs
counted-some by p base [] h = let no : ⊥ = omega (arith, h) in absurd no
counted-some by p base (x ∷ xs) h =
    elim (cases_lt 0 (counted by (λ x. cond (p x) 1 0) (base + 1) xs)) as (λ _. Found by p base (x ∷ xs)) [
      | inl some ↦ let k = counted-some by p (base + 1) xs (omega (arith, some)) in
          let e : base + 1 + k.place ≡ base + suc k.place = omega arith in
          record { place = suc k.place; figures = k.figures; is = k.is; within = (let w = k.within in omega (arith, w)); passes = subst (λ (i : ℕ). p (i, k.figures) ≡ true) e k.passes }
      | inr none ↦ here (by x) refl (omega (arith, h, none))
    ]
  where
    here : (o : Option Figures) → by x ≡ o → 1 ≤ share (λ x. cond (p x) 1 0) base o → Found by p base (x ∷ xs)
    here None is h = let no : ⊥ = omega (arith, h) in absurd no
    here (Some g) is h =
        let e : base + 0 ≡ base = omega arith in
        let Q : Bool → Type 0 = λ b. p (base, g) ≡ b → 1 ≤ cond b 1 0 → Found by p base (x ∷ xs) in
        let at : Q (p (base, g)) = elim (p (base, g)) as Q [
          | true ↦ λ t _. record { place = 0; figures = g; is = is; within = omega arith; passes = subst (λ (i : ℕ). p (i, g) ≡ true) (sym e) t }
          | false ↦ λ _ l. let no : ⊥ = omega (arith, l) in absurd no
        ] in at refl h

pub counted-none : (by : By) (f : Entry → ℕ) (base : ℕ) (xs : List (Option Member)) → ((i : ℕ) (g : Figures) → by (get_or xs i None) ≡ Some g → i < length xs → f (base + i, g) ≡ 0) → counted by f base xs ≡ 0
counted-none by f base [] h = refl
counted-none by f base (x ∷ xs) h =
    let rest = counted-none by f (base + 1) xs (λ i g is lt. let e : base + suc i ≡ base + 1 + i = omega arith in
    subst (λ (k : ℕ). f (k, g) ≡ 0) e (h (suc i) g is (omega (arith, lt)))) in
    let own = first (by x) refl in omega (arith, rest, own)
  where
    first : (o : Option Figures) → by x ≡ o → share f base o ≡ 0
    first None is = refl
    first (Some g) is = let e : base + 0 ≡ base = omega arith in subst (λ (k : ℕ). f (k, g) ≡ 0) e (h 0 g is (omega arith))

numbered_other : (i n : ℕ) (g : Figures) → i < n → is_numbered i (n, g) ≡ 0
numbered_other i n g lt = grind (arith, nat_tests)

pub share-le : (i base : ℕ) (o : Option Figures) → share (is_numbered i) base o ≤ 1
share-le i base None = omega arith
share-le i base (Some g) = le_one (base == i)
  where
    le_one : (b : Bool) → cond b 1 0 ≤ 1
    le_one true = omega arith
    le_one false = omega arith

pub share-other : (i base : ℕ) (o : Option Figures) → base ≢ i → share (is_numbered i) base o ≡ 0
share-other i base None ne = refl
share-other i base (Some g) ne = grind (arith, nat_tests)

pub counted-before : (by : By) (i base : ℕ) (xs : List (Option Member)) → i < base → counted by (is_numbered i) base xs ≡ 0
counted-before by i base xs lt = counted-none by (is_numbered i) base xs (λ k g is w. numbered_other i (base + k) g (omega (arith, lt)))

pub counted-once : (by : By) (i base : ℕ) (xs : List (Option Member)) → counted by (is_numbered i) base xs ≤ 1
counted-once by i base [] = omega arith
counted-once by i base (x ∷ xs) = elim (cases_lt i (base + 1)) as (λ _. counted by (is_numbered i) base (x ∷ xs) ≤ 1) [
  | inl lt ↦ let z = counted-before by i (base + 1) xs lt in let s = share-le i base (by x) in omega (arith, z, s)
  | inr ge ↦ let z = counted-once by i (base + 1) xs in let s = share-other i base (by x) (λ same. let no : ⊥ = omega (arith, same, ge) in no) in omega (arith, z, s)
]

share-one : (base : ℕ) (o : Option Figures) → share one base o ≤ 1
share-one base None = omega arith
share-one base (Some g) = omega arith

pub counted-size : (by : By) (base : ℕ) (xs : List (Option Member)) → counted by one base xs ≤ length xs
counted-size by base [] = omega arith
counted-size by base (x ∷ xs) = let h = counted-size by (base + 1) xs in let s = share-one base (by x) in omega (arith, h, s)

-- each member of an order weighs less than 2^32
abbrev pub IsLight : By → List (Option Member) → Type 0
IsLight by xs = (i : ℕ) (g : Figures) → by (get_or xs i None) ≡ Some g → g.weight < 2 ^ 32

pub counted-weight : (by : By) (base : ℕ) (xs : List (Option Member)) → IsLight by xs → counted by weight_of base xs ≤ length xs * 2 ^ 32
counted-weight by base [] light = omega arith
counted-weight by base (x ∷ xs) light =
    let h = counted-weight by (base + 1) xs (λ i g is. light (suc i) g is) in
    let s = own (by x) refl in omega (arith, h, s)
  where
    own : (o : Option Figures) → by x ≡ o → share weight_of base o ≤ 2 ^ 32
    own None is = omega arith
    own (Some g) is = let l = light 0 g is in omega (arith, l)

-- whether two entries are the same
abbrev pub same_entry : Entry → Entry → Bool
same_entry e x = (x.0 == e.0) && ((x.1.key == e.1.key) && ((x.1.finish == e.1.finish) && (x.1.weight == e.1.weight)))

pub same_entry-self : (e : Entry) → same_entry e e ≡ true
same_entry-self e = grind (arith, nat_tests)

pub same_entry-is : (e x : Entry) → same_entry e x ≡ true → x ≡ e
same_entry-is e x h =
    let a : x.0 ≡ e.0 = grind (arith, nat_tests) in
    let b : x.1.key ≡ e.1.key = grind (arith, nat_tests) in
    let c : x.1.finish ≡ e.1.finish = grind (arith, nat_tests) in
    let d : x.1.weight ≡ e.1.weight = grind (arith, nat_tests) in
    let f : (k l m n : ℕ) → x.0 ≡ k → x.1.key ≡ l → x.1.finish ≡ m → x.1.weight ≡ n → x ≡ (k, record { key = l; finish = m; weight = n }) = made x in
    f e.0 e.1.key e.1.finish e.1.weight a b c d
  where
    made : (x : Entry) (k l m n : ℕ) → x.0 ≡ k → x.1.key ≡ l → x.1.finish ≡ m → x.1.weight ≡ n → x ≡ (k, record { key = l; finish = m; weight = n })
    made x k l m n p q r s = subst (λ (a : ℕ). x ≡ (a, record { key = l; finish = m; weight = n })) p (subst (λ (b : ℕ). x ≡ (x.0, record { key = b; finish = m; weight = n })) q
        (subst (λ (c : ℕ). x ≡ (x.0, record { key = x.1.key; finish = c; weight = n })) r (subst (λ (d : ℕ). x ≡ (x.0, record { key = x.1.key; finish = x.1.finish; weight = d })) s refl)))

abbrev pub Counts : By → List (Option Member) → Tree → Type 0
Counts by xs t = (f : Entry → ℕ) → tally f t ≡ counted by f 0 xs

-- what the tree holds is a member
pub held_member : (by : By) (xs : List (Option Member)) (t : Tree) (y : Entry) → Counts by xs t → Holds y t → (by (get_or xs y.0 None) ≡ Some y.1) × (y.0 < length xs)
held_member by xs t y counts h =
    let some = holds-tally (λ x. cond (same_entry y x) 1 0) y t h in
    let self : ◌≡◌ {A = ℕ} (cond (same_entry y y) 1 0) 1 = ap (λ b. cond b 1 0) (same_entry-self y) in
    let all = counts (λ x. cond (same_entry y x) 1 0) in
    let k = counted-some by (same_entry y) 0 xs (omega (arith, some, self, all)) in
    let same = same_entry-is y (0 + k.place, k.figures) k.passes in
    let at : k.place ≡ y.0 = (let e = ap (λ (z : Entry). z.0) same in omega (arith, e)) in
    let figures : k.figures ≡ y.1 = ap (λ (z : Entry). z.1) same in
    (subst (λ (i : ℕ). by (get_or xs i None) ≡ Some y.1) at (k.is ∙ ap Some figures), (let w = k.within in omega (arith, w, at)))

-- and a member is held
pub member_held : (by : By) (xs : List (Option Member)) (t : Tree) (n : ℕ) (g : Figures) → by None ≡ None → Counts by xs t → by (get_or xs n None) ≡ Some g → Holds (n, g) t
member_held by xs t n g none counts is =
    let has = counted-has by (λ x. cond (same_entry (n, g) x) 1 0) 0 n xs g none is in
    let e : 0 + n ≡ n = omega arith in
    let here : cond (same_entry (n, g) (n, g)) 1 0 ≤ counted by (λ x. cond (same_entry (n, g) x) 1 0) 0 xs
    = subst (λ (k : ℕ). cond (same_entry (n, g) (k, g)) 1 0 ≤ counted by (λ x. cond (same_entry (n, g) x) 1 0) 0 xs) e has in
    let self : ◌≡◌ {A = ℕ} (cond (same_entry (n, g) (n, g)) 1 0) 1 = ap (λ b. cond b 1 0) (same_entry-self (n, g)) in
    let all = counts (λ x. cond (same_entry (n, g) x) 1 0) in
    let k = tally-holds (same_entry (n, g)) t (omega (arith, here, self, all)) in
    subst (λ (x : Entry). Holds x t) (same_entry-is (n, g) k.0 k.1.1) k.1.0
