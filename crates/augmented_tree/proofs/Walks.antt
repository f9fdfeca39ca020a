-- What the walks find.
use Rattle.std.proofs.Common.{◌≡◌, ℕ, zero, suc, ◌+◌, ◌-◌, ◌^◌, ◌<◌, ◌≤◌, ◌⊎◌, inl, inr, min, nat_lt, Bool, true, false, cond, List, length, Option, None, Some, refl, ap, sym, subst, arith}
use Rattle.std.specs.Option.{option_map_or}
use Rattle.std.proofs.lemmas.Bool.Decides.{nat_tests}
use Rattle.std.proofs.lemmas.Bool.{ltb-false, ltb-true}
use Rattle.augmented_tree.specs.declared.row.Turn.{Turn}
use Rattle.augmented_tree.specs.declared.row.Row.{Row}
use Rattle.augmented_tree.specs.Rows.{sum_at, least_at, before, lesser}
use Rattle.augmented_tree.specs.Tables.{pick_rows, above_rows, first_key_rows}
use Rattle.augmented_tree.specs.Trees.{Entry, Tree, Leaf, Fork, rank, turn_of, weight_of, root_of, height, tally, least, IsHeld, IsOrdered, Holds, not_below, not_above}
use Rattle.augmented_tree.proofs.Plain.{holds-tally}
use Rattle.augmented_tree.proofs.Orders.{below_is, above_is}
use Rattle.augmented_tree.proofs.Frames.{sum_held, least_held}
use Rattle.augmented_tree.proofs.Steps.{pick_none, above_none, first_key_none}

-- of some entries this turn is the first
pub record BestOf (In : Entry → Type 0) (s : Turn) : Type 0 where
  pub entry : Entry
  pub among : In entry
  pub is : turn_of entry ≡ s
  pub first : (y : Entry) → In y → before (turn_of y) s ≡ false

abbrev pub IsBest : (Entry → Type 0) → Option Turn → Type 0
IsBest In None = (y : Entry) → In y → ⊥
IsBest In (Some s) = BestOf In s

after_sooner : (a s q : Turn) → before a s ≡ false → before q s ≡ true → before a q ≡ false
after_sooner a s q h k = grind (arith, nat_tests)

after_later : (a s q : Turn) → before a q ≡ false → before q s ≡ false → before a s ≡ false
after_later a s q h k = grind (arith, nat_tests)

not_itself : (a : Turn) → before a a ≡ false
not_itself a = grind (arith, nat_tests)

best-one : (e : Entry) → BestOf (λ y. e ≡ y) (turn_of e)
best-one e = record { entry = e; among = refl; is = refl; first = λ y same. subst (λ (z : Entry). before (turn_of z) (turn_of e) ≡ false) same (not_itself (turn_of e)) }

best-join : (In Also : Entry → Type 0) (s : Turn) (o : Option Turn) → BestOf In s → IsBest Also o → BestOf (λ y. In y ⊎ Also y) (lesser s o)
best-join In Also s None b n = record { entry = b.entry; among = inl b.among; is = b.is; first = λ y h. elim h as (λ _. before (turn_of y) s ≡ false) [ inl i ↦ b.first y i | inr a ↦ absurd (n y a) ] }
best-join In Also s (Some q) b c =
    let P : Bool → Type 0 = λ t. before q s ≡ t → BestOf (λ y. In y ⊎ Also y) (cond t q s) in
    let at : P (before q s) = elim (before q s) as P [
      | true ↦ λ h. record { entry = c.entry; among = inr c.among; is = c.is; first = λ y g. elim g as (λ _. before (turn_of y) q ≡ false) [ inl i ↦ after_sooner (turn_of y) s q (b.first y i) h | inr a ↦ c.first y a ] }
      | false ↦ λ h. record { entry = b.entry; among = inl b.among; is = b.is; first = λ y g. elim g as (λ _. before (turn_of y) s ≡ false) [ inl i ↦ b.first y i | inr a ↦ after_later (turn_of y) s q (c.first y a) h ] }
    ] in at refl

best-same : (In Out : Entry → Type 0) (o : Option Turn) → ((y : Entry) → In y → Out y) → ((y : Entry) → Out y → In y) → IsBest In o → IsBest Out o
best-same In Out None to from n = λ y h. n y (from y h)
best-same In Out (Some s) to from b = record { entry = b.entry; among = to b.entry b.among; is = b.is; first = λ y h. b.first y (from y h) }

abbrev pub Under : ℕ → Tree → Entry → Type 0
Under v t y = Holds y t × (y.1.key ≤ v)

-- a top and what is found on either side
best-fork : (l : Tree) (e : Entry) (r : Tree) (P : Entry → Type 0) (o p : Option Turn) → P e → IsBest (λ y. Holds y l × P y) o → IsBest (λ y. Holds y r × P y) p
    → IsBest (λ y. Holds y (Fork l e r) × P y) (Some (lesser (lesser (turn_of e) o) p))
best-fork l e r P o p own bl br =
    best-same _ _ (Some (lesser (lesser (turn_of e) o) p)) to from (best-join _ _ (lesser (turn_of e) o) p (best-join _ _ (turn_of e) o (best-one e) bl) br)
  where
    to : (y : Entry) → (((e ≡ y) ⊎ (Holds y l × P y)) ⊎ (Holds y r × P y)) → Holds y (Fork l e r) × P y
    to y h = elim h as (λ _. Holds y (Fork l e r) × P y) [
      | inl g ↦ elim g as (λ _. Holds y (Fork l e r) × P y) [ inl same ↦ (inl same, subst P same own) | inr a ↦ (inr (inl a.0), a.1) ]
      | inr b ↦ (inr (inr b.0), b.1)
    ]

    from : (y : Entry) → Holds y (Fork l e r) × P y → (((e ≡ y) ⊎ (Holds y l × P y)) ⊎ (Holds y r × P y))
    from y h = elim h.0 as (λ _. (((e ≡ y) ⊎ (Holds y l × P y)) ⊎ (Holds y r × P y))) [
      | inl same ↦ inl (inl same)
      | inr sides ↦ elim sides as (λ _. (((e ≡ y) ⊎ (Holds y l × P y)) ⊎ (Holds y r × P y))) [ inl a ↦ inl (inr (a, h.1)) | inr b ↦ inr (b, h.1) ]
    ]

least-best : (t : Tree) → IsBest (λ y. Holds y t × Unit {0}) (least t)
least-best Leaf = λ y h. h.0
least-best (Fork l e r) = best-fork l e r (λ _. Unit {0}) (least l) (least r) tt (least-best l) (least-best r)

pub held_within : (rows : List Row) (t : Tree) (y : Entry) → IsHeld rows t → Holds y t → y.0 < length rows
held_within rows Leaf y h k = absurd k
held_within rows (Fork l e r) y h k = elim k as (λ _. y.0 < length rows) [
  | inl same ↦ let n : e.0 ≡ y.0 = ap (λ (z : Entry). z.0) same in let w = h.2 in omega (arith, n, w)
  | inr sides ↦ elim sides as (λ _. y.0 < length rows) [ inl a ↦ held_within rows l y h.0 a | inr b ↦ held_within rows r y h.1 b ]
]

left_keys : (l : Tree) (e y : Entry) → e.0 < 256 → tally (not_below (rank e)) l ≡ 0 → Holds y l → y.1.key ≤ e.1.key
left_keys l e y small z h = let c = holds-tally (not_below (rank e)) y l h in let lt = below_is (rank e) y (omega (arith, c, z)) in omega (arith, lt, small)

right_keys : (r : Tree) (e y : Entry) → y.0 < 256 → tally (not_above (rank e)) r ≡ 0 → Holds y r → e.1.key ≤ y.1.key
right_keys r e y small z h = let c = holds-tally (not_above (rank e)) y r h in let lt = above_is (rank e) y (omega (arith, c, z)) in omega (arith, lt, small)

pub pick-best : (k : ℕ) (rows : List Row) (t : Tree) (v : ℕ) → IsHeld rows t → IsOrdered t → length rows ≤ 256 → height t ≤ k → IsBest (Under v t) (pick_rows k rows (root_of t) v)
unfolding pick_rows
pick-best k rows Leaf v h o small le = subst (IsBest (Under v Leaf)) (sym (pick_none k rows v)) (λ y g. g.0)
pick-best zero rows (Fork l e r) v h o small le = let no : ⊥ = omega (arith, le) in absurd no
pick-best (suc k) rows (Fork l e r) v h o small le =
    let own : e.0 < 256 = (let w = h.2 in omega (arith, w, small)) in
    let bl = pick-best k rows l v h.0 o.0 small (omega (arith, le)) in
    let br = pick-best k rows r v h.1 o.1 small (omega (arith, le)) in
    let pl = pick_rows k rows (root_of l) v in let pr = pick_rows k rows (root_of r) v in
    let T : Option Turn → Type 0 = IsBest (Under v (Fork l e r)) in
    let far : v < e.1.key → T pl = λ lt. best-same (Under v l) (Under v (Fork l e r)) pl (λ y g. (inr (inl g.0), g.1)) (λ y g.
    (elim g.0 as (λ _. Under v l y) [
      | inl same ↦ let n : e.1.key ≡ y.1.key = ap (λ (z : Entry). z.1.key) same in let c = g.1 in let no : ⊥ = omega (arith, n, lt, c) in absurd no
      | inr sides ↦ elim sides as (λ _. Under v l y) [
        | inl a ↦ (a, g.1)
        | inr b ↦ let w = held_within rows r y h.1 b in let c = right_keys r e y (omega (arith, w, small)) o.3 b in let d = g.1 in let no : ⊥ = omega (arith, c, d, lt) in absurd no
      ]
    ])) bl in
    let near : e.1.key ≤ v → T (Some (lesser (lesser (turn_of e) (least l)) pr)) = λ ge. best-fork l e r (λ y. y.1.key ≤ v) (least l) pr ge
    (best-same (λ y. Holds y l × Unit {0}) (Under v l) (least l) (λ y g. (g.0, (let c = left_keys l e y own o.2 g.0 in omega (arith, c, ge)))) (λ y g. (g.0, tt)) (least-best l)) br in
    let P : Bool → Type 0 = λ b. nat_lt v e.1.key ≡ b → T (cond b pl (Some (lesser (lesser (turn_of e) (least l)) pr))) in
    let at : P (nat_lt v e.1.key) = elim (nat_lt v e.1.key) as P [ true ↦ λ q. far (ltb-true v e.1.key q) | false ↦ λ q. near (ltb-false v e.1.key q) ] in
    let stored : T (cond (nat_lt v e.1.key) pl (Some (lesser (lesser (turn_of e) (least_at rows (root_of l))) pr))) =
    subst (λ (u : Option Turn). T (cond (nat_lt v e.1.key) pl (Some (lesser (lesser (turn_of e) u) pr)))) (sym (least_held rows l h.0)) (at refl) in
    subst (λ (w : Row). T (cond (nat_lt v w.figures.key) (pick_rows k rows w.left v) (Some (lesser (lesser (record { finish = w.figures.finish; number = e.0 }) (least_at rows w.left)) (pick_rows k rows w.right v))))) (sym h.3) stored

-- the weight of a member whose key is above a limit
abbrev pub late : ℕ → Entry → ℕ
late v x = cond (nat_lt v x.1.key) x.1.weight 0

tally-same : (f g : Entry → ℕ) (t : Tree) → ((y : Entry) → Holds y t → f y ≡ g y) → tally f t ≡ tally g t
tally-same f g Leaf h = refl
tally-same f g (Fork l e r) h =
    let a = tally-same f g l (λ y k. h y (inr (inl k))) in let b = tally-same f g r (λ y k. h y (inr (inr k))) in let c = h e (inl refl) in omega (arith, a, b, c)

tally-zero : (f : Entry → ℕ) (t : Tree) → ((y : Entry) → Holds y t → f y ≡ 0) → tally f t ≡ 0
tally-zero f Leaf h = refl
tally-zero f (Fork l e r) h =
    let a = tally-zero f l (λ y k. h y (inr (inl k))) in let b = tally-zero f r (λ y k. h y (inr (inr k))) in let c = h e (inl refl) in omega (arith, a, b, c)

late_is : (v : ℕ) (x : Entry) → v < x.1.key → late v x ≡ x.1.weight
late_is v x lt = grind (arith, nat_tests)

late_not : (v : ℕ) (x : Entry) → x.1.key ≤ v → late v x ≡ 0
late_not v x le = grind (arith, nat_tests)

pub above-tally : (k : ℕ) (rows : List Row) (t : Tree) (v : ℕ) → IsHeld rows t → IsOrdered t → length rows ≤ 256 → tally weight_of t < 2 ^ 64 → height t ≤ k → above_rows k rows (root_of t) v ≡ tally (late v) t
unfolding above_rows
above-tally k rows Leaf v h o small sum le = above_none k rows v
above-tally zero rows (Fork l e r) v h o small sum le = let no : ⊥ = omega (arith, le) in absurd no
above-tally (suc k) rows (Fork l e r) v h o small sum le =
    let own : e.0 < 256 = (let w = h.2 in omega (arith, w, small)) in
    let al = above-tally k rows l v h.0 o.0 small (omega (arith, sum)) (omega (arith, le)) in
    let ar = above-tally k rows r v h.1 o.1 small (omega (arith, sum)) (omega (arith, le)) in
    let vl = above_rows k rows (root_of l) v in let vr = above_rows k rows (root_of r) v in
    let most : tally (late v) l ≤ tally weight_of l = late-le v l in
    let T : ℕ → Type 0 = λ n. n ≡ tally (late v) (Fork l e r) in
    let P : Bool → Type 0 = λ b. nat_lt v e.1.key ≡ b → T (cond b (min (min (e.1.weight + vl) (2 ^ 64 - 1) + sum_at rows (root_of r)) (2 ^ 64 - 1)) vr) in
    let at : P (nat_lt v e.1.key) = elim (nat_lt v e.1.key) as P [
      | true ↦ λ q. let lt : v < e.1.key = ltb-true v e.1.key q in
          let sr = sum_held rows r h.1 in
          let all = tally-same (late v) weight_of r (λ y b. let w = held_within rows r y h.1 b in let c = right_keys r e y (omega (arith, w, small)) o.3 b in late_is v y (omega (arith, c, lt))) in
          let mine = late_is v e lt in
          omega (arith, al, sr, all, mine, sum, most)
      | false ↦ λ q. let ge : e.1.key ≤ v = ltb-false v e.1.key q in
          let none = tally-zero (late v) l (λ y a. let c = left_keys l e y own o.2 a in late_not v y (omega (arith, c, ge))) in
          let mine = late_not v e ge in
          omega (arith, ar, none, mine)
    ] in
    subst (λ (w : Row). T (cond (nat_lt v w.figures.key) (min (min (w.figures.weight + above_rows k rows w.left v) (2 ^ 64 - 1) + sum_at rows w.right) (2 ^ 64 - 1)) (above_rows k rows w.right v))) (sym h.3) (at refl)
  where
    late_one : (v : ℕ) (x : Entry) → late v x ≤ weight_of x
    late_one v x = grind (arith, nat_tests)

    late-le : (v : ℕ) (t : Tree) → tally (late v) t ≤ tally weight_of t
    late-le v Leaf = omega arith
    late-le v (Fork l e r) = let a = late-le v l in let b = late-le v r in let c = late_one v e in omega (arith, a, b, c)

-- the least key of the entries of a tree
pub record LeastKey (t : Tree) (key : ℕ) : Type 0 where
  pub entry : Entry
  pub among : Holds entry t
  pub is : entry.1.key ≡ key
  pub lowest : (y : Entry) → Holds y t → key ≤ y.1.key

abbrev pub IsLeastKey : Tree → Option ℕ → Type 0
IsLeastKey t None = (y : Entry) → Holds y t → ⊥
IsLeastKey t (Some key) = LeastKey t key

pub first-key-least : (k : ℕ) (rows : List Row) (t : Tree) → IsHeld rows t → IsOrdered t → length rows ≤ 256 → height t ≤ k → IsLeastKey t (first_key_rows k rows (root_of t))
unfolding first_key_rows
first-key-least k rows Leaf h o small le = subst (IsLeastKey Leaf) (sym (first_key_none k rows)) (λ y g. g)
first-key-least zero rows (Fork l e r) h o small le = let no : ⊥ = omega (arith, le) in absurd no
first-key-least (suc k) rows (Fork l e r) h o small le =
    let own : e.0 < 256 = (let w = h.2 in omega (arith, w, small)) in
    let T : Option ℕ → Type 0 = IsLeastKey (Fork l e r) in
    let rights : (y : Entry) → Holds y r → e.1.key ≤ y.1.key = λ y b. let w = held_within rows r y h.1 b in right_keys r e y (omega (arith, w, small)) o.3 b in
    let P : Option ℕ → Type 0 = λ f. IsLeastKey l f → T (Some (option_map_or (λ key. key) f e.1.key)) in
    let at : P (first_key_rows k rows (root_of l)) = elim (first_key_rows k rows (root_of l)) as P [
      | None ↦ λ none. record {
        entry = e;
        among = inl refl;
        is = refl;
        lowest = λ y g. elim g as (λ _. e.1.key ≤ y.1.key) [
          | inl same ↦ let n : e.1.key ≡ y.1.key = ap (λ (z : Entry). z.1.key) same in omega (arith, n)
          | inr sides ↦ elim sides as (λ _. e.1.key ≤ y.1.key) [ inl a ↦ absurd (none y a) | inr b ↦ rights y b ]
        ];
      }
      | Some key ↦ λ b. let first : key ≤ e.1.key = (let c = left_keys l e b.entry own o.2 b.among in let s = b.is in omega (arith, c, s)) in
          record {
            entry = b.entry;
            among = inr (inl b.among);
            is = b.is;
            lowest = λ y g. elim g as (λ _. key ≤ y.1.key) [
              | inl same ↦ let n : e.1.key ≡ y.1.key = ap (λ (z : Entry). z.1.key) same in omega (arith, n, first)
              | inr sides ↦ elim sides as (λ _. key ≤ y.1.key) [ inl a ↦ b.lowest y a | inr c ↦ let d = rights y c in omega (arith, d, first) ]
            ];
          }
    ] in
    subst (λ (w : Row). T (Some (option_map_or (λ key. key) (first_key_rows k rows w.left) w.figures.key))) (sym h.3) (at (first-key-least k rows l h.0 o.0 small (omega (arith, le))))
