-- The entries of a queue, when a link is written.
use Rattle.std.proofs.Common.{◌≡◌, ◌≢◌, ℕ, zero, suc, ◌+◌, ◌<◌, ◌≤◌, ◌==◌, List, [], ◌∷◌, ◌++◌, length, map, get_or, set, Bool, true, false, cond, nat_lt, Option, Some, None, refl, sym, ap, ◌∙◌, subst, arith, eq-eqb, ne_eqb, le-ltb, ltb-false}
use Rattle.std.specs.Option.{option_map_or}
use Rattle.std.proofs.lemmas.Bool.{cond-true, cond-false}
use Rattle.process_queue.specs.declared.Link.{Link}
use Rattle.process_queue.specs.Queue.{placed, insert_in, queue_slots}
use Rattle.process_queue.specs.Links.{serial_at}
use Rattle.linked_rows.specs.Chains.{one_if, times}
use Rattle.process_queue.proofs.Rising.{FromSerial, FromSerial-le, IsRising, IsRising-placed}

abbrev pub Entry : Type 0
Entry = ℕ × ℕ

-- a list with an entry, and the same without it
pub record Split (e : Entry) (large small : List Entry) : Type 0 where
  pub before : List Entry
  pub after : List Entry
  pub large_is : large ≡ before ++ e ∷ after
  pub small_is : small ≡ before ++ after

-- an entry that is put in
put : (e : Entry) (xs : List Entry) → Split e (insert_in e xs) xs
put e [] = record { before = []; after = []; large_is = refl; small_is = refl }
put e (x ∷ xs) = elim (nat_lt x.0 e.0) as (λ b. Split e (cond b (x ∷ insert_in e xs) (e ∷ x ∷ xs)) (x ∷ xs)) [
  | true ↦ (let s = put e xs in record { before = x ∷ s.before; after = s.after; large_is = ap (λ l. x ∷ l) s.large_is; small_is = ap (λ l. x ∷ l) s.small_is })
  | false ↦ record { before = []; after = x ∷ xs; large_is = refl; small_is = refl }
]

-- an entry that is put before others of no lower serial stands first
put_first : (m : Entry) (xs : List Entry) → FromSerial m.0 xs → insert_in m xs ≡ m ∷ xs
put_first m [] h = refl
put_first m (x ∷ xs) h = cond-false (nat_lt x.0 m.0) _ _ (le-ltb x.0 m.0 h.0)

-- another entry is put into both
put_both : (m e : Entry) (xs ys : List Entry) → IsRising (xs ++ e ∷ ys) → Split e (insert_in m (xs ++ e ∷ ys)) (insert_in m (xs ++ ys))
put_both m e [] ys r =
    let P : Bool → Type 0 = λ b. nat_lt e.0 m.0 ≡ b → Split e (cond b (e ∷ insert_in m ys) (m ∷ e ∷ ys)) (insert_in m ys) in
    let at : P (nat_lt e.0 m.0) = elim (nat_lt e.0 m.0) as P [
      | true ↦ λ lt. record { before = []; after = insert_in m ys; large_is = refl; small_is = refl }
      | false ↦ λ ge.
          let le : m.0 ≤ e.0 = ltb-false e.0 m.0 ge in
          record { before = m ∷ []; after = ys; large_is = refl; small_is = put_first m ys (FromSerial-le m.0 e.0 ys le r.0) }
    ] in at refl
put_both m e (x ∷ xs) ys r = elim (nat_lt x.0 m.0) as (λ b. Split e (cond b (x ∷ insert_in m (xs ++ e ∷ ys)) (m ∷ x ∷ (xs ++ e ∷ ys))) (cond b (x ∷ insert_in m (xs ++ ys)) (m ∷ x ∷ (xs ++ ys)))) [
  | true ↦ (let s = put_both m e xs ys r.1 in record { before = x ∷ s.before; after = s.after; large_is = ap (λ l. x ∷ l) s.large_is; small_is = ap (λ l. x ∷ l) s.small_is })
  | false ↦ record { before = m ∷ x ∷ xs; after = ys; large_is = refl; small_is = refl }
]

put_split : (m e : Entry) (large small : List Entry) → IsRising large → Split e large small → Split e (insert_in m large) (insert_in m small)
put_split m e large small r s =
    let r2 : IsRising (s.before ++ e ∷ s.after) = subst IsRising s.large_is r in
    let t = put_both m e s.before s.after r2 in
    record { before = t.before; after = t.after; large_is = ap (insert_in m) s.large_is ∙ t.large_is; small_is = ap (insert_in m) s.small_is ∙ t.small_is }

-- a link that is taken out takes its entry with it
pub split-placed : (seat base i : ℕ) (links : List (Option Link)) (l : Link) → get_or links i None ≡ Some l → l.seat ≡ seat
    → Split (l.serial, base + i) (placed seat base links) (placed seat base (set links i None))
split-placed seat base i [] l h same = cc
split-placed seat base zero (o ∷ links) l h same =
    let at : base ≡ base + 0 = omega arith in
    let here : placed seat base (o ∷ links) ≡ insert_in (l.serial, base) (placed seat (base + 1) links) =
    ap (λ (p : Option Link). placed seat base (p ∷ links)) h ∙ cond-true (l.seat == seat) _ _ (eq-eqb l.seat seat same) in
    let s = put (l.serial, base) (placed seat (base + 1) links) in
    subst (λ (k : ℕ). Split (l.serial, k) (placed seat base (o ∷ links)) (placed seat (base + 1) links)) at
    (record { before = s.before; after = s.after; large_is = here ∙ s.large_is; small_is = s.small_is })
split-placed seat base (suc i) (None ∷ links) l h same =
    let at : base + 1 + i ≡ base + suc i = omega arith in
    subst (λ (k : ℕ). Split (l.serial, k) (placed seat (base + 1) links) (placed seat (base + 1) (set links i None))) at
    (split-placed seat (base + 1) i links l h same)
split-placed seat base (suc i) (Some m ∷ links) l h same =
    let at : base + 1 + i ≡ base + suc i = omega arith in
    let s : Split (l.serial, base + suc i) (placed seat (base + 1) links) (placed seat (base + 1) (set links i None)) =
    subst (λ (k : ℕ). Split (l.serial, k) (placed seat (base + 1) links) (placed seat (base + 1) (set links i None))) at
    (split-placed seat (base + 1) i links l h same) in
    elim (m.seat == seat) as (λ b. Split (l.serial, base + suc i) (cond b (insert_in (m.serial, base) (placed seat (base + 1) links)) (placed seat (base + 1) links)) (cond b (insert_in (m.serial, base) (placed seat (base + 1) (set links i None))) (placed seat (base + 1) (set links i None)))) [
      | true ↦ put_split (m.serial, base) (l.serial, base + suc i) _ _ (IsRising-placed seat (base + 1) links) s
      | false ↦ s
    ]

-- a link that is not the seat's is taken out
pub same-placed : (seat base i : ℕ) (links : List (Option Link)) → ((l : Link) → get_or links i None ≡ Some l → l.seat ≢ seat)
    → placed seat base (set links i None) ≡ placed seat base links
same-placed seat base i [] h = refl
same-placed seat base zero (None ∷ links) h = refl
same-placed seat base zero (Some m ∷ links) h = sym (cond-false (m.seat == seat) _ _ (ne_eqb m.seat seat (h m refl)))
same-placed seat base (suc i) (None ∷ links) h = same-placed seat (base + 1) i links h
same-placed seat base (suc i) (Some m ∷ links) h =
    ap (λ (xs : List Entry). cond (m.seat == seat) (insert_in (m.serial, base) xs) xs) (same-placed seat (base + 1) i links h)

-- one for a slot that is linked to the seat
abbrev pub here : ℕ → Option Link → ℕ
here seat o = option_map_or (λ l. one_if l.seat seat) o 0

slots_of : List Entry → List ℕ
slots_of xs = map (λ e. e.1) xs

times-insert_in : (i : ℕ) (e : Entry) (xs : List Entry) → times i (map (λ x. x.1) (insert_in e xs)) ≡ one_if e.1 i + times i (map (λ x. x.1) xs)
times-insert_in i e [] = refl
times-insert_in i e (x ∷ xs) = elim (nat_lt x.0 e.0) as (λ b. times i (map (λ x. x.1) (cond b (x ∷ insert_in e xs) (e ∷ x ∷ xs))) ≡ one_if e.1 i + (one_if x.1 i + times i (map (λ x. x.1) xs))) [
  | true ↦ (let h = times-insert_in i e xs in omega (arith, h))
  | false ↦ refl
]

times-below : (i seat base : ℕ) (links : List (Option Link)) → i < base → times i (map (λ x. x.1) (placed seat base links)) ≡ 0
times-below i seat base [] lt = refl
times-below i seat base (None ∷ links) lt = times-below i seat (base + 1) links (omega arith)
times-below i seat base (Some l ∷ links) lt =
    let rest : times i (map (λ x. x.1) (placed seat (base + 1) links)) ≡ 0 = times-below i seat (base + 1) links (omega arith) in
    let no : one_if base i ≡ 0 = cond-false (base == i) _ _ (ne_eqb base i (λ (same : base ≡ i). let no : ⊥ = omega arith in no)) in
    elim (l.seat == seat) as (λ b. times i (map (λ x. x.1) (cond b (insert_in (l.serial, base) (placed seat (base + 1) links)) (placed seat (base + 1) links))) ≡ 0) [
      | true ↦ (let h = times-insert_in i (l.serial, base) (placed seat (base + 1) links) in omega (arith, h, no, rest))
      | false ↦ rest
    ]

-- a slot stands once in the queue that it is linked to, and in no other one
times-at : (k seat base : ℕ) (links : List (Option Link)) → times (base + k) (map (λ x. x.1) (placed seat base links)) ≡ here seat (get_or links k None)
times-at k seat base [] = refl
times-at zero seat base (None ∷ links) = times-below (base + 0) seat (base + 1) links (omega arith)
times-at zero seat base (Some l ∷ links) =
    let rest : times (base + 0) (map (λ x. x.1) (placed seat (base + 1) links)) ≡ 0 = times-below (base + 0) seat (base + 1) links (omega arith) in
    let own : one_if base (base + 0) ≡ 1 = cond-true (base == base + 0) _ _ (eq-eqb base (base + 0) (omega arith)) in
    elim (l.seat == seat) as (λ b. times (base + 0) (map (λ x. x.1) (cond b (insert_in (l.serial, base) (placed seat (base + 1) links)) (placed seat (base + 1) links))) ≡ cond b 1 0) [
      | true ↦ (let h = times-insert_in (base + 0) (l.serial, base) (placed seat (base + 1) links) in omega (arith, h, own, rest))
      | false ↦ rest
    ]
times-at (suc k) seat base (None ∷ links) =
    let at : base + 1 + k ≡ base + suc k = omega arith in
    subst (λ (j : ℕ). times j (map (λ x. x.1) (placed seat (base + 1) links)) ≡ here seat (get_or links k None)) at (times-at k seat (base + 1) links)
times-at (suc k) seat base (Some l ∷ links) =
    let at : base + 1 + k ≡ base + suc k = omega arith in
    let rest : times (base + suc k) (map (λ x. x.1) (placed seat (base + 1) links)) ≡ here seat (get_or links k None) =
    subst (λ (j : ℕ). times j (map (λ x. x.1) (placed seat (base + 1) links)) ≡ here seat (get_or links k None)) at (times-at k seat (base + 1) links) in
    let no : one_if base (base + suc k) ≡ 0 = cond-false (base == base + suc k) _ _ (ne_eqb base (base + suc k) (λ (same : base ≡ base + suc k). let no : ⊥ = omega arith in no)) in
    elim (l.seat == seat) as (λ b. times (base + suc k) (map (λ x. x.1) (cond b (insert_in (l.serial, base) (placed seat (base + 1) links)) (placed seat (base + 1) links))) ≡ here seat (get_or links k None)) [
      | true ↦ (let h = times-insert_in (base + suc k) (l.serial, base) (placed seat (base + 1) links) in omega (arith, h, no, rest))
      | false ↦ rest
    ]

pub times-queue : (i seat : ℕ) (links : List (Option Link)) → times i (queue_slots seat links) ≡ here seat (get_or links i None)
times-queue i seat links =
    let at : 0 + i ≡ i = omega arith in
    subst (λ (j : ℕ). times j (queue_slots seat links) ≡ here seat (get_or links i None)) at (times-at i seat 0 links)

-- a queue has no more entries than there are slots
length-insert_in : (e : Entry) (xs : List Entry) → length (insert_in e xs) ≡ length xs + 1
length-insert_in e [] = refl
length-insert_in e (x ∷ xs) = elim (nat_lt x.0 e.0) as (λ b. length (cond b (x ∷ insert_in e xs) (e ∷ x ∷ xs)) ≡ length (x ∷ xs) + 1) [
  | true ↦ (let h = length-insert_in e xs in omega (arith, h))
  | false ↦ omega arith
]

pub length-placed : (seat base : ℕ) (links : List (Option Link)) → length (placed seat base links) ≤ length links
length-placed seat base [] = omega arith
length-placed seat base (None ∷ links) = let h = length-placed seat (base + 1) links in omega (arith, h)
length-placed seat base (Some l ∷ links) =
    let h = length-placed seat (base + 1) links in
    elim (l.seat == seat) as (λ b. length (cond b (insert_in (l.serial, base) (placed seat (base + 1) links)) (placed seat (base + 1) links)) ≤ length (Some l ∷ links)) [
      | true ↦ (let s = length-insert_in (l.serial, base) (placed seat (base + 1) links) in omega (arith, h, s))
      | false ↦ omega (arith, h)
    ]

-- each entry has the serial of its slot
abbrev pub AreOf : (ℕ → ℕ) → List Entry → Type 0
AreOf f [] = Unit {0}
AreOf f (x ∷ xs) = (f x.1 ≡ x.0) × AreOf f xs

AreOf-insert_in : (f : ℕ → ℕ) (e : Entry) (xs : List Entry) → f e.1 ≡ e.0 → AreOf f xs → AreOf f (insert_in e xs)
AreOf-insert_in f e [] h all = (h, tt)
AreOf-insert_in f e (x ∷ xs) h all = elim (nat_lt x.0 e.0) as (λ b. AreOf f (cond b (x ∷ insert_in e xs) (e ∷ x ∷ xs))) [
  | true ↦ (all.0, AreOf-insert_in f e xs h all.1)
  | false ↦ (h, all)
]

AreOf-placed : (f : ℕ → ℕ) (seat base : ℕ) (links : List (Option Link)) → ((k : ℕ) → f (base + k) ≡ serial_at links k) → AreOf f (placed seat base links)
AreOf-placed f seat base [] h = tt
AreOf-placed f seat base (None ∷ links) h =
    AreOf-placed f seat (base + 1) links (λ k. (let at : base + 1 + k ≡ base + suc k = omega arith in ap f at ∙ h (suc k)))
AreOf-placed f seat base (Some l ∷ links) h =
    let rest : AreOf f (placed seat (base + 1) links) = AreOf-placed f seat (base + 1) links (λ k. (let at : base + 1 + k ≡ base + suc k = omega arith in ap f at ∙ h (suc k))) in
    elim (l.seat == seat) as (λ b. AreOf f (cond b (insert_in (l.serial, base) (placed seat (base + 1) links)) (placed seat (base + 1) links))) [
      | true ↦ AreOf-insert_in f (l.serial, base) (placed seat (base + 1) links) (let at : base ≡ base + 0 = omega arith in ap f at ∙ h 0) rest
      | false ↦ rest
    ]

pub AreOf-queue : (seat : ℕ) (links : List (Option Link)) → AreOf (serial_at links) (placed seat 0 links)
AreOf-queue seat links = AreOf-placed (serial_at links) seat 0 links (λ k. (let at : 0 + k ≡ k = omega arith in ap (serial_at links) at))
