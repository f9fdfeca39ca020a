-- A seat's queue as a list: where a link is put in, and where it is taken out.
use Rattle.std.proofs.Common.{◌≡◌, ◌≢◌, inl, inr, ℕ, zero, suc, ◌+◌, ◌<◌, ◌≤◌, List, [], ◌∷◌, ◌++◌, length, map, Option, Some, None, Bool, true, false, cond, IsSome, ◌==◌, nat_lt, set, get_or, refl, sym, ap, ◌∙◌, subst, arith, lt-ltb, le-ltb, eq-eqb, ne_eqb, eqb-true}
use Rattle.std.specs.List.{filter_map, cons_option, find, AllByRecursion}
use Rattle.std.proofs.lemmas.Bool.{cases_lt, cases_eq, cond-true, cond-false}
use Rattle.std.proofs.lemmas.List.{map-append, length-map, set-set, set-get_or, get_or-set_same, get_or-set_other, length-set, get_or_past}
use Rattle.std.proofs.lemmas.List.Elements.{filter_map-append}
use Rattle.dispatch_core.proofs.Words.{Link, numbers, first_in, is_empty, insert_in, placed, queue_slots, first_slot}

-- an entry is put behind an earlier one
insert_past : (e x : ℕ × ℕ) (xs : List (ℕ × ℕ)) → x.0 < e.0 → insert_in e (x ∷ xs) ≡ x ∷ insert_in e xs
insert_past e x xs h = cond-true (nat_lt x.0 e.0) _ _ (lt-ltb x.0 e.0 h)

-- an entry is put before one that is not earlier
insert_here : (e x : ℕ × ℕ) (xs : List (ℕ × ℕ)) → e.0 ≤ x.0 → insert_in e (x ∷ xs) ≡ e ∷ x ∷ xs
insert_here e x xs h = cond-false (nat_lt x.0 e.0) _ _ (le-ltb x.0 e.0 h)

-- two entries on the two sides of a third
between : (e f x : ℕ × ℕ) (xs : List (ℕ × ℕ)) → f.0 ≤ x.0 → x.0 < e.0 → insert_in e (insert_in f (x ∷ xs)) ≡ insert_in f (insert_in e (x ∷ xs))
between e f x xs hf he =
    ap (insert_in e) (insert_here f x xs hf) ∙ insert_past e f (x ∷ xs) (omega arith) ∙ ap (λ l. f ∷ l) (insert_past e x xs he)
    ∙ sym (insert_here f x (insert_in e xs) hf) ∙ sym (ap (insert_in f) (insert_past e x xs he))

-- two entries before a third
both_first : (e f x : ℕ × ℕ) (xs : List (ℕ × ℕ)) → f.0 < e.0 → e.0 ≤ x.0 → insert_in e (insert_in f (x ∷ xs)) ≡ insert_in f (insert_in e (x ∷ xs))
both_first e f x xs h he =
    ap (insert_in e) (insert_here f x xs (omega arith)) ∙ insert_past e f (x ∷ xs) h ∙ ap (λ l. f ∷ l) (insert_here e x xs he)
    ∙ sym (insert_here f e (x ∷ xs) (omega arith)) ∙ sym (ap (insert_in f) (insert_here e x xs he))

-- two entries behind a third
both_past : (e f x : ℕ × ℕ) (xs : List (ℕ × ℕ)) → x.0 < e.0 → x.0 < f.0 → insert_in e (insert_in f xs) ≡ insert_in f (insert_in e xs)
    → insert_in e (insert_in f (x ∷ xs)) ≡ insert_in f (insert_in e (x ∷ xs))
both_past e f x xs he hf ih =
    ap (insert_in e) (insert_past f x xs hf) ∙ insert_past e x (insert_in f xs) he ∙ ap (λ l. x ∷ l) ih
    ∙ sym (insert_past f x (insert_in e xs) hf) ∙ sym (ap (insert_in f) (insert_past e x xs he))

-- two entries of which one is earlier, in an empty list
both_alone : (e f : ℕ × ℕ) → f.0 < e.0 → insert_in e (insert_in f []) ≡ insert_in f (insert_in e [])
both_alone e f h = insert_past e f [] h ∙ sym (insert_here f e [] (omega arith))

-- two entries of unequal serials may be put in either first, at one more element
comm_step : (e f x : ℕ × ℕ) (xs : List (ℕ × ℕ)) → e.0 ≢ f.0 → insert_in e (insert_in f xs) ≡ insert_in f (insert_in e xs)
    → insert_in e (insert_in f (x ∷ xs)) ≡ insert_in f (insert_in e (x ∷ xs))
comm_step e f x xs ne ih = elim (cases_lt x.0 e.0) [
  | inl he ↦ elim (cases_lt x.0 f.0) [
    | inl hf ↦ both_past e f x xs he hf ih
    | inr hf ↦ between e f x xs hf he
  ]
  | inr he ↦ elim (cases_lt x.0 f.0) [
    | inl hf ↦ sym (between f e x xs he hf)
    | inr hf ↦ elim (cases_lt f.0 e.0) [
      | inl h ↦ both_first e f x xs h he
      | inr h ↦ sym (both_first f e x xs (omega arith) hf)
    ]
  ]
]

-- two entries of unequal serials may be put in either first
insert_comm : (e f : ℕ × ℕ) (xs : List (ℕ × ℕ)) → e.0 ≢ f.0 → insert_in e (insert_in f xs) ≡ insert_in f (insert_in e xs)
insert_comm e f [] ne = elim (cases_lt f.0 e.0) [
  | inl h ↦ both_alone e f h
  | inr h ↦ sym (both_alone f e (omega arith))
]
insert_comm e f (x ∷ xs) ne = comm_step e f x xs ne (insert_comm e f xs ne)

-- the same where either entry may be of another seat
put_comm : (b c : Bool) (e f : ℕ × ℕ) (xs : List (ℕ × ℕ)) → e.0 ≢ f.0
    → cond b (insert_in e (cond c (insert_in f xs) xs)) (cond c (insert_in f xs) xs) ≡ cond c (insert_in f (cond b (insert_in e xs) xs)) (cond b (insert_in e xs) xs)
put_comm true true e f xs ne = insert_comm e f xs ne
put_comm true false e f xs ne = refl
put_comm false true e f xs ne = refl
put_comm false false e f xs ne = refl

-- a link whose serial no other has, put in a free place, is put in at its serial
placed-put : (q base i : ℕ) (links : List (Option Link)) (l : Link) → i < length links → get_or links i None ≡ None
    → ((j : ℕ) (m : Link) → get_or links j None ≡ Some m → m.serial ≢ l.serial)
    → placed q base (set links i (Some l)) ≡ cond (l.seat == q) (insert_in (l.serial, base + i) (placed q base links)) (placed q base links)
placed-put q base i [] l h free apart = absurd (omega arith)
placed-put q base zero (None ∷ links) l h free apart =
    let e : base ≡ base + zero = omega arith in
    ap (λ n. cond (l.seat == q) (insert_in (l.serial, n) (placed q (base + 1) links)) (placed q (base + 1) links)) e
placed-put q base zero (Some m ∷ links) l h free apart = cc
placed-put q base (suc i) (None ∷ links) l h free apart =
    let e : base + 1 + i ≡ base + suc i = omega arith in
    placed-put q (base + 1) i links l (omega arith) free (λ j m g. apart (suc j) m g)
    ∙ ap (λ n. cond (l.seat == q) (insert_in (l.serial, n) (placed q (base + 1) links)) (placed q (base + 1) links)) e
placed-put q base (suc i) (Some m ∷ links) l h free apart =
    let e : base + 1 + i ≡ base + suc i = omega arith in
    ap (λ xs. cond (m.seat == q) (insert_in (m.serial, base) xs) xs)
    (placed-put q (base + 1) i links l (omega arith) free (λ j k g. apart (suc j) k g)
    ∙ ap (λ n. cond (l.seat == q) (insert_in (l.serial, n) (placed q (base + 1) links)) (placed q (base + 1) links)) e)
    ∙ put_comm (m.seat == q) (l.seat == q) (m.serial, base) (l.serial, base + suc i) (placed q (base + 1) links) (apart zero m refl)

-- a link of the seat is put in at its serial
pub placed-put_here : (q i : ℕ) (links : List (Option Link)) (l : Link) → i < length links → get_or links i None ≡ None
    → ((j : ℕ) (m : Link) → get_or links j None ≡ Some m → m.serial ≢ l.serial) → l.seat ≡ q
    → placed q 0 (set links i (Some l)) ≡ insert_in (l.serial, i) (placed q 0 links)
placed-put_here q i links l h free apart here =
    let e : 0 + i ≡ i = omega arith in
    placed-put q 0 i links l h free apart ∙ cond-true (l.seat == q) _ _ (eq-eqb l.seat q here) ∙ ap (λ n. insert_in (l.serial, n) (placed q 0 links)) e

-- a link of another seat leaves the entries as they are
pub placed-put_other : (q i : ℕ) (links : List (Option Link)) (l : Link) → i < length links → get_or links i None ≡ None
    → ((j : ℕ) (m : Link) → get_or links j None ≡ Some m → m.serial ≢ l.serial) → l.seat ≢ q
    → placed q 0 (set links i (Some l)) ≡ placed q 0 links
placed-put_other q i links l h free apart other =
    placed-put q 0 i links l h free apart ∙ cond-false (l.seat == q) _ _ (ne_eqb l.seat q other)

-- what holds of an entry and of a list holds of the list with the entry put in
each-insert : (P : ℕ × ℕ → Type 0) (e : ℕ × ℕ) (xs : List (ℕ × ℕ)) → P e → AllByRecursion P xs → AllByRecursion P (insert_in e xs)
each-insert P e [] p ps = (p, tt)
each-insert P e (x ∷ xs) p ps = elim (nat_lt x.0 e.0) as (λ b. AllByRecursion P (cond b (x ∷ insert_in e xs) (e ∷ x ∷ xs))) [
  | true ↦ (ps.0, each-insert P e xs p ps.1)
  | false ↦ (p, ps)
]

-- each entry comes from a link
each_placed : (P : ℕ × ℕ → Type 0) (q base : ℕ) (links : List (Option Link))
    → ((k : ℕ) (l : Link) → get_or links k None ≡ Some l → l.seat ≡ q → P (l.serial, base + k)) → AllByRecursion P (placed q base links)
each_placed P q base [] f = tt
each_placed P q base (None ∷ links) f = each_placed P q (base + 1) links (λ k l g h.
    let e : base + suc k ≡ base + 1 + k = omega arith in
    let Q : ℕ → Type 0 = λ n. P (l.serial, n) in
    subst Q e (f (suc k) l g h))
each_placed P q base (Some m ∷ links) f =
    let rest : AllByRecursion P (placed q (base + 1) links) = each_placed P q (base + 1) links (λ k l g h.
    let e : base + suc k ≡ base + 1 + k = omega arith in
    let Q : ℕ → Type 0 = λ n. P (l.serial, n) in
    subst Q e (f (suc k) l g h)) in
    elim (m.seat == q) as (λ b. (m.seat == q) ≡ b → AllByRecursion P (cond b (insert_in (m.serial, base) (placed q (base + 1) links)) (placed q (base + 1) links))) [
      | true ↦ λ same.
          let e : base + zero ≡ base = omega arith in
          let Q : ℕ → Type 0 = λ n. P (m.serial, n) in
          each-insert P (m.serial, base) (placed q (base + 1) links) (subst Q e (f zero m refl (eqb-true m.seat q same))) rest
      | false ↦ λ other. rest
    ] refl

-- what holds of each link of a seat holds of each entry of its queue
pub each_queued : (P : ℕ × ℕ → Type 0) (q : ℕ) (links : List (Option Link))
    → ((k : ℕ) (l : Link) → get_or links k None ≡ Some l → l.seat ≡ q → P (l.serial, k)) → AllByRecursion P (placed q 0 links)
each_queued P q links f = each_placed P q 0 links (λ k l g h.
    let e : k ≡ 0 + k = omega arith in
    let Q : ℕ → Type 0 = λ n. P (l.serial, n) in
    subst Q e (f k l g h))

-- two readings that agree at each entry give one list
filter_map_agree : {A : Type 0} (f g : ℕ → Option A) (xs : List (ℕ × ℕ)) → AllByRecursion (λ e. f e.1 ≡ g e.1) xs
    → filter_map f (map (λ e. e.1) xs) ≡ filter_map g (map (λ e. e.1) xs)
filter_map_agree f g [] ps = refl
filter_map_agree f g (x ∷ xs) ps =
    ap (λ o. cons_option o (filter_map f (map (λ e. e.1) xs))) ps.0 ∙ ap (cons_option (g x.1)) (filter_map_agree f g xs ps.1)

-- two readings that agree at each link of a seat give one queue
pub same_queue : {A : Type 0} (f g : ℕ → Option A) (q : ℕ) (links : List (Option Link))
    → ((k : ℕ) (l : Link) → get_or links k None ≡ Some l → l.seat ≡ q → f k ≡ g k)
    → filter_map f (queue_slots q links) ≡ filter_map g (queue_slots q links)
same_queue f g q links h = filter_map_agree f g (placed q 0 links) (each_queued (λ e. f e.1 ≡ g e.1) q links h)

-- an entry later than all others is put last
insert_last : (e : ℕ × ℕ) (xs : List (ℕ × ℕ)) → AllByRecursion (λ x. x.0 < e.0) xs → insert_in e xs ≡ xs ++ e ∷ []
insert_last e [] ps = refl
insert_last e (x ∷ xs) ps = insert_past e x xs ps.0 ∙ ap (λ l. x ∷ l) (insert_last e xs ps.1)

-- a link of the latest serial is the last of its queue
pub queue-put_last : {A : Type 0} (f : ℕ → Option A) (v : A) (q i : ℕ) (links : List (Option Link)) (l : Link) → i < length links → get_or links i None ≡ None
    → ((j : ℕ) (m : Link) → get_or links j None ≡ Some m → m.serial < l.serial) → l.seat ≡ q → f i ≡ Some v
    → filter_map f (queue_slots q (set links i (Some l))) ≡ filter_map f (queue_slots q links) ++ v ∷ []
queue-put_last f v q i links l h free late here value =
    ap (λ xs. filter_map f (map (λ e. e.1) xs))
    (placed-put_here q i links l h free (λ j m g. let k : m.serial < l.serial = late j m g in omega arith) here
    ∙ insert_last (l.serial, i) (placed q 0 links) (each_queued (λ x. x.0 < l.serial) q links (λ k m g _. late k m g)))
    ∙ ap (filter_map f) (map-append (λ (e : ℕ × ℕ). e.1) (placed q 0 links) ((l.serial, i) ∷ []))
    ∙ filter_map-append f (queue_slots q links) (i ∷ [])
    ∙ ap (λ o. filter_map f (queue_slots q links) ++ cons_option o []) value

-- a link that is put for one seat leaves the queues of the others
pub queue-put_other : (q i : ℕ) (links : List (Option Link)) (l : Link) → i < length links → get_or links i None ≡ None
    → ((j : ℕ) (m : Link) → get_or links j None ≡ Some m → m.serial ≢ l.serial) → l.seat ≢ q → queue_slots q (set links i (Some l)) ≡ queue_slots q links
queue-put_other q i links l h free apart other = ap (map (λ e. e.1)) (placed-put_other q i links l h free apart other)

-- a place that has something is there
pub within_of : {A : Type 0} (xs : List (Option A)) (i : ℕ) (v : A) → get_or xs i None ≡ Some v → i < length xs
within_of xs i v e = elim (cases_lt i (length xs)) [
  | inl h ↦ h
  | inr h ↦ let p : get_or xs i None ≡ None = get_or_past xs i None h in cc
]

-- what stands at a place, put back
pub put_back : {A : Type 0} (xs : List (Option A)) (i : ℕ) (v : A) → get_or xs i None ≡ Some v → set (set xs i None) i (Some v) ≡ xs
put_back xs i v e = set-set xs i None (Some v) ∙ ap (set xs i) (sym e) ∙ set-get_or xs i None

-- a place that is freed has nothing
pub freed : {A : Type 0} (xs : List (Option A)) (i : ℕ) (v : A) → get_or xs i None ≡ Some v → get_or (set xs i None) i None ≡ None
freed xs i v e = get_or-set_same xs i None None (within_of xs i v e)

-- what stands in a table with one place freed stood there before, at another place
pub kept_of : {A : Type 0} (xs : List (Option A)) (i j : ℕ) (v w : A) → get_or xs i None ≡ Some v → get_or (set xs i None) j None ≡ Some w
    → (j ≢ i) × (get_or xs j None ≡ Some w)
kept_of xs i j v w e g = elim (cases_eq j i) [
  | inl same ↦ let p : get_or (set xs i None) j None ≡ None = ap (λ n. get_or (set xs i None) n None) same ∙ freed xs i v e in cc
  | inr other ↦ (other, sym (get_or-set_other xs i j None None other) ∙ g)
]

-- links of which no two have one serial
abbrev pub Unlike : List (Option Link) → Type 0
Unlike links = (i j : ℕ) (a b : Link) → get_or links i None ≡ Some a → get_or links j None ≡ Some b → a.serial ≡ b.serial → i ≡ j

-- where a link is taken out, no other link has its serial
apart_rest : (links : List (Option Link)) (i j : ℕ) (l m : Link) → Unlike links → get_or links i None ≡ Some l → get_or (set links i None) j None ≡ Some m → m.serial ≢ l.serial
apart_rest links i j l m unlike e g =
    let k : (j ≢ i) × (get_or links j None ≡ Some m) = kept_of links i j l m e g in
    λ same. k.0 (unlike j i m l k.1 e same)

-- the queues of the other seats keep their slots where a link is taken out
pub queue-taken_other : (q i : ℕ) (links : List (Option Link)) (l : Link) → Unlike links → get_or links i None ≡ Some l → l.seat ≢ q
    → queue_slots q (set links i None) ≡ queue_slots q links
queue-taken_other q i links l unlike e other =
    let h : i < length links = within_of links i l e in
    sym (queue-put_other q i (set links i None) l (omega (arith, length-set links i None)) (freed links i l e) (λ j m g. apart_rest links i j l m unlike e g) other)
    ∙ ap (queue_slots q) (put_back links i l e)

-- the first slot of a list of entries is that of an entry of it
first_entry : (P : ℕ × ℕ → Type 0) (xs : List (ℕ × ℕ)) (slot : ℕ) → AllByRecursion P xs → first_in (map (λ e. e.1) xs) ≡ Some slot → (e : ℕ × ℕ) × P e × (e.1 ≡ slot)
first_entry P [] slot ps f = cc
first_entry P (x ∷ xs) slot ps f = (x, ps.0, cc)

-- the first slot of a queue has a link of its seat
pub first_linked : (q slot : ℕ) (links : List (Option Link)) → first_slot q links ≡ Some slot → (l : Link) × (get_or links slot None ≡ Some l) × (l.seat ≡ q)
first_linked q slot links f =
    let P : ℕ × ℕ → Type 0 = λ e. (l : Link) × (get_or links e.1 None ≡ Some l) × (l.seat ≡ q) in
    let Q : ℕ → Type 0 = λ n. (l : Link) × (get_or links n None ≡ Some l) × (l.seat ≡ q) in
    let found : (e : ℕ × ℕ) × P e × (e.1 ≡ slot) = first_entry P (placed q 0 links) slot (each_queued P q links (λ k l g h. (l, g, h))) f in
    subst Q found.2 found.1

-- an entry that is put in and comes first stands before all others
insert_first : (e : ℕ × ℕ) (xs : List (ℕ × ℕ)) → AllByRecursion (λ x. x.1 ≢ e.1) xs → first_in (map (λ e. e.1) (insert_in e xs)) ≡ Some e.1 → insert_in e xs ≡ e ∷ xs
insert_first e [] ps f = refl
insert_first e (x ∷ xs) ps f = elim (cases_lt x.0 e.0) [
  | inl h ↦ let g : Some x.1 ≡ Some e.1 = sym (ap (λ l. first_in (map (λ e. e.1) l)) (insert_past e x xs h)) ∙ f in absurd (ps.0 cc)
  | inr h ↦ insert_here e x xs h
]

-- the first of a queue is taken out with its link
pub queue-taken_first : {A : Type 0} (f : ℕ → Option A) (v : A) (q i : ℕ) (links : List (Option Link)) → Unlike links → first_slot q links ≡ Some i → f i ≡ Some v
    → filter_map f (queue_slots q links) ≡ v ∷ filter_map f (queue_slots q (set links i None))
queue-taken_first f v q i links unlike first value =
    let found : (l : Link) × (get_or links i None ≡ Some l) × (l.seat ≡ q) = first_linked q i links first in
    let h : i < length links = within_of links i found.0 found.1 in
    let inserted : placed q 0 links ≡ insert_in (found.0.serial, i) (placed q 0 (set links i None)) =
    sym (ap (placed q 0) (put_back links i found.0 found.1))
    ∙ placed-put_here q i (set links i None) found.0 (omega (arith, length-set links i None)) (freed links i found.0 found.1)
    (λ j m g. apart_rest links i j found.0 m unlike found.1 g) found.2 in
    let whole : placed q 0 links ≡ (found.0.serial, i) ∷ placed q 0 (set links i None) =
    inserted ∙ insert_first (found.0.serial, i) (placed q 0 (set links i None))
    (each_queued (λ x. x.1 ≢ i) q (set links i None) (λ k m g _. (kept_of links i k found.0 m found.1 g).0))
    (sym (ap (λ l. first_in (map (λ e. e.1) l)) inserted) ∙ first) in
    ap (λ xs. filter_map f (map (λ e. e.1) xs)) whole
    ∙ ap (λ o. cons_option o (filter_map f (queue_slots q (set links i None)))) value

-- a reading that has something at each entry keeps the length of a queue
filter_map_full : {A : Type 0} (f : ℕ → Option A) (xs : List (ℕ × ℕ)) → AllByRecursion (λ e. IsSome (f e.1)) xs → length (filter_map f (map (λ e. e.1) xs)) ≡ length xs
filter_map_full f [] ps = refl
filter_map_full f (x ∷ xs) ps =
    let ih : length (filter_map f (map (λ e. e.1) xs)) ≡ length xs = filter_map_full f xs ps.1 in
    elim (f x.1) as (λ o. IsSome o → length (cons_option o (filter_map f (map (λ e. e.1) xs))) ≡ suc (length xs)) [
      | None ↦ λ h. cc
      | Some v ↦ λ h. ap suc ih
    ] ps.0

-- a queue is as long as its entries are many, where each link has something
pub queue_length : {A : Type 0} (f : ℕ → Option A) (q : ℕ) (links : List (Option Link)) → ((k : ℕ) (l : Link) → get_or links k None ≡ Some l → IsSome (f k))
    → length (filter_map f (queue_slots q links)) ≡ length (placed q 0 links)
queue_length f q links h = filter_map_full f (placed q 0 links) (each_queued (λ e. IsSome (f e.1)) q links (λ k l g _. h k l g))

-- two lists of one length are both empty, or neither
same_empty : {A B : Type 0} (xs : List A) (ys : List B) → length xs ≡ length ys → is_empty xs ≡ is_empty ys
same_empty [] [] e = refl
same_empty [] (y ∷ ys) e = absurd (omega arith)
same_empty (x ∷ xs) [] e = absurd (omega arith)
same_empty (x ∷ xs) (y ∷ ys) e = refl

-- and it is empty where there is no entry
pub queue_empty : {A : Type 0} (f : ℕ → Option A) (q : ℕ) (links : List (Option Link)) → ((k : ℕ) (l : Link) → get_or links k None ≡ Some l → IsSome (f k))
    → is_empty (filter_map f (queue_slots q links)) ≡ is_empty (queue_slots q links)
queue_empty f q links h =
    same_empty _ (placed q 0 links) (queue_length f q links h) ∙ sym (same_empty (queue_slots q links) (placed q 0 links) (length-map (placed q 0 links) (λ (e : ℕ × ℕ). e.1)))

-- two tests that agree find the same
pub find_agree : (p q : ℕ → Bool) (xs : List ℕ) → ((k : ℕ) → p k ≡ q k) → find p xs ≡ find q xs
find_agree p q [] h = refl
find_agree p q (x ∷ xs) h = ap (λ b. cond b (Some x) (find p xs)) (h x) ∙ ap (cond (q x) (Some x)) (find_agree p q xs h)

-- a test finds the first number that passes
pub find_first : (p : ℕ → Bool) (from count k : ℕ) → from ≤ k → k < from + count → p k ≡ true → ((j : ℕ) → from ≤ j → j < k → p j ≡ false) → find p (numbers from count) ≡ Some k
find_first p from zero k lo hi passes fails = absurd (omega arith)
find_first p from (suc count) k lo hi passes fails = elim (cases_eq from k) [
  | inl e ↦ cond-true (p from) _ _ (ap p e ∙ passes) ∙ ap Some e
  | inr ne ↦ cond-false (p from) _ _ (fails from (omega arith) (omega arith)) ∙ find_first p (from + 1) count k (omega arith) (omega arith) passes (λ j a b. fails j (omega arith) b)
]

-- and none where none passes
pub find_none : (p : ℕ → Bool) (from count : ℕ) → ((j : ℕ) → from ≤ j → j < from + count → p j ≡ false) → find p (numbers from count) ≡ None
find_none p from zero fails = refl
find_none p from (suc count) fails =
    cond-false (p from) _ _ (fails from (omega arith) (omega arith)) ∙ find_none p (from + 1) count (λ j a b. fails j (omega arith) (omega arith))

-- what is found passes, and stands in the list
pub find_passes : (p : ℕ → Bool) (P : ℕ → Type 0) (xs : List ℕ) (k : ℕ) → AllByRecursion P xs → find p xs ≡ Some k → (p k ≡ true) × P k
find_passes p P [] k ps e = cc
find_passes p P (x ∷ xs) k ps e =
    elim (p x) as (λ b. p x ≡ b → cond b (Some x) (find p xs) ≡ Some k → (p k ≡ true) × P k) [
      | true ↦ λ passes g. let same : x ≡ k = cc in (sym (ap p same) ∙ passes, subst P same ps.0)
      | false ↦ λ fails g. find_passes p P xs k ps.1 g
    ] refl e
