-- The walk along a queue.
use Rattle.std.specs.Prelude.{slice_get}
use Rattle.std.proofs.Common.{◌≡◌, ◌≢◌, ℕ, zero, suc, ◌+◌, ◌<◌, ◌≤◌, ◌==◌, List, [], ◌∷◌, length, drop, nat_le, nat_lt, min, Bool, true, false, cond, Option, Some, None, refl, sym, ap, ◌∙◌, subst, arith, eq-eqb, ne_eqb, lt-ltb, le-ltb, ltb-true, ltb-false, le-leb, leb-true, leb-false}
use Rattle.std.specs.List.{cons_option, filter, find}
use Rattle.std.specs.Option.{option_and_then, option_map, option_map_or, option_or}
use Rattle.std.proofs.lemmas.List.{drop_all, length-map}
use Rattle.std.proofs.lemmas.Bool.{cond-true, cond-false}
use Rattle.std.proofs.lemmas.Option.{same_Some}
use Rattle.process_queue.specs.declared.Link.{Link}
use Rattle.linked_rows.specs.declared.Sides.{Sides}
use Rattle.linked_rows.specs.declared.Ends.{Ends}
use Rattle.plain.specs.declared.shape.Shape.{Shape}
use Rattle.process_queue.specs.Queue.{placed, queue_slots}
use Rattle.plain.specs.Next.{has_start, minimum, next_of, start_of, starts}
use Rattle.process_queue.specs.Nearest.{candidate, nearest, slot_of, sooner}
use Rattle.linked_rows.specs.Chains.{side_at, first_or, IsChain}
use Rattle.process_queue.specs.Links.{IsQueues}
use Rattle.process_queue.proofs.Entries.{length-placed}

-- what comes after the slot at a place stands at the next place
pub next_in : (sides : List Sides) (xs : List ℕ) (prev : Option ℕ) (k i : ℕ) → IsChain sides prev xs None → slice_get xs k ≡ Some i → (side_at sides i).after ≡ slice_get xs (suc k)
next_in sides [] prev k i c at = cc
next_in sides (x ∷ xs) prev zero i c at =
    subst (λ (j : ℕ). (side_at sides j).after ≡ slice_get xs 0) (same_Some x i at) (ap (λ (w : Sides). w.after) c.1 ∙ first xs)
  where
    first : (ys : List ℕ) → first_or ys None ≡ slice_get ys 0
    first [] = refl
    first (y ∷ ys) = refl
next_in sides (x ∷ xs) prev (suc k) i c at = next_in sides xs (Some x) k i c.2 at

pub behind_is : (links : List (Option Link)) (sides : List Sides) (ends : List Ends) (queued seat k i : ℕ) → IsQueues links sides ends queued → seat < 256 → slice_get (queue_slots seat links) k ≡ Some i
    → (side_at sides i).after ≡ slice_get (queue_slots seat links) (k + 1)
behind_is links sides ends queued seat k i q lt at =
    let next : suc k ≡ k + 1 = omega arith in
    next_in sides (queue_slots seat links) None k i ((q.queues seat lt).chain) at ∙ ap (slice_get (queue_slots seat links)) next

-- what is left of a list from a place on
pub left-some : (xs : List ℕ) (k i : ℕ) → slice_get xs k ≡ Some i → drop k xs ≡ i ∷ drop (suc k) xs
left-some [] k i at = cc
left-some (x ∷ xs) zero i at = ap (λ (j : ℕ). j ∷ xs) (same_Some x i at)
left-some (x ∷ xs) (suc k) i at = left-some xs k i at

pub left : (xs : List ℕ) (k i : ℕ) → slice_get xs k ≡ Some i → drop k xs ≡ i ∷ drop (k + 1) xs
left xs k i at = let next : suc k ≡ k + 1 = omega arith in left-some xs k i at ∙ ap (λ (n : ℕ). i ∷ drop n xs) next

pub left-none : (xs : List ℕ) (k : ℕ) → slice_get xs k ≡ None → drop k xs ≡ []
left-none [] zero at = refl
left-none [] (suc k) at = refl
left-none (x ∷ xs) zero at = cc
left-none (x ∷ xs) (suc k) at = left-none xs k at

-- a queue ends where as many slots were passed as there are
pub left-all : (seat k : ℕ) (links : List (Option Link)) → length links ≤ k → drop k (queue_slots seat links) ≡ []
left-all seat k links le =
    let a = length-placed seat 0 links in
    let b = length-map (placed seat 0 links) (λ (e : ℕ × ℕ). e.1) in
    drop_all k (queue_slots seat links) (omega (arith, a, b, le))

-- a search goes on, and ends
pub find_on : (p : ℕ → Bool) (xs : List ℕ) (k i : ℕ) → slice_get xs k ≡ Some i → p i ≡ false → find p (drop k xs) ≡ find p xs → find p (drop (k + 1) xs) ≡ find p xs
find_on p xs k i at fails was = sym (ap (find p) (left xs k i at) ∙ cond-false (p i) _ _ fails) ∙ was

pub find_here : (p : ℕ → Bool) (xs : List ℕ) (k i : ℕ) → slice_get xs k ≡ Some i → p i ≡ true → find p (drop k xs) ≡ find p xs → find p xs ≡ Some i
find_here p xs k i at passes was = sym was ∙ ap (find p) (left xs k i at) ∙ cond-true (p i) _ _ passes

-- past the end of a list nothing stands
pub past : (xs : List ℕ) (k n : ℕ) → k ≤ n → slice_get xs k ≡ None → slice_get xs n ≡ None
past [] k n le none = refl
past (x ∷ xs) zero n le none = cc
past (x ∷ xs) (suc k) zero le none = absurd (omega arith)
past (x ∷ xs) (suc k) (suc n) le none = past xs k n (omega arith) none

pub sooner-none : (a : Option (ℕ × ℕ)) → sooner a None ≡ a
sooner-none None = refl
sooner-none (Some a) = refl

-- of three the soonest
lesser-turned : (a b c : ℕ × ℕ) → cond (nat_lt (cond (nat_lt c.0 b.0) c b).0 a.0) (cond (nat_lt c.0 b.0) c b) a ≡ cond (nat_lt c.0 (cond (nat_lt b.0 a.0) b a).0) c (cond (nat_lt b.0 a.0) b a)
lesser-turned a b c =
    let P : Bool → Type 0 = λ t. nat_lt c.0 b.0 ≡ t → cond (nat_lt (cond t c b).0 a.0) (cond t c b) a ≡ cond (nat_lt c.0 (cond (nat_lt b.0 a.0) b a).0) c (cond (nat_lt b.0 a.0) b a) in
    let at : P (nat_lt c.0 b.0) = elim (nat_lt c.0 b.0) as P [
      | true ↦ λ cb.
          (let Q : Bool → Type 0 = λ t. nat_lt b.0 a.0 ≡ t → cond (nat_lt c.0 a.0) c a ≡ cond (nat_lt c.0 (cond t b a).0) c (cond t b a) in
          let on : Q (nat_lt b.0 a.0) = elim (nat_lt b.0 a.0) as Q [
            | true ↦ λ ba. (let c_b = ltb-true c.0 b.0 cb in let b_a = ltb-true b.0 a.0 ba in let ca : nat_lt c.0 a.0 ≡ true = lt-ltb c.0 a.0 (omega (arith, c_b, b_a)) in cond-true (nat_lt c.0 a.0) c a ca ∙ sym (cond-true (nat_lt c.0 b.0) c b cb))
            | false ↦ λ ba. refl
          ] in on refl)
      | false ↦ λ cb.
          (let Q : Bool → Type 0 = λ t. nat_lt b.0 a.0 ≡ t → cond t b a ≡ cond (nat_lt c.0 (cond t b a).0) c (cond t b a) in
          let on : Q (nat_lt b.0 a.0) = elim (nat_lt b.0 a.0) as Q [
            | true ↦ λ ba. sym (cond-false (nat_lt c.0 b.0) c b cb)
            | false ↦ λ ba. (let b_c = ltb-false c.0 b.0 cb in let a_b = ltb-false b.0 a.0 ba in let ca : nat_lt c.0 a.0 ≡ false = le-ltb c.0 a.0 (omega (arith, b_c, a_b)) in sym (cond-false (nat_lt c.0 a.0) c a ca))
          ] in on refl)
    ] in at refl

pub sooner-turned : (a b c : Option (ℕ × ℕ)) → sooner a (sooner b c) ≡ sooner (sooner a b) c
sooner-turned None b c = refl
sooner-turned (Some a) None c = refl
sooner-turned (Some a) (Some b) None = refl
sooner-turned (Some a) (Some b) (Some c) = ap (λ (x : ℕ × ℕ). let o : Option (ℕ × ℕ) = Some x in o) (lesser-turned a b c)

pub nearest_on : (shape : ℕ → Option Shape) (from : ℕ) (xs : List ℕ) (k i : ℕ) (found next own : Option (ℕ × ℕ)) (start : Option ℕ) → slice_get xs k ≡ Some i
    → next ≡ sooner found own → own ≡ candidate from start i → start ≡ start_of shape i
    → sooner found (nearest shape from (drop k xs)) ≡ nearest shape from xs → sooner next (nearest shape from (drop (k + 1) xs)) ≡ nearest shape from xs
nearest_on shape from xs k i found next own start at next_is own_is start_is was =
    let rest : Option (ℕ × ℕ) = nearest shape from (drop (k + 1) xs) in
    let own_all : own ≡ candidate from (start_of shape i) i = own_is ∙ ap (λ (s : Option ℕ). candidate from s i) start_is in
    ap (λ (o : Option (ℕ × ℕ)). sooner o rest) (next_is ∙ ap (sooner found) own_all)
    ∙ sym (sooner-turned found (candidate from (start_of shape i) i) rest)
    ∙ ap (λ (ys : List ℕ). sooner found (nearest shape from ys)) (sym (left xs k i at))
    ∙ was

pub nearest_end : (shape : ℕ → Option Shape) (from : ℕ) (xs : List ℕ) (k : ℕ) (found : Option (ℕ × ℕ)) → drop k xs ≡ []
    → sooner found (nearest shape from (drop k xs)) ≡ nearest shape from xs → found ≡ nearest shape from xs
nearest_end shape from xs k found none was = sym (ap (λ (ys : List ℕ). sooner found (nearest shape from ys)) none ∙ sooner-none found) ∙ was

-- its start is the least
lesser_start : (s i : ℕ) (b : ℕ × ℕ) → (cond (nat_lt b.0 s) b (s, i)).0 ≡ min s b.0
lesser_start s i b =
    let P : Bool → Type 0 = λ t. nat_lt b.0 s ≡ t → (cond t b (s, i)).0 ≡ min s b.0 in
    let at : P (nat_lt b.0 s) = elim (nat_lt b.0 s) as P [
      | true ↦ λ lt. (let less = ltb-true b.0 s lt in omega (arith, less))
      | false ↦ λ ge. (let le = ltb-false b.0 s ge in omega (arith, le))
    ] in at refl

pub nearest_start : (shape : ℕ → Option Shape) (from : ℕ) (xs : List ℕ) → option_map (λ f. f.0) (nearest shape from xs) ≡ minimum (filter (nat_le from) (starts shape xs))
nearest_start shape from [] = refl
nearest_start shape from (i ∷ is) = at (start_of shape i) (nearest shape from is) (nearest_start shape from is)
  where
    with_one : (s : ℕ) (rest : Option (ℕ × ℕ)) (ns : List ℕ) → option_map (λ f. f.0) rest ≡ minimum ns → option_map (λ f. f.0) (sooner (Some (s, i)) rest) ≡ minimum (s ∷ ns)
    with_one s None ns h = ap (λ (o : Option ℕ). Some (option_map_or (min s) o s)) h
    with_one s (Some b) ns h = ap Some (lesser_start s i b) ∙ ap (λ (o : Option ℕ). Some (option_map_or (min s) o s)) h

    at : (start : Option ℕ) (rest : Option (ℕ × ℕ)) → option_map (λ f. f.0) rest ≡ minimum (filter (nat_le from) (starts shape is))
        → option_map (λ f. f.0) (sooner (candidate from start i) rest) ≡ minimum (filter (nat_le from) (cons_option start (starts shape is)))
    at None rest h = h
    at (Some s) rest h = elim (nat_le from s) as (λ b. option_map (λ f. f.0) (sooner (cond b (Some (s, i)) None) rest) ≡ minimum (cond b (s ∷ filter (nat_le from) (starts shape is)) (filter (nat_le from) (starts shape is)))) [
      | true ↦ with_one s rest (filter (nat_le from) (starts shape is)) h
      | false ↦ h
    ]

-- it is at or after the sector
pub nearest_from : (shape : ℕ → Option Shape) (from : ℕ) (xs : List ℕ) (b : ℕ × ℕ) → nearest shape from xs ≡ Some b → from ≤ b.0
nearest_from shape from [] b is = cc
nearest_from shape from (i ∷ is) b found = at (start_of shape i) (nearest shape from is) (nearest_from shape from is b) found
  where
    own : (s : ℕ) → nat_le from s ≡ true → ◌≡◌ {A = Option (ℕ × ℕ)} (Some (s, i)) (Some b) → from ≤ b.0
    own s passes is_own = let e : ◌≡◌ {A = ℕ × ℕ} (s, i) b = same_Some (s, i) b is_own in subst (λ (d : ℕ × ℕ). from ≤ d.0) e (leb-true from s passes)

    among : (s : ℕ) → nat_le from s ≡ true → (rest : Option (ℕ × ℕ)) → (rest ≡ Some b → from ≤ b.0) → sooner (Some (s, i)) rest ≡ Some b → from ≤ b.0
    among s passes None h is_it = own s passes is_it
    among s passes (Some d) h is_it =
        let P : Bool → Type 0 = λ t. ◌≡◌ {A = Option (ℕ × ℕ)} (Some (cond t d (s, i))) (Some b) → from ≤ b.0 in
        let on : P (nat_lt d.0 s) = elim (nat_lt d.0 s) as P [ true ↦ h | false ↦ own s passes ] in on is_it

    at : (start : Option ℕ) (rest : Option (ℕ × ℕ)) → (rest ≡ Some b → from ≤ b.0) → sooner (candidate from start i) rest ≡ Some b → from ≤ b.0
    at None rest h is_it = h is_it
    at (Some s) rest h is_it =
        let P : Bool → Type 0 = λ t. nat_le from s ≡ t → sooner (cond t (Some (s, i)) None) rest ≡ Some b → from ≤ b.0 in
        let on : P (nat_le from s) = elim (nat_le from s) as P [
          | true ↦ λ passes. among s passes rest h
          | false ↦ λ fails. h
        ] in on refl is_it

-- it is the first one with its start
pub nearest_found : (shape : ℕ → Option Shape) (from : ℕ) (xs : List ℕ) (b : ℕ × ℕ) → nearest shape from xs ≡ Some b → find (has_start shape b.0) xs ≡ Some b.1
nearest_found shape from [] b is = cc
nearest_found shape from (i ∷ is) b found = at (start_of shape i) (nearest shape from is) (nearest_found shape from is b) (nearest_from shape from is b) found
  where
    own : (s : ℕ) → ◌≡◌ {A = Option (ℕ × ℕ)} (Some (s, i)) (Some b) → cond (s == b.0) (Some i) (find (has_start shape b.0) is) ≡ Some b.1
    own s is_own =
        let e : ◌≡◌ {A = ℕ × ℕ} (s, i) b = same_Some (s, i) b is_own in
        cond-true (s == b.0) _ _ (eq-eqb s b.0 (ap (λ (d : ℕ × ℕ). d.0) e)) ∙ ap (λ (d : ℕ × ℕ). let o : Option ℕ = Some d.1 in o) e

    other : (s : ℕ) → s ≢ b.0 → find (has_start shape b.0) is ≡ Some b.1 → cond (s == b.0) (Some i) (find (has_start shape b.0) is) ≡ Some b.1
    other s ne h = cond-false (s == b.0) _ _ (ne_eqb s b.0 ne) ∙ h

    among : (s : ℕ) (rest : Option (ℕ × ℕ)) → (rest ≡ Some b → find (has_start shape b.0) is ≡ Some b.1) → sooner (Some (s, i)) rest ≡ Some b → cond (s == b.0) (Some i) (find (has_start shape b.0) is) ≡ Some b.1
    among s None h it = own s it
    among s (Some d) h it =
        let P : Bool → Type 0 = λ t. nat_lt d.0 s ≡ t → ◌≡◌ {A = Option (ℕ × ℕ)} (Some (cond t d (s, i))) (Some b) → cond (s == b.0) (Some i) (find (has_start shape b.0) is) ≡ Some b.1 in
        let on : P (nat_lt d.0 s) = elim (nat_lt d.0 s) as P [
          | true ↦ λ lt. λ same_d. (let less = ltb-true d.0 s lt in let e = ap (λ (x : ℕ × ℕ). x.0) (same_Some d b same_d) in other s (λ (same : s ≡ b.0). let no : ⊥ = omega (arith, less, e, same) in no) (h same_d))
          | false ↦ λ ge. own s
        ] in on refl it

    at : (start : Option ℕ) (rest : Option (ℕ × ℕ)) → (rest ≡ Some b → find (has_start shape b.0) is ≡ Some b.1) → (rest ≡ Some b → from ≤ b.0) → sooner (candidate from start i) rest ≡ Some b
        → cond (option_map_or (λ s. s == b.0) start false) (Some i) (find (has_start shape b.0) is) ≡ Some b.1
    at None rest h g is_it = h is_it
    at (Some s) rest h g is_it =
        let P : Bool → Type 0 = λ t. nat_le from s ≡ t → sooner (cond t (Some (s, i)) None) rest ≡ Some b → cond (s == b.0) (Some i) (find (has_start shape b.0) is) ≡ Some b.1 in
        let on : P (nat_le from s) = elim (nat_le from s) as P [
          | true ↦ λ passes. among s rest h
          | false ↦ λ fails. λ it. (let below = leb-false from s fails in let after = g it in other s (λ (same : s ≡ b.0). let no : ⊥ = omega (arith, below, after, same) in no) (h it))
        ] in on refl is_it

filter-from_zero : (ns : List ℕ) → filter (nat_le 0) ns ≡ ns
filter-from_zero [] = refl
filter-from_zero (n ∷ ns) =
    let le : nat_le 0 n ≡ true = le-leb 0 n (omega arith) in
    rw le (ap (λ ms. n ∷ ms) (filter-from_zero ns))

-- the first that is found is the one that is wanted
pub next_is : (shape : ℕ → Option Shape) (head : ℕ) (xs : List ℕ) (ahead least : Option (ℕ × ℕ)) → ahead ≡ nearest shape head xs → least ≡ nearest shape 0 xs
    → slot_of ahead least ≡ next_of shape xs head
next_is shape head xs ahead least a l = at ahead least a l
  where
    all : (o : Option (ℕ × ℕ)) → o ≡ nearest shape 0 xs → option_map (λ f. f.0) o ≡ minimum (starts shape xs)
    all o is = ap (option_map (λ (f : ℕ × ℕ). f.0)) is ∙ nearest_start shape 0 xs ∙ ap minimum (filter-from_zero (starts shape xs))

    front : (o : Option (ℕ × ℕ)) → o ≡ nearest shape head xs → option_map (λ f. f.0) o ≡ minimum (filter (nat_le head) (starts shape xs))
    front o is = ap (option_map (λ (f : ℕ × ℕ). f.0)) is ∙ nearest_start shape head xs

    at : (o p : Option (ℕ × ℕ)) → o ≡ nearest shape head xs → p ≡ nearest shape 0 xs → slot_of o p ≡ next_of shape xs head
    at (Some b) p o_is p_is =
        sym (ap (λ (m : Option ℕ). option_and_then (λ sector. find (has_start shape sector) xs) (option_or m (minimum (starts shape xs)))) (sym (front (Some b) o_is)) ∙ nearest_found shape head xs b (sym o_is))
    at None (Some b) o_is p_is =
        sym (ap (λ (m : Option ℕ). option_and_then (λ sector. find (has_start shape sector) xs) (option_or m (minimum (starts shape xs)))) (sym (front None o_is))
        ∙ ap (option_and_then (λ sector. find (has_start shape sector) xs)) (sym (all (Some b) p_is)) ∙ nearest_found shape 0 xs b (sym p_is))
    at None None o_is p_is =
        sym (ap (λ (m : Option ℕ). option_and_then (λ sector. find (has_start shape sector) xs) (option_or m (minimum (starts shape xs)))) (sym (front None o_is))
        ∙ ap (option_and_then (λ sector. find (has_start shape sector) xs)) (sym (all None p_is)))

pub behind_at : (links : List (Option Link)) (sides : List Sides) (ends : List Ends) (queued : ℕ) (seen : List (Option Link)) (side : Sides) (seat k i : ℕ) → IsQueues links sides ends queued → links ≡ seen
    → side ≡ side_at sides i → seat < 256 → slice_get (queue_slots seat seen) k ≡ Some i → side.after ≡ slice_get (queue_slots seat seen) (k + 1)
behind_at links sides ends queued seen side seat k i q is side_is lt at =
    let q_seen : IsQueues seen sides ends queued = subst (λ (ls : List (Option Link)). IsQueues ls sides ends queued) is q in
    ap (λ (w : Sides). w.after) side_is ∙ behind_is seen sides ends queued seat k i q_seen lt at
