-- One place of a row of desks, and of all rows.
use Rattle.std.proofs.Common.{◌≡◌, ℕ, zero, suc, ◌+◌, ◌<◌, List, [], ◌∷◌, ◌++◌, length, map, set, get_or, refl, sym, ap, ◌∙◌, arith, Some, ◌⊎◌, inl, inr}
use Rattle.std.specs.List.{slice_get}
use Rattle.std.specs.Option.{option_map}
use Rattle.std.proofs.lemmas.List.{length-map, length-append, length-set}
use Rattle.std.proofs.lemmas.Option.{slice_get_within, slice_get-map}
use Rattle.host_core.specs.Rows.{Row}
use Rattle.host_core.specs.Visits.{IsReady, AllReady, Changes}

pub set-at : {X : Type 0} (xs : List X) (i : ℕ) (x : X) → i < length xs → slice_get (set xs i x) i ≡ Some x
set-at [] i x h = absurd (omega (arith, h))
set-at (y ∷ xs) zero x h = refl
set-at (y ∷ xs) (suc i) x h = set-at xs i x (omega (arith, h))

pub set-other : {X : Type 0} (xs : List X) (i j : ℕ) (x : X) → (j ≡ i → ⊥) → slice_get (set xs i x) j ≡ slice_get xs j
set-other [] i j x n = refl
set-other (y ∷ xs) zero zero x n = absurd (n refl)
set-other (y ∷ xs) zero (suc j) x n = refl
set-other (y ∷ xs) (suc i) zero x n = refl
set-other (y ∷ xs) (suc i) (suc j) x n = set-other xs i j x (λ e. n (ap suc e))

pub or-at : {X : Type 0} (xs : List X) (i : ℕ) (d : X) → i < length xs → slice_get xs i ≡ Some (get_or xs i d)
or-at [] i d h = absurd (omega (arith, h))
or-at (y ∷ xs) zero d h = refl
or-at (y ∷ xs) (suc i) d h = or-at xs i d (omega (arith, h))

-- and of its rows
get-set-at : {X Y : Type 0} (f : X → Y) (xs : List X) (i : ℕ) (x : X) → i < length xs → slice_get (map f (set xs i x)) i ≡ Some (f x)
get-set-at f xs i x h = slice_get-map f (set xs i x) i ∙ ap (option_map f) (set-at xs i x h)

get-set-other : {X Y : Type 0} (f : X → Y) (xs : List X) (i j : ℕ) (x : X) → (j ≡ i → ⊥) → slice_get (map f (set xs i x)) j ≡ slice_get (map f xs) j
get-set-other f xs i j x n = slice_get-map f (set xs i x) j ∙ ap (option_map f) (set-other xs i j x n) ∙ sym (slice_get-map f xs j)

pub get-at : {X Y : Type 0} (f : X → Y) (xs : List X) (i : ℕ) (d : X) → i < length xs → slice_get (map f xs) i ≡ Some (f (get_or xs i d))
get-at f xs i d h = slice_get-map f xs i ∙ ap (option_map f) (or-at xs i d h)

-- a desk of a row that was visited
pub changes-set : {X : Type 0} (R : Row → Row → Type 0) (row : X → Row) (xs ys : List X) (place : ℕ) (d e : X) → place < length xs → d ≡ get_or xs place d
    → ys ≡ set xs place e → R (row d) (row e) → Changes place R (map row xs) (map row ys)
changes-set R row xs ys place d e within stood set_is r = record {
  before = row d;
  after = row e;
  long = length-map ys row ∙ ap length set_is ∙ length-set xs place e ∙ sym (length-map xs row);
  stood = get-at row xs place d within ∙ ap (λ x. Some (row x)) (sym stood);
  stands = ap (λ zs. slice_get (map row zs) place) set_is ∙ get-set-at row xs place e within;
  related = r;
  others = λ i n. ap (λ zs. slice_get (map row zs) i) set_is ∙ get-set-other row xs place i e n;
}

-- a desk of a ready row is ready
pub ready-at : {X : Type 0} (row : X → Row) (xs : List X) (place : ℕ) (d : X) → place < length xs → d ≡ get_or xs place d → AllReady (map row xs) → IsReady (row d)
ready-at row xs place d within stood h = h place (row d) (get-at row xs place d within ∙ ap (λ x. Some (row x)) (sym stood))

pub get-left : {X : Type 0} (xs zs : List X) (i : ℕ) → i < length xs → slice_get (xs ++ zs) i ≡ slice_get xs i
get-left [] zs i h = absurd (omega (arith, h))
get-left (x ∷ xs) zs zero h = refl
get-left (x ∷ xs) zs (suc i) h = get-left xs zs i (omega (arith, h))

pub get-right : {X : Type 0} (xs zs : List X) (i n : ℕ) → n ≡ length xs + i → slice_get (xs ++ zs) n ≡ slice_get zs i
get-right [] zs i n e = let same : n ≡ i = omega (arith, e) in ap (slice_get zs) same
get-right (x ∷ xs) zs i zero e = absurd (omega (arith, e))
get-right (x ∷ xs) zs i (suc n) e = get-right xs zs i n (omega (arith, e))

pub within-or-behind : (i n : ℕ) → (i < n) ⊎ ((k : ℕ) × (i ≡ n + k))
within-or-behind i zero = inr (i, omega arith)
within-or-behind zero (suc n) = inl (omega arith)
within-or-behind (suc i) (suc n) = elim (within-or-behind i n) [ inl lt ↦ inl (omega (arith, lt)) | inr k ↦ inr (k.0, omega (arith, k.1)) ]

only-one : (r s : Row) (i : ℕ) → (i ≡ 0 → ⊥) → slice_get (s ∷ []) i ≡ slice_get (r ∷ []) i
only-one r s zero n = absurd (n refl)
only-one r s (suc i) n = refl

-- a place among the first rows
pub changes-left : (R : Row → Row → Type 0) (xs ys zs : List Row) (place : ℕ) → Changes place R xs ys → Changes place R (xs ++ zs) (ys ++ zs)
changes-left R xs ys zs place c = record {
  before = c.before;
  after = c.after;
  long = omega (arith, c.long, length-append xs zs, length-append ys zs);
  stood = get-left xs zs place (slice_get_within xs place c.before c.stood) ∙ c.stood;
  stands = get-left ys zs place (slice_get_within ys place c.after c.stands) ∙ c.stands;
  related = c.related;
  others = λ i n. elim (within-or-behind i (length xs)) [
    | inl lt ↦ get-left ys zs i (omega (arith, lt, c.long)) ∙ c.others i n ∙ sym (get-left xs zs i lt)
    | inr k ↦ get-right ys zs k.0 i (omega (arith, k.1, c.long)) ∙ sym (get-right xs zs k.0 i k.1)
  ];
}

-- a place among the rows behind
pub changes-right : (R : Row → Row → Type 0) (zs xs ys : List Row) (place at : ℕ) → at ≡ length zs + place → Changes place R xs ys → Changes at R (zs ++ xs) (zs ++ ys)
changes-right R zs xs ys place at e c = record {
  before = c.before;
  after = c.after;
  long = omega (arith, c.long, length-append zs xs, length-append zs ys);
  stood = get-right zs xs place at e ∙ c.stood;
  stands = get-right zs ys place at e ∙ c.stands;
  related = c.related;
  others = λ i n. elim (within-or-behind i (length zs)) [
    | inl lt ↦ get-left zs ys i lt ∙ sym (get-left zs xs i lt)
    | inr k ↦ get-right zs ys k.0 i k.1 ∙ c.others k.0 (λ same. n (omega (arith, same, k.1, e))) ∙ sym (get-right zs xs k.0 i k.1)
  ];
}

-- the only row
pub changes-one : (R : Row → Row → Type 0) (r s : Row) → R r s → Changes 0 R (r ∷ []) (s ∷ [])
changes-one R r s h = record {
  before = r;
  after = s;
  long = refl;
  stood = refl;
  stands = refl;
  related = h;
  others = λ i n. only-one r s i n;
}

-- some of the rows are ready if all are
pub ready-left : (xs zs : List Row) → AllReady (xs ++ zs) → AllReady xs
ready-left xs zs h = λ i r at. h i r (get-left xs zs i (slice_get_within xs i r at) ∙ at)

pub ready-right : (zs xs : List Row) → AllReady (zs ++ xs) → AllReady xs
ready-right zs xs h = λ i r at. h (length zs + i) r (get-right zs xs i (length zs + i) refl ∙ at)
