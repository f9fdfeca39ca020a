-- Lists that are told item by item.
use Rattle.std.proofs.Common.{◌≡◌, ℕ, zero, suc, ◌+◌, ◌-◌, ◌<◌, ◌≤◌, List, [], ◌∷◌, ◌++◌, length, drop, slice_get, None, Some, true, false, cond, is_some, true≢false, ◌==◌, rules, refl, sym, ap, ◌∙◌, arith, append_assoc, append-nil}
use Rattle.std.specs.Prelude.{Result, Ok, Err, OnOk}
use Rattle.std.specs.List.{flat_map}
use Rattle.std.proofs.lemmas.List.Concat.{flat_map-cons}
use Rattle.sector_core.specs.declared.class.Class.{Class}
use Rattle.plain.specs.Lists.{numbers}
use Rattle.plain.specs.Machine.{Bfq, Plain}
use Rattle.plain.specs.Groups.{has_entity}
use Rattle.plain.specs.Rules.{stands, vtime_of}
use Rattle.plain.specs.Looks.{vtime_view}

-- the texts from a place on are that of the item there, and those after it
pub more : {A : Type 0} (f : A → List ℕ) (xs : List A) (i : ℕ) (x : A) → slice_get xs i ≡ Some x
    → flat_map f (drop i xs) ≡ f x ++ flat_map f (drop (i + 1) xs)
more f [] i x e = cc
more f (y ∷ xs) zero x e =
    let same : y ≡ x = cc in
    flat_map-cons f y xs ∙ ap (λ z. f z ++ flat_map f xs) same
more f (y ∷ xs) (suc i) x e =
    let next : suc i + 1 ≡ suc (i + 1) = omega arith in
    more f xs i x e ∙ ap (λ k. f x ++ flat_map f (drop k (y ∷ xs))) (sym next)

-- there is no text from a place on at which there is nothing
pub none : {A : Type 0} (f : A → List ℕ) (xs : List A) (i : ℕ) → slice_get xs i ≡ None → flat_map f (drop i xs) ≡ []
none f [] zero e = refl
none f [] (suc i) e = refl
none f (y ∷ xs) zero e = cc
none f (y ∷ xs) (suc i) e = none f xs i e

-- a place with an item lies within the list
pub within : {A : Type 0} (xs : List A) (i : ℕ) (x : A) → slice_get xs i ≡ Some x → i < length xs
within [] i x e = cc
within (y ∷ xs) zero x e = omega arith
within (y ∷ xs) (suc i) x e = let ih = within xs i x e in omega arith

-- past the end nothing is left
pub done : {A : Type 0} (f : A → List ℕ) (xs : List A) (i : ℕ) → length xs ≤ i → flat_map f (drop i xs) ≡ []
done f [] zero h = refl
done f [] (suc i) h = refl
done f (y ∷ xs) zero h = absurd (omega arith)
done f (y ∷ xs) (suc i) h = done f xs i (omega arith)

pub numbers-cons : (i n : ℕ) → 0 < n → numbers i n ≡ i ∷ numbers (i + 1) (n - 1)
numbers-cons i zero h = absurd (omega arith)
numbers-cons i (suc n) h = let e : suc n - 1 ≡ n = omega arith in rw e refl

-- the same of numbers up to one
pub more_numbers : (f : ℕ → List ℕ) (i n : ℕ) → i < n → flat_map f (numbers i (n - i)) ≡ f i ++ flat_map f (numbers (i + 1) (n - (i + 1)))
more_numbers f i n h =
    let less : n - i - 1 ≡ n - (i + 1) = omega arith in
    ap (flat_map f) (numbers-cons i (n - i) (omega arith)) ∙ flat_map-cons f i (numbers (i + 1) (n - i - 1))
    ∙ ap (λ k. f i ++ flat_map f (numbers (i + 1) k)) less

pub no_numbers : (f : ℕ → List ℕ) (i n : ℕ) → n ≤ i → flat_map f (numbers i (n - i)) ≡ []
no_numbers f i n h =
    let none_left : n - i ≡ 0 = omega arith in
    ap (λ k. flat_map f (numbers i k)) none_left

-- one item more was told, and so the whole is what was told and what is left
pub one_more : (told next whole item rest : List ℕ) → next ≡ told ++ item → told ++ (item ++ rest) ≡ whole → next ++ rest ≡ whole
one_more told next whole item rest e w = ap (λ xs. xs ++ rest) e ∙ append_assoc told item rest ∙ w

-- nothing is left
pub all_told : (told whole rest : List ℕ) → rest ≡ [] → told ++ rest ≡ whole → told ≡ whole
all_told told whole rest e w = sym (append-nil told) ∙ ap (λ xs. told ++ xs) (sym e) ∙ w

-- what follows from a success holds after it
pub on_ok : {T E P Q : Type 0} (r : Result T E) → (P → Q) → OnOk r P → OnOk r Q
on_ok (Ok x) f p = f p
on_ok (Err e) f p = tt

-- what a group's virtual time tells: the group stands
pub stands_of : (m : Plain) (group : ℕ) (class : Class) (v : ℕ) → Some v ≡ vtime_view m group class → (stands m.bfq group ≡ true) × (v ≡ vtime_of m.bfq group class)
stands_of m group class v e =
    elim (stands m.bfq group) as (λ b. Some v ≡ cond b (Some (vtime_of m.bfq group class)) None → (b ≡ true) × (v ≡ vtime_of m.bfq group class)) [
      | true ↦ λ h. let same : v ≡ vtime_of m.bfq group class = cc in (refl, same)
      | false ↦ λ h. cc
    ] e

-- a group with a greater number does not stand
pub none_stands : (b : Bfq) (group : ℕ) → 32 ≤ group → stands b group ≡ true → ⊥
none_stands b group h s =
    let other : (group == 0) ≡ false = search rules in
    let no_entity : has_entity group ≡ false = search rules in
    true≢false (sym s ∙ ap (λ z. cond z true (cond (has_entity group) (is_some (b.parent (16 + group))) false)) other ∙ ap (λ z. cond z (is_some (b.parent (16 + group))) false) no_entity)
