-- Texts in their order, whatever order they came in.
use Rattle.std.proofs.Common.{◌≡◌, ℕ, Ordering, Less, Equal, Greater, inl, inr, Bool, true, false, true≢false, cond, List, [], ◌∷◌, refl, sym, ap, ◌∙◌, arith}
use Rattle.std.specs.Prelude.{map}
use Rattle.std.specs.Ordering.{nat_cmp, is_lt, ordering_then, ordering_reverse}
use Rattle.std.specs.Cmp.Lexicographic.{slice_cmp}
use Rattle.std.proofs.lemmas.Cmp.{nat_list_cmp_total}
use Rattle.std.proofs.lemmas.Bool.{cases_Bool}
use Rattle.std.proofs.lemmas.Bool.Decides.{nat_tests}
use Rattle.host_console.specs.State.{placed, in_order}
use Rattle.host_console.specs.Naming.{IsReordered, none, next, neighbours, twice}

abbrev compared : List ℕ → List ℕ → Ordering
compared = slice_cmp nat_cmp

-- a text is before another one
abbrev before : List ℕ → List ℕ → Bool
before a b = is_lt (compared a b)

same_number : (a b : ℕ) → nat_cmp a b ≡ Equal → a ≡ b
same_number a b h = grind (arith, nat_tests)

same_text : (a b : List ℕ) → compared a b ≡ Equal → a ≡ b
same_text [] [] h = refl
same_text [] (y ∷ b) h = cc
same_text (x ∷ a) [] h = cc
same_text (x ∷ a) (y ∷ b) h =
    elim (nat_cmp x y) as (λ o. nat_cmp x y ≡ o → ordering_then o (compared a b) ≡ Equal → x ∷ a ≡ y ∷ b) [
      | Less ↦ λ e t. cc
      | Equal ↦ λ e t. let one = same_number x y e in let others = same_text a b t in cc
      | Greater ↦ λ e t. cc
    ] refl h

is_less : (o : Ordering) → is_lt o ≡ true → o ≡ Less
is_less Less h = refl
is_less Equal h = cc
is_less Greater h = cc

-- of two texts at most one is before the other
not_both : (a b : List ℕ) → before a b ≡ true → before b a ≡ false
not_both a b h =
    let less = is_less (compared a b) h in
    let other : compared b a ≡ Greater = nat_list_cmp_total.antisymm b a ∙ ap ordering_reverse less in
    ap is_lt other

-- if neither is before the other they are the same
neither : (a b : List ℕ) → before a b ≡ false → before b a ≡ false → a ≡ b
neither a b f g =
    elim (compared a b) as (λ o. compared a b ≡ o → is_lt o ≡ false → a ≡ b) [
      | Less ↦ λ e t. absurd (true≢false t)
      | Equal ↦ λ e t. same_text a b e
      | Greater ↦ λ e t. absurd (true≢false (sym (ap is_lt (nat_list_cmp_total.antisymm b a ∙ ap ordering_reverse e)) ∙ g))
    ] refl f

-- a text before one that a third is not before is before the third
before_more : (a b x : List ℕ) → before a x ≡ true → before b x ≡ false → before a b ≡ true
before_more a b x f g =
    elim (compared b x) as (λ o. compared b x ≡ o → is_lt o ≡ false → before a b ≡ true) [
      | Less ↦ λ e t. absurd (true≢false t)
      | Equal ↦ λ e t. let same = same_text b x e in ap (before a) same ∙ f
      | Greater ↦ λ e t.
          let less : compared x b ≡ Less = nat_list_cmp_total.antisymm x b ∙ ap ordering_reverse e in
          ap is_lt (nat_list_cmp_total.trans a x b (is_less (compared a x) f) less)
    ] refl g

-- a text before the first of others comes first, and another one goes on
sooner : (a x : List ℕ) (xs : List (List ℕ)) → before a x ≡ true → placed a (x ∷ xs) ≡ a ∷ x ∷ xs
sooner a x xs e = ap (λ b. cond b (a ∷ x ∷ xs) (x ∷ placed a xs)) e

later : (a x : List ℕ) (xs : List (List ℕ)) → before a x ≡ false → placed a (x ∷ xs) ≡ x ∷ placed a xs
later a x xs e = ap (λ b. cond b (a ∷ x ∷ xs) (x ∷ placed a xs)) e

-- two texts get to the same places, whichever comes first: if both belong to the front
front : (a b : List ℕ) (xs : List (List ℕ)) → placed b xs ≡ b ∷ xs → placed a xs ≡ a ∷ xs → placed a (b ∷ xs) ≡ placed b (a ∷ xs)
front a b xs bs as' = elim (cases_Bool (before a b)) [
  | inl ab ↦ sooner a b xs ab ∙ sym (later b a xs (not_both a b ab) ∙ ap (λ ys. a ∷ ys) bs)
  | inr ab ↦ elim (cases_Bool (before b a)) [
    | inl ba ↦ later a b xs ab ∙ (ap (λ ys. b ∷ ys) as' ∙ sym (sooner b a xs ba))
    | inr ba ↦ let same : a ≡ b = neither a b ab ba in cc
  ]
]

-- if the first belongs to the front, and the second does not
one_front : (a b x : List ℕ) (xs : List (List ℕ)) → before a x ≡ true → before b x ≡ false → placed a (placed b (x ∷ xs)) ≡ placed b (placed a (x ∷ xs))
one_front a b x xs ax bx =
    let ba : before b a ≡ false = not_both a b (before_more a b x ax bx) in
    ap (placed a) (later b x xs bx) ∙ (sooner a x (placed b xs) ax
    ∙ sym (ap (placed b) (sooner a x xs ax) ∙ (later b a (x ∷ xs) ba ∙ ap (λ ys. a ∷ ys) (later b x xs bx))))

change : (a b : List ℕ) (xs : List (List ℕ)) → placed a (placed b xs) ≡ placed b (placed a xs)
change a b [] = front a b [] refl refl
change a b (x ∷ xs) = elim (cases_Bool (before a x)) [
  | inl ax ↦ elim (cases_Bool (before b x)) [
    | inl bx ↦ ap (placed a) (sooner b x xs bx) ∙ (front a b (x ∷ xs) (sooner b x xs bx) (sooner a x xs ax) ∙ sym (ap (placed b) (sooner a x xs ax)))
    | inr bx ↦ one_front a b x xs ax bx
  ]
  | inr ax ↦ elim (cases_Bool (before b x)) [
    | inl bx ↦ sym (one_front b a x xs bx ax)
    | inr bx ↦
        ap (placed a) (later b x xs bx) ∙ (later a x (placed b xs) ax ∙ (ap (λ ys. x ∷ ys) (change a b xs)
        ∙ sym (ap (placed b) (later a x xs ax) ∙ later b x (placed a xs) bx)))
  ]
]

-- texts come to the same order, whatever order they came in
pub ordered : (xs ys : List (List ℕ)) → IsReordered xs ys → in_order xs ≡ in_order ys
ordered _ _ none = refl
ordered _ _ (next x xs ys more) = ap (placed x) (ordered xs ys more)
ordered _ _ (neighbours x y xs) = change x y (in_order xs)
ordered _ _ (twice xs ys zs one other) = ordered xs ys one ∙ ordered ys zs other

-- what is made of each, in another order
pub reordered_map : {A B : Type 0} (f : A → B) (xs ys : List A) → IsReordered xs ys → IsReordered (map f xs) (map f ys)
reordered_map f _ _ none = none
reordered_map f _ _ (next x xs ys more) = next (f x) (map f xs) (map f ys) (reordered_map f xs ys more)
reordered_map f _ _ (neighbours x y xs) = neighbours (f x) (f y) (map f xs)
reordered_map f _ _ (twice xs ys zs one other) = twice (map f xs) (map f ys) (map f zs) (reordered_map f xs ys one) (reordered_map f ys zs other)
