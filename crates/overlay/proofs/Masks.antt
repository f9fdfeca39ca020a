-- The mask of a page.
use Rattle.std.proofs.Common.{◌≡◌, ℕ, zero, suc, ◌+◌, ◌*◌, ◌^◌, ◌%◌, ◌<◌, ◌≤◌, ◌==◌, List, [], ◌∷◌, Bool, true, false, Option, Some, None, IsSome, cond, is_some, refl, sym, ◌∙◌, ap, subst, arith, get_or, set, length}
use Rattle.std.proofs.Math.Nat.{mod-eq_of_lt}
use Rattle.std.proofs.lemmas.Bool.Decides.{nat_tests}
use Rattle.std.proofs.lemmas.Nat.{pow_below, pow_pos}
use Rattle.std.proofs.lemmas.List.{get_or-set_same, get_or-set_other, length-set}
use Rattle.overlay.specs.Pages.{Places, HasBlock, HasNone, IsPage, mask_of}

-- the mask after a write
pub mask_of-set : (i : ℕ) (xs : Places) (w : Option (List ℕ)) → i < length xs
    → mask_of (set xs i w) + cond (is_some (get_or xs i None)) (2 ^ i) 0 ≡ mask_of xs + cond (is_some w) (2 ^ i) 0
unfolding mask_of
mask_of-set i [] w lt = omega arith
mask_of-set zero (x ∷ xs) w lt = grind arith
mask_of-set (suc i) (x ∷ xs) w lt = let rest = mask_of-set i xs w (omega arith) in grind arith

pub mask_of-below : (xs : Places) → mask_of xs < 2 ^ length xs
unfolding mask_of
mask_of-below [] = omega arith
mask_of-below (x ∷ xs) = let rest = mask_of-below xs in grind arith

pub mask_of-has : (i : ℕ) (xs : Places) → is_some (get_or xs i None) ≡ true → 2 ^ i ≤ mask_of xs
unfolding mask_of
mask_of-has i [] h = cc
mask_of-has zero (x ∷ xs) h = grind arith
mask_of-has (suc i) (x ∷ xs) h = let rest = mask_of-has i xs h in grind arith

pub mask_of-none : (xs : Places) (k : ℕ) → mask_of xs ≡ 0 → get_or xs k None ≡ None
unfolding mask_of
mask_of-none [] k h = refl
mask_of-none (None ∷ xs) zero h = refl
mask_of-none (None ∷ xs) (suc k) h = mask_of-none xs k (omega arith)
mask_of-none (Some b ∷ xs) k h = absurd (omega arith)

pub mask_of-some : (xs : Places) → 0 < mask_of xs → HasBlock xs
unfolding mask_of
mask_of-some [] h = absurd (omega arith)
mask_of-some (None ∷ xs) h = let rest = mask_of-some xs (omega arith) in (suc rest.0, rest.1)
mask_of-some (Some b ∷ xs) h = (0, refl)

-- a mask of one bit
pub mask_of-only : (i : ℕ) (xs : Places) → mask_of xs ≡ 2 ^ i → mask_of (set xs i None) ≡ 0
unfolding mask_of
mask_of-only i [] h = refl
mask_of-only zero (x ∷ xs) h = grind arith
mask_of-only (suc i) (None ∷ xs) h = let rest = mask_of-only i xs (omega arith) in omega arith
mask_of-only (suc i) (Some b ∷ xs) h = absurd (omega arith)

-- within a list a default is not looked at
pub same_default : (xs : Places) (i : ℕ) (d : Option (List ℕ)) → i < length xs → get_or xs i d ≡ get_or xs i None
same_default [] i d lt = absurd (omega arith)
same_default (x ∷ xs) zero d lt = refl
same_default (x ∷ xs) (suc i) d lt = same_default xs i d (omega arith)

-- what stands at a place of a page
pub had_is : (mask i : ℕ) (xs : Places) (d old : Option (List ℕ)) → IsPage mask xs → i < 8 → old ≡ get_or xs i d → get_or xs i None ≡ old
had_is mask i xs d old page lt is = sym (is ∙ same_default xs i d (omega (arith, page.eight)))

-- the mask, where there is a block or none
pub bit_of_had : (mask i : ℕ) (xs : Places) (b : Bool) → IsPage mask xs → is_some (get_or xs i None) ≡ b → cond b (2 ^ i) 0 ≤ mask
bit_of_had mask i xs true page is = let has = mask_of-has i xs is in omega (arith, has, page.masked)
bit_of_had mask i xs false page is = omega arith

pub bit_fits : (mask i : ℕ) (xs : Places) → IsPage mask xs → i < 8 → is_some (get_or xs i None) ≡ false → mask + 2 ^ i < 256
bit_fits mask i xs page lt none =
    let sum = mask_of-set i xs (Some []) (omega (arith, page.eight)) in
    let plain : mask_of (set xs i (Some [])) + 0 ≡ mask_of xs + 2 ^ i = rw none at sum in
    let eight : length (set xs i (Some [])) ≡ 8 = omega (arith, length-set xs i (Some []), page.eight) in
    let below : mask_of (set xs i (Some [])) < 256 = subst (λ (n : ℕ). mask_of (set xs i (Some [])) < 2 ^ n) eight (mask_of-below (set xs i (Some []))) in
    omega (arith, plain, below, page.masked)

-- a page with another thing at a place
pub written : (mask next i : ℕ) (xs : Places) (w : Option (List ℕ)) → IsPage mask xs → i < 8
    → next + cond (is_some (get_or xs i None)) (2 ^ i) 0 ≡ mask + cond (is_some w) (2 ^ i) 0
    → HasBlock (set xs i w) → IsPage next (set xs i w)
written mask next i xs w page lt sum stored = record {
  eight = omega (arith, length-set xs i w, page.eight);
  masked = let all = mask_of-set i xs w (omega (arith, page.eight)) in omega (arith, all, sum, page.masked);
  stored = stored;
}

-- it has a block if it has one there
pub stored_there : (xs : Places) (i : ℕ) (w : Option (List ℕ)) → i < length xs → IsSome w → HasBlock (set xs i w)
stored_there xs i w lt some = (i, ap is_some (get_or-set_same xs i w None lt) ∙ some)

-- a page after a block has come to a place, where there was one or not
pub put_there : (mask next i : ℕ) (xs : Places) (w : Option (List ℕ)) (had : Bool) → IsPage mask xs → i < 8 → IsSome w
    → is_some (get_or xs i None) ≡ had → next + cond had (2 ^ i) 0 ≡ mask + 2 ^ i → IsPage next (set xs i w)
put_there mask next i xs w had page lt some was sum = written mask next i xs w page lt (rw (was, some) sum) (stored_there xs i w (omega (arith, page.eight)) some)

-- and after one has gone
pub taken_there : (mask next i : ℕ) (xs : Places) (w : Option (List ℕ)) (had : Bool) → IsPage mask xs → i < 8 → w ≡ None
    → is_some (get_or xs i None) ≡ had → next + cond had (2 ^ i) 0 ≡ mask → HasBlock (set xs i None) → IsPage next (set xs i w)
taken_there mask next i xs w had page lt none was sum left =
    subst (λ (v : Option (List ℕ)). IsPage next (set xs i v)) (sym none) (written mask next i xs None page lt (rw was (omega (arith, sum))) left)

-- a page without what stands at a place: something is left unless its mask was that place's bit
pub others_stay : (mask i : ℕ) (xs : Places) → IsPage mask xs → i < 8 → (mask ≡ 2 ^ i → ⊥) → HasBlock (set xs i None)
others_stay mask i xs page lt differs = mask_of-some (set xs i None) (left (is_some (get_or xs i None)) refl)
  where
    left : (b : Bool) → is_some (get_or xs i None) ≡ b → 0 < mask_of (set xs i None)
    left b is =
        let sum = mask_of-set i xs None (omega (arith, page.eight)) in
        let plain : mask_of (set xs i None) + cond b (2 ^ i) 0 ≡ mask_of xs + 0 = rw is at sum in
        let some = mask_of-has page.stored.0 xs page.stored.1 in
        let one = pow_pos page.stored.0 in grind (arith, page.masked)

pub none_left : (mask i : ℕ) (xs : Places) → IsPage mask xs → mask ≡ 2 ^ i → HasNone (set xs i None)
none_left mask i xs page is = λ k. mask_of-none (set xs i None) k (mask_of-only i xs (sym page.masked ∙ is))

-- a page of one block
abbrev pub no_blocks : Places
no_blocks = None ∷ None ∷ None ∷ None ∷ None ∷ None ∷ None ∷ None ∷ []

pub one_block : (i : ℕ) (b : List ℕ) → i < 8 → IsPage (2 ^ i) (set no_blocks i (Some b))
unfolding mask_of
one_block i b lt =
    let sum = mask_of-set i no_blocks (Some b) lt in
    let had = mask_of-none no_blocks i refl in
    let plain : mask_of (set no_blocks i (Some b)) + 0 ≡ 0 + 2 ^ i = rw had at sum in
    record { eight = length-set no_blocks i (Some b); masked = omega (arith, plain); stored = stored_there no_blocks i (Some b) lt refl }

pub one_there : (i : ℕ) (b : List ℕ) (k : ℕ) → i < 8 → get_or (set no_blocks i (Some b)) k None ≡ cond (k == i) (Some b) None
unfolding mask_of
one_there i b k lt =
    let P : Bool → Type 0 = λ t. (k == i) ≡ t → get_or (set no_blocks i (Some b)) k None ≡ cond t (Some b) None in
    let at : P (k == i) = elim (k == i) as P [
      | true ↦ λ h. let is : k ≡ i = grind (arith, nat_tests) in subst (λ (j : ℕ). get_or (set no_blocks i (Some b)) j None ≡ Some b) (sym is) (get_or-set_same no_blocks i (Some b) None lt)
      | false ↦ λ h. let differs : k ≡ i → ⊥ = grind (arith, nat_tests) in get_or-set_other no_blocks i k (Some b) None differs ∙ mask_of-none no_blocks k refl
    ] in at refl
