-- A page that goes with its last block.
use Rattle.std.proofs.Common.{◌≡◌, ℕ, Bool, true, false, ◌&&◌, ◌==◌, Some, None, cond, refl, ap, sym, ◌∙◌, arith, get_or, set}
use Rattle.std.specs.Option.{option_map_or}
use Rattle.std.specs.Ordering.{nat_cmp}
use Rattle.std.specs.Map.{lookup}
use Rattle.std.specs.BTreeMap.{is_at}
use Rattle.std.proofs.lemmas.Bool.Decides.{nat_tests}
use Rattle.std.proofs.lemmas.List.{get_or-set_other}
use Rattle.overlay.specs.Pages.{Pages, Places, HasNone, Puts, stands}
use Rattle.overlay.proofs.Seen.{same_test}

-- where nothing else is in the page, taking it away takes away that block alone
taken_away : (p : Places) (at : ℕ) → HasNone (set p at None) → (k : ℕ) → None ≡ cond (k == at) None (get_or p k None)
taken_away p at none k =
    let P : Bool → Type 0 = λ b. (k == at) ≡ b → None ≡ cond b None (get_or p k None) in
    let by : P (k == at) = elim (k == at) as P [
      | true ↦ λ h. refl
      | false ↦ λ h. let differs : k ≡ at → ⊥ = grind (arith, nat_tests) in sym (none k) ∙ get_or-set_other p at k None None differs
    ] in by refl

pub goes : (es ds fs : Pages) (n at : ℕ) (p : Places)
    → Some p ≡ lookup (is_at (nat_cmp n)) es
    → ((q : ℕ) → lookup (is_at (nat_cmp q)) ds ≡ cond (is_at (nat_cmp n) q) (Some p) (lookup (is_at (nat_cmp q)) es))
    → ((q : ℕ) → lookup (is_at (nat_cmp q)) fs ≡ cond (is_at (nat_cmp n) q) None (lookup (is_at (nat_cmp q)) ds))
    → HasNone (set p at None) → Puts es fs n at None
goes es ds fs n at p here kept gone none m k =
    ap (λ o. option_map_or (λ p. get_or p k None) o None) (gone m ∙ ap (cond (is_at (nat_cmp n) m) None) (kept m) ∙ ap (λ b. cond b None (cond b (Some p) (lookup (is_at (nat_cmp m)) es))) (same_test n m))
    ∙ rest
  where
    rest : option_map_or (λ p. get_or p k None) (cond (n == m) None (cond (n == m) (Some p) (lookup (is_at (nat_cmp m)) es))) None ≡ cond ((m == n) && (k == at)) None (stands es m k)
    rest =
        let P : Bool → Type 0 = λ b. (n == m) ≡ b → option_map_or (λ p. get_or p k None) (cond b None (cond b (Some p) (lookup (is_at (nat_cmp m)) es))) None ≡ cond ((m == n) && (k == at)) None (stands es m k) in
        let by : P (n == m) = elim (n == m) as P [
          | true ↦ λ h.
              let same : n ≡ m = grind (arith, nat_tests) in
              let test : (m == n) ≡ true = grind (arith, nat_tests) in
              let there : stands es m k ≡ get_or p k None = ap (λ j. stands es j k) (sym same) ∙ ap (λ o. option_map_or (λ p. get_or p k None) o None) (sym here) in
              taken_away p at none k ∙ ap (cond (k == at) None) (sym there) ∙ ap (λ b. cond (b && (k == at)) None (stands es m k)) (sym test)
          | false ↦ λ h.
              let test : (m == n) ≡ false = grind (arith, nat_tests) in
              ap (λ b. cond (b && (k == at)) None (stands es m k)) (sym test)
        ] in by refl
