-- Pages, seen as a finite map from sectors to blocks.
use Rattle.std.proofs.Common.{◌≡◌, ℕ, zero, suc, ◌+◌, ◌*◌, ◌/◌, ◌%◌, ◌<◌, ◌≤◌, List, [], ◌∷◌, Bool, true, false, is_some, ◌&&◌, ◌==◌, nat_le, nat_lt, Option, Some, None, cond, refl, ap, sym, ◌∙◌, arith, get_or, ◌-◌}
use Rattle.std.specs.Option.{option_map_or}
use Rattle.std.specs.Ordering.{nat_cmp, is_eq}
use Rattle.std.specs.Cmp.{nat_cmp_total}
use Rattle.std.specs.Map.{lookup}
use Rattle.std.specs.BTreeMap.{is_at}
use Rattle.std.specs.FinMap as map
use Rattle.std.specs.FinMap.{gets}
use Rattle.std.proofs.lemmas.Bool.Decides.{nat_tests}
use Rattle.plain.specs.Machine.{Blocks}
use Rattle.overlay.specs.Blocks.{exchanged}
use Rattle.overlay.specs.Pages.{Pages, Places, Puts, blocks_of, has_page, stands, with_places}

pub same_test : (a b : ℕ) → is_eq (nat_cmp a b) ≡ (a == b)
same_test a b = grind (arith, nat_tests)

get-exchanged : (m : Blocks) (k : ℕ) (w : Option (List ℕ)) (q : ℕ) → map.get (exchanged m k w) q ≡ cond (q == k) w (map.get m q)
get-exchanged m k None q = map.get-remove nat_cmp_total m k q ∙ ap (λ b. cond b None (map.get m q)) (same_test q k)
get-exchanged m k (Some b) q = map.get-insert nat_cmp_total m k b q ∙ ap (λ c. cond c (Some b) (map.get m q)) (same_test q k)

-- the sectors of a page, and the others
get-with_places : (count base : ℕ) (p : Places) (m : Blocks) (q : ℕ)
    → map.get (with_places count base p m) q ≡ cond (nat_le base q && nat_lt q (base + count)) (get_or p (q - base) None) (map.get m q)
get-with_places zero base p m q = grind (arith, nat_tests)
get-with_places (suc count) base p m q =
    let rest = get-with_places count base p m q in
    let top = get-exchanged (with_places count base p m) (base + count) (get_or p count None) q in
    top ∙ ap (λ o. cond (q == base + count) (get_or p count None) o) rest ∙ last q (get_or p count None)
  where
    last : (q : ℕ) (w : Option (List ℕ)) → cond (q == base + count) (get_or p count None) (cond (nat_le base q && nat_lt q (base + count)) (get_or p (q - base) None) (map.get m q))
        ≡ cond (nat_le base q && nat_lt q (base + suc count)) (get_or p (q - base) None) (map.get m q)
    last q w = grind (arith, nat_tests)

option_cond : {X : Type 0} (b : Bool) (f : Places → Option X) (p : Places) (o : Option Places)
    → option_map_or f (cond b (Some p) o) None ≡ cond b (f p) (option_map_or f o None)
option_cond true f p o = refl
option_cond false f p o = refl

page_test : (n q : ℕ) (p : Places) (o : Option (List ℕ))
    → cond (nat_le (n * 8) q && nat_lt q (n * 8 + 8)) (get_or p (q - n * 8) None) o ≡ cond (is_eq (nat_cmp (q / 8) n)) (get_or p (q % 8) None) o
page_test n q p o =
    let P : Bool → Type 0 = λ b. (is_eq (nat_cmp (q / 8) n) ≡ b) → cond (nat_le (n * 8) q && nat_lt q (n * 8 + 8)) (get_or p (q - n * 8) None) o ≡ cond b (get_or p (q % 8) None) o in
    let at : P (is_eq (nat_cmp (q / 8) n)) = elim (is_eq (nat_cmp (q / 8) n)) as P [
      | true ↦ λ h. let same : q / 8 ≡ n = grind (arith, nat_tests) in
          let left : q - n * 8 ≡ q % 8 = omega arith in
          let le : n * 8 ≤ q = omega arith in
          let lt : q < n * 8 + 8 = omega arith in
          let t : (nat_le (n * 8) q && nat_lt q (n * 8 + 8)) ≡ true = grind (arith, nat_tests) in
          ap (λ b. cond b (get_or p (q - n * 8) None) o) t ∙ ap (λ i. get_or p i None) left
      | false ↦ λ h. let differ : q / 8 ≡ n → ⊥ = grind (arith, nat_tests) in
          let t : (nat_le (n * 8) q && nat_lt q (n * 8 + 8)) ≡ false = out n q differ in
          ap (λ b. cond b (get_or p (q - n * 8) None) o) t
    ] in at refl
  where
    out : (n q : ℕ) → (q / 8 ≡ n → ⊥) → (nat_le (n * 8) q && nat_lt q (n * 8 + 8)) ≡ false
    out n q differ = grind (arith, nat_tests)

pub get_seen : (es : Pages) (q : ℕ) → map.get (blocks_of es) q ≡ stands es (q / 8) (q % 8)
get_seen [] q = grind (arith, gets)
get_seen (e ∷ es) q =
    get-with_places 8 (e.0 * 8) e.1 (blocks_of es) q
    ∙ ap (λ o. cond (nat_le (e.0 * 8) q && nat_lt q (e.0 * 8 + 8)) (get_or e.1 (q - e.0 * 8) None) o) (get_seen es q)
    ∙ page_test e.0 q e.1 (stands es (q / 8) (q % 8))
    ∙ sym (option_cond (is_eq (nat_cmp (q / 8) e.0)) (λ p. get_or p (q % 8) None) e.1 (lookup (is_at (nat_cmp (q / 8))) es))

-- pages that answer as the old ones do but at one place are the map with that exchange
pub puts_seen : (es fs : Pages) (x : ℕ) (w : Option (List ℕ)) → Puts es fs (x / 8) (x % 8) w → blocks_of fs ≡ exchanged (blocks_of es) x w
puts_seen es fs x w puts = map.same_map nat_cmp_total map.nat_cmp-IsAntisymmetric _ _ (λ q.
    get_seen fs q ∙ puts (q / 8) (q % 8) ∙ ap (λ b. cond b w (stands es (q / 8) (q % 8))) (same_sector q x)
    ∙ ap (cond (q == x) w) (sym (get_seen es q)) ∙ sym (get-exchanged _ x w q))
  where
    same_sector : (q x : ℕ) → ((q / 8 == x / 8) && (q % 8 == x % 8)) ≡ (q == x)
    same_sector q x = grind (arith, nat_tests)

-- what a map has that shows the pages, at a sector of a page that is there, and of one that is not
pub shown : (es : Pages) (m : Blocks) → blocks_of es ≡ m → (q : ℕ) → map.get m q ≡ stands es (q / 8) (q % 8)
shown es m is q = ap (λ n. map.get n q) (sym is) ∙ get_seen es q

pub in_page : (es : Pages) (m : Blocks) (number : ℕ) (o : Option Places) → blocks_of es ≡ m → o ≡ lookup (is_at (nat_cmp number)) es
    → (q : ℕ) → q / 8 ≡ number → map.get m q ≡ option_map_or (λ p. get_or p (q % 8) None) o None
in_page es m number o is found q here = shown es m is q
    ∙ ap (λ n. stands es n (q % 8)) here ∙ ap (λ p. option_map_or (λ p. get_or p (q % 8) None) p None) (sym found)

-- no sector of a page that is not there has a block
none_there : (f : Places → Option (List ℕ)) (o : Option Places) → is_some o ≡ false → option_map_or f o None ≡ None
none_there f None none = refl
none_there f (Some p) none = cc

pub absent : (es : Pages) (m : Blocks) (number : ℕ) → blocks_of es ≡ m → has_page es number ≡ false → (q : ℕ) → q / 8 ≡ number → map.get m q ≡ None
absent es m number is none q here = in_page es m number (lookup (is_at (nat_cmp number)) es) is refl q here
    ∙ none_there (λ p. get_or p (q % 8) None) (lookup (is_at (nat_cmp number)) es) none
