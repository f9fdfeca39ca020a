-- What joins the orders to the members is kept by an exchange.
use Rattle.std.proofs.Common.{◌≡◌, ℕ, zero, suc, ◌+◌, ◌-◌, ◌*◌, ◌^◌, ◌<◌, ◌≤◌, inl, inr, List, [], ◌∷◌, length, get_or, set, replicate, Option, None, Some, IfSome, refl, ap, sym, subst, ◌∙◌, arith, get_or-set_other, get_or-set_same}
use Rattle.std.proofs.lemmas.List.{length-set, length-replicate}
use Rattle.std.proofs.lemmas.Bool.{cases_eq}
use Rattle.augmented_tree.specs.declared.row.Figures.{Figures}
use Rattle.augmented_tree.specs.Rows.{blank}
use Rattle.augmented_tree.specs.Trees.{Entry, Leaf}
use Rattle.augmented_tree.proofs.Frames.{stays}
use Rattle.plain.specs.declared.member.State.{State}
use Rattle.plain.specs.declared.member.State.TheVariants.{Idle, Active, Serving}
use Rattle.plain.specs.declared.member.Member.{Member}
use Rattle.service_tree.specs.declared.order.Orders.{Orders}
use Rattle.service_tree.specs.Orders.{IsService, active_of, counted, exchanged, idle_of, if_active, if_idle, if_serving, served, serving_of, with_member, without_member}
use Rattle.service_tree.proofs.Counts.{IsLight}
use Rattle.service_tree.proofs.Changes.{ranked_by}
use Rattle.service_tree.proofs.Both.{exchanges}

pub get_or-beyond : (xs : List (Option Member)) (i : ℕ) (d : Option Member) → length xs ≤ i → get_or xs i d ≡ d
get_or-beyond [] i d le = refl
get_or-beyond (x ∷ xs) zero d le = let no : ⊥ = omega (arith, le) in absurd no
get_or-beyond (x ∷ xs) (suc i) d le = get_or-beyond xs i d (omega (arith, le))

pub same_default : (xs : List (Option Member)) (i : ℕ) (d : Option Member) → i < length xs → get_or xs i d ≡ get_or xs i None
same_default [] i d lt = let no : ⊥ = omega (arith, lt) in absurd no
same_default (x ∷ xs) zero d lt = refl
same_default (x ∷ xs) (suc i) d lt = same_default xs i d (omega (arith, lt))

served-set : (xs : List (Option Member)) (i : ℕ) (w : Option Member) → i < length xs → served (set xs i w) + serving_of (get_or xs i None) ≡ served xs + serving_of w
served-set [] i w lt = let no : ⊥ = omega (arith, lt) in absurd no
served-set (x ∷ xs) zero w lt = omega arith
served-set (x ∷ xs) (suc i) w lt = let h = served-set xs i w (omega (arith, lt)) in omega (arith, h)

pub served-has : (xs : List (Option Member)) (i : ℕ) → serving_of (get_or xs i None) ≤ served xs
served-has [] i = omega arith
served-has (x ∷ xs) zero = omega arith
served-has (x ∷ xs) (suc i) = let h = served-has xs i in omega (arith, h)

abbrev pub AreLight : List (Option Member) → Type 0
AreLight xs = (i : ℕ) (m : Member) → get_or xs i None ≡ Some m → m.weight < 2 ^ 32

if_serving-le : (s : State) (m : Member) → if_serving s m ≤ m.weight
if_serving-le Idle m = omega arith
if_serving-le Active m = omega arith
if_serving-le Serving m = omega arith

pub served-most : (xs : List (Option Member)) → AreLight xs → served xs ≤ length xs * 2 ^ 32
served-most [] light = omega arith
served-most (x ∷ xs) light =
    let h = served-most xs (λ i m is. light (suc i) m is) in let s = own x refl in omega (arith, h, s)
  where
    own : (o : Option Member) → x ≡ o → serving_of o ≤ 2 ^ 32
    own None is = omega arith
    own (Some m) is = let l = light 0 m is in let s = if_serving-le m.state m in omega (arith, l, s)

if_active-weight : (s : State) (m : Member) (g : Figures) → if_active s m ≡ Some g → m.weight ≡ g.weight
if_active-weight Idle m g is = cc
if_active-weight Active m g is = let e : record { key = m.start; finish = m.finish; weight = m.weight } ≡ g = cc in ap (λ (f : Figures). f.weight) e
if_active-weight Serving m g is = cc

if_idle-weight : (s : State) (m : Member) (g : Figures) → if_idle s m ≡ Some g → m.weight ≡ g.weight
if_idle-weight Idle m g is = let e : record { key = m.finish; finish = m.finish; weight = m.weight } ≡ g = cc in ap (λ (f : Figures). f.weight) e
if_idle-weight Active m g is = cc
if_idle-weight Serving m g is = cc

pub active_light : (xs : List (Option Member)) → AreLight xs → IsLight active_of xs
active_light xs light i g is =
    let P : Option Member → Type 0 = λ o. get_or xs i None ≡ o → active_of o ≡ Some g → g.weight < 2 ^ 32 in
    let at : P (get_or xs i None) = elim (get_or xs i None) as P [
      | None ↦ λ _ e. cc
      | Some m ↦ λ here e. let l = light i m here in let s = if_active-weight m.state m g e in omega (arith, l, s)
    ] in at refl is

pub idle_light : (xs : List (Option Member)) → AreLight xs → IsLight idle_of xs
idle_light xs light i g is =
    let P : Option Member → Type 0 = λ o. get_or xs i None ≡ o → idle_of o ≡ Some g → g.weight < 2 ^ 32 in
    let at : P (get_or xs i None) = elim (get_or xs i None) as P [
      | None ↦ λ _ e. cc
      | Some m ↦ λ here e. let l = light i m here in let s = if_idle-weight m.state m g e in omega (arith, l, s)
    ] in at refl is

set_light : (xs : List (Option Member)) (n : ℕ) (w : Option Member) → n < length xs → AreLight xs → ((m : Member) → w ≡ Some m → m.weight < 2 ^ 32) → AreLight (set xs n w)
set_light xs n w lt light own i m is = elim (cases_eq i n) as (λ _. m.weight < 2 ^ 32) [
  | inl same ↦ own m (sym (get_or-set_same xs n w None lt) ∙ ap (λ (j : ℕ). get_or (set xs n w) j None) (sym same) ∙ is)
  | inr ne ↦ light i m (sym (get_or-set_other xs n i w None ne) ∙ is)
]

pub kept : (ms : List (Option Member)) (t : Orders) (s n : ℕ) (w : Option Member) → IsService ms t s → n < 48 → ((m : Member) → w ≡ Some m → m.weight < 2 ^ 32)
    → IsService (set ms n w) (exchanged t n (get_or ms n None) w) (s - serving_of (get_or ms n None) + serving_of w)
kept ms t s n w k lt own =
    let within : n < length ms = (let p = k.places in omega (arith, p, lt)) in
    let light = set_light ms n w within k.light own in
    let orders = exchanges ms t n w (record { active = k.active; idle = k.idle }) k.places (active_light ms k.light) (idle_light ms k.light) (active_light (set ms n w) light) (idle_light (set ms n w) light) lt in
    record {
      active = orders.active;
      idle = orders.idle;
      serving_is = (let h = served-set ms n w within in let b = served-has ms n in let e = k.serving_is in omega (arith, h, b, e));
      light = light;
      places = length-set ms n w ∙ k.places;
    }

active-empty : (f : Entry → ℕ) (base n : ℕ) → counted active_of f base (replicate n None) ≡ 0
active-empty f base zero = refl
active-empty f base (suc n) = let h = active-empty f (base + 1) n in omega (arith, h)

idle-empty : (f : Entry → ℕ) (base n : ℕ) → counted idle_of f base (replicate n None) ≡ 0
idle-empty f base zero = refl
idle-empty f base (suc n) = let h = idle-empty f (base + 1) n in omega (arith, h)

served-empty : (n : ℕ) → served (replicate n None) ≡ 0
served-empty zero = refl
served-empty (suc n) = let h = served-empty n in omega (arith, h)

empty-light : (n : ℕ) → AreLight (replicate n None)
empty-light zero i m is = cc
empty-light (suc n) zero m is = cc
empty-light (suc n) (suc i) m is = empty-light n i m is

opened : (n : ℕ) → n ≡ 48 → IsService (replicate n None) (record { rows = replicate 48 blank; active = None; idle = None }) 0
opened n is = record {
  active = ranked_by active_of (replicate n None) (replicate 48 blank) _ Leaf (stays (replicate 48 blank) Leaf tt) refl tt tt (λ f. sym (active-empty f 0 n));
  idle = ranked_by idle_of (replicate n None) (replicate 48 blank) _ Leaf (stays (replicate 48 blank) Leaf tt) refl tt tt (λ f. sym (idle-empty f 0 n));
  serving_is = sym (served-empty n);
  light = empty-light n;
  places = length-replicate n None ∙ is;
}

pub opened_with : (t : Orders) → t ≡ record { rows = replicate 48 blank; active = None; idle = None } → IsService (replicate 48 None) t 0
opened_with t is = subst (λ (o : Orders). IsService (replicate 48 None) o 0) (sym is) (opened 48 refl)

own_weight : (w : Option Member) → IfSome w (λ m. m.weight < 2 ^ 32) → (m : Member) → w ≡ Some m → m.weight < 2 ^ 32
own_weight w h m is = subst (λ (o : Option Member). IfSome o (λ m. m.weight < 2 ^ 32)) is h

pub kept_as : (ms : List (Option Member)) (t u v : Orders) (s n : ℕ) (w : Option Member) (r r2 : ℕ) → IsService ms t s → n < 48 → IfSome w (λ m. m.weight < 2 ^ 32)
    → u ≡ without_member t n (get_or ms n None) → v ≡ with_member u n w → r ≡ serving_of (get_or ms n None) → r2 ≡ serving_of w → IsService (set ms n w) v (s - r + r2)
kept_as ms t u v s n w r r2 k lt own out in_again er er2 =
    let done = kept ms t s n w k lt (own_weight w own) in
    let fv : v ≡ exchanged t n (get_or ms n None) w = in_again ∙ ap (λ (o : Orders). with_member o n w) out in
    let fs : s - r + r2 ≡ s - serving_of (get_or ms n None) + serving_of w = ap (λ (j : ℕ). s - j + r2) er ∙ ap (λ (j : ℕ). s - serving_of (get_or ms n None) + j) er2 in
    subst (λ (o : Orders). IsService (set ms n w) o (s - r + r2)) (sym fv)
    (subst (λ (j : ℕ). IsService (set ms n w) (exchanged t n (get_or ms n None) w) j) (sym fs) done)
