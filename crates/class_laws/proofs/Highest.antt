-- Which class has an active member, and which is the highest of those.
use Rattle.std.proofs.Common.{◌≡◌, ℕ, zero, suc, ◌<◌, ◌≤◌, inl, inr, eqb, cond, Bool, true, false, List, [], ◌∷◌, get_or, Option, None, Some, is_some, refl, ap, sym, subst, ◌∙◌, arith}
use Rattle.std.proofs.lemmas.Bool.{cases_lt}
use Rattle.sector_core.specs.declared.class.Class.{Class}
use Rattle.sector_core.specs.declared.class.Class.TheVariants.{RealTime, BestEffort, Idle}
use Rattle.plain.specs.declared.member.Member.{Member}
use Rattle.plain.specs.Members.{IsActiveAt, IsLeastStart, NoneActive}
use Rattle.plain.specs.Classes.{HasActive, IsFirstClass, first_class, has_active, only, only_one, rank}

pub only-get : (c : Class) (xs : List (Option Member)) (i : ℕ) (d : Option Member) → get_or (only c xs) i (only_one c d) ≡ only_one c (get_or xs i d)
only-get c [] i d = refl
only-get c (x ∷ xs) zero d = refl
only-get c (x ∷ xs) (suc i) d = only-get c xs i d

same_rank : (a b : Class) → eqb (rank a) (rank b) ≡ true → a ≡ b
same_rank RealTime RealTime e = refl
same_rank RealTime BestEffort e = cc
same_rank RealTime Idle e = cc
same_rank BestEffort RealTime e = cc
same_rank BestEffort BestEffort e = refl
same_rank BestEffort Idle e = cc
same_rank Idle RealTime e = cc
same_rank Idle BestEffort e = cc
same_rank Idle Idle e = refl

own_rank : (a : Class) → eqb (rank a) (rank a) ≡ true
own_rank RealTime = refl
own_rank BestEffort = refl
own_rank Idle = refl

-- a member of a class, among those of all classes
kept_one : (c : Class) (o : Option Member) (m : Member) → only_one c o ≡ Some m → (o ≡ Some m) × (m.class ≡ c)
kept_one c None m is = cc
kept_one c (Some k) m is = by (eqb (rank k.class) (rank c)) refl is
  where
    by : (t : Bool) → eqb (rank k.class) (rank c) ≡ t → cond t (Some k) None ≡ Some m → (Some k ≡ Some m) × (m.class ≡ c)
    by true e h = let same : k ≡ m = cc in (h, ap (λ (x : Member). x.class) (sym same) ∙ same_rank k.class c e)
    by false e h = cc

pub active-from : (c : Class) (ms : List (Option Member)) (n : ℕ) (m : Member) → IsActiveAt (only c ms) n m → IsActiveAt ms n m × (m.class ≡ c)
active-from c ms n m a = let k = kept_one c (get_or ms n None) m (sym (only-get c ms n None) ∙ a.0) in ((k.0, a.1), k.1)

pub active-in : (c : Class) (ms : List (Option Member)) (n : ℕ) (m : Member) → IsActiveAt ms n m → m.class ≡ c → IsActiveAt (only c ms) n m
active-in c ms n m a own =
    let here : only_one c (Some m) ≡ Some m = subst (λ (k : Class). cond (eqb (rank m.class) (rank k)) (Some m) None ≡ Some m) own (ap (λ (t : Bool). cond t (Some m) None) (own_rank m.class)) in
    (only-get c ms n None ∙ (ap (only_one c) a.0 ∙ here), a.1)

pub has_from : (c : Class) (ms : List (Option Member)) (s : ℕ) → IsLeastStart (only c ms) s → HasActive ms c
has_from c ms s l = let a = active-from c ms l.number l.member l.active_at in record { number = l.number; member = l.member; active_at = a.0; own = a.1 }

first : (ms : List (Option Member)) (c : Class) → HasActive ms c → ((d : Class) → rank d < rank c → NoneActive (only d ms)) → IsFirstClass ms c
first ms c some none = record {
  some = some;
  highest = λ n m a. elim (cases_lt (rank m.class) (rank c)) as (λ _. rank c ≤ rank m.class) [
    | inl lt ↦ absurd (none m.class lt n m (active-in m.class ms n m a refl))
    | inr ge ↦ ge
  ];
}

pub first-best_effort : (ms : List (Option Member)) → NoneActive (only RealTime ms) → HasActive ms BestEffort → IsFirstClass ms BestEffort
first-best_effort ms r some = first ms BestEffort some above
  where
    above : (d : Class) → rank d < 1 → NoneActive (only d ms)
    above RealTime lt = r
    above BestEffort lt = let no : ⊥ = omega (arith, lt) in absurd no
    above Idle lt = let no : ⊥ = omega (arith, lt) in absurd no

pub first-idle : (ms : List (Option Member)) → NoneActive (only RealTime ms) → NoneActive (only BestEffort ms) → HasActive ms Idle → IsFirstClass ms Idle
first-idle ms r b some = first ms Idle some above
  where
    above : (d : Class) → rank d < 2 → NoneActive (only d ms)
    above RealTime lt = r
    above BestEffort lt = b
    above Idle lt = let no : ⊥ = omega (arith, lt) in absurd no

pub none-in : (ms : List (Option Member)) → NoneActive (only RealTime ms) → NoneActive (only BestEffort ms) → NoneActive (only Idle ms) → NoneActive ms
none-in ms r b i n m a = of m.class refl
  where
    of : (c : Class) → m.class ≡ c → ⊥
    of RealTime own = r n m (active-in RealTime ms n m a own)
    of BestEffort own = b n m (active-in BestEffort ms n m a own)
    of Idle own = i n m (active-in Idle ms n m a own)

-- what stands in a class stands among all, and what stands among all stands in its class
pub only-placed : (c : Class) (ms : List (Option Member)) (n : ℕ) (m : Member) → get_or (only c ms) n None ≡ Some m → (get_or ms n None ≡ Some m) × (m.class ≡ c)
only-placed c ms n m is = kept_one c (get_or ms n None) m (sym (only-get c ms n None) ∙ is)

pub only-own : (ms : List (Option Member)) (n : ℕ) (m : Member) → get_or ms n None ≡ Some m → get_or (only m.class ms) n None ≡ Some m
only-own ms n m is = only-get m.class ms n None ∙ (ap (only_one m.class) is ∙ ap (λ (t : Bool). cond t (Some m) None) (own_rank m.class))

-- the first class of those that pass a test
abbrev first_by : (Class → Bool) → Option Class
first_by h = cond (h RealTime) (Some RealTime) (cond (h BestEffort) (Some BestEffort) (cond (h Idle) (Some Idle) None))

first_by-is : (h : Class → Bool) (c : Class) → first_by h ≡ Some c → h c ≡ true
first_by-is h c e =
    let R : Type 0 = h c ≡ true in
    elim (h RealTime) as (λ t. h RealTime ≡ t → cond t (Some RealTime) (cond (h BestEffort) (Some BestEffort) (cond (h Idle) (Some Idle) None)) ≡ Some c → R) [
      | true ↦ λ r f. let same : RealTime ≡ c = cc in subst (λ (k : Class). h k ≡ true) same r
      | false ↦ λ _ f. elim (h BestEffort) as (λ t. h BestEffort ≡ t → cond t (Some BestEffort) (cond (h Idle) (Some Idle) None) ≡ Some c → R) [
        | true ↦ λ r g. let same : BestEffort ≡ c = cc in subst (λ (k : Class). h k ≡ true) same r
        | false ↦ λ _ g. elim (h Idle) as (λ t. h Idle ≡ t → cond t (Some Idle) None ≡ Some c → R) [
          | true ↦ λ r i. let same : Idle ≡ c = cc in subst (λ (k : Class). h k ≡ true) same r
          | false ↦ λ _ i. cc
        ] refl g
      ] refl f
    ] refl e

first_by-none : (h : Class → Bool) → first_by h ≡ None → (c : Class) → h c ≡ false
first_by-none h e c =
    let R : Type 0 = h c ≡ false in
    elim (h RealTime) as (λ t. h RealTime ≡ t → cond t (Some RealTime) (cond (h BestEffort) (Some BestEffort) (cond (h Idle) (Some Idle) None)) ≡ None → R) [
      | true ↦ λ _ f. cc
      | false ↦ λ r f. elim (h BestEffort) as (λ t. h BestEffort ≡ t → cond t (Some BestEffort) (cond (h Idle) (Some Idle) None) ≡ None → R) [
        | true ↦ λ _ g. cc
        | false ↦ λ b g. elim (h Idle) as (λ t. h Idle ≡ t → cond t (Some Idle) None ≡ None → R) [
          | true ↦ λ _ i. cc
          | false ↦ λ d i. all r b d c
        ] refl g
      ] refl f
    ] refl e
  where
    all : h RealTime ≡ false → h BestEffort ≡ false → h Idle ≡ false → (k : Class) → h k ≡ false
    all r b d RealTime = r
    all r b d BestEffort = b
    all r b d Idle = d

pub first_is : (ms : List (Option Member)) (c : Class) → first_class ms ≡ Some c → has_active c ms ≡ true
first_is ms c e = first_by-is (λ (k : Class). has_active k ms) c e

pub first_none : (ms : List (Option Member)) → first_class ms ≡ None → (c : Class) → has_active c ms ≡ false
first_none ms e c = first_by-none (λ (k : Class). has_active k ms) e c
