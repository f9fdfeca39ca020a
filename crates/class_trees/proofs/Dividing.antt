-- Lists divided by class, and put together again.
use Rattle.std.proofs.Common.{◌≡◌, ℕ, zero, suc, eqb, cond, List, [], ◌∷◌, get_or, set, Option, None, Some, refl, ap, sym, ◌∙◌}
use Rattle.std.specs.Option.{option_or}
use Rattle.sector_core.specs.declared.class.Class.{Class}
use Rattle.sector_core.specs.declared.class.Class.TheVariants.{RealTime, BestEffort, Idle}
use Rattle.plain.specs.declared.member.Member.{Member}
use Rattle.plain.specs.Members.{Service}
use Rattle.plain.specs.Classes.{only, only_one, rank}
use Rattle.class_laws.proofs.Highest.{only-get}
use Rattle.class_trees.specs.Divided.{AreDivided, merged, together}

only-set : (c : Class) (xs : List (Option Member)) (i : ℕ) (w : Option Member) → only c (set xs i w) ≡ set (only c xs) i (only_one c w)
only-set c [] i w = refl
only-set c (x ∷ xs) zero w = refl
only-set c (x ∷ xs) (suc i) w = ap (λ (ys : List (Option Member)). only_one c x ∷ ys) (only-set c xs i w)

-- a member is of one class
any-only_one : (o : Option Member) → option_or (option_or (only_one RealTime o) (only_one BestEffort o)) (only_one Idle o) ≡ o
any-only_one None = refl
any-only_one (Some m) = of m.class
  where
    of : (k : Class) → option_or (option_or (cond (eqb (rank k) 0) (Some m) None) (cond (eqb (rank k) 1) (Some m) None)) (cond (eqb (rank k) 2) (Some m) None) ≡ Some m
    of RealTime = refl
    of BestEffort = refl
    of Idle = refl

merged-only : (ms : List (Option Member)) → merged (only RealTime ms) (only BestEffort ms) (only Idle ms) ≡ ms
merged-only [] = refl
merged-only (m ∷ ms) = ap (λ (o : Option Member). o ∷ merged (only RealTime ms) (only BestEffort ms) (only Idle ms)) (any-only_one m) ∙ ap (λ (ns : List (Option Member)). m ∷ ns) (merged-only ms)

-- these lists have the members of the three classes, each under its number
record AreClasses (ms rs bs is : List (Option Member)) : Type 0 where
  real_time : rs ≡ only RealTime ms
  best_effort : bs ≡ only BestEffort ms
  idle : is ≡ only Idle ms

merged-is : (ms rs bs is : List (Option Member)) → AreClasses ms rs bs is → merged rs bs is ≡ ms
merged-is ms rs bs is a = ap (λ (xs : List (Option Member)). merged xs bs is) a.real_time
    ∙ (ap (λ (xs : List (Option Member)). merged (only RealTime ms) xs is) a.best_effort
    ∙ (ap (λ (xs : List (Option Member)). merged (only RealTime ms) (only BestEffort ms) xs) a.idle
    ∙ merged-only ms))

classes-set : (ms rs bs is : List (Option Member)) (n : ℕ) (w : Option Member) → AreClasses ms rs bs is
    → AreClasses (set ms n w) (set rs n (only_one RealTime w)) (set bs n (only_one BestEffort w)) (set is n (only_one Idle w))
classes-set ms rs bs is n w a = record {
  real_time = ap (λ (xs : List (Option Member)). set xs n (only_one RealTime w)) a.real_time ∙ sym (only-set RealTime ms n w);
  best_effort = ap (λ (xs : List (Option Member)). set xs n (only_one BestEffort w)) a.best_effort ∙ sym (only-set BestEffort ms n w);
  idle = ap (λ (xs : List (Option Member)). set xs n (only_one Idle w)) a.idle ∙ sym (only-set Idle ms n w);
}

classes_of : (r b i : Service) → AreDivided r b i → AreClasses (merged r.members b.members i.members) r.members b.members i.members
classes_of r b i d = record { real_time = d.real_time; best_effort = d.best_effort; idle = d.idle }

-- the tree of a class after an exchange
abbrev pub after : Service → Class → ℕ → Option Member → Service
after t c n w = record t { members = set t.members n (only_one c w) }

merged-after : (r b i : Service) (n : ℕ) (w : Option Member) → AreDivided r b i
    → merged (after r RealTime n w).members (after b BestEffort n w).members (after i Idle n w).members ≡ set (merged r.members b.members i.members) n w
merged-after r b i n w d = merged-is _ _ _ _ (classes-set _ _ _ _ n w (classes_of r b i d))

pub divided-after : (r b i : Service) (n : ℕ) (w : Option Member) → AreDivided r b i → AreDivided (after r RealTime n w) (after b BestEffort n w) (after i Idle n w)
divided-after r b i n w d =
    let a = classes-set _ _ _ _ n w (classes_of r b i d) in
    let e = sym (merged-after r b i n w d) in
    record {
      real_time = a.real_time ∙ ap (only RealTime) e;
      best_effort = a.best_effort ∙ ap (only BestEffort) e;
      idle = a.idle ∙ ap (only Idle) e;
    }

pub together-after : (r b i : Service) (n : ℕ) (w : Option Member) → AreDivided r b i
    → together (after r RealTime n w) (after b BestEffort n w) (after i Idle n w) ≡ record (together r b i) { members = set (together r b i).members n w }
together-after r b i n w d = ap (λ (ms : List (Option Member)). record (together r b i) { members = ms }) (merged-after r b i n w d)

-- what stands in the three trees at a number
pub together-get : (r b i : Service) (n : ℕ) (d : Option Member) → AreDivided r b i
    → option_or (option_or (get_or r.members n (only_one RealTime d)) (get_or b.members n (only_one BestEffort d))) (get_or i.members n (only_one Idle d)) ≡ get_or (together r b i).members n d
together-get r b i n d a =
    let ms = merged r.members b.members i.members in
    let x = ap (λ (xs : List (Option Member)). get_or xs n (only_one RealTime d)) a.real_time ∙ only-get RealTime ms n d in
    let y = ap (λ (xs : List (Option Member)). get_or xs n (only_one BestEffort d)) a.best_effort ∙ only-get BestEffort ms n d in
    let z = ap (λ (xs : List (Option Member)). get_or xs n (only_one Idle d)) a.idle ∙ only-get Idle ms n d in
    ap (λ (o : Option Member). option_or (option_or o (get_or b.members n (only_one BestEffort d))) (get_or i.members n (only_one Idle d))) x
    ∙ (ap (λ (o : Option Member). option_or (option_or (only_one RealTime (get_or ms n d)) o) (get_or i.members n (only_one Idle d))) y
    ∙ (ap (λ (o : Option Member). option_or (option_or (only_one RealTime (get_or ms n d)) (only_one BestEffort (get_or ms n d))) o) z
    ∙ any-only_one (get_or ms n d)))
