-- Select takes nobody while a sibling of a higher class waits.
use Rattle.std.proofs.Common.{true, false, Bool, ◌≡◌, ◌≢◌, ◌⊎◌, inl, inr, ℕ, zero, suc, ◌+◌, ◌-◌, ◌<◌, ◌≤◌, nat_lt, List, [], ◌∷◌, Option, Some, None, All, is_some, cond, get_or, unwrap_or, refl, sym, ap, ◌∙◌, subst, arith}
use Rattle.std.specs.Option.{is_none}
use Rattle.std.proofs.lemmas.Bool.{ltb-false}
use Rattle.std.proofs.lemmas.List.Elements.{All-nil, All-cons}
use Rattle.sector_core.specs.declared.class.Class.{Class}
use Rattle.sector_core.specs.declared.class.Class.TheVariants.{RealTime, BestEffort, Idle as IdleClass}
use Rattle.plain.specs.declared.member.State.TheVariants.{Serving}
use Rattle.plain.specs.declared.member.Member.{Member}
use Rattle.plain.specs.Members.{IsActiveAt}
use Rattle.plain.specs.Classes.{Classes, first_class, has_active, only, rank, with_time, with_member}
use Rattle.class_laws.proofs.Highest.{only-own}
use Rattle.plain.specs.Groups.{climb, path}
use Rattle.plain.specs.declared.seat.InService.{InService}
use Rattle.plain.specs.Machine.{Bfq, Plain}
use Rattle.plain.specs.Rules.{absent, class_in, class_of, chosen_in, group_of, in_service, jumped, member_in, on_class, on_pick, picked, select, select_from, taken}
use Rattle.plain.specs.declared.call.Call.{Call}
use Rattle.plain.specs.Opening.{Limits}
use Rattle.plain.specs.Steps.Dispatch.{with_selected}
use Rattle.plain.specs.Keeper.{machine_of}
use Rattle.plain.specs.Headline.{replay}
use Rattle.bfq_laws.specs.Order.{GoesFirst, SelectsInOrder, DispatchesInOrder, ClassesAreInOrder}
use Rattle.plain_laws.proofs.Puts.{put_other, some_is}
use Rattle.plain_laws.proofs.Placed.{placed, places_of, places-vtime}
use Rattle.plain_laws.proofs.Rules.{jumped-keeps}
use Rattle.bfq_laws.proofs.Quiet.{jumped-quiet}
use Rattle.bfq_laws.proofs.Picks.{picked-is, start-of-active}
use Rattle.bfq_laws.proofs.Shape.{In, Levels, parent-stands, climb-back, climb-none, climb-whole}
use Rattle.bfq_laws.proofs.Alive.{Alive}
use Rattle.bfq_laws.proofs.Calm.{calm-tidy}
use Rattle.bfq_laws.proofs.Sound.{Sound, machine-sound, with_budget_in-alive}

-- no class before the first one that passes a test passes it
abbrev first_by : (Class → Bool) → Option Class
first_by h = cond (h RealTime) (Some RealTime) (cond (h BestEffort) (Some BestEffort) (cond (h IdleClass) (Some IdleClass) None))

low : (h : Class → Bool) (x : Class) → h x ≡ true → h RealTime ≡ false → 1 ≤ rank x
low h RealTime y n = cc
low h BestEffort y n = omega arith
low h IdleClass y n = omega arith

lowest : (h : Class → Bool) (x : Class) → h x ≡ true → h RealTime ≡ false → h BestEffort ≡ false → 2 ≤ rank x
lowest h RealTime y n o = cc
lowest h BestEffort y n o = cc
lowest h IdleClass y n o = omega arith

first_by-least : (h : Class → Bool) (c k : Class) → first_by h ≡ Some c → h k ≡ true → rank c ≤ rank k
first_by-least h c k e ok =
    let R : Type 0 = rank c ≤ rank k in
    elim (h RealTime) as (λ t. h RealTime ≡ t → cond t (Some RealTime) (cond (h BestEffort) (Some BestEffort) (cond (h IdleClass) (Some IdleClass) None)) ≡ Some c → R) [
      | true ↦ λ _ f. let same : RealTime ≡ c = cc in let le : 0 ≤ rank k = omega arith in subst (λ (x : Class). rank x ≤ rank k) same le
      | false ↦ λ r f. elim (h BestEffort) as (λ t. h BestEffort ≡ t → cond t (Some BestEffort) (cond (h IdleClass) (Some IdleClass) None) ≡ Some c → R) [
        | true ↦ λ _ g. let same : BestEffort ≡ c = cc in subst (λ (x : Class). rank x ≤ rank k) same (low h k ok r)
        | false ↦ λ b g. elim (h IdleClass) as (λ t. h IdleClass ≡ t → cond t (Some IdleClass) None ≡ Some c → R) [
          | true ↦ λ _ i. let same : IdleClass ≡ c = cc in subst (λ (x : Class). rank x ≤ rank k) same (lowest h k ok r b)
          | false ↦ λ _ i. cc
        ] refl g
      ] refl f
    ] refl e

first_least : (ms : List (Option Member)) (c k : Class) → first_class ms ≡ Some c → has_active k ms ≡ true → rank c ≤ rank k
first_least ms c k e ok = first_by-least (λ (x : Class). has_active x ms) c k e ok

-- a jump changes no member, and whoever is taken changes those of one group alone
jumped-places : (group : ℕ) (class : Class) (b : Bfq) (j : ℕ) → places_of (jumped group class b) j ≡ places_of b j
jumped-places group class b =
    jumped-keeps (λ (d : Bfq). (j : ℕ) → places_of d j ≡ places_of b j) (λ c g k start nobody is h j. places-vtime c g (with_time (c.service g).vtimes k start) j ∙ h j) group class b
    (λ j. refl)

in_service-other : (group entity : ℕ) (b : Bfq) (j : ℕ) → j ≢ group → places_of (in_service group entity b) j ≡ places_of b j
in_service-other group entity b j other =
    ap (λ (t : Classes). t.members) (put_other b.service group (with_member (b.service group) entity (Some (record (member_in b group entity) { state = Serving }))) j other)

-- who is taken goes first, if the members of the group are as they were
picked-goes : (b c : Bfq) (g : ℕ) (class : Class) (e : ℕ) → places_of c g ≡ places_of b g → b.parent e ≡ Some g → class_in c g ≡ Some class → picked (jumped g class c) g class ≡ Some e → GoesFirst b e
picked-goes b c g class e same parent first is n k a =
    let ms : List (Option Member) = places_of b g in
    let m = picked-is (jumped g class c) g class e is in
    let there : placed b g e ≡ Some m.0 = ap (λ (xs : List (Option Member)). get_or xs e None) (sym (jumped-places g class c g ∙ same)) ∙ m.1 in
    let one : group_of b e ≡ g = ap (λ o. unwrap_or o 0) parent in
    let now : IsActiveAt ms n k = subst (λ j. IsActiveAt (places_of b j) n k) one a in
    let has : has_active k.class ms ≡ true = start-of-active (only k.class ms) n k (only-own ms n k now.0) now.1 in
    let le : rank class ≤ rank k.class = first_least ms class k.class (ap first_class (sym same) ∙ first) has in
    let its : class_of b e ≡ class = ap (λ j. (member_in b j e).class) one ∙ (ap (λ o. (unwrap_or o absent).class) there ∙ m.3) in
    subst (λ (x : Class). rank x ≤ rank k.class) (sym its) le

-- the way down has changed no member of a group so deep or deeper
abbrev AsBefore : (above : ℕ → Option ℕ) → Levels above → ℕ → Bfq → Bfq → Type 0
AsBefore above levels n b c = (j : ℕ) → n ≤ levels.level j → places_of c j ≡ places_of b j

-- each entity of the way is above the group, or goes first
abbrev Ordered : (ℕ → Option ℕ) → ℕ → ℕ → ℕ → Bfq → Type 0
Ordered above n g x b = In x (climb n above (Some g)) ⊎ GoesFirst b x

-- whoever a group has is in it
abbrev AreIn : (ℕ → Option ℕ) → Bfq → Type 0
AreIn above b = (j e : ℕ) → is_some (placed b j e) ≡ true → above e ≡ Some j

taken-ordered : (above : ℕ → Option ℕ) (levels : Levels above) (choose : ℕ → Bfq → Bfq) (n g : ℕ) (b c : Bfq) (e : ℕ) (slot : InService) (x : ℕ)
    → ((h : ℕ) (d : Bfq) → levels.level h ≡ suc n → d.in_service ≡ None → AsBefore above levels (suc n) b d → (choose h d).in_service ≡ Some slot → Ordered above (suc n) h x b)
    → levels.level g ≡ n → above e ≡ Some g → c.in_service ≡ None → AsBefore above levels n b c → GoesFirst b e → In x (path above slot.seat)
    → (taken choose g c e).in_service ≡ Some slot → Ordered above n g x b
taken-ordered above levels choose n g b c e slot x more deep parent none before goes on at =
    let d : Bfq = in_service g e c in
    let new : InService = record { seat = e; service = 0; age = 0 } in
    let begun : Bfq = record d { in_service = Some new } in
    elim (nat_lt e 16) as (λ t. nat_lt e 16 ≡ t → (let y : Bfq = cond t begun (choose (e - 16) d) in y.in_service) ≡ Some slot → Ordered above n g x b) [
      | true ↦ λ _ p.
          let seat : e ≡ slot.seat = ap (λ (s : InService). s.seat) (some_is new slot p) in
          let way : In x (path above e) = subst (λ k. In x (path above k)) (sym seat) on in
          elim way [
            | inl same ↦ inr (subst (GoesFirst b) (sym same) goes)
            | inr up ↦ inl (climb-whole above levels n 4 g x (omega (arith, deep)) (parent-stands above levels e g parent) (subst (λ o. In x (climb 4 above o)) parent up))
          ]
      | false ↦ λ no p.
          let high : 16 ≤ e = ltb-false e 16 no in
          let h : ℕ = e - 16 in
          let one : 16 + h ≡ e = omega (arith, high) in
          let within : e < 48 = (levels.inside e g parent).0 in
          let small : h < 32 = omega (arith, within, one) in
          let parent_h : above (16 + h) ≡ Some g = ap above one ∙ parent in
          let rises : levels.level h ≡ suc (levels.level g) = (levels.rises h g parent_h).0 in
          let root : levels.level 0 ≡ 0 = levels.root in
          let nz : h ≢ 0 = λ z. let flat : levels.level h ≡ levels.level 0 = ap levels.level z in absurd (omega (arith, flat, root, rises)) in
          let deeper : AsBefore above levels (suc n) b d = λ j le.
          let other : j ≢ g = λ z. let flat : levels.level j ≡ levels.level g = ap levels.level z in absurd (omega (arith, flat, deep, le)) in
          in_service-other g e c j other ∙ before j (omega (arith, le)) in
          elim (more h d (rises ∙ ap suc deep) none deeper p) [
            | inl far ↦ elim (climb-back above n h g x small nz parent_h far) [
              | inl same ↦ inr (subst (GoesFirst b) (sym (same ∙ one)) goes)
              | inr up ↦ inl up
            ]
            | inr first ↦ inr first
          ]
    ] refl at

ordered : (above : ℕ → Option ℕ) (levels : Levels above) (fuel n g : ℕ) (b c : Bfq) (slot : InService) (x : ℕ) → levels.level g ≡ n → b.parent ≡ above → AreIn above b → c.in_service ≡ None
    → AsBefore above levels n b c → In x (path above slot.seat) → (select_from fuel g c).in_service ≡ Some slot → Ordered above n g x b
unfolding select_from
ordered above levels zero n g b c slot x deep par known none before on at = let bad : Some slot ≡ None = sym at ∙ none in cc
ordered above levels (suc fuel) n g b c slot x deep par known none before on at =
    let choose : ℕ → Bfq → Bfq = λ h d. select_from fuel h d in
    let same : places_of c g ≡ places_of b g = before g (omega (arith, deep)) in
    elim (class_in c g) as (λ o. class_in c g ≡ o → (on_class o c (chosen_in choose g c)).in_service ≡ Some slot → Ordered above n g x b) [
      | None ↦ λ _ f. let bad : Some slot ≡ None = sym f ∙ none in cc
      | Some class ↦ λ first f.
          let d : Bfq = jumped g class c in
          let none_d : d.in_service ≡ None = (jumped-quiet g class c).1 ∙ none in
          elim (picked d g class) as (λ o. picked d g class ≡ o → (on_pick o d (taken choose g d)).in_service ≡ Some slot → Ordered above n g x b) [
            | None ↦ λ _ p. let bad : Some slot ≡ None = sym p ∙ none_d in cc
            | Some e ↦ λ is p.
                let m = picked-is d g class e is in
                let there : is_some (placed b g e) ≡ true =
                ap (λ (xs : List (Option Member)). is_some (get_or xs e None)) (sym (jumped-places g class c g ∙ same)) ∙ ap is_some m.1 in
                let parent : above e ≡ Some g = known g e there in
                taken-ordered above levels choose n g b d e slot x
                (λ h z deeper none_z before_z at_z. ordered above levels fuel (suc n) h b z slot x deeper par known none_z before_z on at_z)
                deep parent none_d (λ j le. jumped-places g class c j ∙ before j le)
                (picked-goes b c g class e same (ap (λ (u : ℕ → Option ℕ). u e) par ∙ parent) first is) on p
          ] refl f
    ] refl at

all-in : (P : ℕ → Type 0) (xs : List ℕ) → ((x : ℕ) → In x xs → P x) → All P xs
all-in P [] each = All-nil P
all-in P (x ∷ xs) each = All-cons P x xs (each x (inl refl)) (all-in P xs (λ y i. each y (inr i)))

select-ordered : (b : Bfq) → Alive b → SelectsInOrder b
select-ordered b h none slot at =
    let same : with_selected b ≡ select b = ap (λ (o : Option InService). cond (is_none o) (select b) b) none in
    let made : (select b).in_service ≡ Some slot = ap (λ (c : Bfq). c.in_service) (sym same) ∙ at in
    all-in (GoesFirst b) (path b.parent slot.seat) (λ x i.
    elim (ordered h.above h.levels 5 0 0 b b slot x h.levels.root h.at.parents h.at.places.known none (λ j le. refl)
    (subst (λ (f : ℕ → Option ℕ). In x (path f slot.seat)) h.at.parents i) made) [
      | inl far ↦ absurd (climb-none h.above (Some 0) x far)
      | inr first ↦ first
    ])

in-order : (l : Limits) (m : Plain) → Sound m → DispatchesInOrder l m
in-order l m h under b e none slot at = select-ordered b (with_budget_in-alive l m m.bfq.in_service b e (calm-tidy m under h.calm) h.alive) none slot at

-- the law
pub classes-in-order : (l : Limits) (most : ℕ) (journal : List Call) → ClassesAreInOrder l most journal
classes-in-order l most journal = in-order l (machine_of (replay l most journal)) (machine-sound l most journal)
