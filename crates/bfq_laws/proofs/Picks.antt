-- Where a member of a group's tree is active, there is a least start, and after the jump one is picked.
use Rattle.std.proofs.Common.{true, false, Bool, ◌≡◌, ℕ, zero, suc, ◌+◌, ◌≤◌, nat_le, nat_lt, ◌&&◌, List, [], ◌∷◌, map, Option, Some, None, All, is_some, cond, slice_index_or, refl, sym, ap, ◌∙◌, subst, arith, rules}
use Rattle.std.specs.List.{filter}
use Rattle.std.specs.Option.{option_map, option_map_or}
use Rattle.std.proofs.lemmas.List.Elements.{All-nil, All-cons, All-head, All-tail, All-filter, filter_passes}
use Rattle.sector_core.specs.declared.class.Class.{Class}
use Rattle.plain.specs.Lists.{is_empty}
use Rattle.plain.specs.declared.member.Member.{Member}
use Rattle.plain.specs.declared.member.State.{State}
use Rattle.plain.specs.declared.member.State.TheVariants.{Idle, Active, Serving}
use Rattle.plain.specs.Classes.{Classes, only, time_of, with_time, with_vtimes}
use Rattle.class_laws.proofs.Highest.{first_is, first_none, only-own, only-placed}
use Rattle.class_laws.proofs.Times.{time_of-with}
use Rattle.plain.specs.Members.{is_active, is_eligible, numbered, is_sooner, sooner, soonest, lesser, least, least_start, pick}
use Rattle.plain.specs.Machine.{Bfq}
use Rattle.plain.specs.Rules.{vtime_of, put_vtime, picked, jumped, class_in, service_in}
use Rattle.plain_laws.proofs.Puts.{put_here, some_is}
use Rattle.plain_laws.proofs.Placed.{placed, places_of, least_of}

-- who is among the members of a tree stands there
abbrev IsPlaced : List (Option Member) → ℕ × Member → Type 0
IsPlaced full e = slice_index_or full e.0 None ≡ Some e.1

numbered-placed : (full : List (Option Member)) (base : ℕ) (members : List (Option Member)) → ((k : ℕ) → slice_index_or full (base + k) None ≡ slice_index_or members k None)
    → All (IsPlaced full) (numbered base members)
numbered-placed full base [] same = All-nil (IsPlaced full)
numbered-placed full base (None ∷ members) same = numbered-placed full (base + 1) members (λ k.
    let at : base + 1 + k ≡ base + suc k = omega arith in ap (λ n. slice_index_or full n None) at ∙ same (suc k))
numbered-placed full base (Some m ∷ members) same =
    let at : base ≡ base + 0 = omega arith in
    let here : slice_index_or full base None ≡ Some m = ap (λ n. slice_index_or full n None) at ∙ same 0 in
    All-cons (IsPlaced full) (base, m) (numbered (base + 1) members) here
    (numbered-placed full (base + 1) members (λ k.
    let at : base + 1 + k ≡ base + suc k = omega arith in ap (λ n. slice_index_or full n None) at ∙ same (suc k)))

sooner-is : (P : ℕ × Member → Type 0) (e : ℕ × Member) (o : Option (ℕ × Member)) → P e → ((x : ℕ × Member) → o ≡ Some x → P x) → P (sooner e o)
sooner-is P e None this others = this
sooner-is P e (Some other) this others = elim (is_sooner other e) as (λ t. P (cond t other e)) [ true ↦ others other refl | false ↦ this ]

soonest-is : (P : ℕ × Member → Type 0) (es : List (ℕ × Member)) → All P es → (x : ℕ × Member) → soonest es ≡ Some x → P x
soonest-is P [] all x e = cc
soonest-is P (first ∷ es) all x e =
    subst P (some_is (sooner first (soonest es)) x e) (sooner-is P first (soonest es) (All-head P first es all) (soonest-is P es (All-tail P first es all)))

first_of_some : (o : Option (ℕ × Member)) (n : ℕ) → option_map (λ (e : ℕ × Member). e.0) o ≡ Some n → (x : ℕ × Member) × (o ≡ Some x) × (x.0 ≡ n)
first_of_some None n e = cc
first_of_some (Some x) n e = (x, refl, cc)

pub active_is : (s : State) → is_active s ≡ true → s ≡ Active
active_is Idle e = cc
active_is Active e = refl
active_is Serving e = cc

active_and : (s : State) (t : Bool) → (is_active s && t) ≡ true → s ≡ Active
active_and Idle t e = cc
active_and Active t e = refl
active_and Serving t e = cc

-- a member that passes a test is among those that pass it
passing : (q : Member → Bool) (base : ℕ) (members : List (Option Member)) (e : ℕ) (m : Member) → slice_index_or members e None ≡ Some m → q m ≡ true
    → is_empty (filter (λ x. q x.1) (numbered base members)) ≡ false
passing q base [] e m there ok = cc
passing q base (None ∷ members) zero m there ok = cc
passing q base (None ∷ members) (suc e) m there ok = passing q (base + 1) members e m there ok
passing q base (Some x ∷ members) zero m there ok =
    let same : x ≡ m = some_is x m there in
    let now : q x ≡ true = ap q same ∙ ok in
    elim (q x) as (λ t. q x ≡ t → is_empty (cond t ((base, x) ∷ filter (λ x. q x.1) (numbered (base + 1) members)) (filter (λ x. q x.1) (numbered (base + 1) members))) ≡ false) [
      | true ↦ λ _. refl
      | false ↦ λ no. cc
    ] refl
passing q base (Some x ∷ members) (suc e) m there ok =
    elim (q x) as (λ t. is_empty (cond t ((base, x) ∷ filter (λ x. q x.1) (numbered (base + 1) members)) (filter (λ x. q x.1) (numbered (base + 1) members))) ≡ false) [
      | true ↦ refl
      | false ↦ passing q (base + 1) members e m there ok
    ]

least-some : (xs : List (ℕ × Member)) → is_empty xs ≡ false → is_some (least (map (λ e. e.1.start) xs)) ≡ true
least-some [] e = cc
least-some (x ∷ xs) e = refl

soonest-some : (xs : List (ℕ × Member)) → is_empty xs ≡ false → is_some (option_map (λ (e : ℕ × Member). e.0) (soonest xs)) ≡ true
soonest-some [] e = cc
soonest-some (x ∷ xs) e = refl

-- the active members
abbrev actives : List (Option Member) → List (ℕ × Member)
actives members = filter (λ e. is_active e.1.state) (numbered 0 members)

all-placed : (members : List (Option Member)) → All (IsPlaced members) (numbered 0 members)
all-placed members = numbered-placed members 0 members (λ k. let at : 0 + k ≡ k = omega arith in ap (λ n. slice_index_or members n None) at)

-- one of them has the least start
has-least : (P Q : ℕ × Member → Type 0) (xs : List (ℕ × Member)) (s : ℕ) → All P xs → All Q xs → least (map (λ e. e.1.start) xs) ≡ Some s → (x : ℕ × Member) × P x × Q x × (x.1.start ≡ s)
has-least P Q [] s all both e = cc
has-least P Q (x ∷ xs) s all both e =
    let rest : Option ℕ = least (map (λ e. e.1.start) xs) in
    let R : Type 0 = (x : ℕ × Member) × P x × Q x × (x.1.start ≡ s) in
    elim rest as (λ o. rest ≡ o → Some (lesser x.1.start o) ≡ Some s → R) [
      | None ↦ λ _ f. (x, All-head P x xs all, All-head Q x xs both, some_is x.1.start s f)
      | Some other ↦ λ is f. elim (nat_lt other x.1.start) as (λ t. Some (cond t other x.1.start) ≡ Some s → R) [
        | true ↦ λ g.
            let later = has-least P Q xs other (All-tail P x xs all) (All-tail Q x xs both) is in
            (later.0, later.1, later.2, later.3 ∙ some_is other s g)
        | false ↦ λ g. (x, All-head P x xs all, All-head Q x xs both, some_is x.1.start s g)
      ] f
    ] refl e

first-one : (xs : List (ℕ × Member)) → is_some (least (map (λ e. e.1.start) xs)) ≡ true → (P Q : ℕ × Member → Type 0) → All P xs → All Q xs → (x : ℕ × Member) × P x × Q x
first-one [] e P Q ps qs = cc
first-one (x ∷ xs) e P Q ps qs = (x, All-head P x xs ps, All-head Q x xs qs)

-- there is a least start exactly where a member is active
pub start-of-active : (members : List (Option Member)) (e : ℕ) (m : Member) → slice_index_or members e None ≡ Some m → m.state ≡ Active → is_some (least_start members) ≡ true
start-of-active members e m there is = least-some (actives members) (passing (λ x. is_active x.state) 0 members e m there (ap is_active is))

active-of-start : (members : List (Option Member)) → is_some (least_start members) ≡ true → (e : ℕ) × (m : Member) × (slice_index_or members e None ≡ Some m) × (m.state ≡ Active)
active-of-start members e =
    let passes : ℕ × Member → Bool = λ x. is_active x.1.state in
    let x = first-one (actives members) e (IsPlaced members) (λ y. passes y ≡ true) (All-filter passes (IsPlaced members) (numbered 0 members) (all-placed members)) (filter_passes passes (numbered 0 members)) in
    (x.0.0, x.0.1, x.1, active_is x.0.1.state x.2)

-- a class has an active member exactly where a member is active
pub class-of-active : (b : Bfq) (group e : ℕ) (m : Member) → placed b group e ≡ Some m → m.state ≡ Active → is_some (class_in b group) ≡ true
class-of-active b group e m there is = elim (class_in b group) as (λ o. class_in b group ≡ o → is_some o ≡ true) [
  | None ↦ λ no.
      let members : List (Option Member) = only m.class (places_of b group) in
      let some : is_some (least_start members) ≡ true = start-of-active members e m (only-own (places_of b group) e m there) is in
      let none : is_some (least_start members) ≡ false = first_none (places_of b group) no m.class in cc
  | Some class ↦ λ _. refl
] refl

some_class : (o : Option Class) → is_some o ≡ true → (class : Class) × (o ≡ Some class)
some_class None e = cc
some_class (Some class) e = (class, refl)

pub active-of-class : (b : Bfq) (group : ℕ) → is_some (class_in b group) ≡ true → (e : ℕ) × (m : Member) × (placed b group e ≡ Some m) × (m.state ≡ Active)
active-of-class b group e =
    let members : List (Option Member) = places_of b group in
    let c = some_class (class_in b group) e in
    let x = active-of-start (only c.0 members) (first_is members c.0 c.1) in
    (x.0, x.1, (only-placed c.0 members x.0 x.1 x.2).0, x.3)

-- who is picked is active, and of the class
pub picked-is : (b : Bfq) (group : ℕ) (class : Class) (entity : ℕ) → picked b group class ≡ Some entity → (m : Member) × (placed b group entity ≡ Some m) × (m.state ≡ Active) × (m.class ≡ class)
picked-is b group class entity e =
    let members : List (Option Member) = (service_in b group class).members in
    let passes : ℕ × Member → Bool = λ x. is_eligible (vtime_of b group class) x.1 in
    let x = first_of_some (soonest (filter passes (numbered 0 members))) entity e in
    let there : IsPlaced members x.0 = soonest-is (IsPlaced members) (filter passes (numbered 0 members)) (All-filter passes (IsPlaced members) (numbered 0 members) (all-placed members)) x.0 x.1 in
    let passed : passes x.0 ≡ true = soonest-is (λ y. passes y ≡ true) (filter passes (numbered 0 members)) (filter_passes passes (numbered 0 members)) x.0 x.1 in
    let own = only-placed class (places_of b group) x.0.0 x.0.1 there in
    (x.0.1, ap (λ n. placed b group n) (sym x.2) ∙ own.0, active_and x.0.1.state (nat_le x.0.1.start (vtime_of b group class)) passed, own.1)

-- an active member whose start is the virtual time is eligible
eligible : (vtime : ℕ) (m : Member) → m.state ≡ Active → m.start ≡ vtime → is_eligible vtime m ≡ true
eligible vtime m is at =
    let low : m.start ≤ vtime = omega (arith, at) in
    let le : nat_le m.start vtime ≡ true = search (rules, low) in
    let act : is_active m.state ≡ true = ap is_active is in
    rw (act, le) refl

-- at the least start as virtual time one is picked
picked-at : (b : Bfq) (group : ℕ) (class : Class) (start : ℕ) → least_start (service_in b group class).members ≡ Some start → is_some (picked (put_vtime group class start b) group class) ≡ true
picked-at b group class start e =
    let members : List (Option Member) = (service_in b group class).members in
    let passes : ℕ × Member → Bool = λ x. is_active x.1.state in
    let x = has-least (IsPlaced members) (λ y. passes y ≡ true) (actives members) start
    (All-filter passes (IsPlaced members) (numbered 0 members) (all-placed members)) (filter_passes passes (numbered 0 members)) e in
    let m : Member = x.0.1 in
    let is : is_eligible start m ≡ true = eligible start m (active_is m.state x.2) x.3 in
    let one : is_some (pick start members) ≡ true =
    soonest-some (filter (λ y. is_eligible start y.1) (numbered 0 members)) (passing (is_eligible start) 0 members x.0.0 m x.1 is) in
    let tree : Classes = with_vtimes (b.service group) (with_time (b.service group).vtimes class start) in
    ap (λ (t : Classes). is_some (pick (time_of t.vtimes class) (only class t.members))) (put_here b.service group tree group refl)
    ∙ (ap (λ v. is_some (pick v members)) (time_of-with (b.service group).vtimes class start) ∙ one)

-- so one is picked after the jump, in the highest class with an active member
pub jumped-picks : (b : Bfq) (group : ℕ) (class : Class) → class_in b group ≡ Some class → is_some (picked (jumped group class b) group class) ≡ true
jumped-picks b group class first =
    let members : List (Option Member) = (service_in b group class).members in
    let some : is_some (least_start members) ≡ true = first_is (places_of b group) class first in
    elim (is_some (picked b group class)) as (λ t. is_some (picked b group class) ≡ t → is_some (picked (cond t b (option_map_or (λ start. put_vtime group class start b) (least_start members) b)) group class) ≡ true) [
      | true ↦ λ ok. ok
      | false ↦ λ _. elim (least_start members) as (λ o. least_start members ≡ o → is_some (picked (option_map_or (λ start. put_vtime group class start b) o b) group class) ≡ true) [
        | None ↦ λ none. let no : is_some (least_start members) ≡ false = ap is_some none in cc
        | Some start ↦ λ at. picked-at b group class start at
      ] refl
    ] refl
