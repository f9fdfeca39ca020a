-- The tree of groups above the entities, and the state of each entity.
use Rattle.std.proofs.Common.{true, false, ◌≡◌, ◌≢◌, ◌⊎◌, inl, inr, ℕ, zero, suc, ◌+◌, ◌<◌, ◌≤◌, nat_le, nat_lt, List, [], ◌∷◌, length, Option, Some, None, is_some, unwrap_or, cond, slice_index_or, refl, sym, ap, ◌∙◌, subst, arith, rules}
use Rattle.std.proofs.lemmas.Bool.{cases_eq, cond-true}
use Rattle.plain.specs.declared.member.Member.{Member}
use Rattle.plain.specs.declared.member.State.{State}
use Rattle.plain.specs.declared.member.State.TheVariants.{Idle, Active}
use Rattle.plain.specs.declared.member.Vtimes.{Vtimes}
use Rattle.plain.specs.Classes.{Classes}
use Rattle.plain.specs.Groups.{has_entity, entity_of, climb}
use Rattle.plain.specs.Machine.{Bfq, put}
use Rattle.plain.specs.Rules.{top, absent, group_of, member_of, put_member, put_vtimes, finish_from, stamped, stamp}
use Rattle.plain_laws.proofs.Puts.{put_here, put_other, some_is}
use Rattle.plain_laws.proofs.Placed.{placed, placed-here, placed-elsewhere, placed-other, placed-vtime, length-member, places_of, places-vtime}
use Rattle.plain_laws.proofs.Rules.{unrefused}

-- an entity is in a list
abbrev pub In : ℕ → List ℕ → Type 0
In e [] = ⊥
In e (x ∷ xs) = (e ≡ x) ⊎ In e xs

-- the tree of groups: each group that an entity is in stands, and is four levels deep at most
pub record Levels (above : ℕ → Option ℕ) : Type 0 where
  pub inside : (e g : ℕ) → above e ≡ Some g → (e < 48) × (g < 32)
  pub stood : (e g : ℕ) → above e ≡ Some g → g ≢ 0 → (h : ℕ) × (above (16 + g) ≡ Some h)
  pub level : ℕ → ℕ
  pub root : level 0 ≡ 0
  pub rises : (g h : ℕ) → above (16 + g) ≡ Some h → (level g ≡ suc (level h)) × (level g ≤ 4)

-- a group that stands
abbrev pub Stands : (ℕ → Option ℕ) → ℕ → Type 0
Stands above g = (g < 32) × (g ≢ 0 → (h : ℕ) × (above (16 + g) ≡ Some h))

pub parent-stands : (above : ℕ → Option ℕ) → Levels above → (e g : ℕ) → above e ≡ Some g → Stands above g
parent-stands above levels e g up = ((levels.inside e g up).1, levels.stood e g up)

pub stands-low : (above : ℕ → Option ℕ) (levels : Levels above) (g : ℕ) → Stands above g → levels.level g ≤ 4
stands-low above levels g stands = elim (cases_eq g 0) [
  | inl z ↦ let r : levels.level g ≡ 0 = ap levels.level z ∙ levels.root in omega (arith, r)
  | inr ne ↦ let h = stands.1 ne in (levels.rises g h.0 h.1).1
]

pub has-entity : (g : ℕ) → g < 32 → g ≢ 0 → has_entity g ≡ true
has-entity g lt ne =
    let pos : 0 < g = omega (arith, ne) in
    let a : nat_lt 0 g ≡ true = search (rules, pos) in
    let b : nat_lt g 32 ≡ true = search (rules, lt) in
    rw (a, b) refl

-- what holds of the empty way of the root, and of a group's where it holds of its parent's, holds of every group's way up to the root
pub climbing : (above : ℕ → Option ℕ) (levels : Levels above) (Q : ℕ → List ℕ → Type 0) → Q 0 []
    → ((g h : ℕ) (up : List ℕ) → g ≢ 0 → g < 32 → above (16 + g) ≡ Some h → Q h up → Q g ((16 + g) ∷ up))
    → (n g : ℕ) → levels.level g ≤ n → Stands above g → Q g (climb n above (Some g))
unfolding climb
climbing above levels Q end each zero g le stands = elim (cases_eq g 0) [
  | inl z ↦ subst (λ j. Q j []) (sym z) end
  | inr ne ↦
      let h = stands.1 ne in
      let r : levels.level g ≡ suc (levels.level h.0) = (levels.rises g h.0 h.1).0 in
      absurd (omega (arith, r, le))
]
climbing above levels Q end each (suc n) g le stands = elim (cases_eq g 0) [
  | inl z ↦ subst (λ j. Q j (climb (suc n) above (Some j))) (sym z) end
  | inr ne ↦
      let h = stands.1 ne in
      let p : ℕ = h.0 in
      let up : above (16 + g) ≡ Some p = h.1 in
      let r : levels.level g ≡ suc (levels.level p) = (levels.rises g p up).0 in
      let less : levels.level p ≤ n = omega (arith, r, le) in
      let has : has_entity g ≡ true = has-entity g stands.0 ne in
      let now : climb (suc n) above (Some g) ≡ entity_of g ∷ climb n above (above (entity_of g)) = cond-true (has_entity g) (entity_of g ∷ climb n above (above (entity_of g))) [] has in
      let same : climb (suc n) above (Some g) ≡ entity_of g ∷ climb n above (Some p) = now ∙ ap (λ o. entity_of g ∷ climb n above o) up in
      subst (Q g) (sym same) (each g p (climb n above (Some p)) ne stands.0 up (climbing above levels Q end each n p less (parent-stands above levels (16 + g) p up)))
]

-- the way up of more levels has all of the way up of fewer
pub climb-more : (above : ℕ → Option ℕ) (n m : ℕ) (o : Option ℕ) (x : ℕ) → n ≤ m → In x (climb n above o) → In x (climb m above o)
unfolding climb
climb-more above zero m o x le h = absurd h
climb-more above (suc n) zero o x le h = absurd (omega (arith, le))
climb-more above (suc n) (suc m) None x le h = absurd h
climb-more above (suc n) (suc m) (Some g) x le h =
    let less : n ≤ m = omega (arith, le) in
    elim (has_entity g) as (λ t. In x (cond t (entity_of g ∷ climb n above (above (entity_of g))) []) → In x (cond t (entity_of g ∷ climb m above (above (entity_of g))) [])) [
      | true ↦ λ i. elim i [ inl same ↦ inl same | inr later ↦ inr (climb-more above n m (above (entity_of g)) x less later) ]
      | false ↦ λ i. absurd i
    ] h

-- the way up of a group under another one
pub climb-under : (above : ℕ → Option ℕ) (n g h : ℕ) (x : ℕ) → g < 32 → g ≢ 0 → above (16 + g) ≡ Some h → (x ≡ 16 + g) ⊎ In x (climb n above (Some h)) → In x (climb (suc n) above (Some g))
unfolding climb
climb-under above n g h x lt ne up i =
    let has : has_entity g ≡ true = has-entity g lt ne in
    let now : climb (suc n) above (Some g) ≡ entity_of g ∷ climb n above (above (entity_of g)) = cond-true (has_entity g) (entity_of g ∷ climb n above (above (entity_of g))) [] has in
    let same : climb (suc n) above (Some g) ≡ entity_of g ∷ climb n above (Some h) = now ∙ ap (λ o. entity_of g ∷ climb n above o) up in
    subst (In x) (sym same) i

-- and the other way round
pub climb-back : (above : ℕ → Option ℕ) (n g h : ℕ) (x : ℕ) → g < 32 → g ≢ 0 → above (16 + g) ≡ Some h → In x (climb (suc n) above (Some g)) → (x ≡ 16 + g) ⊎ In x (climb n above (Some h))
unfolding climb
climb-back above n g h x lt ne up i =
    let has : has_entity g ≡ true = has-entity g lt ne in
    let now : climb (suc n) above (Some g) ≡ entity_of g ∷ climb n above (above (entity_of g)) = cond-true (has_entity g) (entity_of g ∷ climb n above (above (entity_of g))) [] has in
    let same : climb (suc n) above (Some g) ≡ entity_of g ∷ climb n above (Some h) = now ∙ ap (λ o. entity_of g ∷ climb n above o) up in
    subst (In x) same i

-- no level is no way
pub climb-none : (above : ℕ → Option ℕ) (o : Option ℕ) (x : ℕ) → In x (climb 0 above o) → ⊥
unfolding climb
climb-none above o x i = absurd i

-- nor is there one from the root
climb-root : (above : ℕ → Option ℕ) (m x : ℕ) → In x (climb m above (Some 0)) → ⊥
unfolding climb
climb-root above zero x i = absurd i
climb-root above (suc m) x i = absurd i

-- and who is on it is the group's entity, or on its parent's way
whole-way : (above : ℕ → Option ℕ) (g h : ℕ) (ways : List ℕ) (x : ℕ) → g < 32 → g ≢ 0 → above (16 + g) ≡ Some h
    → ((m : ℕ) → In x (climb m above (Some h)) → In x ways) → (m : ℕ) → In x (climb m above (Some g)) → In x ((16 + g) ∷ ways)
whole-way above g h ways x lt ne parent more zero i = absurd (climb-none above (Some g) x i)
whole-way above g h ways x lt ne parent more (suc m) i = elim (climb-back above m g h x lt ne parent i) [ inl same ↦ inl same | inr later ↦ inr (more m later) ]

-- the way up of as many levels as a group is deep has all of it
pub climb-whole : (above : ℕ → Option ℕ) (levels : Levels above) (n m g x : ℕ) → levels.level g ≤ n → Stands above g → In x (climb m above (Some g)) → In x (climb n above (Some g))
climb-whole above levels n m g x le stands i =
    climbing above levels (λ g ways. (m : ℕ) → In x (climb m above (Some g)) → In x ways) (λ m i. absurd (climb-root above m x i))
    (λ g h ways ne lt parent more. whole-way above g h ways x lt ne parent more) n g le stands m i

-- who is on a way up is a group's entity, which some entity is in
pub climb-has : (above : ℕ → Option ℕ) (n k : ℕ) (o : Option ℕ) (x : ℕ) → above k ≡ o → In x (climb n above o) → (e j : ℕ) × (above e ≡ Some j) × (16 + j ≡ x)
unfolding climb
climb-has above zero k o x up i = absurd i
climb-has above (suc n) k None x up i = absurd i
climb-has above (suc n) k (Some g) x up i =
    elim (has_entity g) as (λ t. In x (cond t (entity_of g ∷ climb n above (above (entity_of g))) []) → (e j : ℕ) × (above e ≡ Some j) × (16 + j ≡ x)) [
      | true ↦ λ i. elim i [ inl same ↦ (k, g, up, sym same) | inr later ↦ climb-has above n (entity_of g) (above (entity_of g)) x refl later ]
      | false ↦ λ i. absurd i
    ] i

-- the places of the entities in the trees of groups: who is in a tree is in that group, and who is in a group is in its tree
pub record Places (above : ℕ → Option ℕ) (service : ℕ → Classes) : Type 0 where
  pub known : (g e : ℕ) → is_some (slice_index_or (service g).members e None) ≡ true → above e ≡ Some g
  pub there : (g e : ℕ) → above e ≡ Some g → is_some (slice_index_or (service g).members e None) ≡ true
  pub lengths : (g : ℕ) → g < 32 → length (service g).members ≡ 48

abbrev pub state : Bfq → ℕ → State
state b e = (member_of b e).state

-- these are the groups and the states of the entities
pub record At (above : ℕ → Option ℕ) (states : ℕ → State) (b : Bfq) : Type 0 where
  pub parents : b.parent ≡ above
  pub places : Places above b.service
  pub are : (e : ℕ) → state b e ≡ states e

pub parent-at : (above : ℕ → Option ℕ) (st : ℕ → State) (b : Bfq) (e : ℕ) → At above st b → b.parent e ≡ above e
parent-at above st b e at = ap (λ (f : ℕ → Option ℕ). f e) at.parents

pub group-at : (above : ℕ → Option ℕ) (st : ℕ → State) (b : Bfq) (e g : ℕ) → At above st b → above e ≡ Some g → group_of b e ≡ g
group-at above st b e g at up = ap (λ o. unwrap_or o 0) (parent-at above st b e at ∙ up)

-- who stands in its group's tree has that state
pub state-at : (above : ℕ → Option ℕ) (st : ℕ → State) (b : Bfq) (g e : ℕ) (m : Member) → At above st b → placed b g e ≡ Some m → st e ≡ m.state
state-at above st b g e m at there =
    let up : above e ≡ Some g = at.places.known g e (ap is_some there) in
    let now : state b e ≡ m.state = ap (λ j. (unwrap_or (placed b j e) absent).state) (group-at above st b e g at up) ∙ ap (λ o. (unwrap_or o absent).state) there in
    sym (at.are e) ∙ now

-- and who is not idle stands in its group's tree
stands-there : (o : Option Member) (s : State) → s ≢ Idle → (unwrap_or o absent).state ≡ s → (m : Member) × (o ≡ Some m) × (m.state ≡ s)
stands-there None s ne e = absurd (ne (sym e))
stands-there (Some m) s ne e = (m, refl, e)

pub member-at : (above : ℕ → Option ℕ) (st : ℕ → State) (b : Bfq) (e : ℕ) → At above st b → st e ≢ Idle → (m : Member) × (placed b (group_of b e) e ≡ Some m) × (m.state ≡ st e) × (above e ≡ Some (group_of b e))
member-at above st b e at ne =
    let m = stands-there (placed b (group_of b e) e) (st e) ne (at.are e) in
    (m.0, m.1, m.2, at.places.known (group_of b e) e (ap is_some m.1))

-- one entity changes its state
pub move-at : (above : ℕ → Option ℕ) (levels : Levels above) (st : ℕ → State) (b : Bfq) (k g : ℕ) (new : Member) → At above st b → above k ≡ Some g → At above (put st k new.state) (put_member g k new b)
move-at above levels st b k g new at up =
    let c : Bfq = put_member g k new b in
    let within = levels.inside k g up in
    let small : k < 48 = within.0 in
    let len : length (places_of b g) ≡ 48 = at.places.lengths g within.1 in
    let room : k < length (places_of b g) = omega (arith, small, len) in
    let now : placed c g k ≡ Some new = placed-here b g k (Some new) room in
    record {
      parents = at.parents;
      places = record {
        known = λ j e there. elim (cases_eq e k) [
          | inl same ↦ elim (cases_eq j g) [
            | inl its ↦ ap above same ∙ up ∙ ap (λ i. Some i) (sym its)
            | inr other ↦ at.places.known j e (ap is_some (sym (placed-elsewhere b g k (Some new) j e other)) ∙ there)
          ]
          | inr other ↦ at.places.known j e (ap is_some (sym (placed-other b g k (Some new) j e other)) ∙ there)
        ];
        there = λ j e is. elim (cases_eq e k) [
          | inl same ↦
              let its : j ≡ g = some_is j g (sym is ∙ ap above same ∙ up) in
              ap (λ i. is_some (placed c i e)) its ∙ ap (λ x. is_some (placed c g x)) same ∙ ap is_some now
          | inr other ↦ ap is_some (placed-other b g k (Some new) j e other) ∙ at.places.there j e is
        ];
        lengths = λ j lt. length-member b g k (Some new) j ∙ at.places.lengths j lt;
      };
      are = λ e. elim (cases_eq e k) [
        | inl same ↦
            let here : state c k ≡ new.state =
            ap (λ o. (unwrap_or (placed c (unwrap_or o 0) k) absent).state) (parent-at above st b k at ∙ up) ∙ ap (λ o. (unwrap_or o absent).state) now in
            ap (state c) same ∙ here ∙ sym (put_here st k new.state e same)
        | inr other ↦ ap (λ o. (unwrap_or o absent).state) (placed-other b g k (Some new) (group_of b e) e other) ∙ at.are e ∙ sym (put_other st k new.state e other)
      ];
    }

pub own-at : (above : ℕ → Option ℕ) (levels : Levels above) (st : ℕ → State) (b : Bfq) (k g : ℕ) (new : Member) → At above st b → above k ≡ Some g
    → At above (put st k new.state) (put_member (group_of b k) k new b)
own-at above levels st b k g new at up = move-at above levels st b k (group_of b k) new at (up ∙ ap (λ j. Some j) (sym (group-at above st b k g at up)))

-- stamping
pub stamp-at : (above : ℕ → Option ℕ) (levels : Levels above) (st : ℕ → State) (start k g : ℕ) (b c : Bfq) → At above st b → above k ≡ Some g → stamp start k b ≡ Some c → At above (put st k Active) c
stamp-at above levels st start k g b c at up e =
    let made = unrefused (nat_le (finish_from start k b) top) (stamped start k b) c e in
    subst (At above (put st k Active)) made.1 (own-at above levels st b k g _ at up)

-- virtual times are other ones
pub vtime-at : (above : ℕ → Option ℕ) (st : ℕ → State) (b : Bfq) (g : ℕ) (vtimes : Vtimes) → At above st b → At above st (put_vtimes g vtimes b)
vtime-at above st b g vtimes at = record {
  parents = at.parents;
  places = record {
    known = λ j e there. at.places.known j e (ap is_some (sym (placed-vtime b g vtimes j e)) ∙ there);
    there = λ j e is. ap is_some (placed-vtime b g vtimes j e) ∙ at.places.there j e is;
    lengths = λ j lt. ap length (places-vtime b g vtimes j) ∙ at.places.lengths j lt;
  };
  are = λ e. ap (λ o. (unwrap_or o absent).state) (placed-vtime b g vtimes (group_of b e) e) ∙ at.are e;
}
