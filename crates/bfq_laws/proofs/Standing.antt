-- A new entity, or a group that goes, leaves waiting as it was in all groups.
use Rattle.std.proofs.Common.{true, false, Bool, ◌≡◌, ◌≢◌, ◌⊎◌, inl, inr, ℕ, zero, suc, ◌+◌, ◌<◌, ◌≤◌, nat_le, not, ◌==◌, eq-eqb, ne_eqb, List, [], ◌∷◌, length, Option, Some, None, is_some, unwrap_or, cond, refl, sym, ap, ◌∙◌, subst, arith}
use Rattle.std.specs.List.{find}
use Rattle.std.proofs.lemmas.Bool.{cases_eq, cond-true, cond-false, leb-false}
use Rattle.sector_core.specs.declared.class.Class.{Class}
use Rattle.sector_core.specs.declared.class.Class.TheVariants.{BestEffort}
use Rattle.plain.specs.declared.member.Member.{Member}
use Rattle.plain.specs.declared.member.State.{State}
use Rattle.plain.specs.declared.member.State.TheVariants.{Idle, Active, Serving}
use Rattle.plain.specs.Lists.{numbers}
use Rattle.plain.specs.Groups.{has_entity, entity_of, climb, most_levels, path, depth}
use Rattle.plain.specs.declared.seat.InService.{InService}
use Rattle.plain.specs.Machine.{Bfq, put}
use Rattle.plain.specs.Rules.{absent, group_of, is_idle, stands}
use Rattle.plain.specs.Opening.{Limits}
use Rattle.plain.specs.Entities.{with_entity, without_entity}
use Rattle.plain.specs.Steps.GroupMake.{free_group}
use Rattle.plain.specs.Steps.GroupDrop.{is_in, is_used}
use Rattle.plain_laws.proofs.Puts.{put_here, put_other, put_cases, some_is}
use Rattle.plain_laws.proofs.Leads.{made}
use Rattle.plain_laws.proofs.Placed.{placed, placed-here, placed-elsewhere, placed-other, length-member, places_of}
use Rattle.bfq_laws.proofs.Puts.{find-within}
use Rattle.bfq_laws.proofs.Busy.{stood}
use Rattle.bfq_laws.proofs.Shape.{In, Levels, Stands, stands-low, has-entity, climbing, climb-has, At, state, parent-at, group-at, member-at, vtime-at}
use Rattle.bfq_laws.proofs.Upcoming.{some_of, passes-of, was-false}
use Rattle.bfq_laws.proofs.Alive.{Alive, put-was}
use Rattle.plain.specs.Classes.{same_times}

-- the way up is as it was where the groups on it are in those they were in
climb-same : (above after : ℕ → Option ℕ) → ((e j : ℕ) → above e ≡ Some j → j ≢ 0 → after (16 + j) ≡ above (16 + j)) → (n : ℕ) (o : Option ℕ)
    → ((j : ℕ) → o ≡ Some j → j ≢ 0 → after (16 + j) ≡ above (16 + j)) → climb n after o ≡ climb n above o
unfolding climb
climb-same above after agree zero o here = refl
climb-same above after agree (suc n) None here = refl
climb-same above after agree (suc n) (Some g) here =
    elim (cases_eq g 0) [
      | inl z ↦ subst (λ j. climb (suc n) after (Some j) ≡ climb (suc n) above (Some j)) (sym z) refl
      | inr ne ↦
          let k : ℕ = entity_of g in
          let same : after k ≡ above k = here g refl ne in
          let rest : climb n after (above k) ≡ climb n above (above k) = climb-same above after agree n (above k) (agree k) in
          let both : climb n after (after k) ≡ climb n above (above k) = ap (λ o. climb n after o) same ∙ rest in
          ap (λ (xs : List ℕ). cond (has_entity g) (k ∷ xs) []) both
    ]

path-same : (above after : ℕ → Option ℕ) → ((e j : ℕ) → above e ≡ Some j → j ≢ 0 → after (16 + j) ≡ above (16 + j)) → (s : ℕ) → after s ≡ above s → path after s ≡ path above s
path-same above after agree s same =
    ap (λ o. s ∷ climb most_levels after o) same ∙ ap (λ (xs : List ℕ). s ∷ xs) (climb-same above after agree most_levels (above s) (agree s))

idle_or : (s : State) → (s ≡ Idle) ⊎ (s ≢ Idle)
idle_or Idle = inl refl
idle_or Active = inr (λ e. cc)
idle_or Serving = inr (λ e. cc)

-- who is in no group's tree is idle
nowhere-idle : (above : ℕ → Option ℕ) (st : ℕ → State) (b : Bfq) (k : ℕ) → At above st b → ((j : ℕ) → is_some (placed b j k) ≡ true → ⊥) → st k ≡ Idle
nowhere-idle above st b k at nowhere = elim (idle_or (st k)) [
  | inl rests ↦ rests
  | inr ne ↦ let m = member-at above st b k at ne in absurd (nowhere (group_of b k) (ap is_some m.1))
]

-- a new entity
enters-at : (l : Limits) (above : ℕ → Option ℕ) (st : ℕ → State) (b : Bfq) (k g : ℕ) (class : Class) (weight : ℕ) → At above st b → k < 48 → g < 32 → ((j : ℕ) → is_some (placed b j k) ≡ true → ⊥)
    → At (put above k (Some g)) st (with_entity l k g class weight b)
enters-at l above st b k g class weight at small low nowhere =
    let c : Bfq = with_entity l k g class weight b in
    let len : length (places_of b g) ≡ 48 = at.places.lengths g low in
    let room : k < length (places_of b g) = omega (arith, small, len) in
    let rests : st k ≡ Idle = nowhere-idle above st b k at nowhere in
    record {
      parents = ap (λ (f : ℕ → Option ℕ). put f k (Some g)) at.parents;
      places = record {
        known = λ j e there. elim (cases_eq e k) [
          | inl same ↦ elim (cases_eq j g) [
            | inl its ↦ put_here above k (Some g) e same ∙ ap (λ i. Some i) (sym its)
            | inr other ↦ absurd (nowhere j (ap (λ x. is_some (placed b j x)) (sym same) ∙ ap is_some (sym (placed-elsewhere b g _ _ j e other)) ∙ there))
          ]
          | inr other ↦ put_other above k (Some g) e other ∙ at.places.known j e (ap is_some (sym (placed-other b g k _ j e other)) ∙ there)
        ];
        there = λ j e is. elim (put_cases above k (Some g) e (Some j) is) [
          | inl x ↦
              let its : g ≡ j = some_is g j x.1 in
              ap (λ i. is_some (placed c i e)) (sym its) ∙ ap (λ y. is_some (placed c g y)) x.0 ∙ ap is_some (placed-here b g k _ room)
          | inr x ↦ ap is_some (placed-other b g k _ j e x.0) ∙ at.places.there j e x.1
        ];
        lengths = λ j lt. length-member b g k _ j ∙ at.places.lengths j lt;
      };
      are = λ e. elim (cases_eq e k) [
        | inl same ↦
            let here : state c k ≡ Idle =
            ap (λ o. (unwrap_or (placed c (unwrap_or o 0) k) absent).state) (put_here b.parent k (Some g) k refl) ∙ ap (λ o. (unwrap_or o absent).state) (placed-here b g k _ room) in
            ap (state c) same ∙ here ∙ sym rests ∙ ap st (sym same)
        | inr other ↦
            ap (λ o. (unwrap_or (placed c (unwrap_or o 0) e) absent).state) (put_other b.parent k (Some g) e other)
            ∙ ap (λ o. (unwrap_or o absent).state) (placed-other b g k _ (group_of b e) e other) ∙ at.are e
      ];
    }

enters-alive : (l : Limits) (b : Bfq) (h : Alive b) (k g : ℕ) (class : Class) (weight : ℕ) → k < 48 → g < 32 → ((j : ℕ) → is_some (placed b j k) ≡ true → ⊥) → Levels (put h.above k (Some g))
    → ((e j : ℕ) → h.above e ≡ Some j → j ≢ 0 → 16 + j ≢ k) → ((slot : InService) → b.in_service ≡ Some slot → slot.seat ≢ k) → Alive (with_entity l k g class weight b)
enters-alive l b h k g class weight small low nowhere levels apart away =
    let after : ℕ → Option ℕ = put h.above k (Some g) in
    let at : At after h.st (with_entity l k g class weight b) = enters-at l h.above h.st b k g class weight h.at small low nowhere in
    let rests : h.st k ≡ Idle = nowhere-idle h.above h.st b k h.at nowhere in
    let agree : (e j : ℕ) → h.above e ≡ Some j → j ≢ 0 → after (16 + j) ≡ h.above (16 + j) = λ e j is nz. put_other h.above k (Some g) (16 + j) (apart e j is nz) in
    record {
      above = after;
      st = h.st;
      levels = levels;
      at = at;
      up = λ e j is awake nz _.
          let other : e ≢ k = λ same. let no : is_idle (h.st e) ≡ true = ap (λ x. is_idle (h.st x)) same ∙ ap is_idle rests in cc in
          h.up e j (sym (put_other h.above k (Some g) e other) ∙ is) awake nz nz;
      down = λ j act nz _.
          let has = h.down j act nz nz in
          let other : has.0 ≢ k = λ same. let bad : Active ≡ Idle = sym has.2 ∙ ap h.st same ∙ rests in cc in
          (has.0, put_other h.above k (Some g) has.0 other ∙ has.1, has.2);
      serving = λ e s.
          let on = h.serving e s in
          let same : path after on.0.seat ≡ path h.above on.0.seat = path-same h.above after agree on.0.seat (put_other h.above k (Some g) on.0.seat (away on.0 on.1)) in
          (on.0, on.1, subst (In e) (sym same) on.2);
      served = λ slot is e on.
          let same : path after slot.seat ≡ path h.above slot.seat = path-same h.above after agree slot.seat (put_other h.above k (Some g) slot.seat (away slot is)) in
          h.served slot is e (subst (In e) same on);
    }

-- a group that stands has an entity, but the root
stands-test : (b : Bfq) (g : ℕ) → g < 32 → g ≢ 0 → stands b g ≡ is_some (b.parent (16 + g))
stands-test b g lt ne =
    let rest : Bool = cond (has_entity g) (is_some (b.parent (16 + g))) false in
    cond-false (g == 0) true rest (ne_eqb g 0 ne) ∙ cond-true (has_entity g) (is_some (b.parent (16 + g))) false (has-entity g lt ne)

stands-is : (b : Bfq) (h : Alive b) (g : ℕ) → stands b g ≡ true → Stands h.above g
stands-is b h g e =
    let lt : g < 32 = stood b g e in
    (lt, λ ne. some_of (h.above (16 + g)) (ap is_some (sym (parent-at h.above h.st b (16 + g) h.at)) ∙ sym (stands-test b g lt ne) ∙ e))

-- a session's entity is new
pub session-alive : (l : Limits) (b : Bfq) (k g : ℕ) (class : Class) (weight : ℕ) → k < 16 → stands b g ≡ true → ((j : ℕ) → is_some (placed b j k) ≡ true → ⊥) → ((slot : InService) → b.in_service ≡ Some slot → slot.seat ≢ k)
    → Alive b → Alive (with_entity l k g class weight b)
session-alive l b k g class weight small stand nowhere away h =
    let above : ℕ → Option ℕ = h.above in
    let after : ℕ → Option ℕ = put above k (Some g) in
    let stands : Stands above g = stands-is b h g stand in
    let far : (j : ℕ) → 16 + j ≢ k = λ j same. absurd (omega (arith, same, small)) in
    let kept : (j : ℕ) → after (16 + j) ≡ above (16 + j) = λ j. put_other above k (Some g) (16 + j) (far j) in
    let levels : Levels after = record {
      inside = λ e j is. elim (put_cases above k (Some g) e (Some j) is) [
        | inl x ↦ let its : g ≡ j = some_is g j x.1 in let low : g < 32 = stands.0 in let same : e ≡ k = x.0 in (omega (arith, same, small), omega (arith, its, low))
        | inr x ↦ h.levels.inside e j x.1
      ];
      stood = λ e j is nz. elim (put_cases above k (Some g) e (Some j) is) [
        | inl x ↦
            let its : g ≡ j = some_is g j x.1 in
            let p = stands.1 (λ z. nz (sym its ∙ z)) in
            (p.0, kept j ∙ ap (λ i. above (16 + i)) (sym its) ∙ p.1)
        | inr x ↦ let p = h.levels.stood e j x.1 nz in (p.0, kept j ∙ p.1)
      ];
      level = h.levels.level;
      root = h.levels.root;
      rises = λ j i is. h.levels.rises j i (sym (kept j) ∙ is);
    } in
    let low : k < 48 = omega (arith, small) in
    enters-alive l b h k g class weight low stands.0 nowhere levels (λ e j is nz. far j) away

-- where nobody is found nobody passes
find-none : (passes : ℕ → Bool) (from count e : ℕ) → is_some (find passes (numbers from count)) ≡ false → from ≤ e → e < from + count → passes e ≡ false
find-none passes from zero e none low high = absurd (omega (arith, low, high))
find-none passes from (suc count) e none low high =
    elim (passes from) as (λ t. passes from ≡ t → is_some (cond t (Some from) (find passes (numbers (from + 1) count))) ≡ false → passes e ≡ false) [
      | true ↦ λ _ f. cc
      | false ↦ λ no f. elim (cases_eq e from) [
        | inl same ↦ ap passes same ∙ no
        | inr other ↦ find-none passes (from + 1) count e f (omega (arith, low, other)) (omega (arith, high))
      ]
    ] refl none

none_of : (o : Option ℕ) → is_some o ≡ false → o ≡ None
none_of None e = refl
none_of (Some v) e = cc

-- a group is made under its parent
pub made-alive : (l : Limits) (b : Bfq) (q p weight : ℕ) → stands b p ≡ true → nat_le most_levels (depth b.parent p) ≡ false → free_group b ≡ Some q → ((slot : InService) → b.in_service ≡ Some slot → slot.seat < 16)
    → Alive b → Alive (made l q p weight b)
made-alive l b q p weight stand shallow free low_slot h =
    let above : ℕ → Option ℕ = h.above in
    let k : ℕ = 16 + q in
    let after : ℕ → Option ℕ = put above k (Some p) in
    let up : Stands above p = stands-is b h p stand in
    let level : ℕ → ℕ = h.levels.level in
    let within = find-within (λ group. not (stands b group)) 1 31 q free in
    let first : 1 ≤ q = within.0 in
    let last : q < 1 + 31 = within.1 in
    let low : q < 32 = omega (arith, last) in
    let nz : q ≢ 0 = λ z. absurd (omega (arith, z, first)) in
    let no : stands b q ≡ false = was-false (stands b q) (passes-of (λ group. not (stands b group)) (numbers 1 31) q free) in
    let none : above k ≡ None = none_of (above k) (ap is_some (sym (parent-at above h.st b k h.at)) ∙ sym (stands-test b q low nz) ∙ no) in
    -- nobody is in it
    let unused : (e j : ℕ) → above e ≡ Some j → j ≢ q = λ e j is same.
    let s = h.levels.stood e j is (λ z. nz (sym same ∙ z)) in
    let bad : Some s.0 ≡ None = sym s.1 ∙ ap (λ x. above (16 + x)) same ∙ none in cc in
    let other_p : p ≢ q = λ same. let s = up.1 (λ z. nz (sym same ∙ z)) in let bad : Some s.0 ≡ None = sym s.1 ∙ ap (λ x. above (16 + x)) same ∙ none in cc in
    let far : (j : ℕ) → j ≢ q → 16 + j ≢ k = λ j ne same. ne (omega (arith, same)) in
    let deep : length (climb most_levels above (Some p)) ≡ level p =
    climbing above h.levels (λ g (ways : List ℕ). length ways ≡ level g) (sym h.levels.root) (λ g i ways ne lt parent more. ap suc more ∙ sym (h.levels.rises g i parent).0) 4 p (stands-low above h.levels p up) up in
    let few : depth b.parent p < 4 = leb-false 4 (depth b.parent p) shallow in
    let same : depth b.parent p ≡ level p = ap (λ (f : ℕ → Option ℕ). depth f p) h.at.parents ∙ deep in
    let room : level p < 4 = omega (arith, few, same) in
    let next : ℕ → ℕ = put level q (suc (level p)) in
    let levels : Levels after = record {
      inside = λ e j is. elim (put_cases above k (Some p) e (Some j) is) [
        | inl x ↦ let its : p ≡ j = some_is p j x.1 in let lt : p < 32 = up.0 in let one : e ≡ 16 + q = x.0 in (omega (arith, one, low), omega (arith, its, lt))
        | inr x ↦ h.levels.inside e j x.1
      ];
      stood = λ e j is nj. elim (put_cases above k (Some p) e (Some j) is) [
        | inl x ↦
            let its : p ≡ j = some_is p j x.1 in
            let s = up.1 (λ z. nj (sym its ∙ z)) in
            (s.0, put_other above k (Some p) (16 + j) (far j (λ z. other_p (its ∙ z))) ∙ ap (λ i. above (16 + i)) (sym its) ∙ s.1)
        | inr x ↦ let s = h.levels.stood e j x.1 nj in (s.0, put_other above k (Some p) (16 + j) (far j (unused e j x.1)) ∙ s.1)
      ];
      level = next;
      root = put_other level q (suc (level p)) 0 (λ z. nz (sym z)) ∙ h.levels.root;
      rises = λ j i is. elim (put_cases above k (Some p) (16 + j) (Some i) is) [
        | inl x ↦
            let one : j ≡ q = let two : 16 + j ≡ 16 + q = x.0 in omega (arith, two) in
            let its : p ≡ i = some_is p i x.1 in
            let now : next j ≡ suc (level p) = put_here level q (suc (level p)) j one in
            let before : next i ≡ level p = put_other level q (suc (level p)) i (λ z. other_p (its ∙ z)) ∙ ap level (sym its) in
            (omega (arith, now, before), omega (arith, now, room))
        | inr x ↦
            let r = h.levels.rises j i x.1 in
            let r0 : level j ≡ suc (level i) = r.0 in
            let r1 : level j ≤ 4 = r.1 in
            let now : next j ≡ level j = put_other level q (suc (level p)) j (λ z. x.0 (ap (λ y. 16 + y) z)) in
            let before : next i ≡ level i = put_other level q (suc (level p)) i (unused (16 + j) i x.1) in
            (omega (arith, now, before, r0), omega (arith, now, r1))
      ];
    } in
    let lt : k < 48 = omega (arith, low) in
    let in_it : Alive (with_entity l k p BestEffort weight b) =
    enters-alive l b h k p BestEffort weight lt up.0 (λ j there. let bad : Some j ≡ None = sym (h.at.places.known j k there) ∙ none in cc) levels (λ e j is _. far j (unused e j is))
    (λ slot is its. let small : slot.seat < 16 = low_slot slot is in absurd (omega (arith, its, small))) in
    record {
      above = in_it.above;
      st = in_it.st;
      levels = in_it.levels;
      at = vtime-at in_it.above in_it.st (with_entity l k p BestEffort weight b) q (same_times l.first_vtime) in_it.at;
      up = in_it.up;
      down = in_it.down;
      serving = in_it.serving;
      served = in_it.served;
    }

nobody-idle : (o : Option Member) → (is_some o ≡ true → ⊥) → (unwrap_or o absent).state ≡ Idle
nobody-idle None absent_one = refl
nobody-idle (Some m) absent_one = absurd (absent_one refl)

-- an entity goes that is no active one, and in whose group, if it is one, nobody is
gone-alive : (b : Bfq) (h : Alive b) (k up : ℕ) → h.above k ≡ Some up → ((e j : ℕ) → h.above e ≡ Some j → 16 + j ≢ k) → h.st k ≢ Active → ((slot : InService) → b.in_service ≡ Some slot → slot.seat ≢ k)
    → Alive (without_entity k b)
gone-alive b h k up above_k unused rests away =
    let above : ℕ → Option ℕ = h.above in
    let st : ℕ → State = h.st in
    let c : Bfq = without_entity k b in
    let g : ℕ = group_of b k in
    let after : ℕ → Option ℕ = put above k None in
    let now : ℕ → State = put st k Idle in
    let parent : above k ≡ Some g = above_k ∙ ap (λ j. Some j) (sym (group-at above st b k up h.at above_k)) in
    let within = h.levels.inside k g parent in
    let small : k < 48 = within.0 in
    let len : length (places_of b g) ≡ 48 = h.at.places.lengths g within.1 in
    let room : k < length (places_of b g) = omega (arith, small, len) in
    let missing : (j : ℕ) → is_some (placed c j k) ≡ true → ⊥ = λ j there. elim (cases_eq j g) [
      | inl its ↦ let no : is_some (placed c j k) ≡ false = ap (λ i. is_some (placed c i k)) its ∙ ap is_some (placed-here b g k None room) in cc
      | inr other ↦
          let was : above k ≡ Some j = h.at.places.known j k (ap is_some (sym (placed-elsewhere b g _ _ j k other)) ∙ there) in
          absurd (other (some_is j g (sym was ∙ parent)))
    ] in
    let before : (e j : ℕ) → after e ≡ Some j → (e ≢ k) × (above e ≡ Some j) = λ e j is. elim (put_cases above k None e (Some j) is) [
      | inl x ↦ let bad : None ≡ Some j = x.1 in cc
      | inr x ↦ x
    ] in
    let at : At after now c = record {
      parents = ap (λ (f : ℕ → Option ℕ). put f k None) h.at.parents;
      places = record {
        known = λ j e there. elim (cases_eq e k) [
          | inl same ↦ absurd (missing j (ap (λ x. is_some (placed c j x)) (sym same) ∙ there))
          | inr other ↦ put_other above k None e other ∙ h.at.places.known j e (ap is_some (sym (placed-other b g k None j e other)) ∙ there)
        ];
        there = λ j e is. let was = before e j is in ap is_some (placed-other b g k None j e was.0) ∙ h.at.places.there j e was.1;
        lengths = λ j lt. length-member b g k None j ∙ h.at.places.lengths j lt;
      };
      are = λ e. elim (cases_eq e k) [
        | inl same ↦ ap (state c) same ∙ nobody-idle (placed c (group_of c k) k) (missing (group_of c k)) ∙ sym (put_here st k Idle e same)
        | inr other ↦
            ap (λ o. (unwrap_or (placed c (unwrap_or o 0) e) absent).state) (put_other b.parent k None e other)
            ∙ ap (λ o. (unwrap_or o absent).state) (placed-other b g k None (group_of b e) e other) ∙ h.at.are e ∙ sym (put_other st k Idle e other)
      ];
    } in
    let agree : (e j : ℕ) → above e ≡ Some j → j ≢ 0 → after (16 + j) ≡ above (16 + j) = λ e j is _. put_other above k None (16 + j) (unused e j is) in
    record {
      above = after;
      st = now;
      levels = record {
        inside = λ e j is. h.levels.inside e j (before e j is).1;
        stood = λ e j is nj.
            let was : above e ≡ Some j = (before e j is).1 in
            let s = h.levels.stood e j was nj in
            (s.0, agree e j was nj ∙ s.1);
        level = h.levels.level;
        root = h.levels.root;
        rises = λ j i is. h.levels.rises j i (before (16 + j) i is).1;
      };
      at = at;
      up = λ e j is awake nj _.
          let was = before e j is in
          ap is_idle (put_other st k Idle (16 + j) (unused e j was.1)) ∙ h.up e j was.1 (ap is_idle (sym (put_other st k Idle e was.0)) ∙ awake) nj nj;
      down = λ j act nj _.
          let was = put-was st k (16 + j) Idle Active (λ x. cc) act in
          let has = h.down j was.1 nj nj in
          let other : has.0 ≢ k = λ same. rests (ap st (sym same) ∙ has.2) in
          (has.0, put_other above k None has.0 other ∙ has.1, put_other st k Idle has.0 other ∙ has.2);
      serving = λ e s.
          let was = put-was st k e Idle Serving (λ x. cc) s in
          let on = h.serving e was.1 in
          let same : path after on.0.seat ≡ path above on.0.seat = path-same above after agree on.0.seat (put_other above k None on.0.seat (away on.0 on.1)) in
          (on.0, on.1, subst (In e) (sym same) on.2);
      served = λ slot is e on.
          let same : path after slot.seat ≡ path above slot.seat = path-same above after agree slot.seat (put_other above k None slot.seat (away slot is)) in
          let way : In e (path above slot.seat) = subst (In e) same on in
          let other : e ≢ k = λ its. elim way [
            | inl one ↦ away slot is (sym one ∙ its)
            | inr later ↦ let has = climb-has above most_levels slot.seat (above slot.seat) e refl later in unused has.0 has.1 has.2 (has.3 ∙ its)
          ] in
          put_other st k Idle e other ∙ h.served slot is e way;
    }

-- a group in which nobody is goes
pub dropped-alive : (b : Bfq) (q : ℕ) → stands b q ≡ true → (q == 0) ≡ false → is_used b q ≡ false → ((slot : InService) → b.in_service ≡ Some slot → slot.seat < 16) → Alive b → Alive (without_entity (entity_of q) b)
dropped-alive b q stand not_root not_used low_slot h =
    let above : ℕ → Option ℕ = h.above in
    let nz : q ≢ 0 = λ z. let yes_root : (q == 0) ≡ true = eq-eqb q 0 z in cc in
    let p = (stands-is b h q stand).1 nz in
    let unused : (e j : ℕ) → above e ≡ Some j → j ≢ q = λ e j is same.
    let lt : e < 48 = (h.levels.inside e j is).0 in
    let out : is_in q (b.parent e) ≡ false = find-none (λ entity. is_in q (b.parent entity)) 0 48 e not_used (omega arith) (omega (arith, lt)) in
    let within : is_in q (b.parent e) ≡ true = ap (is_in q) (parent-at above h.st b e h.at ∙ is) ∙ eq-eqb j q same in cc in
    gone-alive b h (16 + q) p.0 p.1 (λ e j is same. unused e j is (omega (arith, same))) (λ act. let deeper = h.down q act nz nz in unused deeper.0 q deeper.1 refl)
    (λ slot is its. let lt : slot.seat < 16 = low_slot slot is in absurd (omega (arith, its, lt)))

idle-rests : (s : State) → is_idle s ≡ true → s ≢ Active
idle-rests Idle e = λ f. cc
idle-rests Active e = cc
idle-rests Serving e = cc

-- a session goes, whose entity is idle
pub left-alive : (b : Bfq) (k g : ℕ) → k < 16 → b.parent k ≡ Some g → is_idle (state b k) ≡ true → ((slot : InService) → b.in_service ≡ Some slot → slot.seat ≢ k) → Alive b → Alive (without_entity k b)
left-alive b k g small parent rests away h =
    gone-alive b h k g (sym (parent-at h.above h.st b k h.at) ∙ parent) (λ e j is same. absurd (omega (arith, same, small))) (idle-rests (h.st k) (ap is_idle (sym (h.at.are k)) ∙ rests)) away
