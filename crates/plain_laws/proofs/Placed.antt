-- What stands at an entity's place in a group's tree, after a member or a virtual time has been put there.
use Rattle.std.proofs.Common.{◌≡◌, ◌≢◌, ◌⊎◌, inl, inr, ℕ, zero, suc, ◌<◌, List, [], ◌∷◌, length, Option, None, slice_index_or, slice_set, refl, sym, ap, ◌∙◌}
use Rattle.std.proofs.lemmas.Bool.{cases_eq}
use Rattle.std.proofs.lemmas.List.{get_or-set_same, get_or-set_other, length-set}
use Rattle.sector_core.specs.declared.class.Class.{Class}
use Rattle.plain.specs.declared.member.Member.{Member}
use Rattle.plain.specs.Members.{least_start}
use Rattle.plain.specs.declared.member.Vtimes.{Vtimes}
use Rattle.plain.specs.Classes.{Classes, with_member, with_vtimes}
use Rattle.plain.specs.Machine.{Bfq, put}
use Rattle.plain.specs.Rules.{put_vtimes, service_in}
use Rattle.plain_laws.proofs.Puts.{put_here, put_other}

-- the places of a group's tree
abbrev pub places_of : Bfq → ℕ → List (Option Member)
places_of b group = (b.service group).members

-- what stands at an entity's place in a group's tree
abbrev pub placed : Bfq → ℕ → ℕ → Option Member
placed b group entity = slice_index_or (places_of b group) entity None

-- the least start in a class of a group (B-WF2Q+)
abbrev pub least_of : Bfq → ℕ → Class → Option ℕ
least_of b group class = least_start (service_in b group class).members

-- this at an entity's place in a group's tree: a member, or none
abbrev pub put_place : ℕ → ℕ → Option Member → Bfq → Bfq
put_place group entity place b = record b { service = put b.service group (with_member (b.service group) entity place) }

-- the places of a group, after a tree is put
places-here : (b : Bfq) (group : ℕ) (tree : Classes) (g : ℕ) → g ≡ group → places_of (record b { service = put b.service group tree }) g ≡ tree.members
places-here b group tree g same = ap (λ (t : Classes). t.members) (put_here b.service group tree g same)

places-other : (b : Bfq) (group : ℕ) (tree : Classes) (g : ℕ) → g ≢ group → places_of (record b { service = put b.service group tree }) g ≡ places_of b g
places-other b group tree g other = ap (λ (t : Classes). t.members) (put_other b.service group tree g other)

pub placed-elsewhere : (b : Bfq) (group k : ℕ) (new : Option Member) (g e : ℕ) → g ≢ group → placed (put_place group k new b) g e ≡ placed b g e
placed-elsewhere b group k new g e other = ap (λ xs. slice_index_or xs e None) (places-other b group (with_member (b.service group) k new) g other)

pub placed-other : (b : Bfq) (group k : ℕ) (new : Option Member) (g e : ℕ) → e ≢ k → placed (put_place group k new b) g e ≡ placed b g e
placed-other b group k new g e ne = elim (cases_eq g group) [
  | inl same ↦
      let kept : slice_index_or (slice_set (places_of b group) k new) e None ≡ placed b group e = get_or-set_other (places_of b group) k e new None ne in
      ap (λ xs. slice_index_or xs e None) (places-here b group (with_member (b.service group) k new) g same) ∙ kept ∙ ap (λ j. placed b j e) (sym same)
  | inr other ↦ placed-elsewhere b group k new g e other
]

pub placed-here : (b : Bfq) (group k : ℕ) (new : Option Member) → k < length (places_of b group) → placed (put_place group k new b) group k ≡ new
placed-here b group k new lt =
    ap (λ xs. slice_index_or xs k None) (places-here b group (with_member (b.service group) k new) group refl) ∙ get_or-set_same (places_of b group) k new None lt

-- a place of a list that is written has what is written or what it had
set-either : (xs : List (Option Member)) (i : ℕ) (new : Option Member) (j : ℕ) → (slice_index_or (slice_set xs i new) j None ≡ new) ⊎ (slice_index_or (slice_set xs i new) j None ≡ slice_index_or xs j None)
set-either [] i new j = inr refl
set-either (x ∷ xs) zero new zero = inl refl
set-either (x ∷ xs) zero new (suc j) = inr refl
set-either (x ∷ xs) (suc i) new zero = inr refl
set-either (x ∷ xs) (suc i) new (suc j) = set-either xs i new j

pub placed-either : (b : Bfq) (group k : ℕ) (new : Option Member) (g e : ℕ) → (placed (put_place group k new b) g e ≡ new) ⊎ (placed (put_place group k new b) g e ≡ placed b g e)
placed-either b group k new g e = elim (cases_eq g group) [
  | inl same ↦
      let now : placed (put_place group k new b) g e ≡ slice_index_or (slice_set (places_of b group) k new) e None =
      ap (λ xs. slice_index_or xs e None) (places-here b group (with_member (b.service group) k new) g same) in
      elim (set-either (places_of b group) k new e) [
        | inl is ↦ inl (now ∙ is)
        | inr is ↦ inr (now ∙ is ∙ ap (λ j. placed b j e) (sym same))
      ]
  | inr other ↦ inr (placed-elsewhere b group k new g e other)
]

pub length-member : (b : Bfq) (group k : ℕ) (new : Option Member) (g : ℕ) → length (places_of (put_place group k new b) g) ≡ length (places_of b g)
length-member b group k new g = elim (cases_eq g group) [
  | inl same ↦ ap length (places-here b group (with_member (b.service group) k new) g same) ∙ length-set (places_of b group) k new ∙ ap (λ j. length (places_of b j)) (sym same)
  | inr other ↦ ap length (places-other b group (with_member (b.service group) k new) g other)
]

-- other virtual times leave the places
pub places-vtime : (b : Bfq) (group : ℕ) (vtimes : Vtimes) (g : ℕ) → places_of (put_vtimes group vtimes b) g ≡ places_of b g
places-vtime b group vtimes g = elim (cases_eq g group) [
  | inl same ↦ places-here b group (with_vtimes (b.service group) vtimes) g same ∙ ap (places_of b) (sym same)
  | inr other ↦ places-other b group (with_vtimes (b.service group) vtimes) g other
]

pub placed-vtime : (b : Bfq) (group : ℕ) (vtimes : Vtimes) (g e : ℕ) → placed (put_vtimes group vtimes b) g e ≡ placed b g e
placed-vtime b group vtimes g e = ap (λ xs. slice_index_or xs e None) (places-vtime b group vtimes g)

-- the same trees have the same places
pub placed-same : (b c : Bfq) → c.service ≡ b.service → (g e : ℕ) → placed c g e ≡ placed b g e
placed-same b c same g e = ap (λ (f : ℕ → Classes). slice_index_or (f g).members e None) same
