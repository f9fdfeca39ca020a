-- The children of the groups after an entity went out of one or into one.
use Rattle.std.proofs.Common.{◌≡◌, ◌≢◌, ℕ, zero, suc, ◌+◌, ◌<◌, ◌≤◌, ◌==◌, nat_lt, List, [], ◌∷◌, ◌++◌, length, get_or, set, replicate, Bool, true, false, cond, Option, Some, None, MatchOption, inl, inr, refl, sym, ap, ◌∙◌, subst, arith, ne_eqb, ltb-true, ltb-false, get_or-set_other, get_or-set_same}
use Rattle.std.proofs.lemmas.List.{length-set, length-replicate, set-set}
use Rattle.std.proofs.lemmas.Bool.{cases_eq, cond-false}
use Rattle.linked_rows.specs.declared.Sides.{Sides}
use Rattle.linked_rows.specs.declared.Ends.{Ends}
use Rattle.linked_rows.specs.Chains.{side_at, ends_at, alone, nobody, row_behind, cut_sides, cut_ends, spliced_sides, spliced_ends, first_or, IsChain, IsList, one_if, times, IsOnce}
use Rattle.linked_rows.proofs.Chains.{one_self, times-append, chain-same, list-cut, list-splice, behind_front, cut-other, splice-other, cut-length, splice-length, cut-ends-other, splice-ends-other, cut-ends-length, splice-ends-length}
use Rattle.plain.specs.Groups.{parent}
use Rattle.group_tree.specs.Children.{linked, left_sides, left_ends, entered_sides, entered_ends, here, Children, IsGroups}

here-self : (g : ℕ) → here g (Some g) ≡ 1
here-self g = one_self g

here-other : (g h : ℕ) → g ≢ h → here h (Some g) ≡ 0
here-other g h ne = cond-false (g == h) _ _ (ne_eqb g h ne)

here-most : (g : ℕ) (o : Option ℕ) → here g o ≤ 1
here-most g None = omega arith
here-most g (Some p) = elim (p == g) as (λ b. cond b 1 0 ≤ 1) [ true ↦ omega arith | false ↦ omega arith ]

-- an entity is in one group at most
apart : (g h : ℕ) (o : Option ℕ) → h ≢ g → 1 ≤ here h o → here g o ≡ 0
apart g h None other le = refl
apart g h (Some p) other le = elim (cases_eq p g) [
  | inl same ↦
      let no : here h (Some p) ≡ 0 = here-other p h (λ (is : p ≡ h). other (sym is ∙ same)) in
      let never : ⊥ = omega (arith, le, no) in absurd never
  | inr ne ↦ here-other p g ne
]

-- a list that has an entity
record Part (e : ℕ) (zs : List ℕ) : Type 0 where
  front : List ℕ
  back : List ℕ
  is : zs ≡ front ++ e ∷ back

part : (e : ℕ) (zs : List ℕ) → 1 ≤ times e zs → Part e zs
part e [] h = absurd (omega arith)
part e (z ∷ zs) h = elim (cases_eq z e) [
  | inl same ↦ record { front = []; back = zs; is = ap (λ (k : ℕ). k ∷ zs) same }
  | inr ne ↦
      let no : one_if z e ≡ 0 = cond-false (z == e) _ _ (ne_eqb z e ne) in
      let p = part e zs (omega (arith, h, no)) in
      record { front = z ∷ p.front; back = p.back; is = ap (λ (l : List ℕ). z ∷ l) p.is }
]

-- the children of a group that no entity goes out of or into
untouched : (h : ℕ) (parents new_parents : List (Option ℕ)) (sides new_sides : List Sides) (ends new_ends : List Ends) → Children h parents sides ends
    → length new_sides ≡ length sides → ends_at new_ends h ≡ ends_at ends h
    → ((i : ℕ) → 1 ≤ here h (get_or parents i None) → side_at new_sides i ≡ side_at sides i)
    → ((i : ℕ) → here h (get_or new_parents i None) ≡ here h (get_or parents i None))
    → Children h new_parents new_sides new_ends
untouched h parents new_parents sides new_sides ends new_ends c len ends_same same counts = record {
  entities = c.entities;
  own = record {
    chain = chain-same sides new_sides c.entities None None len (λ i le. same i (let k = c.counts i in omega (arith, k, le))) c.own.chain;
    ends_are = ends_same ∙ c.own.ends_are;
  };
  counts = λ i. c.counts i ∙ sym (counts i);
}

-- an entity's parent is written
written : (h e : ℕ) (parents : List (Option ℕ)) (o : Option ℕ) → e < length parents → here h (get_or parents e None) ≡ here h o
    → (i : ℕ) → here h (get_or (set parents e o) i None) ≡ here h (get_or parents i None)
written h e parents o lt same i = elim (cases_eq i e) [
  | inl is ↦ subst (λ (k : ℕ). here h (get_or (set parents e o) k None) ≡ here h (get_or parents k None)) (sym is) (ap (here h) (get_or-set_same parents e o None lt) ∙ sym same)
  | inr ne ↦ ap (here h) (get_or-set_other parents e i o None ne)
]

-- an entity goes out of a group
out_of : (g e : ℕ) (parents : List (Option ℕ)) (sides : List Sides) (ends : List Ends) → IsGroups parents sides ends → g < 32 → get_or parents e None ≡ Some g → e < 48
    → IsGroups (set parents e None) (cut_sides sides e) (cut_ends sides ends g e)
out_of g e parents sides ends q small is within =
    let c = q.children g small in
    let lt : e < length parents = (let a = q.places in omega (arith, a, within)) in
    let glt : g < length ends = (let a = q.ends_length in omega (arith, a, small)) in
    let has : here g (get_or parents e None) ≡ 1 = ap (here g) is ∙ here-self g in
    let p = part e c.entities (let k = c.counts e in omega (arith, k, has)) in
    let xs : List ℕ = p.front in
    let ys : List ℕ = p.back in
    let count : (i : ℕ) → times i xs + (one_if e i + times i ys) ≡ here g (get_or parents i None) =
    λ i. (let a = times-append i xs (e ∷ ys) in let b = ap (times i) p.is in let k = c.counts i in omega (arith, a, b, k)) in
    let once : IsOnce (xs ++ e ∷ ys) = λ i. (let a = times-append i xs (e ∷ ys) in let k = count i in let m = here-most g (get_or parents i None) in omega (arith, a, k, m)) in
    let own : IsList sides ends g (xs ++ e ∷ ys) = subst (λ (zs : List ℕ). IsList sides ends g zs) p.is c.own in
    record {
      children = λ h h_small. elim (cases_eq h g) [
        | inl same ↦ subst (λ (k : ℕ). Children k (set parents e None) (cut_sides sides e) (cut_ends sides ends g e)) (sym same) (record {
          entities = xs ++ ys;
          own = list-cut sides ends g xs e ys once glt own;
          counts = λ i. (
              let a = times-append i xs ys in let k = count i in
              elim (cases_eq i e) [
                | inl at ↦
                    (let z : get_or (set parents e None) i None ≡ None = subst (λ (j : ℕ). get_or (set parents e None) j None ≡ None) (sym at) (get_or-set_same parents e None None lt) in
                    let y : here g (get_or (set parents e None) i None) ≡ 0 = ap (here g) z in
                    let s : one_if e i ≡ 1 = subst (λ (j : ℕ). one_if e j ≡ 1) (sym at) (one_self e) in
                    let m = here-most g (get_or parents i None) in
                    omega (arith, a, k, y, s, m))
                | inr ne ↦
                    (let y : here g (get_or (set parents e None) i None) ≡ here g (get_or parents i None) = ap (here g) (get_or-set_other parents e i None None ne) in
                    let s : one_if e i ≡ 0 = cond-false (e == i) _ _ (ne_eqb e i (λ (back : e ≡ i). ne (sym back))) in
                    omega (arith, a, k, y, s))
              ]);
        })
        | inr other ↦
            untouched h parents (set parents e None) sides (cut_sides sides e) ends (cut_ends sides ends g e) (q.children h h_small)
            (cut-length sides e) (cut-ends-other sides ends g e h other)
            (λ i le. cut-other sides xs e ys i own.chain (let no = apart g h (get_or parents i None) other le in let k = count i in let a = times-append i xs (e ∷ ys) in omega (arith, no, k, a)))
            (written h e parents None lt (ap (here h) is ∙ here-other g h (λ (back : g ≡ h). other (sym back))))
      ];
      places = length-set parents e None ∙ q.places;
      sides_length = cut-length sides e ∙ q.sides_length;
      ends_length = cut-ends-length sides ends g e ∙ q.ends_length;
    }

-- an entity whose parent's children are not linked
no_group : (e : ℕ) (parents : List (Option ℕ)) (o : Option ℕ) (sides : List Sides) (ends : List Ends) → IsGroups parents sides ends → e < 48
    → ((h : ℕ) → h < 32 → here h (get_or parents e None) ≡ here h o) → IsGroups (set parents e o) sides ends
no_group e parents o sides ends q within same =
    let lt : e < length parents = (let a = q.places in omega (arith, a, within)) in
    record {
      children = λ h small. untouched h parents (set parents e o) sides sides ends ends (q.children h small) refl refl (λ i le. refl) (written h e parents o lt (same h small));
      places = length-set parents e o ∙ q.places;
      sides_length = q.sides_length;
      ends_length = q.ends_length;
    }

-- an entity goes into a group
in_to : (g e : ℕ) (parents : List (Option ℕ)) (sides : List Sides) (ends : List Ends) → IsGroups parents sides ends → g < 32 → get_or parents e None ≡ None → e < 48
    → IsGroups (set parents e (Some g)) (spliced_sides sides None e (row_behind sides ends g None)) (spliced_ends ends g None e (row_behind sides ends g None))
in_to g e parents sides ends q small is within =
    let c = q.children g small in
    let ys : List ℕ = c.entities in
    let lt : e < length parents = (let a = q.places in omega (arith, a, within)) in
    let slt : e < length sides = (let a = q.sides_length in omega (arith, a, within)) in
    let glt : g < length ends = (let a = q.ends_length in omega (arith, a, small)) in
    let news : List (Option ℕ) = set parents e (Some g) in
    let first : Option ℕ = row_behind sides ends g None in
    let first_is : first ≡ first_or ys None = behind_front sides ends g [] ys c.own in
    let free : times e ys ≡ 0 = c.counts e ∙ ap (here g) is in
    let count : (i : ℕ) → one_if e i + times i ys ≡ here g (get_or news i None) = λ i. (
    let k = c.counts i in
    elim (cases_eq i e) [
      | inl at ↦
          (let z : get_or news i None ≡ Some g = subst (λ (j : ℕ). get_or news j None ≡ Some g) (sym at) (get_or-set_same parents e (Some g) None lt) in
          let y : here g (get_or news i None) ≡ 1 = ap (here g) z ∙ here-self g in
          let s : one_if e i ≡ 1 = subst (λ (j : ℕ). one_if e j ≡ 1) (sym at) (one_self e) in
          let f : times i ys ≡ 0 = subst (λ (j : ℕ). times j ys ≡ 0) (sym at) free in
          omega (arith, y, s, f))
      | inr ne ↦
          (let y : here g (get_or news i None) ≡ here g (get_or parents i None) = ap (here g) (get_or-set_other parents e i (Some g) None ne) in
          let s : one_if e i ≡ 0 = cond-false (e == i) _ _ (ne_eqb e i (λ (back : e ≡ i). ne (sym back))) in
          omega (arith, k, y, s))
    ]) in
    let once : IsOnce (e ∷ ys) = λ i. (let k = count i in let m = here-most g (get_or news i None) in omega (arith, k, m)) in
    record {
      children = λ h h_small. elim (cases_eq h g) [
        | inl same ↦ subst (λ (k : ℕ). Children k news (spliced_sides sides None e first) (spliced_ends ends g None e first)) (sym same) (record {
          entities = e ∷ ys;
          own = list-splice sides ends g [] e ys once glt slt c.own;
          counts = count;
        })
        | inr other ↦
            untouched h parents news sides (spliced_sides sides None e first) ends (spliced_ends ends g None e first) (q.children h h_small)
            (splice-length sides None first e)
            (splice-ends-other ends g None first e h other)
            (λ i le. (
            let no = apart g h (get_or parents i None) other le in
            let k = c.counts i in
            let ne : e ≢ i = λ (at : e ≡ i). (let z : here h (get_or parents i None) ≡ 0 = ap (here h) (subst (λ (j : ℕ). get_or parents j None ≡ None) at is) in let never : ⊥ = omega (arith, z, le) in never) in
            let s : one_if e i ≡ 0 = cond-false (e == i) _ _ (ne_eqb e i ne) in
            subst (λ (o : Option ℕ). side_at (spliced_sides sides None e o) i ≡ side_at sides i) (sym first_is)
            (splice-other sides [] e ys i (omega (arith, no, k, s)))))
            (written h e parents (Some g) lt (ap (here h) is ∙ sym (here-other g h (λ (back : g ≡ h). other (sym back)))))
      ];
      places = length-set parents e (Some g) ∙ q.places;
      sides_length = splice-length sides None first e ∙ q.sides_length;
      ends_length = splice-ends-length ends g None first e ∙ q.ends_length;
    }

-- out of a group, or of none
out_step : (e : ℕ) (parents : List (Option ℕ)) (sides : List Sides) (ends : List Ends) → IsGroups parents sides ends → e < 48
    → (o : Option ℕ) → get_or parents e None ≡ o → IsGroups (set parents e None) (left_sides sides (linked o) e) (left_ends sides ends (linked o) e)
out_step e parents sides ends q within None is = no_group e parents None sides ends q within (λ h small. ap (here h) is)
out_step e parents sides ends q within (Some g) is =
    let P : Bool → Type 0 = λ b. nat_lt g 32 ≡ b → IsGroups (set parents e None) (left_sides sides (cond b (Some g) None) e) (left_ends sides ends (cond b (Some g) None) e) in
    let at : P (nat_lt g 32) = elim (nat_lt g 32) as P [
      | true ↦ λ lt. out_of g e parents sides ends q (ltb-true g 32 lt) is within
      | false ↦ λ ge. (let le = ltb-false g 32 ge in no_group e parents None sides ends q within (λ h small. ap (here h) is ∙ here-other g h (λ (same : g ≡ h). let no : ⊥ = omega (arith, le, small, same) in no)))
    ] in at refl

-- into a group, or into none
in_step : (e : ℕ) (parents : List (Option ℕ)) (sides : List Sides) (ends : List Ends) → IsGroups parents sides ends → e < 48 → get_or parents e None ≡ None
    → (o : Option ℕ) → IsGroups (set parents e o) (entered_sides sides ends (linked o) e) (entered_ends sides ends (linked o) e)
in_step e parents sides ends q within is None = no_group e parents None sides ends q within (λ h small. ap (here h) is)
in_step e parents sides ends q within is (Some g) =
    let P : Bool → Type 0 = λ b. nat_lt g 32 ≡ b → IsGroups (set parents e (Some g)) (entered_sides sides ends (cond b (Some g) None) e) (entered_ends sides ends (cond b (Some g) None) e) in
    let at : P (nat_lt g 32) = elim (nat_lt g 32) as P [
      | true ↦ λ lt. in_to g e parents sides ends q (ltb-true g 32 lt) is within
      | false ↦ λ ge. (let le = ltb-false g 32 ge in no_group e parents (Some g) sides ends q within (λ h small. ap (here h) is ∙ sym (here-other g h (λ (same : g ≡ h). let no : ⊥ = omega (arith, le, small, same) in no))))
    ] in at refl

-- an entity goes out of one group and into another one
pub exchanged : (e : ℕ) (o : Option ℕ) (parents : List (Option ℕ)) (sides s1 s2 : List Sides) (ends h1 h2 : List Ends) (row : ℕ) (old out into : Option ℕ) → IsGroups parents sides ends → e < 48
    → row ≡ e → old ≡ get_or parents e None → out ≡ linked old → into ≡ linked o
    → s1 ≡ left_sides sides out row → h1 ≡ left_ends sides ends out row → s2 ≡ entered_sides s1 h1 into row → h2 ≡ entered_ends s1 h1 into row
    → IsGroups (set parents e o) s2 h2
exchanged e o parents sides s1 s2 ends h1 h2 row old out into q within r a b c x y z w =
    let lt : e < length parents = (let k = q.places in omega (arith, k, within)) in
    let out_is : out ≡ linked (get_or parents e None) = b ∙ ap linked a in
    let s1_is : s1 ≡ left_sides sides (linked (get_or parents e None)) e = x ∙ ap (left_sides sides out) r ∙ ap (λ (p : Option ℕ). left_sides sides p e) out_is in
    let h1_is : h1 ≡ left_ends sides ends (linked (get_or parents e None)) e = y ∙ ap (left_ends sides ends out) r ∙ ap (λ (p : Option ℕ). left_ends sides ends p e) out_is in
    let first : IsGroups (set parents e None) s1 h1 =
    subst (λ (s : List Sides). IsGroups (set parents e None) s h1) (sym s1_is)
    (subst (λ (h : List Ends). IsGroups (set parents e None) (left_sides sides (linked (get_or parents e None)) e) h) (sym h1_is)
    (out_step e parents sides ends q within (get_or parents e None) refl)) in
    let second : IsGroups (set (set parents e None) e o) (entered_sides s1 h1 (linked o) e) (entered_ends s1 h1 (linked o) e) =
    in_step e (set parents e None) s1 h1 first within (get_or-set_same parents e None None lt) o in
    let s2_is : s2 ≡ entered_sides s1 h1 (linked o) e = z ∙ ap (entered_sides s1 h1 into) r ∙ ap (λ (p : Option ℕ). entered_sides s1 h1 p e) c in
    let h2_is : h2 ≡ entered_ends s1 h1 (linked o) e = w ∙ ap (entered_ends s1 h1 into) r ∙ ap (λ (p : Option ℕ). entered_ends s1 h1 p e) c in
    subst (λ (ps : List (Option ℕ)). IsGroups ps s2 h2) (set-set parents e None o)
    (subst (λ (s : List Sides). IsGroups (set (set parents e None) e o) s h2) (sym s2_is)
    (subst (λ (h : List Ends). IsGroups (set (set parents e None) e o) (entered_sides s1 h1 (linked o) e) h) (sym h2_is) second))

-- the first child is one of the group's, and there is one where the group has any
pub first_is : (g : ℕ) (parents : List (Option ℕ)) (sides : List Sides) (ends : List Ends) → IsGroups parents sides ends → g < 32
    → (o : Option ℕ) → o ≡ (ends_at ends g).first → MatchOption o ((e : ℕ) → parent parents e ≢ Some g) (λ e. parent parents e ≡ Some g)
first_is g parents sides ends q small o is = at (q.children g small).entities (is ∙ ap (λ (w : Ends). w.first) (q.children g small).own.ends_are) (q.children g small).counts
  where
    its : (e : ℕ) (p : Option ℕ) → 1 ≤ here g p → p ≡ Some g
    its e None le = absurd (omega arith)
    its e (Some k) le = elim (cases_eq k g) [
      | inl same ↦ ap (λ (j : ℕ). let r : Option ℕ = Some j in r) same
      | inr ne ↦ (let no = here-other k g ne in let never : ⊥ = omega (arith, no, le) in absurd never)
    ]

    at : (zs : List ℕ) → o ≡ first_or zs None → ((i : ℕ) → times i zs ≡ here g (get_or parents i None)) → MatchOption o ((e : ℕ) → parent parents e ≢ Some g) (λ e. parent parents e ≡ Some g)
    at [] none counts = subst (λ (r : Option ℕ). MatchOption r ((e : ℕ) → parent parents e ≢ Some g) (λ e. parent parents e ≡ Some g)) (sym none)
        (λ e has. (let k = counts e in let h : here g (get_or parents e None) ≡ 1 = ap (here g) has ∙ here-self g in let no : ⊥ = omega (arith, k, h) in no))
    at (z ∷ zs) some counts = subst (λ (r : Option ℕ). MatchOption r ((e : ℕ) → parent parents e ≢ Some g) (λ e. parent parents e ≡ Some g)) (sym some)
        (its z (get_or parents z None) (let k = counts z in let s = one_self z in omega (arith, k, s)))

-- its number is below 48
pub first_small : (g : ℕ) (parents : List (Option ℕ)) (sides : List Sides) (ends : List Ends) → IsGroups parents sides ends → g < 32
    → (row : ℕ) → (ends_at ends g).first ≡ Some row → row < 48
first_small g parents sides ends q small row is = at (q.children g small).entities (sym (ap (λ (w : Ends). w.first) (q.children g small).own.ends_are) ∙ is) (q.children g small).own.chain
  where
    at : (zs : List ℕ) → first_or zs None ≡ Some row → IsChain sides None zs None → row < 48
    at [] none chain = cc
    at (z ∷ zs) some chain = let same : z ≡ row = cc in let lt = chain.0 in let len = q.sides_length in omega (arith, same, lt, len)

at_default : {A : Type 0} (n i : ℕ) (d : A) → get_or (replicate n d) i d ≡ d
at_default zero i d = refl
at_default (suc n) zero d = refl
at_default (suc n) (suc i) d = at_default n i d

pub fresh : (n m : ℕ) → n ≡ 48 → m ≡ 32 → IsGroups (replicate n None) (replicate n alone) (replicate m nobody)
fresh n m n_is m_is = record {
  children = λ g small. record {
    entities = [];
    own = record { chain = tt; ends_are = at_default m g nobody };
    counts = λ i. ap (here g) (sym (at_default n i None));
  };
  places = length-replicate n None ∙ n_is;
  sides_length = length-replicate n alone ∙ n_is;
  ends_length = length-replicate m nobody ∙ m_is;
}
