-- Rows that are linked both ways, and what a write leaves of them.
use Rattle.std.proofs.Common.{◌≡◌, ◌≢◌, ℕ, ◌+◌, ◌<◌, ◌≤◌, List, [], ◌∷◌, ◌++◌, length, set, Option, Some, None, refl, sym, ap, ◌∙◌, subst, arith, get_or-set_other, get_or-set_same}
use Rattle.std.proofs.lemmas.List.{length-set}
use Rattle.std.proofs.lemmas.Bool.Decides.{nat_tests}
use Rattle.std.specs.Option.{option_map_or}
use Rattle.linked_rows.specs.declared.Sides.{Sides}
use Rattle.linked_rows.specs.declared.Ends.{Ends}
use Rattle.linked_rows.specs.Chains.{side_at, ends_at, alone, nobody, led, followed, joined_sides, joined_ends, joined_at, cut_sides, cut_ends, spliced_sides, spliced_ends, row_behind, first_or, last_or, IsChain, IsList, ends_of, one_if, times, IsOnce}

pub one_self : (i : ℕ) → one_if i i ≡ 1
one_self i = grind (arith, nat_tests)

one_other : (x i : ℕ) → one_if x i ≡ 0 → i ≢ x
one_other x i z same = grind (arith, nat_tests)

pub times-append : (i : ℕ) (xs ys : List ℕ) → times i (xs ++ ys) ≡ times i xs + times i ys
times-append i [] ys = omega arith
times-append i (x ∷ xs) ys = let h = times-append i xs ys in omega (arith, h)

-- sides that are the same where the rows are
pub chain-same : (old new : List Sides) (xs : List ℕ) (prev next : Option ℕ) → length new ≡ length old → ((i : ℕ) → 1 ≤ times i xs → side_at new i ≡ side_at old i)
    → IsChain old prev xs next → IsChain new prev xs next
chain-same old new [] prev next len same c = tt
chain-same old new (x ∷ xs) prev next len same c = (
  (let lt = c.0 in omega (arith, lt, len)),
  same x (let s = one_self x in omega (arith, s)) ∙ c.1,
  chain-same old new xs (Some x) next len (λ i h. same i (omega (arith, h))) c.2,
)

pub first_or-append : (xs ys : List ℕ) (next : Option ℕ) → first_or (xs ++ ys) next ≡ first_or xs (first_or ys next)
first_or-append [] ys next = refl
first_or-append (x ∷ xs) ys next = refl

-- two chains that meet are one
pub chain-append : (sides : List Sides) (xs ys : List ℕ) (prev next : Option ℕ) → IsChain sides prev xs (first_or ys next) → IsChain sides (last_or prev xs) ys next → IsChain sides prev (xs ++ ys) next
chain-append sides [] ys prev next c d = d
chain-append sides (x ∷ xs) ys prev next c d = (c.0, c.1 ∙ ap (λ (o : Option ℕ). record { before = prev; after = o }) (sym (first_or-append xs ys next)), chain-append sides xs ys (Some x) next c.2 d)

pub last_or-append : (xs ys : List ℕ) (prev : Option ℕ) → last_or prev (xs ++ ys) ≡ last_or (last_or prev xs) ys
last_or-append [] ys prev = refl
last_or-append (x ∷ xs) ys prev = last_or-append xs ys (Some x)

-- one chain is two that meet
pub chain-front : (sides : List Sides) (xs ys : List ℕ) (prev next : Option ℕ) → IsChain sides prev (xs ++ ys) next → IsChain sides prev xs (first_or ys next)
chain-front sides [] ys prev next c = tt
chain-front sides (x ∷ xs) ys prev next c = (c.0, c.1 ∙ ap (λ (o : Option ℕ). record { before = prev; after = o }) (first_or-append xs ys next), chain-front sides xs ys (Some x) next c.2)

pub chain-back : (sides : List Sides) (xs ys : List ℕ) (prev next : Option ℕ) → IsChain sides prev (xs ++ ys) next → IsChain sides (last_or prev xs) ys next
chain-back sides [] ys prev next c = c
chain-back sides (x ∷ xs) ys prev next c = chain-back sides xs ys (Some x) next c.2

-- a write elsewhere
set_other : (sides : List Sides) (z i : ℕ) (s : Sides) → i ≢ z → side_at (set sides z s) i ≡ side_at sides i
set_other sides z i s ne = get_or-set_other sides z i s alone ne

pub led-other : (sides : List Sides) (xs : List ℕ) (b : Option ℕ) (i : ℕ) → times i xs ≡ 0 → side_at (led sides (last_or None xs) b) i ≡ side_at sides i
led-other sides [] b i z = refl
led-other sides (x ∷ []) b i z = set_other sides x i _ (one_other x i (omega (arith, z)))
led-other sides (x ∷ y ∷ ys) b i z = led-other sides (y ∷ ys) b i (omega (arith, z))

pub followed-other : (sides : List Sides) (ys : List ℕ) (b : Option ℕ) (i : ℕ) → times i ys ≡ 0 → side_at (followed sides b (first_or ys None)) i ≡ side_at sides i
followed-other sides [] b i z = refl
followed-other sides (y ∷ ys) b i z = set_other sides y i _ (one_other y i (omega (arith, z)))

pub led-length : (sides : List Sides) (a b : Option ℕ) → length (led sides a b) ≡ length sides
led-length sides None b = refl
led-length sides (Some p) b = length-set sides p _

pub followed-length : (sides : List Sides) (a b : Option ℕ) → length (followed sides a b) ≡ length sides
followed-length sides a None = refl
followed-length sides a (Some n) = length-set sides n _

-- the last of a chain gets another one after it
pub closes : (sides : List Sides) (xs : List ℕ) (prev a b : Option ℕ) → IsOnce xs → IsChain sides prev xs a → IsChain (led sides (last_or None xs) b) prev xs b
closes sides [] prev a b once c = tt
closes sides (x ∷ []) prev a b once c = (
  (let lt = c.0 in let len = length-set sides x (record { before = (side_at sides x).before; after = b }) in omega (arith, lt, len)),
  get_or-set_same sides x (record { before = (side_at sides x).before; after = b }) alone c.0 ∙ ap (λ (s : Sides). record { before = s.before; after = b }) c.1,
  tt,
)
closes sides (x ∷ y ∷ ys) prev a b once c = (
  (let lt = c.0 in let len = led-length sides (last_or None (y ∷ ys)) b in omega (arith, lt, len)),
  led-other sides (y ∷ ys) b x (let o = once x in let s = one_self x in omega (arith, o, s)) ∙ c.1,
  closes sides (y ∷ ys) (Some x) a b (λ i. let o = once i in omega (arith, o)) c.2,
)

-- the first of a chain gets another one before it
pub opens : (sides : List Sides) (ys : List ℕ) (a b next : Option ℕ) → IsOnce ys → IsChain sides a ys next → IsChain (followed sides b (first_or ys None)) b ys next
opens sides [] a b next once c = tt
opens sides (y ∷ ys) a b next once c =
    let side : Sides = record { before = b; after = (side_at sides y).after } in
    let len = length-set sides y side in (
      (let lt = c.0 in omega (arith, lt, len)),
      get_or-set_same sides y side alone c.0 ∙ ap (λ (s : Sides). record { before = b; after = s.after }) c.1,
      chain-same sides (set sides y side) ys (Some y) next len (λ i h. set_other sides y i side (apart i h)) c.2,
    )
  where
    apart : (i : ℕ) → 1 ≤ times i ys → i ≢ y
    apart i h same =
        let d : 1 ≤ times y ys = subst (λ (k : ℕ). 1 ≤ times k ys) same h in
        let o = once y in let s = one_self y in
        let no : ⊥ = omega (arith, d, o, s) in no

-- the sides outside of two chains stay, once these are joined
pub joined-other : (sides : List Sides) (xs ys : List ℕ) (i : ℕ) → times i xs ≡ 0 → times i ys ≡ 0
    → side_at (joined_sides sides (last_or None xs) (first_or ys None)) i ≡ side_at sides i
joined-other sides xs ys i zx zy = followed-other (led sides (last_or None xs) (first_or ys None)) ys (last_or None xs) i zy ∙ led-other sides xs (first_or ys None) i zx

pub joined-length : (sides : List Sides) (a b : Option ℕ) → length (joined_sides sides a b) ≡ length sides
joined-length sides a b = followed-length (led sides a b) a b ∙ led-length sides a b

-- two chains that are joined
pub joined-front : (sides : List Sides) (xs ys : List ℕ) (a : Option ℕ) → ((i : ℕ) → times i xs + times i ys ≤ 1) → IsChain sides None xs a
    → IsChain (joined_sides sides (last_or None xs) (first_or ys None)) None xs (first_or ys None)
joined-front sides xs ys a once c =
    chain-same (led sides (last_or None xs) (first_or ys None)) (joined_sides sides (last_or None xs) (first_or ys None)) xs None (first_or ys None)
    (followed-length (led sides (last_or None xs) (first_or ys None)) (last_or None xs) (first_or ys None))
    (λ i h. followed-other (led sides (last_or None xs) (first_or ys None)) ys (last_or None xs) i (let o = once i in omega (arith, o, h)))
    (closes sides xs None a (first_or ys None) (λ i. let o = once i in omega (arith, o)) c)

pub joined-back : (sides : List Sides) (xs ys : List ℕ) (b next : Option ℕ) → ((i : ℕ) → times i xs + times i ys ≤ 1) → IsChain sides b ys next
    → IsChain (joined_sides sides (last_or None xs) (first_or ys None)) (last_or None xs) ys next
joined-back sides xs ys b next once c =
    opens (led sides (last_or None xs) (first_or ys None)) ys b (last_or None xs) next (λ i. let o = once i in omega (arith, o))
    (chain-same sides (led sides (last_or None xs) (first_or ys None)) ys b next (led-length sides (last_or None xs) (first_or ys None))
    (λ i h. led-other sides xs (first_or ys None) i (let o = once i in omega (arith, o, h))) c)

-- a row goes out of a chain
pub chain-cut : (sides : List Sides) (xs : List ℕ) (i : ℕ) (ys : List ℕ) → IsOnce (xs ++ i ∷ ys) → IsChain sides None (xs ++ i ∷ ys) None
    → IsChain (joined_sides sides (last_or None xs) (first_or ys None)) None (xs ++ ys) None
chain-cut sides xs i ys once c =
    let two : (j : ℕ) → times j xs + times j ys ≤ 1 = λ j. (let o = once j in let t = times-append j xs (i ∷ ys) in omega (arith, o, t)) in
    chain-append (joined_sides sides (last_or None xs) (first_or ys None)) xs ys None None
    (joined-front sides xs ys (Some i) two (chain-front sides xs (i ∷ ys) None None c))
    (joined-back sides xs ys (Some i) None two (chain-back sides xs (i ∷ ys) None None c).2)

-- the sides of a row of a chain
pub sides_in : (sides : List Sides) (xs : List ℕ) (i : ℕ) (ys : List ℕ) → IsChain sides None (xs ++ i ∷ ys) None
    → side_at sides i ≡ record { before = last_or None xs; after = first_or ys None }
sides_in sides xs i ys c = (chain-back sides xs (i ∷ ys) None None c).1

-- a row goes into a chain
pub chain-splice : (sides : List Sides) (xs : List ℕ) (i : ℕ) (ys : List ℕ) → IsOnce (xs ++ i ∷ ys) → i < length sides → IsChain sides None (xs ++ ys) None
    → IsChain (joined_sides (joined_sides sides (last_or None xs) (Some i)) (Some i) (first_or ys None)) None (xs ++ i ∷ ys) None
chain-splice sides xs i ys once lt c =
    let count : (j : ℕ) → times j xs + (one_if i j + times j ys) ≤ 1 = λ j. (let o = once j in let t = times-append j xs (i ∷ ys) in omega (arith, o, t)) in
    let mid : List Sides = joined_sides sides (last_or None xs) (Some i) in
    let two : (j : ℕ) → times j xs + times j (i ∷ []) ≤ 1 = λ j. (let o = count j in omega (arith, o)) in
    let front : IsChain mid None xs (Some i) = joined-front sides xs (i ∷ []) (first_or ys None) two (chain-front sides xs ys None None c) in
    let own : IsChain mid (last_or None xs) (i ∷ []) (side_at sides i).after =
    joined-back sides xs (i ∷ []) (side_at sides i).before (side_at sides i).after two (lt, refl, tt) in
    let rest : IsChain mid (last_or None xs) ys None =
    chain-same sides mid ys (last_or None xs) None (joined-length sides (last_or None xs) (Some i))
    (λ j h. let o = count j in joined-other sides xs (i ∷ []) j (omega (arith, o, h)) (omega (arith, o, h))) (chain-back sides xs ys None None c) in
    let new : List Sides = joined_sides mid (Some i) (first_or ys None) in
    let last : last_or None (xs ++ i ∷ []) ≡ Some i = last_or-append xs (i ∷ []) None in
    let three : (j : ℕ) → times j (xs ++ i ∷ []) + times j ys ≤ 1 = λ j. (let o = count j in let t = times-append j xs (i ∷ []) in omega (arith, o, t)) in
    let both : IsChain mid None (xs ++ i ∷ []) (side_at sides i).after = chain-append mid xs (i ∷ []) None (side_at sides i).after front own in
    let new_front : IsChain new None (xs ++ i ∷ []) (first_or ys None) =
    subst (λ (o : Option ℕ). IsChain (joined_sides mid o (first_or ys None)) None (xs ++ i ∷ []) (first_or ys None)) last
    (joined-front mid (xs ++ i ∷ []) ys (side_at sides i).after three both) in
    let new_back : IsChain new (Some i) ys None =
    subst (λ (o : Option ℕ). IsChain (joined_sides mid o (first_or ys None)) o ys None) last
    (joined-back mid (xs ++ i ∷ []) ys (last_or None xs) None three rest) in
    chain-append new xs (i ∷ ys) None None (chain-front new xs (i ∷ []) None (first_or ys None) new_front)
    (let alone_back = chain-back new xs (i ∷ []) None (first_or ys None) new_front in (alone_back.0, alone_back.1, new_back))

-- the first of a list, once its first part is joined to the rest
some_last : (xs : List ℕ) (x : ℕ) (f g : Option ℕ) → option_map_or (λ _. f) (last_or (Some x) xs) g ≡ f
some_last [] x f g = refl
some_last (y ∷ ys) x f g = some_last ys y f g

first-joined : (xs : List ℕ) (f g : Option ℕ) → f ≡ first_or xs f → option_map_or (λ _. f) (last_or None xs) g ≡ first_or xs g
first-joined [] f g h = refl
first-joined (x ∷ xs) f g h = some_last xs x f g ∙ h

last-joined : (ys : List ℕ) (l o : Option ℕ) → l ≡ last_or l ys → option_map_or (λ _. l) (first_or ys None) o ≡ last_or o ys
last-joined [] l o h = refl
last-joined (y ∷ ys) l o h = h

first-again : (xs : List ℕ) (o : Option ℕ) → first_or xs o ≡ first_or xs (first_or xs o)
first-again [] o = refl
first-again (x ∷ xs) o = refl

last-again : (ys : List ℕ) (o : Option ℕ) → last_or o ys ≡ last_or (last_or o ys) ys
last-again [] o = refl
last-again (y ∷ ys) o = refl

ends_from : Option ℕ → Option ℕ → Ends
ends_from a c = record { first = a; last = c }

same_ends : (a b c d : Option ℕ) → a ≡ b → c ≡ d → ends_from a c ≡ ends_from b d
same_ends a b c d p q = cc

-- the ends once a row went out
pub ends-cut : (xs : List ℕ) (i : ℕ) (ys : List ℕ) → joined_ends (ends_of (xs ++ i ∷ ys)) (last_or None xs) (first_or ys None) ≡ ends_of (xs ++ ys)
unfolding ends_from
ends-cut xs i ys =
    let f : Option ℕ = first_or (xs ++ i ∷ ys) None in
    let l : Option ℕ = last_or None (xs ++ i ∷ ys) in
    let f_is : f ≡ first_or xs (Some i) = first_or-append xs (i ∷ ys) None in
    let l_is : l ≡ last_or (Some i) ys = last_or-append xs (i ∷ ys) None in
    let f_again : f ≡ first_or xs f = subst (λ (o : Option ℕ). o ≡ first_or xs o) (sym f_is) (first-again xs (Some i)) in
    let l_again : l ≡ last_or l ys = subst (λ (o : Option ℕ). o ≡ last_or o ys) (sym l_is) (last-again ys (Some i)) in
    same_ends _ _ _ _
    (first-joined xs f (first_or ys None) f_again ∙ sym (first_or-append xs ys None))
    (last-joined ys l (last_or None xs) l_again ∙ sym (last_or-append xs ys None))

-- the ends once a row went in
pub ends-splice : (xs : List ℕ) (i : ℕ) (ys : List ℕ)
    → joined_ends (joined_ends (ends_of (xs ++ ys)) (last_or None xs) (Some i)) (Some i) (first_or ys None) ≡ ends_of (xs ++ i ∷ ys)
unfolding ends_from
ends-splice xs i ys =
    let f : Option ℕ = first_or (xs ++ ys) None in
    let l : Option ℕ = last_or None (xs ++ ys) in
    let f_is : f ≡ first_or xs (first_or ys None) = first_or-append xs ys None in
    let l_is : l ≡ last_or (last_or None xs) ys = last_or-append xs ys None in
    let f_again : f ≡ first_or xs f = subst (λ (o : Option ℕ). o ≡ first_or xs o) (sym f_is) (first-again xs (first_or ys None)) in
    let l_again : l ≡ last_or l ys = subst (λ (o : Option ℕ). o ≡ last_or o ys) (sym l_is) (last-again ys (last_or None xs)) in
    same_ends _ _ _ _
    (first-joined xs f (Some i) f_again ∙ sym (first_or-append xs (i ∷ ys) None))
    (last-joined ys l (Some i) l_again ∙ sym (last_or-append xs (i ∷ ys) None))

-- what comes after the last of a chain
after_last : (sides : List Sides) (xs : List ℕ) (x : ℕ) (prev a f : Option ℕ) → IsChain sides prev (x ∷ xs) a → option_map_or (λ p. (side_at sides p).after) (last_or (Some x) xs) f ≡ a
after_last sides [] x prev a f c = ap (λ (w : Sides). w.after) c.1
after_last sides (y ∷ ys) x prev a f c = after_last sides ys y (Some x) a f c.2

after_front : (sides : List Sides) (xs : List ℕ) (a f : Option ℕ) → f ≡ first_or xs a → IsChain sides None xs a → option_map_or (λ p. (side_at sides p).after) (last_or None xs) f ≡ a
after_front sides [] a f is c = is
after_front sides (x ∷ xs) a f is c = after_last sides xs x None a f c

-- what comes behind the front of a list
pub behind_front : (sides : List Sides) (ends : List Ends) (list : ℕ) (xs ys : List ℕ) → IsList sides ends list (xs ++ ys) → row_behind sides ends list (last_or None xs) ≡ first_or ys None
behind_front sides ends list xs ys is =
    let first_is : (ends_at ends list).first ≡ first_or xs (first_or ys None) = ap (λ (w : Ends). w.first) is.ends_are ∙ first_or-append xs ys None in
    after_front sides xs (first_or ys None) (ends_at ends list).first first_is (chain-front sides xs ys None None is.chain)

-- a row goes out of its list
pub list-cut : (sides : List Sides) (ends : List Ends) (list : ℕ) (xs : List ℕ) (row : ℕ) (ys : List ℕ) → IsOnce (xs ++ row ∷ ys) → list < length ends → IsList sides ends list (xs ++ row ∷ ys)
    → IsList (cut_sides sides row) (cut_ends sides ends list row) list (xs ++ ys)
list-cut sides ends list xs row ys once lt is =
    let side : record { before = last_or None xs; after = first_or ys None } ≡ side_at sides row = sym (sides_in sides xs row ys is.chain) in
    subst (λ (w : Sides). IsList (joined_sides sides w.before w.after) (joined_at ends list w.before w.after) list (xs ++ ys)) side
    (record {
      chain = chain-cut sides xs row ys once is.chain;
      ends_are =
          get_or-set_same ends list (joined_ends (ends_at ends list) (last_or None xs) (first_or ys None)) nobody lt
          ∙ ap (λ (e : Ends). joined_ends e (last_or None xs) (first_or ys None)) is.ends_are
          ∙ ends-cut xs row ys;
    })

-- a row goes into a list, behind its front
pub list-splice : (sides : List Sides) (ends : List Ends) (list : ℕ) (xs : List ℕ) (row : ℕ) (ys : List ℕ) → IsOnce (xs ++ row ∷ ys) → list < length ends → row < length sides → IsList sides ends list (xs ++ ys)
    → IsList (spliced_sides sides (last_or None xs) row (row_behind sides ends list (last_or None xs))) (spliced_ends ends list (last_or None xs) row (row_behind sides ends list (last_or None xs))) list (xs ++ row ∷ ys)
list-splice sides ends list xs row ys once lt within is =
    let mid_ends : Ends = joined_ends (ends_at ends list) (last_or None xs) (Some row) in
    let mid : List Ends = set ends list mid_ends in
    let new_ends : Ends = joined_ends (ends_at mid list) (Some row) (first_or ys None) in
    subst (λ (o : Option ℕ). IsList (spliced_sides sides (last_or None xs) row o) (spliced_ends ends list (last_or None xs) row o) list (xs ++ row ∷ ys)) (sym (behind_front sides ends list xs ys is))
    (record {
      chain = chain-splice sides xs row ys once within is.chain;
      ends_are =
          get_or-set_same mid list new_ends nobody (let a = length-set ends list mid_ends in omega (arith, a, lt))
          ∙ ap (λ (w : Ends). joined_ends w (Some row) (first_or ys None)) (get_or-set_same ends list mid_ends nobody lt ∙ ap (λ (w : Ends). joined_ends w (last_or None xs) (Some row)) is.ends_are)
          ∙ ends-splice xs row ys;
    })

-- the rows outside of a list keep their sides, once a row went out of it
pub cut-other : (sides : List Sides) (xs : List ℕ) (row : ℕ) (ys : List ℕ) (i : ℕ) → IsChain sides None (xs ++ row ∷ ys) None → times i (xs ++ row ∷ ys) ≡ 0
    → side_at (cut_sides sides row) i ≡ side_at sides i
cut-other sides xs row ys i chain z =
    let b = times-append i xs (row ∷ ys) in
    subst (λ (w : Sides). side_at (joined_sides sides w.before w.after) i ≡ side_at sides i) (sym (sides_in sides xs row ys chain))
    (joined-other sides xs ys i (omega (arith, z, b)) (omega (arith, z, b)))

-- and once one went into it
pub splice-other : (sides : List Sides) (xs : List ℕ) (row : ℕ) (ys : List ℕ) (i : ℕ) → times i (xs ++ row ∷ ys) ≡ 0
    → side_at (spliced_sides sides (last_or None xs) row (first_or ys None)) i ≡ side_at sides i
splice-other sides xs row ys i z =
    let b = times-append i xs (row ∷ ys) in
    let d = times-append i xs (row ∷ []) in
    let last : last_or None (xs ++ row ∷ []) ≡ Some row = last_or-append xs (row ∷ []) None in
    let mid : List Sides = joined_sides sides (last_or None xs) (Some row) in
    subst (λ (o : Option ℕ). side_at (joined_sides mid o (first_or ys None)) i ≡ side_at mid i) last
    (joined-other mid (xs ++ row ∷ []) ys i (omega (arith, z, b, d)) (omega (arith, z, b)))
    ∙ joined-other sides xs (row ∷ []) i (omega (arith, z, b)) (omega (arith, z, b))

pub cut-length : (sides : List Sides) (row : ℕ) → length (cut_sides sides row) ≡ length sides
cut-length sides row = joined-length sides (side_at sides row).before (side_at sides row).after

pub splice-length : (sides : List Sides) (a b : Option ℕ) (row : ℕ) → length (spliced_sides sides a row b) ≡ length sides
splice-length sides a b row = joined-length (joined_sides sides a (Some row)) (Some row) b ∙ joined-length sides a (Some row)

-- the other lists keep their ends
pub cut-ends-other : (sides : List Sides) (ends : List Ends) (list row other : ℕ) → other ≢ list → ends_at (cut_ends sides ends list row) other ≡ ends_at ends other
cut-ends-other sides ends list row other ne = get_or-set_other ends list other _ nobody ne

pub splice-ends-other : (ends : List Ends) (list : ℕ) (a b : Option ℕ) (row other : ℕ) → other ≢ list → ends_at (spliced_ends ends list a row b) other ≡ ends_at ends other
splice-ends-other ends list a b row other ne = get_or-set_other (joined_at ends list a (Some row)) list other _ nobody ne ∙ get_or-set_other ends list other _ nobody ne

pub cut-ends-length : (sides : List Sides) (ends : List Ends) (list row : ℕ) → length (cut_ends sides ends list row) ≡ length ends
cut-ends-length sides ends list row = length-set ends list _

pub splice-ends-length : (ends : List Ends) (list : ℕ) (a b : Option ℕ) (row : ℕ) → length (spliced_ends ends list a row b) ≡ length ends
splice-ends-length ends list a b row = length-set (joined_at ends list a (Some row)) list _ ∙ length-set ends list _

-- the same list in tables that are the same
pub same_list : (s t : List Sides) (e f : List Ends) (list : ℕ) (rows : List ℕ) → s ≡ t → e ≡ f → IsList s e list rows → IsList t f list rows
same_list s t e f list rows p q h =
    subst (λ (x : List Sides). IsList x f list rows) p (subst (λ (x : List Ends). IsList s x list rows) q h)
