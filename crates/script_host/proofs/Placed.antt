-- Texts that are placed among others.
use Rattle.std.proofs.Common.{◌≡◌, ℕ, zero, suc, ◌+◌, ◌-◌, ◌<◌, ◌≤◌, Bool, true, false, cond, List, [], ◌∷◌, ◌++◌, length, take, drop, get_or, map, refl, sym, ap, ◌∙◌, arith, Vec, Global}
use Rattle.std.specs.List.{flat_map, insert}
use Rattle.std.specs.Ordering.{is_lt, nat_cmp}
use Rattle.std.specs.Cmp.Lexicographic.{slice_cmp}
use Rattle.std.proofs.lemmas.List.Concat.{flat_map-cons}
use Rattle.plain.specs.Lists.{numbers}
use Rattle.host_console.specs.State.{placed, spaced}
use Rattle.script_host.specs.Texts.{texts_of}
use Rattle.script_host.proofs.Told.{numbers-cons}

abbrev pub before : List ℕ → List ℕ → Bool
before a b = is_lt (slice_cmp nat_cmp a b)

pub length-texts : (texts : List (Vec ℕ Global)) → length (texts_of texts) ≡ length texts
length-texts [] = refl
length-texts (text ∷ texts) = ap suc (length-texts texts)

-- the text at a place
pub text_at : (texts : List (Vec ℕ Global)) (i : ℕ) (x : Vec ℕ Global) → i < length texts → x ≡ get_or texts i x → x.items ≡ get_or (texts_of texts) i []
text_at [] i x h is = absurd (omega arith)
text_at (text ∷ texts) zero x h is = ap (λ v. v.items) is
text_at (text ∷ texts) (suc i) x h is = text_at texts i x (omega arith) is

pub texts-insert : (texts : List (Vec ℕ Global)) (i : ℕ) (x : Vec ℕ Global) → i ≤ length texts → texts_of (insert texts i x) ≡ insert (texts_of texts) i x.items
texts-insert [] zero x h = refl
texts-insert [] (suc i) x h = absurd (omega arith)
texts-insert (text ∷ texts) zero x h = refl
texts-insert (text ∷ texts) (suc i) x h = ap (λ ys. text.items ∷ ys) (texts-insert texts i x (omega arith))

-- a text that is before none of the first is placed behind them
pub behind : (text : List ℕ) (xs : List (List ℕ)) (i : ℕ) → i < length xs → before text (get_or xs i []) ≡ false
    → placed text xs ≡ take i xs ++ placed text (drop i xs) → placed text xs ≡ take (i + 1) xs ++ placed text (drop (i + 1) xs)
behind text xs i h past so = so ∙ (ap (λ ys. take i xs ++ ys) (later i xs h past) ∙ more i xs h)
  where
    later : (i : ℕ) (xs : List (List ℕ)) → i < length xs → before text (get_or xs i []) ≡ false
        → placed text (drop i xs) ≡ get_or xs i [] ∷ placed text (drop (i + 1) xs)
    later i [] h past = absurd (omega arith)
    later zero (x ∷ xs) h past = ap (λ b. cond b (text ∷ x ∷ xs) (x ∷ placed text xs)) past
    later (suc i) (x ∷ xs) h past =
        let next : suc i + 1 ≡ suc (i + 1) = omega arith in
        later i xs (omega arith) past ∙ ap (λ k. get_or xs i [] ∷ placed text (drop k (x ∷ xs))) (sym next)

    more : (i : ℕ) (xs : List (List ℕ)) → i < length xs → take i xs ++ (get_or xs i [] ∷ placed text (drop (i + 1) xs)) ≡ take (i + 1) xs ++ placed text (drop (i + 1) xs)
    more i [] h = absurd (omega arith)
    more zero (x ∷ xs) h = refl
    more (suc i) (x ∷ xs) h =
        let next : suc i + 1 ≡ suc (i + 1) = omega arith in
        ap (λ k. x ∷ (take i xs ++ (get_or xs i [] ∷ placed text (drop k (x ∷ xs))))) next
        ∙ (ap (λ ys. x ∷ ys) (more i xs (omega arith)) ∙ ap (λ k. take k (x ∷ xs) ++ placed text (drop k (x ∷ xs))) (sym next))

-- and before the first that it is before
pub here : (text : List ℕ) (xs : List (List ℕ)) (i : ℕ) → i < length xs → before text (get_or xs i []) ≡ true
    → placed text xs ≡ take i xs ++ placed text (drop i xs) → insert xs i text ≡ placed text xs
here text xs i h first so = cut i xs h ∙ sym (so ∙ ap (λ ys. take i xs ++ ys) (sooner i xs h first))
  where
    sooner : (i : ℕ) (xs : List (List ℕ)) → i < length xs → before text (get_or xs i []) ≡ true → placed text (drop i xs) ≡ text ∷ drop i xs
    sooner i [] h first = absurd (omega arith)
    sooner zero (x ∷ xs) h first = ap (λ b. cond b (text ∷ x ∷ xs) (x ∷ placed text xs)) first
    sooner (suc i) (x ∷ xs) h first = sooner i xs (omega arith) first

    cut : (i : ℕ) (xs : List (List ℕ)) → i < length xs → insert xs i text ≡ take i xs ++ (text ∷ drop i xs)
    cut i [] h = absurd (omega arith)
    cut zero (x ∷ xs) h = refl
    cut (suc i) (x ∷ xs) h = ap (λ ys. x ∷ ys) (cut i xs (omega arith))

-- or behind all
pub at_end : (text : List ℕ) (xs : List (List ℕ)) (i : ℕ) → i ≡ length xs → placed text xs ≡ take i xs ++ placed text (drop i xs) → insert xs i text ≡ placed text xs
at_end text xs i h so = all i xs h ∙ sym (so ∙ ap (λ ys. take i xs ++ ys) (none i xs h))
  where
    none : (i : ℕ) (xs : List (List ℕ)) → i ≡ length xs → placed text (drop i xs) ≡ text ∷ []
    none zero [] h = refl
    none (suc i) [] h = absurd (omega (arith, h))
    none zero (x ∷ xs) h = absurd (omega (arith, h))
    none (suc i) (x ∷ xs) h = none i xs (omega (arith, h))

    all : (i : ℕ) (xs : List (List ℕ)) → i ≡ length xs → insert xs i text ≡ take i xs ++ text ∷ []
    all zero [] h = refl
    all (suc i) [] h = absurd (omega (arith, h))
    all zero (x ∷ xs) h = absurd (omega (arith, h))
    all (suc i) (x ∷ xs) h = ap (λ ys. x ∷ ys) (all i xs (omega (arith, h)))

-- what tags bear from one on: what it bears, and the others
pub tags_more : {A : Type 0} (f : ℕ → List A) (tag tags : ℕ) → 0 < tag → tag ≤ tags
    → flat_map f (numbers (tag - 1) (tags - (tag - 1))) ≡ f (tag - 1) ++ flat_map f (numbers tag (tags - tag))
tags_more f tag tags some within =
    let next : tag - 1 + 1 ≡ tag = omega (arith, some) in
    let left : tags - (tag - 1) - 1 ≡ tags - tag = omega (arith, some, within) in
    ap (flat_map f) (numbers-cons (tag - 1) (tags - (tag - 1)) (omega (arith, some, within)))
    ∙ (flat_map-cons f (tag - 1) (numbers (tag - 1 + 1) (tags - (tag - 1) - 1))
    ∙ ap (λ k. f (tag - 1) ++ flat_map f (numbers k (tags - (tag - 1) - 1))) next
    ∙ ap (λ k. f (tag - 1) ++ flat_map f (numbers tag k)) left)

pub map_both : {A B : Type 0} (f : A → B) (xs ys : List A) → map f (xs ++ ys) ≡ map f xs ++ map f ys
map_both f [] ys = refl
map_both f (x ∷ xs) ys = ap (λ zs. f x ∷ zs) (map_both f xs ys)

-- the text at a place, and those behind it
pub texts_more : (texts : List (Vec ℕ Global)) (i : ℕ) (x : Vec ℕ Global) → i < length texts → x ≡ get_or texts i x
    → flat_map spaced (texts_of (drop i texts)) ≡ (32 ∷ x.items) ++ flat_map spaced (texts_of (drop (i + 1) texts))
texts_more [] i x h is = absurd (omega arith)
texts_more (text ∷ texts) zero x h is =
    flat_map-cons spaced text.items (texts_of texts) ∙ ap (λ v. (32 ∷ v.items) ++ flat_map spaced (texts_of texts)) (sym is)
texts_more (text ∷ texts) (suc i) x h is =
    let next : suc i + 1 ≡ suc (i + 1) = omega arith in
    texts_more texts i x (omega arith) is ∙ ap (λ k. (32 ∷ x.items) ++ flat_map spaced (texts_of (drop k (text ∷ texts)))) (sym next)

pub texts_done : (texts : List (Vec ℕ Global)) (i : ℕ) → length texts ≤ i → flat_map spaced (texts_of (drop i texts)) ≡ []
texts_done [] zero h = refl
texts_done [] (suc i) h = refl
texts_done (text ∷ texts) zero h = absurd (omega arith)
texts_done (text ∷ texts) (suc i) h = texts_done texts i (omega arith)
