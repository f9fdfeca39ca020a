-- A text is cut at its first space in one way only.
use Rattle.std.proofs.Common.{◌≡◌, ◌≢◌, ℕ, ◌+◌, ◌*◌, ◌<◌, ◌≤◌, ◌^◌, List, [], ◌∷◌, ◌++◌, length, refl, sym, ap, subst, ◌∙◌, arith, append_assoc, length-append, take, get_or}
use Rattle.std.specs.Fmt.{decimal}
use Rattle.std.proofs.lemmas.List.{take_more}
use Rattle.std.proofs.lemmas.Fmt.{decimal_injective}
use Rattle.script_line.specs.Words.{HasNoSpace, IsTail, AreNumbers, numbers}
use Rattle.script_line.proofs.Decimals.{HasNoSpace-decimal, HasNoSpace-push}

-- a number that differs from word to word
abbrev pub mark : List ℕ → ℕ
mark [] = 0
mark (x ∷ xs) = x + 31 * mark xs

pub one_cut : (a b x y : List ℕ) → HasNoSpace a → HasNoSpace b → IsTail x → IsTail y → a ++ x ≡ b ++ y → (a ≡ b) × (x ≡ y)
one_cut [] [] x y _ _ _ _ e = (refl, e)
one_cut [] (d ∷ ds) [] y _ _ _ _ e = absurd (cc)
one_cut [] (d ∷ ds) (c ∷ cs) y _ hb hx _ e = let s : d ≡ 32 = cc in absurd (hb.0 s)
one_cut (c ∷ cs) [] x [] _ _ _ _ e = absurd (cc)
one_cut (c ∷ cs) [] x (d ∷ ds) ha _ _ hy e = let s : c ≡ 32 = cc in absurd (ha.0 s)
one_cut (c ∷ cs) (d ∷ ds) x y ha hb hx hy e =
    let h : c ≡ d = cc in
    let t : cs ++ x ≡ ds ++ y = cc in
    let r = one_cut cs ds x y ha.1 hb.1 hx hy t in
    let r0 = r.0 in
    (cc, r.1)

pub one_number : (m n : ℕ) (x y : List ℕ) → m < 2 ^ 64 → n < 2 ^ 64 → IsTail x → IsTail y → decimal m ++ x ≡ decimal n ++ y → (m ≡ n) × (x ≡ y)
one_number m n x y hm hn hx hy e =
    let r = one_cut (decimal m) (decimal n) x y (HasNoSpace-decimal m hm) (HasNoSpace-decimal n hn) hx hy e in
    (decimal_injective m n hm hn r.0, r.1)

pub IsTail-numbers : (ns : List ℕ) → IsTail (numbers ns)
IsTail-numbers [] = tt
IsTail-numbers (n ∷ ns) = refl

pub one_numbers : (xs ys : List ℕ) → AreNumbers xs → AreNumbers ys → numbers xs ≡ numbers ys → xs ≡ ys
one_numbers [] [] _ _ _ = refl
one_numbers [] (y ∷ ys) _ _ e = absurd (cc)
one_numbers (x ∷ xs) [] _ _ e = absurd (cc)
one_numbers (x ∷ xs) (y ∷ ys) hx hy e =
    let same : decimal x ++ numbers xs ≡ decimal y ++ numbers ys = cc in
    let both = one_number x y (numbers xs) (numbers ys) hx.0 hy.0 (IsTail-numbers xs) (IsTail-numbers ys) same in
    let first : x ≡ y = both.0 in
    let rest : xs ≡ ys = one_numbers xs ys hx.1 hy.1 both.1 in
    cc

pub IsTail-append : (ns : List ℕ) (rest : List ℕ) → IsTail rest → IsTail (numbers ns ++ rest)
IsTail-append [] rest h = h
IsTail-append (n ∷ ns) rest h = refl

pub HasNoSpace-more : (s : List ℕ) (i : ℕ) → i < length s → HasNoSpace (take i s) → get_or s i 0 ≢ 32 → HasNoSpace (take (i + 1) s)
HasNoSpace-more s i h before here = subst HasNoSpace (sym (take_more s i 0 h)) (HasNoSpace-push (get_or s i 0) (take i s) before here)

-- numbers and then a rest, which are numbers together: the rest are the last of these
pub split_numbers : (xs ns : List ℕ) (rest : List ℕ) → AreNumbers xs → AreNumbers ns → IsTail rest → numbers xs ++ rest ≡ numbers ns → (ms : List ℕ) × (ns ≡ xs ++ ms) × (rest ≡ numbers ms) × AreNumbers ms
split_numbers [] ns rest _ hn _ e = (ns, refl, e, hn)
split_numbers (x ∷ xs) [] rest _ _ _ e = absurd (cc)
split_numbers (x ∷ xs) (n ∷ ns) rest hx hn hr e =
    let after : (decimal x ++ numbers xs) ++ rest ≡ decimal n ++ numbers ns = cc in
    let same = one_number x n (numbers xs ++ rest) (numbers ns) hx.0 hn.0 (IsTail-append xs rest hr) (IsTail-numbers ns) (sym (append_assoc (decimal x) (numbers xs) rest) ∙ after) in
    let more = split_numbers xs ns rest hx.1 hn.1 hr same.1 in
    let first = same.0 in
    let rest_is : ns ≡ xs ++ more.0 = more.1 in
    (more.0, cc, more.2, more.3)

pub AreNumbers-push : (xs : List ℕ) (n : ℕ) → AreNumbers xs → n < 2 ^ 64 → AreNumbers (xs ++ (n ∷ []))
AreNumbers-push [] n h fits = (fits, tt)
AreNumbers-push (x ∷ xs) n h fits = (h.0, AreNumbers-push xs n h.1 fits)

pub numbers-push : (xs : List ℕ) (n : ℕ) (rest : List ℕ) → numbers xs ++ (32 ∷ (decimal n ++ rest)) ≡ numbers (xs ++ (n ∷ [])) ++ rest
numbers-push [] n rest = simp append_assoc
numbers-push (x ∷ xs) n rest =
    ap (λ ys. 32 ∷ ys) (append_assoc (decimal x) (numbers xs) (32 ∷ (decimal n ++ rest))
    ∙ ap (λ ys. decimal x ++ ys) (numbers-push xs n rest)
    ∙ sym (append_assoc (decimal x) (numbers (xs ++ (n ∷ []))) rest))

begins_with_none : (rest ms : List ℕ) → (rest ≡ [] → ⊥)
    → ((n : ℕ) (more : List ℕ) → n < 2 ^ 64 → IsTail more → rest ≡ 32 ∷ (decimal n ++ more) → ⊥)
    → rest ≡ numbers ms → AreNumbers ms → ⊥
begins_with_none rest [] some none e h = some e
begins_with_none rest (m ∷ ms) some none e h = none m (numbers ms) h.0 (IsTail-numbers ms) e

-- after the numbers `xs` comes a rest that begins with no number: no numbers at all
pub no_more : (text : List ℕ) (xs : List ℕ) (rest ns : List ℕ)
    → text ≡ numbers xs ++ rest → AreNumbers xs → AreNumbers ns → IsTail rest → (rest ≡ [] → ⊥)
    → ((n : ℕ) (more : List ℕ) → n < 2 ^ 64 → IsTail more → rest ≡ 32 ∷ (decimal n ++ more) → ⊥)
    → text ≡ numbers ns → ⊥
no_more text xs rest ns whole hx hn hr some none e =
    let parts = split_numbers xs ns rest hx hn hr (sym whole ∙ e) in
    begins_with_none rest parts.0 some none parts.2 parts.3

one_too_many : (rest xs ms ns : List ℕ) → (rest ≡ [] → ⊥) → 5 ≤ length xs → length ns ≤ 5 → ns ≡ xs ++ ms → rest ≡ numbers ms → ⊥
one_too_many rest xs [] ns some full few n r = some r
one_too_many rest xs (m ∷ ms) ns some full few n r = omega (arith, ap length n, length-append xs (m ∷ ms))

-- five numbers and more are no five
pub too_many : (text : List ℕ) (xs : List ℕ) (rest ns : List ℕ)
    → text ≡ numbers xs ++ rest → AreNumbers xs → AreNumbers ns → IsTail rest → (rest ≡ [] → ⊥)
    → 5 ≤ length xs → length ns ≤ 5 → text ≡ numbers ns → ⊥
too_many text xs rest ns whole hx hn hr some full few e =
    let parts = split_numbers xs ns rest hx hn hr (sym whole ∙ e) in
    one_too_many rest xs parts.0 ns some full few parts.1 parts.2

-- where the word after a space is no number, no number stands there
pub no_number : (text word tail : List ℕ) (n : ℕ) (rest : List ℕ) → HasNoSpace word → IsTail tail → n < 2 ^ 64 → IsTail rest
    → text ≡ 32 ∷ (word ++ tail) → text ≡ 32 ∷ (decimal n ++ rest)
    → ((m : ℕ) → m < 2 ^ 64 → word ≡ decimal m → ⊥) → ⊥
no_number text word tail n rest hw ht fits hr e f none =
    let same : word ++ tail ≡ decimal n ++ rest = cc in
    none n fits (one_cut word (decimal n) tail rest hw (HasNoSpace-decimal n fits) ht hr same).0
