-- A flat list cut into pieces.
use Rattle.std.proofs.Common.{◌≡◌, ℕ, zero, suc, slice_range, ◌+◌, ◌-◌, ◌<◌, ◌≤◌, List, [], ◌∷◌, ◌++◌, length, get_or, set, take, drop, refl, sym, ap, ◌∙◌, subst, arith, rules, length-append, length-drop, length-take-le}
use Rattle.std.proofs.lemmas.List.{take_all, take-append-le, drop-drop, take-append-drop}
use Rattle.std.proofs.Math.ListN.{drop_of_length-le}
use Rattle.change_record.specs.Tape.{pieces, rest_of, begin_of, AreEnds, spliced}

pub AreEnds-le : (a : ℕ) (es : List ℕ) (n : ℕ) → AreEnds a es n → a ≤ n
AreEnds-le a [] n h = h
AreEnds-le a (e ∷ es) n h = let k = AreEnds-le e es n h.1 in omega (arith, h.0)

-- more elements at the end
pub AreEnds-more : (a : ℕ) (es : List ℕ) (n m : ℕ) → AreEnds a es n → n ≤ m → AreEnds a es m
AreEnds-more a [] n m h le = omega arith
AreEnds-more a (e ∷ es) n m h le = (h.0, AreEnds-more e es n m h.1 le)

take-append_le : {A : Type 0} (k : ℕ) (xs ys : List A) → k ≤ length xs → take k (xs ++ ys) ≡ take k xs
take-append_le k xs ys h = search (rules, take-append-le)

drop-append_le : {A : Type 0} (k : ℕ) (xs ys : List A) → k ≤ length xs → drop k (xs ++ ys) ≡ drop k xs ++ ys
drop-append_le zero xs ys h = refl
drop-append_le (suc k) [] ys h = absurd (omega arith)
drop-append_le (suc k) (x ∷ xs) ys h = drop-append_le k xs ys (omega arith)

pub pieces-append : {A : Type 0} (a : ℕ) (es : List ℕ) (xs ys : List A) → AreEnds a es (a + length xs) → pieces a es (xs ++ ys) ≡ pieces a es xs
pieces-append a [] xs ys h = refl
pieces-append a (e ∷ es) xs ys h =
    let within : e - a ≤ length xs = omega (arith, h.0, AreEnds-le e es (a + length xs) h.1) in
    let left : AreEnds e es (e + length (drop (e - a) xs)) = subst (AreEnds e es) (omega (arith, h.0, length-drop (e - a) xs)) h.1 in
    ap (λ p. p ∷ pieces e es (drop (e - a) (xs ++ ys))) (take-append_le (e - a) xs ys within)
    ∙ ap (λ l. take (e - a) xs ∷ pieces e es l) (drop-append_le (e - a) xs ys within)
    ∙ ap (λ l. take (e - a) xs ∷ l) (pieces-append e es (drop (e - a) xs) ys left)

pub rest_of-append : {A : Type 0} (a : ℕ) (es : List ℕ) (xs ys : List A) → AreEnds a es (a + length xs) → rest_of a es (xs ++ ys) ≡ rest_of a es xs ++ ys
rest_of-append a [] xs ys h = refl
rest_of-append a (e ∷ es) xs ys h =
    let within : e - a ≤ length xs = omega (arith, h.0, AreEnds-le e es (a + length xs) h.1) in
    let left : AreEnds e es (e + length (drop (e - a) xs)) = subst (AreEnds e es) (omega (arith, h.0, length-drop (e - a) xs)) h.1 in
    ap (rest_of e es) (drop-append_le (e - a) xs ys within) ∙ rest_of-append e es (drop (e - a) xs) ys left

-- one more end, after all elements
pub AreEnds-close : (a : ℕ) (es : List ℕ) (n : ℕ) → AreEnds a es n → AreEnds a (es ++ n ∷ []) n
AreEnds-close a [] n h = (h, omega arith)
AreEnds-close a (e ∷ es) n h = (h.0, AreEnds-close e es n h.1)

take-all_of : {A : Type 0} (xs : List A) (k : ℕ) → k ≡ length xs → take k xs ≡ xs
take-all_of xs k e = take_all k xs (omega arith)

drop-all_of : {A : Type 0} (xs : List A) (k : ℕ) → k ≡ length xs → drop k xs ≡ []
drop-all_of xs k e = drop_of_length-le xs (omega arith)

pub pieces-close : {A : Type 0} (a : ℕ) (es : List ℕ) (xs : List A) (n : ℕ) → n ≡ a + length xs → AreEnds a es n → pieces a (es ++ n ∷ []) xs ≡ pieces a es xs ++ rest_of a es xs ∷ []
pieces-close a [] xs n e h = ap (λ p. p ∷ []) (take-all_of xs (n - a) (omega arith))
pieces-close a (d ∷ es) xs n e h =
    let left : n ≡ d + length (drop (d - a) xs) = omega (arith, h.0, AreEnds-le d es n h.1, length-drop (d - a) xs) in
    ap (λ l. take (d - a) xs ∷ l) (pieces-close d es (drop (d - a) xs) n left h.1)

pub rest_of-close : {A : Type 0} (a : ℕ) (es : List ℕ) (xs : List A) (n : ℕ) → n ≡ a + length xs → AreEnds a es n → rest_of a (es ++ n ∷ []) xs ≡ []
rest_of-close a [] xs n e h = drop-all_of xs (n - a) (omega arith)
rest_of-close a (d ∷ es) xs n e h =
    let left : n ≡ d + length (drop (d - a) xs) = omega (arith, h.0, AreEnds-le d es n h.1, length-drop (d - a) xs) in
    rest_of-close d es (drop (d - a) xs) n left h.1

pub length-pieces : {A : Type 0} (a : ℕ) (es : List ℕ) (xs : List A) → length (pieces a es xs) ≡ length es
length-pieces a [] xs = refl
length-pieces a (e ∷ es) xs = let k = length-pieces e es (drop (e - a) xs) in omega arith

pub begin_of-last : (a : ℕ) (es : List ℕ) (k d : ℕ) → 0 < k → k ≤ length es → begin_of a es k ≡ get_or es (k - 1) d
begin_of-last a es zero d h le = absurd (omega arith)
begin_of-last a [] (suc k) d h le = absurd (omega arith)
begin_of-last a (e ∷ es) (suc zero) d h le = refl
begin_of-last a (e ∷ es) (suc (suc k)) d h le =
    let m : suc (suc k) - 1 ≡ suc (suc k - 1) = omega arith in
    begin_of-last e es (suc k) d (omega arith) (omega arith) ∙ ap (λ n. get_or (e ∷ es) n d) (sym m)

-- the piece at a place lies within the list
pub begin_of-le : (a : ℕ) (es : List ℕ) (k n : ℕ) → k ≤ length es → AreEnds a es n → (a ≤ begin_of a es k) × (begin_of a es k ≤ n)
begin_of-le a es zero n le h = (omega arith, AreEnds-le a es n h)
begin_of-le a [] (suc k) n le h = absurd (omega arith)
begin_of-le a (e ∷ es) (suc k) n le h = let r = begin_of-le e es k n (omega arith) h.1 in (omega (arith, h.0, r.0), r.1)

pub ends_at : (a : ℕ) (es : List ℕ) (k n d : ℕ) → k < length es → AreEnds a es n → (begin_of a es k ≤ get_or es k d) × (get_or es k d ≤ n)
ends_at a [] k n d lt h = absurd (omega arith)
ends_at a (e ∷ es) zero n d lt h = (h.0, AreEnds-le e es n h.1)
ends_at a (e ∷ es) (suc k) n d lt h = ends_at e es k n d (omega arith) h.1

drop-drop_of : {A : Type 0} (i j k : ℕ) (xs : List A) → i + j ≡ k → drop j (drop i xs) ≡ drop k xs
drop-drop_of i j k xs e = drop-drop j i xs ∙ ap (λ n. drop n xs) e

left_ends : {A : Type 0} (a e : ℕ) (es : List ℕ) (xs : List A) → AreEnds a (e ∷ es) (a + length xs) → AreEnds e es (e + length (drop (e - a) xs))
left_ends a e es xs h = let k = AreEnds-le e es (a + length xs) h.1 in subst (AreEnds e es) (omega (arith, h.0, k, length-drop (e - a) xs)) h.1

pub piece_at : {A : Type 0} (a : ℕ) (es : List ℕ) (xs : List A) (k d : ℕ) → k < length es → AreEnds a es (a + length xs)
    → get_or (pieces a es xs) k [] ≡ take (get_or es k d - begin_of a es k) (drop (begin_of a es k - a) xs)
piece_at a [] xs k d lt h = absurd (omega arith)
piece_at a (e ∷ es) xs zero d lt h = let z : a - a ≡ 0 = omega arith in ap (λ n. take (e - a) (drop n xs)) (sym z)
piece_at a (e ∷ es) xs (suc k) d lt h =
    let b = begin_of-le e es k (e + length (drop (e - a) xs)) (omega arith) (left_ends a e es xs h) in
    piece_at e es (drop (e - a) xs) k d (omega arith) (left_ends a e es xs h)
    ∙ ap (take (get_or es k d - begin_of e es k)) (drop-drop_of (e - a) (begin_of e es k - e) (begin_of e es k - a) xs (omega (arith, h.0, b.0)))

pub rest_at : {A : Type 0} (a : ℕ) (es : List ℕ) (xs : List A) → AreEnds a es (a + length xs) → rest_of a es xs ≡ drop (begin_of a es (length es) - a) xs
rest_at a [] xs h = let z : a - a ≡ 0 = omega arith in ap (λ n. drop n xs) (sym z)
rest_at a (e ∷ es) xs h =
    let b = begin_of-le e es (length es) (e + length (drop (e - a) xs)) (omega arith) (left_ends a e es xs h) in
    rest_at e es (drop (e - a) xs) (left_ends a e es xs h)
    ∙ drop-drop_of (e - a) (begin_of e es (length es) - e) (begin_of e es (length es) - a) xs (omega (arith, h.0, b.0))

first_part : {A : Type 0} (xs ys : List A) (n : ℕ) → n ≡ length xs → (take n (xs ++ ys) ≡ xs) × (drop n (xs ++ ys) ≡ ys)
first_part [] ys zero e = (refl, refl)
first_part [] ys (suc n) e = absurd (omega arith)
first_part (x ∷ xs) ys zero e = absurd (omega arith)
first_part (x ∷ xs) ys (suc n) e = let r = first_part xs ys n (omega arith) in (ap (λ l. x ∷ l) r.0, r.1)

take-take_of : {A : Type 0} (m n : ℕ) (xs : List A) → m ≤ n → take m (take n xs) ≡ take m xs
take-take_of zero n xs h = refl
take-take_of (suc m) zero xs h = absurd (omega arith)
take-take_of (suc m) (suc n) [] h = refl
take-take_of (suc m) (suc n) (x ∷ xs) h = ap (λ l. x ∷ l) (take-take_of m n xs (omega arith))

no_take : {A : Type 0} (n : ℕ) → take {A = A} n [] ≡ []
no_take zero = refl
no_take (suc n) = refl

drop-take_of : {A : Type 0} (m n : ℕ) (xs : List A) → drop m (take (m + n) xs) ≡ take n (drop m xs)
drop-take_of zero n xs = let e : zero + n ≡ n = omega arith in ap (λ k. take k xs) e
drop-take_of (suc m) n [] = let e : suc m + n ≡ suc (m + n) = omega arith in ap (λ k. drop (suc m) (take k [])) e ∙ sym (no_take n)
drop-take_of (suc m) n (x ∷ xs) = let e : suc m + n ≡ suc (m + n) = omega arith in ap (λ k. drop (suc m) (take k (x ∷ xs))) e ∙ drop-take_of m n xs

-- a splice at or after a place leaves what stands before it
take-spliced : {A : Type 0} (n start end : ℕ) (xs ys : List A) → n ≤ start → start ≤ length xs → take n (spliced start end xs ys) ≡ take n xs
take-spliced n start end xs ys h le =
    take-append-le n (take start xs) (ys ++ drop end xs) (omega (arith, length-take-le start xs le)) ∙ take-take_of n start xs h

drop-spliced : {A : Type 0} (n start end : ℕ) (xs ys : List A) → n ≤ start → start ≤ end → start ≤ length xs
    → drop n (spliced start end xs ys) ≡ spliced (start - n) (end - n) (drop n xs) ys
drop-spliced n start end xs ys h o le =
    let s : n + (start - n) ≡ start = omega arith in
    let e : n + (end - n) ≡ end = omega arith in
    drop-append_le n (take start xs) (ys ++ drop end xs) (omega (arith, length-take-le start xs le))
    ∙ ap (λ k. drop n (take k xs) ++ (ys ++ drop end xs)) (sym s)
    ∙ ap (λ l. l ++ (ys ++ drop end xs)) (drop-take_of n (start - n) xs)
    ∙ ap (λ l. take (start - n) (drop n xs) ++ (ys ++ l)) (sym (drop-drop_of n (end - n) end xs e))

length-spliced : {A : Type 0} (start end : ℕ) (xs ys : List A) → start ≤ end → end ≤ length xs → length ys ≡ end - start → length (spliced start end xs ys) ≡ length xs
length-spliced start end xs ys o le e =
    simp (length-append, length-drop) (omega (arith, length-take-le start xs (omega arith)))

-- the splice of one piece
pub pieces-spliced : {A : Type 0} (a : ℕ) (es : List ℕ) (xs ys : List A) (k d : ℕ) → k < length es → AreEnds a es (a + length xs) → length ys ≡ get_or es k d - begin_of a es k
    → pieces a es (spliced (begin_of a es k - a) (get_or es k d - a) xs ys) ≡ set (pieces a es xs) k ys
pieces-spliced a [] xs ys k d lt h e = absurd (omega arith)
pieces-spliced a (f ∷ es) xs ys zero d lt h e =
    let z : a - a ≡ 0 = omega arith in
    let whole : spliced (a - a) (f - a) xs ys ≡ ys ++ drop (f - a) xs = ap (λ n. spliced n (f - a) xs ys) z in
    let parts = first_part ys (drop (f - a) xs) (f - a) (omega arith) in
    ap (pieces a (f ∷ es)) whole ∙ ap (λ l. l ∷ pieces f es (drop (f - a) (ys ++ drop (f - a) xs))) parts.0
    ∙ ap (λ l. ys ∷ pieces f es l) parts.1
pieces-spliced a (f ∷ es) xs ys (suc k) d lt h e =
    let b = begin_of-le f es k (a + length xs) (omega arith) h.1 in
    let o = ends_at f es k (a + length xs) d (omega arith) h.1 in
    let start = begin_of f es k in
    let end = get_or es k d in
    let s : start - a - (f - a) ≡ start - f = omega (arith, h.0, b.0) in
    let t : end - a - (f - a) ≡ end - f = omega (arith, h.0, b.0, o.0) in
    let within : f - a ≤ start - a = omega (arith, h.0, b.0) in
    let fits : start - a ≤ length xs = omega (arith, h.0, b.0, b.1) in
    ap (λ l. l ∷ pieces f es (drop (f - a) (spliced (start - a) (end - a) xs ys))) (take-spliced (f - a) (start - a) (end - a) xs ys within fits)
    ∙ ap (λ l. take (f - a) xs ∷ pieces f es l) (drop-spliced (f - a) (start - a) (end - a) xs ys within (omega (arith, o.0)) fits
    ∙ ap (λ n. spliced n (end - a - (f - a)) (drop (f - a) xs) ys) s ∙ ap (λ n. spliced (start - f) n (drop (f - a) xs) ys) t)
    ∙ ap (λ l. take (f - a) xs ∷ l) (pieces-spliced f es (drop (f - a) xs) ys k d (omega arith) (left_ends a f es xs h) e)

pub rest_of-spliced : {A : Type 0} (a : ℕ) (es : List ℕ) (xs ys : List A) (k d : ℕ) → k < length es → AreEnds a es (a + length xs) → length ys ≡ get_or es k d - begin_of a es k
    → rest_of a es (spliced (begin_of a es k - a) (get_or es k d - a) xs ys) ≡ rest_of a es xs
rest_of-spliced a [] xs ys k d lt h e = absurd (omega arith)
rest_of-spliced a (f ∷ es) xs ys zero d lt h e =
    let z : a - a ≡ 0 = omega arith in
    let whole : spliced (a - a) (f - a) xs ys ≡ ys ++ drop (f - a) xs = ap (λ n. spliced n (f - a) xs ys) z in
    ap (rest_of a (f ∷ es)) whole ∙ ap (rest_of f es) (first_part ys (drop (f - a) xs) (f - a) (omega arith)).1
rest_of-spliced a (f ∷ es) xs ys (suc k) d lt h e =
    let b = begin_of-le f es k (a + length xs) (omega arith) h.1 in
    let o = ends_at f es k (a + length xs) d (omega arith) h.1 in
    let start = begin_of f es k in
    let end = get_or es k d in
    let s : start - a - (f - a) ≡ start - f = omega (arith, h.0, b.0) in
    let t : end - a - (f - a) ≡ end - f = omega (arith, h.0, b.0, o.0) in
    let within : f - a ≤ start - a = omega (arith, h.0, b.0) in
    let fits : start - a ≤ length xs = omega (arith, h.0, b.0, b.1) in
    ap (rest_of f es) (drop-spliced (f - a) (start - a) (end - a) xs ys within (omega (arith, o.0)) fits
    ∙ ap (λ n. spliced n (end - a - (f - a)) (drop (f - a) xs) ys) s ∙ ap (λ n. spliced (start - f) n (drop (f - a) xs) ys) t)
    ∙ rest_of-spliced f es (drop (f - a) xs) ys k d (omega arith) (left_ends a f es xs h) e

AreEnds-tight : (a : ℕ) (es : List ℕ) (n : ℕ) → AreEnds a es n → AreEnds a es (begin_of a es (length es))
AreEnds-tight a [] n h = omega arith
AreEnds-tight a (e ∷ es) n h = (h.0, AreEnds-tight e es n h.1)

-- nothing is left where the list is cut at the last end
module _ {A : Type 0} (es : List ℕ) (xs : List A) (n : ℕ) (e : n ≡ begin_of 0 es (length es)) (h : AreEnds 0 es (length xs)) where
  cut_length : length (take n xs) ≡ n
  cut_length = length-take-le n xs (omega (arith, e, (begin_of-le 0 es (length es) (length xs) (omega arith) h).1))

  pub AreEnds-cut : AreEnds 0 es (length (take n xs))
  AreEnds-cut = subst (AreEnds 0 es) (sym (cut_length ∙ e)) (AreEnds-tight 0 es (length xs) h)

  ends_cut : AreEnds 0 es (0 + length (take n xs))
  ends_cut = subst (AreEnds 0 es) (omega arith) AreEnds-cut

  pub pieces-cut : pieces 0 es (take n xs) ≡ pieces 0 es xs
  pieces-cut = sym (pieces-append 0 es (take n xs) (drop n xs) ends_cut) ∙ ap (pieces 0 es) (take-append-drop n xs)

  pub rest_of-cut : rest_of 0 es (take n xs) ≡ []
  rest_of-cut = rest_at 0 es (take n xs) ends_cut ∙ drop-all_of (take n xs) _ (omega (arith, e, cut_length))

-- the same for a whole list
module _ {A : Type 0} (es : List ℕ) (xs : List A) (h : AreEnds 0 es (length xs)) where
  whole_ends : AreEnds 0 es (0 + length xs)
  whole_ends = subst (AreEnds 0 es) (omega arith) h

  pub pieces_more : (ys : List A) → (pieces 0 es (xs ++ ys) ≡ pieces 0 es xs) × (rest_of 0 es (xs ++ ys) ≡ rest_of 0 es xs ++ ys)
  pieces_more ys = (pieces-append 0 es xs ys whole_ends, rest_of-append 0 es xs ys whole_ends)

  pub ends_more : (ys : List A) → AreEnds 0 es (length (xs ++ ys))
  ends_more ys = AreEnds-more 0 es (length xs) _ h (omega (arith, length-append xs ys))

  pub pieces_closed : pieces 0 (es ++ length xs ∷ []) xs ≡ pieces 0 es xs ++ rest_of 0 es xs ∷ []
  pieces_closed = pieces-close 0 es xs (length xs) (omega arith) h

  pub rest_closed : rest_of 0 (es ++ length xs ∷ []) xs ≡ []
  rest_closed = rest_of-close 0 es xs (length xs) (omega arith) h

  pub rest_is : rest_of 0 es xs ≡ drop (begin_of 0 es (length es)) xs
  rest_is = let z : begin_of 0 es (length es) - 0 ≡ begin_of 0 es (length es) = omega arith in rest_at 0 es xs whole_ends ∙ ap (λ n. drop n xs) z

  module _ (k : ℕ) (lt : k < length es) where
    pub span_ordered : (begin_of 0 es k ≤ get_or es k 0) × (get_or es k 0 ≤ length xs)
    span_ordered = ends_at 0 es k (length xs) 0 lt h

    pub piece_is : get_or (pieces 0 es xs) k [] ≡ slice_range xs (begin_of 0 es k) (get_or es k 0)
    piece_is =
        let z : begin_of 0 es k - 0 ≡ begin_of 0 es k = omega arith in
        piece_at 0 es xs k 0 lt whole_ends ∙ ap (λ n. take (get_or es k 0 - begin_of 0 es k) (drop n xs)) z

    pub length-piece : length (get_or (pieces 0 es xs) k []) ≡ get_or es k 0 - begin_of 0 es k
    length-piece = ap length piece_is ∙ length-take-le _ _ (omega (arith, span_ordered.0, span_ordered.1, length-drop (begin_of 0 es k) xs))

    module _ (ys : List A) (e : length ys ≡ get_or es k 0 - begin_of 0 es k) where
      put_is : spliced (begin_of 0 es k - 0) (get_or es k 0 - 0) xs ys ≡ spliced (begin_of 0 es k) (get_or es k 0) xs ys
      put_is =
          let z : begin_of 0 es k - 0 ≡ begin_of 0 es k = omega arith in
          let w : get_or es k 0 - 0 ≡ get_or es k 0 = omega arith in
          ap (λ n. spliced n (get_or es k 0 - 0) xs ys) z ∙ ap (λ n. spliced (begin_of 0 es k) n xs ys) w

      pub pieces_put : pieces 0 es (spliced (begin_of 0 es k) (get_or es k 0) xs ys) ≡ set (pieces 0 es xs) k ys
      pieces_put = sym (ap (pieces 0 es) put_is) ∙ pieces-spliced 0 es xs ys k 0 lt whole_ends e

      pub rest_put : rest_of 0 es (spliced (begin_of 0 es k) (get_or es k 0) xs ys) ≡ rest_of 0 es xs
      rest_put = sym (ap (rest_of 0 es) put_is) ∙ rest_of-spliced 0 es xs ys k 0 lt whole_ends e

      pub ends_put : AreEnds 0 es (length (spliced (begin_of 0 es k) (get_or es k 0) xs ys))
      ends_put = subst (AreEnds 0 es) (sym (length-spliced (begin_of 0 es k) (get_or es k 0) xs ys span_ordered.0 span_ordered.1 e)) h

-- a span that the code has found, in lists that it has read, is the piece at its place
pub span_piece : {A : Type 0} (es ends : List ℕ) (xs changes : List A) (k start end : ℕ) → ends ≡ es → changes ≡ xs → AreEnds 0 es (length xs) → k < length es
    → start ≡ begin_of 0 ends k → end ≡ get_or ends k 0 → slice_range changes start end ≡ get_or (pieces 0 es xs) k []
span_piece es ends xs changes k start end e f h lt s t =
    ap (λ l. slice_range l start end) f
    ∙ ap (λ n. slice_range xs n end) (s ∙ ap (λ l. begin_of 0 l k) e)
    ∙ ap (λ n. slice_range xs (begin_of 0 es k) n) (t ∙ ap (λ l. get_or l k 0) e)
    ∙ sym (piece_is es xs h k lt)

-- and what is spliced into it is put at that place
pub span_put : {A : Type 0} (es ends : List ℕ) (xs changes now ys : List A) (k start end : ℕ) → ends ≡ es → changes ≡ xs → AreEnds 0 es (length xs) → k < length es
    → start ≡ begin_of 0 ends k → end ≡ get_or ends k 0 → now ≡ spliced start end changes ys → length ys ≡ length (get_or (pieces 0 es xs) k [])
    → (pieces 0 es now ≡ set (pieces 0 es xs) k ys) × (rest_of 0 es now ≡ rest_of 0 es xs) × AreEnds 0 es (length now)
span_put es ends xs changes now ys k start end e f h lt s t n long =
    let put : now ≡ spliced (begin_of 0 es k) (get_or es k 0) xs ys =
    n ∙ ap (λ l. spliced start end l ys) f
    ∙ ap (λ m. spliced m end xs ys) (s ∙ ap (λ l. begin_of 0 l k) e)
    ∙ ap (λ m. spliced (begin_of 0 es k) m xs ys) (t ∙ ap (λ l. get_or l k 0) e) in
    let size = long ∙ length-piece es xs h k lt in (
      ap (pieces 0 es) put ∙ pieces_put es xs h k lt ys size,
      ap (rest_of 0 es) put ∙ rest_put es xs h k lt ys size,
      subst (λ l. AreEnds 0 es (length l)) (sym put) (ends_put es xs h k lt ys size),
    )

-- what a vector has after its elements were lent as a slice
pub restored : {A : Type 0} (xs now : List A) (n : ℕ) → n ≡ length now → take n (now ++ drop (length now) xs) ≡ now
restored xs now n e = (first_part now (drop (length now) xs) n e).0

-- the rest after the last piece is turned back and cut off
pub rest_cut : {A : Type 0} (es ends : List ℕ) (xs changes now ys : List A) (start end : ℕ) → ends ≡ es → changes ≡ xs → AreEnds 0 es (length xs)
    → start ≡ begin_of 0 ends (length ends) → end ≡ length xs → now ≡ spliced start end changes ys
    → (slice_range changes start end ≡ rest_of 0 es xs) × (take start now ≡ take (begin_of 0 es (length es)) xs)
rest_cut es ends xs changes now ys start end e f h s t n =
    let b : start ≡ begin_of 0 es (length es) = s ∙ ap (λ l. begin_of 0 l (length l)) e in
    let le : begin_of 0 es (length es) ≤ length xs = (begin_of-le 0 es (length es) (length xs) (omega arith) h).1 in
    let all : take (end - start) (drop start xs) ≡ drop start xs = take_all (end - start) (drop start xs) (omega (arith, t, length-drop start xs)) in
    let within : start ≤ length xs = omega (arith, b, le) in (
      ap (λ l. slice_range l start end) f ∙ all ∙ ap (λ k. drop k xs) b ∙ sym (rest_is es xs h),
      ap (take start) (n ∙ ap (λ l. spliced start end l ys) f)
          ∙ take-append-le start (take start xs) (ys ++ drop end xs) (omega (arith, length-take-le start xs within)) ∙ take-take_of start start xs (omega arith) ∙ ap (λ k. take k xs) b,
    )

pieces-first : {A : Type 0} (a : ℕ) (es : List ℕ) (xs : List A) (k : ℕ) → pieces a (take k es) xs ≡ take k (pieces a es xs)
pieces-first a [] xs zero = refl
pieces-first a [] xs (suc k) = refl
pieces-first a (e ∷ es) xs zero = refl
pieces-first a (e ∷ es) xs (suc k) = ap (λ l. take (e - a) xs ∷ l) (pieces-first e es (drop (e - a) xs) k)

begin_of-first : (a : ℕ) (es : List ℕ) (k : ℕ) → k ≤ length es → begin_of a (take k es) (length (take k es)) ≡ begin_of a es k
begin_of-first a [] zero h = refl
begin_of-first a [] (suc k) h = refl
begin_of-first a (e ∷ es) zero h = refl
begin_of-first a (e ∷ es) (suc k) h = begin_of-first e es k (omega arith)

AreEnds-first : (a : ℕ) (es : List ℕ) (k n : ℕ) → AreEnds a es n → AreEnds a (take k es) n
AreEnds-first a [] zero n h = h
AreEnds-first a [] (suc k) n h = h
AreEnds-first a (e ∷ es) zero n h = AreEnds-le a (e ∷ es) n h
AreEnds-first a (e ∷ es) (suc k) n h = (h.0, AreEnds-first e es k n h.1)

begin_of-mono : (a : ℕ) (es : List ℕ) (k j n : ℕ) → k ≤ j → j ≤ length es → AreEnds a es n → begin_of a es k ≤ begin_of a es j
begin_of-mono a es zero j n le h ends = (begin_of-le a es j n h ends).0
begin_of-mono a [] (suc k) j n le h ends = absurd (omega arith)
begin_of-mono a (e ∷ es) (suc k) zero n le h ends = absurd (omega arith)
begin_of-mono a (e ∷ es) (suc k) (suc j) n le h ends = begin_of-mono e es k j n (omega arith) (omega arith) ends.1

-- the first pieces, and the last one after them
module _ {A : Type 0} (es : List ℕ) (xs : List A) (h : AreEnds 0 es (length xs)) (idle : rest_of 0 es xs ≡ []) (k : ℕ) (lt : k < length es) where
  pub ordered_begins : (begin_of 0 es k ≤ begin_of 0 es (length es - 1)) × (begin_of 0 es (length es - 1) ≤ length xs)
  ordered_begins = (begin_of-mono 0 es k (length es - 1) (length xs) (omega arith) (omega arith) h, (begin_of-le 0 es (length es - 1) (length xs) (omega arith) h).1)

  pub first_cut : AreEnds 0 (take k es) (length (take (begin_of 0 es k) xs))
  first_cut = AreEnds-cut (take k es) xs (begin_of 0 es k) (sym (begin_of-first 0 es k (omega arith))) (AreEnds-first 0 es k (length xs) h)

  pub first_pieces : pieces 0 (take k es) (take (begin_of 0 es k) xs) ≡ take k (pieces 0 es xs)
  first_pieces = pieces-cut (take k es) xs (begin_of 0 es k) (sym (begin_of-first 0 es k (omega arith))) (AreEnds-first 0 es k (length xs) h) ∙ pieces-first 0 es xs k

  pub first_rest : rest_of 0 (take k es) (take (begin_of 0 es k) xs) ≡ []
  first_rest = rest_of-cut (take k es) xs (begin_of 0 es k) (sym (begin_of-first 0 es k (omega arith))) (AreEnds-first 0 es k (length xs) h)

  -- the last piece ends with the list
  last_piece : get_or (pieces 0 es xs) (length (pieces 0 es xs) - 1) [] ≡ drop (begin_of 0 es (length es - 1)) xs
  last_piece =
      let b = begin_of 0 es (length es - 1) in
      let all : length (drop (begin_of 0 es (length es)) xs) ≡ 0 = ap length (sym (rest_is es xs h) ∙ idle) in
      let end = begin_of-last 0 es (length es) 0 (omega arith) (omega arith) in
      let long : length (drop b xs) ≤ get_or es (length es - 1) 0 - b =
      omega (arith, all, end, length-drop b xs, length-drop (begin_of 0 es (length es)) xs) in
      ap (λ n. get_or (pieces 0 es xs) (n - 1) []) (length-pieces 0 es xs)
      ∙ piece_is es xs h (length es - 1) (omega arith) ∙ take_all (get_or es (length es - 1) 0 - b) (drop b xs) long

  whole_kept : AreEnds 0 (take k es) (length (take (begin_of 0 es k) xs ++ drop (begin_of 0 es (length es - 1)) xs))
  whole_kept = ends_more (take k es) (take (begin_of 0 es k) xs) first_cut (drop (begin_of 0 es (length es - 1)) xs)

  pub pieces_kept : pieces 0 (take k es ++ length (take (begin_of 0 es k) xs ++ drop (begin_of 0 es (length es - 1)) xs) ∷ []) (take (begin_of 0 es k) xs ++ drop (begin_of 0 es (length es - 1)) xs)
      ≡ take k (pieces 0 es xs) ++ get_or (pieces 0 es xs) (length (pieces 0 es xs) - 1) [] ∷ []
  pieces_kept =
      let front = take (begin_of 0 es k) xs in
      let tail = drop (begin_of 0 es (length es - 1)) xs in
      let more = pieces_more (take k es) front first_cut tail in
      pieces_closed (take k es) (front ++ tail) whole_kept
      ∙ ap (λ l. l ++ rest_of 0 (take k es) (front ++ tail) ∷ []) (more.0 ∙ first_pieces)
      ∙ ap (λ l. take k (pieces 0 es xs) ++ l ∷ []) (more.1 ∙ ap (λ l. l ++ tail) first_rest ∙ sym last_piece)

  pub rest_kept : rest_of 0 (take k es ++ length (take (begin_of 0 es k) xs ++ drop (begin_of 0 es (length es - 1)) xs) ∷ []) (take (begin_of 0 es k) xs ++ drop (begin_of 0 es (length es - 1)) xs) ≡ []
  rest_kept = rest_closed (take k es) (take (begin_of 0 es k) xs ++ drop (begin_of 0 es (length es - 1)) xs) whole_kept

  pub ends_kept : AreEnds 0 (take k es ++ length (take (begin_of 0 es k) xs ++ drop (begin_of 0 es (length es - 1)) xs) ∷ []) (length (take (begin_of 0 es k) xs ++ drop (begin_of 0 es (length es - 1)) xs))
  ends_kept = AreEnds-close 0 (take k es) _ whole_kept
