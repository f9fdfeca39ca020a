-- What bytes begin with, by their length and their first four bytes.
use Rattle.std.proofs.Common.{◌≡◌, ℕ, ◌+◌, ◌^◌, ◌<◌, ◌≤◌, List, [], ◌++◌, length, take, drop, Bool, true, false, cond, ltb, eqb, ◌||◌, ◌⊎◌, Result, Ok, Err, refl, sym, ap, ◌∙◌, arith, inl, inr}
use Rattle.std.specs.Prelude.{IfOk}
use Rattle.std.proofs.lemmas.Bool.{cases_lt, lt-ltb, le-ltb, eqb-true, eq-eqb, ne_eqb, or_from, or_right}
use Rattle.std.proofs.lemmas.List.{append-nil, take-append-le, drop-append-le, length-append, length-drop, length-take-le, take_all}
use Rattle.session_proto.specs.Frame.{IsBytes, IsFrame, framed, length_field}
use Rattle.session_proto.specs.Reading.{said, next_of, whole_of, Gives}
use Rattle.session_proto.specs.declared.fault.Fault.{Fault}
use Rattle.session_proto.specs.declared.fault.Fault.TheVariants.{BadLengthField}
use Rattle.session_proto.specs.declared.fault.ReadError.{ReadError}
use Rattle.session_proto.specs.declared.next.Next.{Next}
use Rattle.session_proto.specs.declared.next.Next.TheVariants.{More, Bad, Whole}
use Rattle.session_proto.proofs.Frames.{IsBytes-take, IsBytes-drop, length-framed, length_field-framed, body-framed, framed-of, length_field-more}

-- the laws of a side
pub record IsSide {T : Type 0} (body : T → List ℕ) (fits : T → Type 0) (body_at : List ℕ → Result T Fault) (most : ℕ) : Type 0 where
  pub few : most < 2 ^ 32
  pub in_limits : (v : T) → fits v → (0 < length (body v)) × (length (body v) ≤ most)
  pub again : (v : T) → fits v → body_at (body v) ≡ Ok v
  pub spelled : (bytes : List ℕ) (v : T) → IsBytes bytes → length bytes ≤ most → body_at bytes ≡ Ok v → fits v × (bytes ≡ body v)

-- the bytes of the first frame's body
abbrev pub body_field : List ℕ → List ℕ
body_field bytes = take (length_field bytes) (drop 4 bytes)

-- ---- from what is known of the bytes

pub next_short : {T : Type 0} (body_at : List ℕ → Result T Fault) (most : ℕ) (bytes : List ℕ) → length bytes < 4 → next_of body_at most bytes ≡ More
unfolding next_of
next_short body_at most bytes h = rw (lt-ltb (length bytes) 4 h) refl

pub next_none : {T : Type 0} (body_at : List ℕ → Result T Fault) (most : ℕ) (bytes : List ℕ) → 4 ≤ length bytes → length_field bytes ≡ 0
    → next_of body_at most bytes ≡ Bad BadLengthField
unfolding next_of
next_none body_at most bytes h e = rw (le-ltb (length bytes) 4 h, e) refl

pub next_above : {T : Type 0} (body_at : List ℕ → Result T Fault) (most : ℕ) (bytes : List ℕ) → 4 ≤ length bytes → most < length_field bytes
    → next_of body_at most bytes ≡ Bad BadLengthField
unfolding next_of
next_above body_at most bytes h e =
    rw (le-ltb (length bytes) 4 h, or_right (eqb (length_field bytes) 0) (ltb most (length_field bytes)) (lt-ltb most (length_field bytes) e)) refl

-- with a length from 1 to the greatest
in_limits : (most n : ℕ) → 0 < n → n ≤ most → (eqb n 0 || ltb most n) ≡ false
in_limits most n low high = or_from (eqb n 0) (ltb most n) (ne_eqb n 0 (λ e. omega (arith, e))) (le-ltb most n high)

pub next_cut : {T : Type 0} (body_at : List ℕ → Result T Fault) (most : ℕ) (bytes : List ℕ) → 4 ≤ length bytes
    → 0 < length_field bytes → length_field bytes ≤ most → length bytes < 4 + length_field bytes → next_of body_at most bytes ≡ More
unfolding next_of
next_cut body_at most bytes h low high cut =
    rw (le-ltb (length bytes) 4 h, in_limits most (length_field bytes) low high, lt-ltb (length bytes) (4 + length_field bytes) cut) refl

pub next_said : {T : Type 0} (body_at : List ℕ → Result T Fault) (most : ℕ) (bytes : List ℕ) → 4 ≤ length bytes
    → 0 < length_field bytes → length_field bytes ≤ most → 4 + length_field bytes ≤ length bytes
    → next_of body_at most bytes ≡ said (4 + length_field bytes) (body_at (body_field bytes))
unfolding next_of
next_said body_at most bytes h low high whole =
    rw (le-ltb (length bytes) 4 h, in_limits most (length_field bytes) low high, le-ltb (length bytes) (4 + length_field bytes) whole) refl

-- a body that was read
pub next_read : {T : Type 0} (body_at : List ℕ → Result T Fault) (most : ℕ) (bytes : List ℕ) {rest body : List ℕ} {n : ℕ} {r : Result T Fault} → 4 ≤ length bytes
    → n ≡ length_field bytes → 0 < n → n ≤ most → rest ≡ drop 4 bytes → n ≤ length rest → body ≡ take n rest → body_at body ≡ r → said (4 + n) r ≡ next_of body_at most bytes
next_read body_at most bytes {rest} {body} {n} {r} four field low high behind whole front is =
    let same : body ≡ body_field bytes = front ∙ ap (take n) behind ∙ ap (λ (k : ℕ). take k (drop 4 bytes)) field in
    let k : next_of body_at most bytes ≡ said (4 + length_field bytes) (body_at (body_field bytes)) =
    next_said body_at most bytes four (omega arith) (omega arith) (omega (arith, length-drop 4 bytes, ap length behind)) in
    sym (k ∙ rw (← same, ← field, is) refl)

-- a body that is not there yet
pub next_wait : {T : Type 0} (body_at : List ℕ → Result T Fault) (most : ℕ) (bytes : List ℕ) {rest : List ℕ} {n : ℕ} → 4 ≤ length bytes
    → n ≡ length_field bytes → 0 < n → n ≤ most → rest ≡ drop 4 bytes → length rest < n → More ≡ next_of body_at most bytes
next_wait body_at most bytes {rest} {n} four field low high behind cut =
    sym (next_cut body_at most bytes four (omega arith) (omega arith) (omega (arith, length-drop 4 bytes, ap length behind)))

-- ---- from what they begin with

-- the four cases of the bytes, each with what they begin with
pub data NextCase {T : Type 0} (body_at : List ℕ → Result T Fault) (most : ℕ) (bytes : List ℕ) : Type 0 where
  is_short : length bytes < 4 → next_of body_at most bytes ≡ More → NextCase body_at most bytes
  is_bad : 4 ≤ length bytes → (length_field bytes ≡ 0) ⊎ (most < length_field bytes) → next_of body_at most bytes ≡ Bad BadLengthField → NextCase body_at most bytes
  is_cut : 4 ≤ length bytes → 0 < length_field bytes → length_field bytes ≤ most → length bytes < 4 + length_field bytes → next_of body_at most bytes ≡ More → NextCase body_at most bytes
  is_whole : 4 ≤ length bytes → 0 < length_field bytes → length_field bytes ≤ most → 4 + length_field bytes ≤ length bytes
      → next_of body_at most bytes ≡ said (4 + length_field bytes) (body_at (body_field bytes)) → NextCase body_at most bytes

pub next_case : {T : Type 0} (body_at : List ℕ → Result T Fault) (most : ℕ) (bytes : List ℕ) → NextCase body_at most bytes
next_case body_at most bytes =
    elim (cases_lt (length bytes) 4) [
      | inl short ↦ is_short short (next_short body_at most bytes short)
      | inr four ↦ elim (cases_lt 0 (length_field bytes)) [
        | inr zero_ ↦ let z : length_field bytes ≡ 0 = omega arith in is_bad four (inl z) (next_none body_at most bytes four z)
        | inl low ↦ elim (cases_lt most (length_field bytes)) [
          | inl above ↦ is_bad four (inr above) (next_above body_at most bytes four above)
          | inr high ↦ elim (cases_lt (length bytes) (4 + length_field bytes)) [
            | inl cut ↦ is_cut four low high cut (next_cut body_at most bytes four low high cut)
            | inr whole ↦ is_whole four low high whole (next_said body_at most bytes four low high whole)
          ]
        ]
      ]
    ]

-- the frame of a value that fits, whatever follows it
pub next_framed : {T : Type 0} (body : T → List ℕ) (fits : T → Type 0) (body_at : List ℕ → Result T Fault) (most : ℕ) → IsSide body fits body_at most
    → (v : T) (rest : List ℕ) → fits v → next_of body_at most (framed (body v) ++ rest) ≡ Whole v (4 + length (body v))
next_framed body fits body_at most side v rest h =
    let bytes = framed (body v) ++ rest in
    let limits = side.in_limits v h in
    let few : length (body v) < 2 ^ 32 = omega (arith, limits.1, side.few) in
    let field : length_field bytes ≡ length (body v) = length_field-framed (body v) rest few in
    let len : length bytes ≡ 4 + length (body v) + length rest = omega (arith, length-append (framed (body v)) rest, length-framed (body v)) in
    let said_so : next_of body_at most bytes ≡ said (4 + length_field bytes) (body_at (body_field bytes)) =
    next_said body_at most bytes (omega arith) (omega (arith, limits.0, field)) (omega (arith, limits.1, field)) (omega (arith, field)) in
    let the_body : body_field bytes ≡ body v = ap (λ (n : ℕ). take n (drop 4 bytes)) field ∙ body-framed (body v) rest in
    said_so ∙ rw (the_body, field, side.again v h) refl

-- what a value was read of is its frame
pub record Found {T : Type 0} (body : T → List ℕ) (fits : T → Type 0) (bytes : List ℕ) (v : T) (size : ℕ) : Type 0 where
  pub does_fit : fits v
  pub low : 4 < size
  pub within : size ≤ length bytes
  pub is_frame : take size bytes ≡ framed (body v)

said_whole : {T : Type 0} (size : ℕ) (r : Result T Fault) (v : T) (n : ℕ) → said size r ≡ Whole v n → (r ≡ Ok v) × (size ≡ n)
said_whole size (Ok w) v n e = (cc, cc)
said_whole size (Err f) v n e = absurd cc

pub next_found : {T : Type 0} (body : T → List ℕ) (fits : T → Type 0) (body_at : List ℕ → Result T Fault) (most : ℕ) → IsSide body fits body_at most
    → (bytes : List ℕ) (v : T) (size : ℕ) → IsBytes bytes → next_of body_at most bytes ≡ Whole v size → Found body fits bytes v size
next_found body fits body_at most side bytes v size are e =
    elim (next_case body_at most bytes) [
      | is_short _ more ↦ absurd (cc (more, e))
      | is_bad _ _ bad ↦ absurd (cc (bad, e))
      | is_cut _ _ _ _ more ↦ absurd (cc (more, e))
      | is_whole four low high whole is ↦
          let n = length_field bytes in
          let parts = said_whole (4 + n) (body_at (body_field bytes)) v size (sym is ∙ e) in
          let len : length (body_field bytes) ≡ n = length-take-le n (drop 4 bytes) (omega (arith, length-drop 4 bytes)) in
          let spelled = side.spelled (body_field bytes) v (IsBytes-take n (drop 4 bytes) (IsBytes-drop 4 bytes are)) (omega (arith, len)) parts.0 in
          record {
            does_fit = spelled.0;
            low = omega (arith, parts.1, low);
            within = omega (arith, parts.1, whole);
            is_frame = ap (λ (k : ℕ). take k bytes) (sym parts.1) ∙ framed-of bytes are four whole ∙ ap framed spelled.1;
          }
    ]

-- with more bytes behind it a fault stays the same
pub bad_more : {T : Type 0} (body_at : List ℕ → Result T Fault) (most : ℕ) (bytes more : List ℕ) (f : Fault)
    → next_of body_at most bytes ≡ Bad f → next_of body_at most (bytes ++ more) ≡ Bad f
bad_more body_at most bytes more f e =
    let len = length-append bytes more in
    elim (next_case body_at most bytes) [
      | is_short _ more_ ↦ absurd (cc (more_, e))
      | is_bad four which bad ↦
          let field : length_field (bytes ++ more) ≡ length_field bytes = length_field-more bytes more four in
          elim which [
            | inl none ↦ next_none body_at most (bytes ++ more) (omega (arith, len)) (field ∙ none) ∙ sym bad ∙ e
            | inr above ↦ next_above body_at most (bytes ++ more) (omega (arith, len)) (omega (arith, field, above)) ∙ sym bad ∙ e
          ]
      | is_cut _ _ _ _ more_ ↦ absurd (cc (more_, e))
      | is_whole four low high whole is ↦
          let field : length_field (bytes ++ more) ≡ length_field bytes = length_field-more bytes more four in
          let behind : drop 4 (bytes ++ more) ≡ drop 4 bytes ++ more = drop-append-le 4 bytes more four in
          let inside : take (length_field bytes) (drop 4 bytes ++ more) ≡ take (length_field bytes) (drop 4 bytes) =
          take-append-le (length_field bytes) (drop 4 bytes) more (omega (arith, length-drop 4 bytes)) in
          let the_body : body_field (bytes ++ more) ≡ body_field bytes = ap (λ (n : ℕ). take n (drop 4 (bytes ++ more))) field ∙ ap (take (length_field bytes)) behind ∙ inside in
          next_said body_at most (bytes ++ more) (omega (arith, len)) (omega (arith, field)) (omega (arith, field)) (omega (arith, field, len))
          ∙ rw (the_body, field) (sym is ∙ e)
    ]

-- and so does a frame that is whole
pub whole_more : {T : Type 0} (body_at : List ℕ → Result T Fault) (most : ℕ) (bytes more : List ℕ) (v : T) (n : ℕ)
    → next_of body_at most bytes ≡ Whole v n → next_of body_at most (bytes ++ more) ≡ Whole v n
whole_more body_at most bytes more v n e =
    let len = length-append bytes more in
    elim (next_case body_at most bytes) [
      | is_short _ more_ ↦ absurd (cc (more_, e))
      | is_bad _ _ bad ↦ absurd (cc (bad, e))
      | is_cut _ _ _ _ more_ ↦ absurd (cc (more_, e))
      | is_whole four low high whole is ↦
          let field : length_field (bytes ++ more) ≡ length_field bytes = length_field-more bytes more four in
          let behind : drop 4 (bytes ++ more) ≡ drop 4 bytes ++ more = drop-append-le 4 bytes more four in
          let inside : take (length_field bytes) (drop 4 bytes ++ more) ≡ take (length_field bytes) (drop 4 bytes) =
          take-append-le (length_field bytes) (drop 4 bytes) more (omega (arith, length-drop 4 bytes)) in
          let the_body : body_field (bytes ++ more) ≡ body_field bytes = ap (λ (n : ℕ). take n (drop 4 (bytes ++ more))) field ∙ ap (take (length_field bytes)) behind ∙ inside in
          next_said body_at most (bytes ++ more) (omega (arith, len)) (omega (arith, field)) (omega (arith, field)) (omega (arith, field, len))
          ∙ rw (the_body, field) (sym is ∙ e)
    ]

-- a frame that is whole is within the bytes
pub whole_within : {T : Type 0} (body_at : List ℕ → Result T Fault) (most : ℕ) (bytes : List ℕ) (v : T) (n : ℕ)
    → next_of body_at most bytes ≡ Whole v n → n ≤ length bytes
whole_within body_at most bytes v n e =
    elim (next_case body_at most bytes) [
      | is_short _ more_ ↦ absurd (cc (more_, e))
      | is_bad _ _ bad ↦ absurd (cc (bad, e))
      | is_cut _ _ _ _ more_ ↦ absurd (cc (more_, e))
      | is_whole four low high whole is ↦
          let size = (said_whole (4 + length_field bytes) (body_at (body_field bytes)) v n (sym is ∙ e)).1 in
          omega (arith, size, whole)
    ]

said_more : {T : Type 0} (size : ℕ) (r : Result T Fault) → said size r ≡ More → ⊥
said_more size (Ok w) e = cc
said_more size (Err f) e = cc

-- an unfinished frame is shorter than the longest one
pub more_short : {T : Type 0} (body_at : List ℕ → Result T Fault) (most : ℕ) (bytes : List ℕ) → next_of body_at most bytes ≡ More → length bytes < 4 + most
more_short body_at most bytes e =
    elim (next_case body_at most bytes) [
      | is_short short _ ↦ omega (arith, short)
      | is_bad _ _ bad ↦ absurd (cc (bad, e))
      | is_cut _ _ high cut _ ↦ omega (arith, high, cut)
      | is_whole _ _ _ _ is ↦ absurd (said_more _ _ (sym is ∙ e))
    ]

-- ---- one whole frame

ok_chosen : {T : Type 0} (b : Bool) (v w : T) (f : Fault) → cond b (Ok v) (Err f) ≡ Ok w → (b ≡ true) × (v ≡ w)
ok_chosen true v w f e = (refl, cc)
ok_chosen false v w f e = absurd cc

whole_is : {T : Type 0} (size : ℕ) (next : Next T) (v : T) → whole_of size next ≡ Ok v → next ≡ Whole v size
whole_is size More v e = absurd cc
whole_is size (Bad f) v e = absurd cc
whole_is size (Whole w n) v e =
    let parts = ok_chosen (eqb n size) w v BadLengthField e in
    let same : n ≡ size = eqb-true n size parts.0 in
    let value = parts.1 in
    cc

pub one_whole : {T : Type 0} (body : T → List ℕ) (fits : T → Type 0) (body_at : List ℕ → Result T Fault) (most : ℕ) → IsSide body fits body_at most
    → (bytes : List ℕ) (v : T) → IsBytes bytes → whole_of (length bytes) (next_of body_at most bytes) ≡ Ok v → IsFrame body fits v bytes
one_whole body fits body_at most side bytes v are e =
    let found = next_found body fits body_at most side bytes v (length bytes) are (whole_is (length bytes) (next_of body_at most bytes) v e) in
    (found.does_fit, sym (take_all (length bytes) bytes (omega arith)) ∙ found.is_frame)

-- a value whose frame has this length, and one whose frame has another
pub whole_at : {T : Type 0} (size : ℕ) (v : T) (n : ℕ) → n ≡ size → whole_of size (Whole v n) ≡ Ok v
whole_at size v n e = rw (eq-eqb n size e) refl

pub whole_not_at : {T : Type 0} (size : ℕ) (v : T) (n : ℕ) → (n ≡ size → ⊥) → whole_of size (Whole v n) ≡ Err BadLengthField
whole_not_at size v n other = rw (ne_eqb n size other) refl

pub is_found : {T : Type 0} (body : T → List ℕ) (fits : T → Type 0) (body_at : List ℕ → Result T Fault) (most : ℕ) → IsSide body fits body_at most
    → (bytes : List ℕ) (r : Result T ReadError) → IsBytes bytes → Gives r (whole_of (length bytes) (next_of body_at most bytes))
    → IfOk r (λ v. IsFrame body fits v bytes)
is_found body fits body_at most side bytes (Ok v) are given = one_whole body fits body_at most side bytes v are given
is_found body fits body_at most side bytes (Err e) are given = tt

pub frame_whole : {T : Type 0} (body : T → List ℕ) (fits : T → Type 0) (body_at : List ℕ → Result T Fault) (most : ℕ) → IsSide body fits body_at most
    → (bytes : List ℕ) (v : T) → IsFrame body fits v bytes → whole_of (length bytes) (next_of body_at most bytes) ≡ Ok v
frame_whole body fits body_at most side bytes v is =
    let size : length bytes ≡ 4 + length (body v) = omega (arith, ap length is.1, length-framed (body v)) in
    let found : next_of body_at most bytes ≡ Whole v (4 + length (body v)) =
    ap (next_of body_at most) (is.1 ∙ sym (append-nil (framed (body v)))) ∙ next_framed body fits body_at most side v [] is.0 in
    rw (found, size, eq-eqb (4 + length (body v)) (4 + length (body v)) refl) refl
