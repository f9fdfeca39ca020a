-- A frame's length and body are read again, and bytes with their length before them are a frame.
use Rattle.std.proofs.Common.{◌≡◌, ℕ, ◌+◌, ◌-◌, ◌^◌, ◌<◌, ◌≤◌, List, [], ◌++◌, length, take, drop, refl, sym, ap, ◌∙◌, append_assoc, arith, inl, inr}
use Rattle.std.specs.Int.{w32, to_be_bytes, from_be_bytes}
use Rattle.std.proofs.lemmas.Bool.{cases_lt}
use Rattle.std.proofs.lemmas.List.{append-nil, nil_from_length, take_at, take_all, drop_at, take-append-le, take-append-drop, length-append, length-take-le, length-drop, get_or-take, get_or-drop, get_or_past, length-take}
use Rattle.std.proofs.lemmas.Nat.{be_bytes_4, from_be_bytes-to_be_bytes_4}
use Rattle.session_proto.specs.Frame.{IsBytes, framed, length_field}

pub IsBytes-drop : (n : ℕ) (bytes : List ℕ) → IsBytes bytes → IsBytes (drop n bytes)
IsBytes-drop n bytes h i = rw get_or-drop (h (n + i))

pub IsBytes-take : (n : ℕ) (bytes : List ℕ) → IsBytes bytes → IsBytes (take n bytes)
IsBytes-take n bytes h i =
    elim (cases_lt i n) [
      | inl lt ↦ rw (get_or-take n bytes i 0 lt) (h i)
      | inr le ↦ rw (get_or_past (take n bytes) i 0 (omega (arith, length-take n bytes))) (omega arith)
    ]

pub length-framed : (body : List ℕ) → length (framed body) ≡ 4 + length body
unfolding framed
length-framed body = omega (arith, length-append (to_be_bytes w32 (length body)) body)

framed-append : (body rest : List ℕ) → framed body ++ rest ≡ to_be_bytes w32 (length body) ++ (body ++ rest)
unfolding framed
framed-append body rest = append_assoc (to_be_bytes w32 (length body)) body rest

pub length_field-framed : (body rest : List ℕ) → length body < 2 ^ 32 → length_field (framed body ++ rest) ≡ length body
unfolding length_field
length_field-framed body rest fits =
    ap (λ (bytes : List ℕ). from_be_bytes w32 (take 4 bytes)) (framed-append body rest)
    ∙ ap (from_be_bytes w32) (take_at (to_be_bytes w32 (length body)) (body ++ rest) 4 refl)
    ∙ from_be_bytes-to_be_bytes_4 (length body) fits

pub body-framed : (body rest : List ℕ) → take (length body) (drop 4 (framed body ++ rest)) ≡ body
body-framed body rest =
    ap (λ (bytes : List ℕ). take (length body) (drop 4 bytes)) (framed-append body rest)
    ∙ ap (take (length body)) (drop_at (to_be_bytes w32 (length body)) (body ++ rest) 4 refl)
    ∙ take_at body rest (length body) refl

-- two cuts, one after the other
take_more_of : (m n : ℕ) (bytes : List ℕ) → m + n ≤ length bytes → take m bytes ++ take n (drop m bytes) ≡ take (m + n) bytes
take_more_of m n bytes h =
    let front = take m bytes in
    let back = take n (drop m bytes) in
    let rest = drop n (drop m bytes) in
    let l : length (front ++ back) ≡ m + n = omega (arith, length-append front back, length-take-le m bytes (omega arith), length-take-le n (drop m bytes) (omega (arith, length-drop m bytes))) in
    let whole : (front ++ back) ++ rest ≡ bytes = append_assoc front back rest ∙ ap (λ (x : List ℕ). front ++ x) (take-append-drop n (drop m bytes)) ∙ take-append-drop m bytes in
    sym (take_at (front ++ back) rest (m + n) l) ∙ ap (take (m + n)) whole

pub framed-of : (bytes : List ℕ) → IsBytes bytes → 4 ≤ length bytes → 4 + length_field bytes ≤ length bytes
    → take (4 + length_field bytes) bytes ≡ framed (take (length_field bytes) (drop 4 bytes))
unfolding framed length_field
framed-of bytes fits four whole =
    let n = from_be_bytes w32 (take 4 bytes) in
    let body = take n (drop 4 bytes) in
    let l : length body ≡ n = length-take-le n (drop 4 bytes) (omega (arith, length-drop 4 bytes)) in
    let field : to_be_bytes w32 n ≡ take 4 bytes = be_bytes_4 (take 4 bytes) n (length-take-le 4 bytes four) (IsBytes-take 4 bytes fits) refl in
    sym (take_more_of 4 n bytes whole) ∙ ap (λ (x : List ℕ). x ++ body) (sym field) ∙ ap (λ (k : ℕ). to_be_bytes w32 k ++ body) (sym l)

pub length_field-more : (bytes more : List ℕ) → 4 ≤ length bytes → length_field (bytes ++ more) ≡ length_field bytes
unfolding length_field
length_field-more bytes more h = ap (from_be_bytes w32) (take-append-le 4 bytes more h)

-- a frame that was made in the place of other bytes
pub frame_put : (items zeros body made : List ℕ) (len : ℕ) → items ≡ zeros ++ body → length zeros ≡ 4 → len ≡ length items
    → made ≡ framed (drop 4 items) → take len (made ++ drop (length made) items) ≡ framed body
frame_put items zeros body made len is four all e =
    let n : length items ≡ 4 + length body = omega (arith, ap length is, length-append zeros body) in
    let frame : made ≡ framed body = e ∙ ap framed (ap (drop 4) is ∙ drop_at zeros body 4 four) in
    let size : length made ≡ 4 + length body = ap length frame ∙ length-framed body in
    let none : drop (length made) items ≡ [] = nil_from_length (drop (length made) items) (omega (arith, length-drop (length made) items, size, n)) in
    ap (λ (x : List ℕ). take len (made ++ x)) none ∙ ap (take len) (append-nil made) ∙ take_all len made (omega (arith, all, n, size)) ∙ frame

-- a length that was put in its place
pub length_put : (bytes field rest : List ℕ) → field ≡ to_be_bytes w32 (length bytes - 4) → rest ≡ drop 4 bytes → field ++ rest ≡ framed (drop 4 bytes)
unfolding framed
length_put bytes field rest is behind = rw (is, behind, length-drop 4 bytes) refl
