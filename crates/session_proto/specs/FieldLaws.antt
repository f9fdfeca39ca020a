-- A field that is read is the field that was written, and what was written is read again.
use Rattle.std.proofs.Common.{◌≡◌, ℕ, suc, ◌+◌, ◌^◌, ◌<◌, ◌≤◌, Bool, true, false, cond, ltb, eqb, ◌⊎◌, List, [], ◌∷◌, ◌++◌, length, take, drop, Option, Some, None, Result, Ok, Err, refl, sym, ap, subst, ◌∙◌, arith, inl, inr}
use Rattle.std.specs.Int.{Width, w8, w16, w32, w64, byte_len, from_be_bytes, to_be_bytes}
use Rattle.std.proofs.lemmas.Bool.{cases_lt, ltb-false, le-ltb, eqb-true}
use Rattle.std.proofs.lemmas.List.{append-nil, take_at, drop_at, take-append-drop, length-append, length-take, get_or-drop, get_or-take, get_or_past}
use Rattle.std.proofs.lemmas.Nat.{be_bytes_2, be_bytes_4, be_bytes_8, from_be_bytes-to_be_bytes_2, from_be_bytes-to_be_bytes_4, from_be_bytes-to_be_bytes_8}
use Rattle.session_proto.specs.Frame.{IsBytes}
use Rattle.session_proto.specs.declared.fault.Fault.{Fault}
use Rattle.session_proto.specs.declared.fault.Fault.TheVariants.{BadBody}
use Rattle.session_proto.specs.Fields.{◌>>=◌, big_endian, number_at, ended, named}

-- ---- bytes

pub IsBytes-drop : (n : ℕ) (bytes : List ℕ) → IsBytes bytes → IsBytes (drop n bytes)
IsBytes-drop n bytes are i = rw get_or-drop (are (n + i))

IsBytes-take : (n : ℕ) (bytes : List ℕ) → IsBytes bytes → IsBytes (take n bytes)
IsBytes-take n bytes are i =
    elim (cases_lt i n) [
      | inl lt ↦ rw (get_or-take n bytes i 0 lt) (are i)
      | inr le ↦ rw (get_or_past (take n bytes) i 0 (omega (arith, length-take n bytes))) (omega arith)
    ]

pub IsBytes-rest : (b : ℕ) (bytes : List ℕ) → IsBytes (b ∷ bytes) → IsBytes bytes
IsBytes-rest b bytes are i = are (suc i)

-- ---- steps

-- the value of a step that did not fail
pub bind_ok : {A B : Type 0} (r : Result A Fault) (f : A → Result B Fault) (y : B) → (r >>= f) ≡ Ok y → (x : A) × (r ≡ Ok x) × (f x ≡ Ok y)
bind_ok (Ok x) f y e = (x, refl, e)
bind_ok (Err d) f y e = absurd cc

abbrev pub done : {A : Type 0} → A → Result A Fault
done x = Ok x

pub ok_value : {A : Type 0} (x y : A) → done x ≡ done y → x ≡ y
ok_value x y e = cc

-- a test that did not fail
pub guard_ok : {A : Type 0} (b : Bool) (d : Fault) (x y : A) → cond b (Err d) (Ok x) ≡ Ok y → (b ≡ false) × (x ≡ y)
guard_ok true d x y e = absurd cc
guard_ok false d x y e = (refl, cc)

-- a test that was passed
pub test_ok : {A : Type 0} (b : Bool) (d : Fault) (x y : A) → cond b (Ok x) (Err d) ≡ Ok y → (b ≡ true) × (x ≡ y)
test_ok true d x y e = (refl, cc)
test_ok false d x y e = absurd cc

-- ---- numbers

-- a width's numbers are below the limit, and each is told by its bytes
pub record IsWide (w : Width) (limit : ℕ) : Type 0 where
  pub len : (n : ℕ) → length (big_endian w n) ≡ byte_len w
  pub back : (bytes : List ℕ) → length bytes ≡ byte_len w → IsBytes bytes → big_endian w (from_be_bytes w bytes) ≡ bytes
  pub again : (n : ℕ) → n < limit → from_be_bytes w (big_endian w n) ≡ n
  pub below : (bytes : List ℕ) → IsBytes bytes → from_be_bytes w bytes < limit

one_byte : (bytes : List ℕ) → length bytes ≡ 1 → IsBytes bytes → to_be_bytes w8 (from_be_bytes w8 bytes) ≡ bytes
one_byte [] len are = absurd (omega (arith, len))
one_byte (b ∷ []) len are = let low : b < 256 = are 0 in grind (arith, low)
one_byte (b ∷ c ∷ bytes) len are = absurd (omega (arith, len))

pub wide8 : IsWide w8 (2 ^ 8)
unfolding big_endian
wide8 = record {
  len = λ n. refl;
  back = one_byte;
  again = λ n lt. grind (arith, lt);
  below = λ bytes are. omega (arith, are 0);
}

pub wide16 : IsWide w16 (2 ^ 16)
unfolding big_endian
wide16 = record {
  len = λ n. refl;
  back = λ bytes len are. be_bytes_2 bytes _ len are refl;
  again = λ n lt. from_be_bytes-to_be_bytes_2 n lt;
  below = λ bytes are. omega (arith, are 0, are 1);
}

pub wide32 : IsWide w32 (2 ^ 32)
unfolding big_endian
wide32 = record {
  len = λ n. refl;
  back = λ bytes len are. be_bytes_4 bytes _ len are refl;
  again = λ n lt. from_be_bytes-to_be_bytes_4 n lt;
  below = λ bytes are. omega (arith, are 0, are 1, are 2, are 3);
}

pub wide64 : IsWide w64 (2 ^ 64)
unfolding big_endian
wide64 = record {
  len = λ n. refl;
  back = λ bytes len are. be_bytes_8 bytes _ len are refl;
  again = λ n lt. from_be_bytes-to_be_bytes_8 n lt;
  below = λ bytes are. omega (arith, are 0, are 1, are 2, are 3, are 4, are 5, are 6, are 7);
}

-- what a number was read from
pub record IsNumber (w : Width) (limit : ℕ) (fields : List ℕ) (n : ℕ) (rest : List ℕ) : Type 0 where
  pub below : n < limit
  pub parts : fields ≡ big_endian w n ++ rest
  pub are : IsBytes rest

pub number_is : (w : Width) (limit : ℕ) → IsWide w limit → (fields : List ℕ) (x : ℕ × List ℕ) → IsBytes fields → number_at w fields ≡ Ok x
    → IsNumber w limit fields x.0 x.1
unfolding number_at
number_is w limit wide fields x are e =
    let g = guard_ok (ltb (length fields) (byte_len w)) BadBody (from_be_bytes w (take (byte_len w) fields), drop (byte_len w) fields) x e in
    let long : byte_len w ≤ length fields = ltb-false _ _ g.0 in
    let front : IsBytes (take (byte_len w) fields) = IsBytes-take (byte_len w) fields are in
    let spelled : big_endian w (from_be_bytes w (take (byte_len w) fields)) ≡ take (byte_len w) fields =
    wide.back (take (byte_len w) fields) (omega (arith, length-take (byte_len w) fields)) front in
    subst (λ (p : ℕ × List ℕ). IsNumber w limit fields p.0 p.1) g.1 (record {
      below = wide.below (take (byte_len w) fields) front;
      parts = rw spelled (sym (take-append-drop (byte_len w) fields));
      are = IsBytes-drop (byte_len w) fields are;
    })

-- a number is read again
pub number_again : (w : Width) (limit : ℕ) → IsWide w limit → (n : ℕ) (rest : List ℕ) → n < limit → number_at w (big_endian w n ++ rest) ≡ Ok (n, rest)
unfolding number_at
number_again w limit wide n rest lt =
    let len = wide.len n in
    let long : ltb (length (big_endian w n ++ rest)) (byte_len w) ≡ false = le-ltb _ _ (omega (arith, len, length-append (big_endian w n) rest)) in
    rw (long, take_at (big_endian w n) rest (byte_len w) len, drop_at (big_endian w n) rest (byte_len w) len, wide.again n lt) refl

-- a number with nothing behind it is read again
pub last_again : (w : Width) (limit : ℕ) → IsWide w limit → (n : ℕ) → n < limit → number_at w (big_endian w n) ≡ Ok (n, [])
last_again w limit wide n lt = ap (number_at w) (sym (append-nil (big_endian w n))) ∙ number_again w limit wide n [] lt

-- ---- the end

-- where the fields have ended, nothing follows
pub ended_is : {T : Type 0} (v w : T) (rest : List ℕ) → ended v rest ≡ Ok w → (v ≡ w) × (rest ≡ [])
unfolding ended
ended_is v w [] e = (cc, refl)
ended_is v w (b ∷ bs) e = absurd cc

pub ended_again : {T : Type 0} (v : T) → ended v [] ≡ Ok v
unfolding ended
ended_again v = refl

-- ---- named values

pub named_is : {T : Type 0} (o : Option T) (v : T) → named o ≡ Ok v → o ≡ Some v
named_is None v e = absurd cc
named_is (Some w) v e = let same : w ≡ v = cc in cc

some_chosen : {X : Type 0} (b : Bool) (x : X) (rest : Option X) (v : X) → cond b (Some x) rest ≡ Some v → ((b ≡ true) × (x ≡ v)) ⊎ (rest ≡ Some v)
some_chosen true x rest v e = inl (refl, cc)
some_chosen false x rest v e = inr e

-- the one of two values that a number tells has that number
pub named_of_two : {X : Type 0} (number : X → ℕ) (a b : ℕ) (x y : X) → number x ≡ a → number y ≡ b
    → (n : ℕ) (v : X) → cond (eqb n a) (Some x) (cond (eqb n b) (Some y) None) ≡ Some v → number v ≡ n
named_of_two number a b x y first second n v e =
    elim (some_chosen (eqb n a) x (cond (eqb n b) (Some y) None) v e) [
      | inl h ↦ ap number (sym h.1) ∙ first ∙ sym (eqb-true n a h.0)
      | inr h ↦
          elim (some_chosen (eqb n b) y None v h) [
            | inl k ↦ ap number (sym k.1) ∙ second ∙ sym (eqb-true n b k.0)
            | inr k ↦ absurd cc
          ]
    ]
