-- Bytes taken and appended one after another, and lines one after another.
use Rattle.std.proofs.Common.{◌≡◌, ℕ, List, [], ◌∷◌, ◌++◌, refl, sym, ap, subst, ◌∙◌, append_assoc, append-nil, take, drop, drop-cons, take-append-drop, add-one, get_or, length, ◌<◌, ◌≤◌, ◌+◌, zero, suc, arith, true, false}
use Rattle.std.proofs.Math.Nat.{lt_of_not-le}
use Rattle.std.proofs.lemmas.Bool.{false≢true}
use Rattle.std.specs.Prelude.{None, Some, Option, MatchOption, IfNone, Result, Ok, Err, OnOk}
use Rattle.std.specs.Result.{is_ok, is_err}
use Rattle.std.specs.List.{AllByRecursion}
use Rattle.std.specs.Io.KnownBytes.{Appends, Consumes, Keeps}
use Rattle.script_line.specs.declared.line.Line.{Line}
use Rattle.script_line.specs.Script.{Known, HasNoEnd, Step, Runs, ended}

pub Appends-none : (w : Known) → Appends w w []
Appends-none None = tt
Appends-none (Some xs) = sym (append-nil xs)

pub Appends-more : (a b c : Known) (x y : List ℕ) → Appends a b x → Appends b c y → Appends a c (x ++ y)
Appends-more None b c x y h k = tt
Appends-more (Some xs) None c x y h k = absurd h
Appends-more (Some xs) (Some ys) None x y h k = absurd k
Appends-more (Some xs) (Some ys) (Some zs) x y h k = k ∙ ap (λ l. l ++ y) h ∙ append_assoc xs x y

-- a flush keeps what was written
pub Appends-kept : (a b c : Known) (x : List ℕ) → Appends a b x → Keeps b c → Appends a c x
Appends-kept None b c x h k = tt
Appends-kept (Some xs) None c x h k = absurd h
Appends-kept (Some xs) (Some ys) None x h k = absurd k
Appends-kept (Some xs) (Some ys) (Some zs) x h k = k ∙ h

pub Consumes-none : (r : Known) → Consumes r r []
Consumes-none None = tt
Consumes-none (Some xs) = refl

pub Consumes-more : (a b c : Known) (x y : List ℕ) → Consumes a b x → Consumes b c y → Consumes a c (x ++ y)
Consumes-more None b c x y h k = tt
Consumes-more (Some xs) None c x y h k = absurd h
Consumes-more (Some xs) (Some ys) None x y h k = absurd k
Consumes-more (Some xs) (Some ys) (Some zs) x y h k = h ∙ ap (λ l. x ++ l) k ∙ sym (append_assoc x y zs)

pub Consumes-kept : (a b c : Known) (x : List ℕ) → Consumes a b x → Keeps b c → Consumes a c x
Consumes-kept None b c x h k = tt
Consumes-kept (Some xs) None c x h k = absurd h
Consumes-kept (Some xs) (Some ys) None x h k = absurd k
Consumes-kept (Some xs) (Some ys) (Some zs) x h k = h ∙ ap (λ l. x ++ l) (sym k)

pub All-push : {X : Type 0} (P : X → Type 0) (xs : List X) (x : X) → AllByRecursion P xs → P x → AllByRecursion P (xs ++ (x ∷ []))
All-push P [] x h k = (k, tt)
All-push P (y ∷ ys) x h k = (h.0, All-push P ys x h.1 k)

pub ended-push : (lines : List (List ℕ)) (line rest : List ℕ) → ended (lines ++ (line ∷ [])) ++ rest ≡ ended lines ++ (line ++ (10 ∷ rest))
ended-push [] line rest = append_assoc line (10 ∷ []) rest
ended-push (l ∷ ls) line rest =
    append_assoc l (10 ∷ ended (ls ++ (line ∷ []))) rest
    ∙ ap (λ ys. l ++ (10 ∷ ys)) (ended-push ls line rest)
    ∙ sym (append_assoc l (10 ∷ ended ls) (line ++ (10 ∷ rest)))

pub Runs-push : {C : Type 0} (prints : C → Line → List ℕ → C → Type 0) (c0 : C) (lines : List (List ℕ)) (text : List ℕ) (mid : C)
    (line printed : List ℕ) (c1 : C)
    → Runs prints c0 lines text mid → Step prints mid line printed c1 → Runs prints c0 (lines ++ (line ∷ [])) (text ++ printed) c1
Runs-push {C} prints c0 [] text mid line printed c1 runs step =
    let P : C → Type 0 = λ c. Step prints c line printed c1 in
    (printed, [], c1, subst P runs.1 step, (refl, refl), ap (λ l. l ++ printed) runs.0 ∙ sym (append-nil printed))
Runs-push prints c0 (l ∷ ls) text mid line printed c1 runs step = (
  runs.0,
  runs.1 ++ printed,
  runs.2,
  runs.3,
  Runs-push prints runs.2 ls runs.1 mid line printed c1 runs.4 step,
  ap (λ x. x ++ printed) runs.5 ∙ append_assoc runs.0 runs.1 printed,
)

pub Match-weaker : {X : Type 0} (o : Option X) (N P P' : Type 0) (Q : X → Type 0) → IfNone o N → (N → P → P') → MatchOption o P Q → MatchOption o P' Q
Match-weaker None N P P' Q n f h = f n h
Match-weaker (Some x) N P P' Q n f h = h

pub drop-front : (s : List ℕ) (i : ℕ) → i < length s → drop i s ≡ get_or s i 0 ∷ drop (i + 1) s
drop-front s i h = drop-cons s i 0 h ∙ ap (λ k. get_or s i 0 ∷ drop k s) (sym (add-one i))

-- a front in which no byte is 0A
pub no_end_before : (s : List ℕ) (k : ℕ) → ((i : ℕ) → i < k → get_or s i 0 ≡ 10 → ⊥) → HasNoEnd (take k s)
no_end_before s zero h = tt
no_end_before [] (suc k) h = tt
no_end_before (b ∷ bs) (suc k) h = (h 0 (omega arith), no_end_before bs k (λ i below. h (suc i) (omega arith)))

-- a byte and what stands behind it
pub cut_at : (s : List ℕ) (k : ℕ) → k < length s → get_or s k 0 ≡ 10 → s ≡ take k s ++ (10 ∷ drop (k + 1) s)
cut_at s k within here =
    sym (take-append-drop k s) ∙ ap (λ l. take k s ++ l) (drop-front s k within ∙ ap (λ b. b ∷ drop (k + 1) s) here)

-- a line that is cut off is followed by a rest, which may be empty
pub cut_rest : {X : Type 0} (now : X → List ℕ) (o : Option X) (whole front : List ℕ)
    → MatchOption o (whole ≡ front) (λ x. whole ≡ front ++ (10 ∷ now x)) → (after : List ℕ) × (whole ≡ front ++ after)
cut_rest now None whole front h = ([], h ∙ sym (append-nil front))
cut_rest now (Some x) whole front h = (10 ∷ now x, h)

-- what a call ensures where it succeeds, and what it means that it fails
pub where_ok : {T E : Type 0} (r : Result T E) (P : Type 0) → is_err r ≡ false → OnOk r P → P
where_ok (Ok x) P e h = h
where_ok (Err x) P e h = absurd (cc)

pub where_err : {T E : Type 0} (r : Result T E) (n m : ℕ) → is_err r ≡ true → (n ≤ m → is_ok r ≡ true) → m < n
where_err (Ok x) n m e h = absurd (cc)
where_err (Err x) n m e h = lt_of_not-le (λ few. false≢true (h few))

-- what holds of each byte of two texts, one behind the other
pub All-append : (P : ℕ → Type 0) (xs ys : List ℕ) → AllByRecursion P xs → AllByRecursion P ys → AllByRecursion P (xs ++ ys)
All-append P [] ys h k = k
All-append P (x ∷ xs) ys h k = (h.0, All-append P xs ys h.1 k)

-- what holds of each byte of a text holds of those of a front
pub All-front : (P : ℕ → Type 0) (n : ℕ) (xs : List ℕ) → AllByRecursion P xs → AllByRecursion P (take n xs)
All-front P zero xs h = tt
All-front P (suc n) [] h = tt
All-front P (suc n) (x ∷ xs) h = (h.0, All-front P n xs h.1)
