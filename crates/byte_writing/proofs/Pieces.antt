-- Bytes that are appended one piece after another.
use Rattle.std.proofs.Common.{◌≡◌, ℕ, ◌+◌, ◌≤◌, List, ◌++◌, length, take, drop, nat_eq, true, false, Option, Some, None, refl, sym, ap, ◌∙◌, subst, append_assoc, take-append-drop, arith}
use Rattle.std.proofs.lemmas.Bool.{eqb-true, eqb-false}
use Rattle.std.proofs.lemmas.List.{length-drop, take_all, take-take, drop-take}
use Rattle.std.specs.Io.KnownBytes.{Appends}
use Rattle.byte_writing.specs.Written.{IsWritten}

abbrev Known : Type 0
Known = Option (List ℕ)

pub Appends-more : (a b c : Known) (x y : List ℕ) → Appends a b x → Appends b c y → Appends a c (x ++ y)
Appends-more None b c x y h k = tt
Appends-more (Some xs) None c x y h k = absurd h
Appends-more (Some xs) (Some ys) None x y h k = absurd k
Appends-more (Some xs) (Some ys) (Some zs) x y h k = k ∙ ap (λ l. l ++ y) h ∙ append_assoc xs x y

-- so many bytes, and then some of those behind them
pub take-then : (n m : ℕ) (xs : List ℕ) → take (n + m) xs ≡ take n xs ++ take m (drop n xs)
take-then n m xs =
    sym (take-append-drop n (take (n + m) xs)) ∙ ap (λ (l : List ℕ). l ++ drop n (take (n + m) xs)) (take-take n (n + m) xs (omega arith))
    ∙ ap (λ (l : List ℕ). take n xs ++ l) (drop-take n m xs)

-- after a front of the bytes, some of what is left
pub front_more : (bytes left : List ℕ) (n m : ℕ) (a b c : Known) → left ≡ drop n bytes → n ≤ length bytes → m ≤ length left
    → Appends a b (take n bytes) → Appends b c (take m left) → (n + m ≤ length bytes) × Appends a c (take (n + m) bytes)
front_more bytes left n m a b c e few fits h k = (
  omega (arith, few, fits, ap length e, length-drop n bytes),
  subst (Appends a c) (sym (take-then n m bytes))
      (Appends-more a b c (take n bytes) (take m (drop n bytes)) h (subst (λ (l : List ℕ). Appends b c (take m l)) e k)),
)

-- so many bytes are all of them, or a front of them
pub front_written : (bytes : List ℕ) (n : ℕ) (a c : Known) → n ≤ length bytes → Appends a c (take n bytes) → IsWritten a c bytes (nat_eq n (length bytes))
front_written bytes n a c few wrote = elim (nat_eq n (length bytes)) as (λ t. nat_eq n (length bytes) ≡ t → IsWritten a c bytes t) [
  | true ↦ λ e. subst (Appends a c) (take_all n bytes (omega (arith, eqb-true n (length bytes) e))) wrote
  | false ↦ λ e. (take n bytes, drop n bytes, omega (arith, eqb-false n (length bytes) e, few, length-drop n bytes), sym (take-append-drop n bytes), wrote)
] refl
