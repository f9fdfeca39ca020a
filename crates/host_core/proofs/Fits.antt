-- Answers fit a longer journal, and one answer more.
use Rattle.std.proofs.Common.{true, false, Bool, ◌≡◌, ℕ, zero, suc, ◌+◌, ◌≤◌, List, [], ◌∷◌, ◌++◌, length, take, refl, sym, ap, ◌∙◌, subst, arith, Some, if◌then◌else◌}
use Rattle.std.specs.List.{slice_get}
use Rattle.std.proofs.lemmas.List.{length-append, take-append-le, append_assoc, append-nil}
use Rattle.host_core.specs.Account.{Judged, entered, made, front_after, FitsFrom}

pub take-whole : {E : Type 0} (xs ys : List E) → take (length xs) (xs ++ ys) ≡ xs
take-whole [] [] = refl
take-whole [] (y ∷ ys) = refl
take-whole (x ∷ xs) ys = ap (λ zs. x ∷ zs) (take-whole xs ys)

pub get-longer : {E : Type 0} (xs ys : List E) (n : ℕ) (x : E) → slice_get xs n ≡ Some x → slice_get (xs ++ ys) n ≡ Some x
get-longer [] ys zero x h = grind (arith, h)
get-longer [] ys (suc n) x h = grind (arith, h)
get-longer (y ∷ xs) ys zero x h = h
get-longer (y ∷ xs) ys (suc n) x h = get-longer xs ys n x h

pub get-next : {E : Type 0} (xs ys : List E) (x : E) → slice_get (xs ++ x ∷ ys) (length xs) ≡ Some x
get-next [] ys x = refl
get-next (y ∷ xs) ys x = get-next xs ys x

-- what stands at a place is within the list
pub within-some : {E : Type 0} (xs : List E) (n : ℕ) (x : E) → slice_get xs n ≡ Some x → n + 1 ≤ length xs
within-some [] zero x h = absurd (grind (arith, h))
within-some [] (suc n) x h = absurd (grind (arith, h))
within-some (y ∷ xs) zero x h = omega arith
within-some (y ∷ xs) (suc n) x h = omega (arith, within-some xs n x h)

module _ {C A E : Type 0} (judges : List E → C → A → Type 0) (is_entry : C → A → Bool) (entry_of : C → E) (is_own : E → Bool) where
  -- entries behind do not matter
  pub fits-more : (low : ℕ) (entries more : List E) (ts : List (Judged C A))
      → FitsFrom judges is_entry entry_of is_own low entries ts → FitsFrom judges is_entry entry_of is_own low (entries ++ more) ts
  fits-more low entries more [] h = tt
  fits-more low entries more (t ∷ ts) h = (
    h.0,
    omega (arith, h.1, length-append entries more),
    subst (λ es. judges es t.call t.answer) (sym (take-append-le t.front entries more h.1)) h.2,
    (λ e. get-longer entries more t.front (entry_of t.call) (h.3 e)),
    fits-more (front_after judges is_entry entry_of is_own t) entries more ts h.4,
  )

  -- the next front is within the journal
  after-within : (t : Judged C A) (entries : List E) (b : Bool) → is_entry t.call t.answer ≡ b → t.front ≤ length entries
      → (is_entry t.call t.answer ≡ true → slice_get entries t.front ≡ Some (entry_of t.call)) → front_after judges is_entry entry_of is_own t ≤ length entries
  after-within t entries true e le at = rw e (within-some entries t.front (entry_of t.call) (at e))
  after-within t entries false e le at = rw e le

  -- an answer at the journal's end
  pub fits-push : (low : ℕ) (entries : List E) (ts : List (Judged C A)) (call : C) (answer : A)
      → FitsFrom judges is_entry entry_of is_own low entries ts → low ≤ length entries → judges entries call answer
      → FitsFrom judges is_entry entry_of is_own low (entries ++ entered judges is_entry entry_of is_own call answer)
      (ts ++ record { front = length entries; call = call; answer = answer } ∷ [])
  fits-push low entries [] call answer h le j = (
    le,
    omega (arith, length-append entries (entered judges is_entry entry_of is_own call answer)),
    subst (λ es. judges es call answer) (sym (take-whole entries (entered judges is_entry entry_of is_own call answer))) j,
    (λ e. ap (λ b. slice_get (entries ++ (if b then entry_of call ∷ [] else [])) (length entries)) e ∙ get-next entries [] (entry_of call)),
    tt,
  )
  fits-push low entries (t ∷ ts) call answer h le j = (
    h.0,
    omega (arith, h.1, length-append entries (entered judges is_entry entry_of is_own call answer)),
    subst (λ es. judges es t.call t.answer) (sym (take-append-le t.front entries (entered judges is_entry entry_of is_own call answer) h.1)) h.2,
    (λ e. get-longer entries (entered judges is_entry entry_of is_own call answer) t.front (entry_of t.call) (h.3 e)),
    fits-push (front_after judges is_entry entry_of is_own t) entries ts call answer h.4
        (after-within t entries (is_entry t.call t.answer) refl h.1 h.3) j,
  )

  -- the first of the answers
  pub fits-prefix : (low : ℕ) (entries : List E) (ts us : List (Judged C A))
      → FitsFrom judges is_entry entry_of is_own low entries (ts ++ us) → FitsFrom judges is_entry entry_of is_own low entries ts
  fits-prefix low entries [] us h = tt
  fits-prefix low entries (t ∷ ts) us h = (h.0, h.1, h.2, h.3, fits-prefix (front_after judges is_entry entry_of is_own t) entries ts us h.4)

  -- what one answer more has made
  pub made-push : (ts : List (Judged C A)) (t : Judged C A)
      → made judges is_entry entry_of is_own (ts ++ t ∷ []) ≡ made judges is_entry entry_of is_own ts ++ entered judges is_entry entry_of is_own t.call t.answer
  made-push [] t = append-nil (entered judges is_entry entry_of is_own t.call t.answer)
  made-push (u ∷ ts) t = ap (λ es. entered judges is_entry entry_of is_own u.call u.answer ++ es) (made-push ts t)
      ∙ sym (append_assoc (entered judges is_entry entry_of is_own u.call u.answer) (made judges is_entry entry_of is_own ts) (entered judges is_entry entry_of is_own t.call t.answer))
