-- What keeps the account of a seat: entries of others, a call that is taken, an answer, and the end.
use Rattle.std.proofs.Common.{true, false, Bool, ◌≡◌, ℕ, zero, suc, ◌<◌, ◌≤◌, List, [], ◌∷◌, ◌++◌, length, take, drop, map, refl, sym, ap, ◌∙◌, arith, inl, inr, ◌⊎◌, if◌then◌else◌}
use Rattle.std.specs.List.{filter}
use Rattle.std.proofs.lemmas.List.{length-append, take-append-le, append_assoc, append-nil, map-append, take-append-drop, length-take-le, length-map, take-map}
use Rattle.std.proofs.lemmas.List.Elements.{filter-append}
use Rattle.host_core.specs.Account.{Judged, call_in, answer_in, entered, made, IsAccount, IsFirstPart}
use Rattle.host_core.proofs.Fits.{fits-more, fits-push, made-push, take-whole}

module _ {C A E R : Type 0} (judges : List E → C → A → Type 0) (is_entry : C → A → Bool) (entry_of : C → E) (is_own : E → Bool) (reply_of : A → R) where
  le-or-lt : (m n : ℕ) → (m ≤ n) ⊎ (n < m)
  le-or-lt zero n = inl (omega arith)
  le-or-lt (suc m) zero = inr (omega arith)
  le-or-lt (suc m) (suc n) = elim (le-or-lt m n) [ inl le ↦ inl (omega (arith, le)) | inr lt ↦ inr (omega (arith, lt)) ]

  none-left : {X : Type 0} (xs : List X) → length xs ≡ 0 → xs ≡ []
  none-left [] h = refl
  none-left (x ∷ xs) h = absurd (omega (arith, h))

  take-length : {X : Type 0} (xs : List X) → take (length xs) xs ≡ xs
  take-length [] = refl
  take-length (x ∷ xs) = ap (λ ys. x ∷ ys) (take-length xs)

  -- a seat before its first call
  pub account-none : (waiting : List C) → IsAccount judges is_entry entry_of is_own reply_of [] waiting waiting [] []
  account-none waiting = record { judged = []; taken_is = refl; replied_is = refl; fits = tt; own_is = refl }

  -- entries of others, and what is taken meanwhile
  pub account-takes : (entries more : List E) (taken waiting taken' waiting' : List C) (replied ending : List R)
      → filter is_own more ≡ [] → ((done : List C) → taken ≡ done ++ waiting → taken' ≡ done ++ waiting')
      → IsAccount judges is_entry entry_of is_own reply_of entries taken waiting replied ending
      → IsAccount judges is_entry entry_of is_own reply_of (entries ++ more) taken' waiting' replied ending
  account-takes entries more taken waiting taken' waiting' replied ending others takes h = record {
    judged = h.judged;
    taken_is = takes (map call_in h.judged) h.taken_is;
    replied_is = h.replied_is;
    fits = fits-more judges is_entry entry_of is_own 0 entries more h.judged h.fits;
    own_is = filter-append is_own entries more ∙ ap (λ es. filter is_own entries ++ es) others ∙ append-nil (filter is_own entries) ∙ h.own_is;
  }

  only-own : (e : E) (b : Bool) → is_own e ≡ true → filter is_own (if b then e ∷ [] else []) ≡ (if b then e ∷ [] else [])
  only-own e true own = rw own refl
  only-own e false own = refl

  -- an answer at the journal's end
  pub account-answers : (entries : List E) (taken waiting taken' : List C) (replied : List R) (call : C) (answer : A)
      → ((c : C) → is_own (entry_of c) ≡ true) → ((done : List C) → taken ≡ done ++ waiting → taken' ≡ done ++ call ∷ []) → judges entries call answer
      → IsAccount judges is_entry entry_of is_own reply_of entries taken waiting replied []
      → IsAccount judges is_entry entry_of is_own reply_of (entries ++ entered judges is_entry entry_of is_own call answer) taken' [] (replied ++ reply_of answer ∷ []) []
  account-answers entries taken waiting taken' replied call answer own takes j h = record {
    judged = h.judged ++ record { front = length entries; call = call; answer = answer } ∷ [];
    taken_is = takes (map call_in h.judged) h.taken_is ∙ sym (map-append call_in h.judged (record { front = length entries; call = call; answer = answer } ∷ []))
        ∙ sym (append-nil (map call_in (h.judged ++ record { front = length entries; call = call; answer = answer } ∷ [])));
    replied_is = ap (λ rs. rs ++ reply_of answer ∷ []) (h.replied_is ∙ append-nil (map reply_of (map answer_in h.judged)))
        ∙ sym (ap (map reply_of) (map-append answer_in h.judged (record { front = length entries; call = call; answer = answer } ∷ []))
        ∙ map-append reply_of (map answer_in h.judged) (answer ∷ []))
        ∙ sym (append-nil (map reply_of (map answer_in (h.judged ++ record { front = length entries; call = call; answer = answer } ∷ []))));
    fits = fits-push judges is_entry entry_of is_own 0 entries h.judged call answer h.fits (omega arith) j;
    own_is = filter-append is_own entries (entered judges is_entry entry_of is_own call answer)
        ∙ ap (λ es. es ++ filter is_own (entered judges is_entry entry_of is_own call answer)) h.own_is
        ∙ ap (λ es. made judges is_entry entry_of is_own h.judged ++ es) (only-own (entry_of call) (is_entry call answer) (own call))
        ∙ sym (made-push judges is_entry entry_of is_own h.judged (record { front = length entries; call = call; answer = answer }));
  }

  -- the end
  pub account-closes : (entries : List E) (taken waiting : List C) (replied : List R) (end : R)
      → IsAccount judges is_entry entry_of is_own reply_of entries taken waiting replied []
      → IsAccount judges is_entry entry_of is_own reply_of entries taken waiting (replied ++ end ∷ []) (end ∷ [])
  account-closes entries taken waiting replied end h = record {
    judged = h.judged;
    taken_is = h.taken_is;
    replied_is = ap (λ rs. rs ++ end ∷ []) (h.replied_is ∙ append-nil (map reply_of (map answer_in h.judged)));
    fits = h.fits;
    own_is = h.own_is;
  }

  -- one list is the first part of another
  take-of : {X : Type 0} (xs ys zs : List X) → xs ++ ys ≡ zs → take (length xs) zs ≡ xs
  take-of xs ys zs h = ap (take (length xs)) (sym h) ∙ take-whole xs ys

  -- what was collected, where it is no more than the answers
  first-answers : (entries : List E) (taken waiting staged left : List C) (collected rest replied ending : List R)
      → (h : IsAccount judges is_entry entry_of is_own reply_of entries taken waiting replied ending)
      → replied ≡ collected ++ rest → staged ≡ taken ++ left → length collected ≤ length h.judged
      → IsFirstPart judges is_entry entry_of is_own reply_of entries taken waiting replied staged collected ending
  first-answers entries taken waiting staged left collected rest replied ending h r s le =
      let n = length collected in
      let j : List (Judged C A) = take n h.judged in
      let len : length j ≡ n = length-take-le n h.judged le in
      record {
        account = h;
        judged = j;
        later = drop n h.judged;
        first = sym (take-append-drop n h.judged);
        ended = [];
        calls_are = ap (λ m. take m staged) len ∙ ap (take n) (s ∙ ap (λ cs. cs ++ left) h.taken_is ∙ append_assoc (map call_in h.judged) waiting left)
            ∙ take-append-le n (map call_in h.judged) (waiting ++ left) (omega (arith, le, length-map h.judged call_in)) ∙ take-map call_in n h.judged;
        collected_is = sym (take-of collected rest replied (sym r)) ∙ ap (take n) h.replied_is
            ∙ take-append-le n (map reply_of (map answer_in h.judged)) ending (omega (arith, le, length-map h.judged answer_in, length-map (map answer_in h.judged) reply_of))
            ∙ take-map reply_of n (map answer_in h.judged) ∙ ap (map reply_of) (take-map answer_in n h.judged) ∙ sym (append-nil (map reply_of (map answer_in j)));
        ended_is = inl refl;
      }

  -- what was collected, where it is more
  all-answers : (entries : List E) (taken waiting staged left : List C) (collected rest replied ending : List R)
      → (h : IsAccount judges is_entry entry_of is_own reply_of entries taken waiting replied ending)
      → replied ≡ collected ++ rest → staged ≡ taken ++ left → length ending ≤ 1 → length h.judged < length collected
      → IsFirstPart judges is_entry entry_of is_own reply_of entries taken waiting replied staged collected ending
  all-answers entries taken waiting staged left collected rest replied ending h r s one lt =
      let same : replied ≡ collected = r ∙ ap (λ rs. collected ++ rs) (none-left rest (omega (
        arith,
        one,
        lt,
        ap length r,
        ap length h.replied_is,
        length-append collected rest,
        length-append (map reply_of (map answer_in h.judged)) ending,
        length-map h.judged answer_in,
        length-map (map answer_in h.judged) reply_of,
      ))) ∙ append-nil collected in
      record {
        account = h;
        judged = h.judged;
        later = [];
        first = sym (append-nil h.judged);
        ended = ending;
        calls_are = ap (take (length h.judged)) (s ∙ ap (λ cs. cs ++ left) h.taken_is ∙ append_assoc (map call_in h.judged) waiting left)
            ∙ take-append-le (length h.judged) (map call_in h.judged) (waiting ++ left) (omega (arith, length-map h.judged call_in))
            ∙ take-map call_in (length h.judged) h.judged ∙ ap (map call_in) (take-length h.judged);
        collected_is = sym same ∙ h.replied_is;
        ended_is = inr refl;
      }

  -- what was collected other than the end, beside as many first staged calls, is the first part of the account
  pub account-first : (entries : List E) (taken waiting staged left : List C) (collected rest replied ending : List R)
      → IsAccount judges is_entry entry_of is_own reply_of entries taken waiting replied ending
      → replied ≡ collected ++ rest → staged ≡ taken ++ left → length ending ≤ 1
      → IsFirstPart judges is_entry entry_of is_own reply_of entries taken waiting replied staged collected ending
  account-first entries taken waiting staged left collected rest replied ending h r s one = elim (le-or-lt (length collected) (length h.judged)) [
    | inl le ↦ first-answers entries taken waiting staged left collected rest replied ending h r s le
    | inr lt ↦ all-answers entries taken waiting staged left collected rest replied ending h r s one lt
  ]
