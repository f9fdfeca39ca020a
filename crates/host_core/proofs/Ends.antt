-- The end of all seats, one after the other.
use Rattle.std.proofs.Common.{false, ◌≡◌, ℕ, zero, suc, ◌+◌, ◌<◌, ◌≤◌, List, [], ◌∷◌, ◌++◌, length, refl, sym, ap, ◌∙◌, subst, arith, Some, ◌⊎◌, inl, inr}
use Rattle.std.specs.List.{slice_get}
use Rattle.std.proofs.lemmas.List.{length-append}
use Rattle.std.proofs.lemmas.Option.{slice_get_within, same_Some}
use Rattle.host_core.specs.Rows.{Row}
use Rattle.host_core.specs.Closing.{AllOpen, Closes, AllClose}
use Rattle.host_core.specs.Visits.{Changes}
use Rattle.host_core.proofs.Rows.{get-left, get-right, within-or-behind}

pub same-place : (i j : ℕ) → (i ≡ j) ⊎ (i ≡ j → ⊥)
same-place zero zero = inl refl
same-place zero (suc j) = inr (λ e. omega (arith, e))
same-place (suc i) zero = inr (λ e. omega (arith, e))
same-place (suc i) (suc j) = elim (same-place i j) [ inl e ↦ inl (ap suc e) | inr n ↦ inr (λ e. n (omega (arith, e))) ]

-- the seats before a place have heard the end, and the others are as they were
pub record CloseUpto (n : ℕ) (xs ys : List Row) : Type 0 where
  pub long : length ys ≡ length xs
  pub closes : (i : ℕ) (s : Row) → i < n → slice_get ys i ≡ Some s → (r : Row) × (slice_get xs i ≡ Some r) × Closes r s
  pub others : (i : ℕ) → n ≤ i → slice_get ys i ≡ slice_get xs i

pub close-none : (xs : List Row) → CloseUpto 0 xs xs
close-none xs = record { long = refl; closes = λ i s lt at. absurd (omega (arith, lt)); others = λ i le. refl }

-- one seat more
pub close-more : (n : ℕ) (xs ys zs : List Row) → CloseUpto n xs ys → Changes n Closes ys zs → CloseUpto (n + 1) xs zs
close-more n xs ys zs h c = record {
  long = c.long ∙ h.long;
  closes = λ i s lt at. elim (same-place i n) [
    | inl e ↦ (
      c.before,
      ap (slice_get xs) e ∙ sym (h.others n (omega arith)) ∙ c.stood,
      subst (λ t. Closes c.before t) (same_Some c.after s (sym c.stands ∙ ap (slice_get zs) (sym e) ∙ at)) c.related,
    )
    | inr ne ↦ h.closes i s (omega (arith, lt, ne)) (sym (c.others i ne) ∙ at)
  ];
  others = λ i le. c.others i (λ e. omega (arith, e, le)) ∙ h.others i (omega (arith, le));
}

pub close-whole : (n : ℕ) (xs ys : List Row) → CloseUpto n xs ys → length ys ≤ n → AllClose xs ys
close-whole n xs ys h le = record { long = h.long; closes = λ i s at. h.closes i s (omega (arith, le, slice_get_within ys i s at)) at }

-- a seat that is not closed yet is open
pub open-next : (n : ℕ) (xs ys : List Row) (r : Row) → CloseUpto n xs ys → AllOpen xs → slice_get ys n ≡ Some r → r.closed ≡ false
open-next n xs ys r h o at = o n r (sym (h.others n (omega arith)) ∙ at)

-- both parts of a row
pub close-both : (xs ys zs us : List Row) → AllClose xs ys → AllClose zs us → AllClose (xs ++ zs) (ys ++ us)
close-both xs ys zs us a b = record {
  long = omega (arith, a.long, b.long, length-append xs zs, length-append ys us);
  closes = λ i s at. elim (within-or-behind i (length ys)) [
    | inl lt ↦ let c = a.closes i s (sym (get-left ys us i lt) ∙ at) in (c.0, get-left xs zs i (omega (arith, lt, a.long)) ∙ c.1, c.2)
    | inr k ↦ let c = b.closes k.0 s (sym (get-right ys us k.0 i k.1) ∙ at) in (c.0, get-right xs zs k.0 i (omega (arith, k.1, a.long)) ∙ c.1, c.2)
  ];
}

only-one : (R : Row → Row → Type 0) (r s t : Row) (i : ℕ) → R r s → slice_get (s ∷ []) i ≡ Some t → (q : Row) × (slice_get (r ∷ []) i ≡ Some q) × R q t
only-one R r s t zero h at = (r, refl, subst (R r) (same_Some s t at) h)
only-one R r s t (suc i) h at = absurd (omega (arith, slice_get_within (s ∷ []) (suc i) t at))

pub close-one : (r s : Row) → Closes r s → AllClose (r ∷ []) (s ∷ [])
close-one r s h = record { long = refl; closes = λ i t at. only-one Closes r s t i h at }

pub open-left : (xs zs : List Row) → AllOpen (xs ++ zs) → AllOpen xs
open-left xs zs h = λ i r at. h i r (get-left xs zs i (slice_get_within xs i r at) ∙ at)

pub open-right : (zs xs : List Row) → AllOpen (zs ++ xs) → AllOpen xs
open-right zs xs h = λ i r at. h (length zs + i) r (get-right zs xs i (length zs + i) refl ∙ at)
