-- Seats and desks that were made.
use Rattle.std.proofs.Common.{◌≡◌, ℕ, zero, suc, ◌+◌, ◌<◌, List, [], ◌∷◌, ◌++◌, length, map, refl, sym, ap, ◌∙◌, subst, arith, Some, ◌⊎◌, inl, inr}
use Rattle.std.specs.Prelude.{option_to_list}
use Rattle.std.specs.List.{slice_get}
use Rattle.std.specs.Option.{option_map}
use Rattle.std.proofs.lemmas.List.{length-map, length-append}
use Rattle.std.proofs.lemmas.Option.{slice_get_within, same_Some, slice_get-map}
use Rattle.host_calls.specs.declared.seat.SeatName.{SeatName}
use Rattle.host_calls.specs.declared.seat.SeatName.TheVariants.{Client, Device, Operator}
use Rattle.host_core.specs.Rows.{Row}
use Rattle.host_core.specs.Seats.{IsFresh, row_of}
use Rattle.host_core.specs.declared.asked.Asked.{Asked}
use Rattle.host_core.specs.declared.desk.Desk.{Desk}
use Rattle.host_core.specs.declared.seat.Seat.{Seat}
use Rattle.host_core.specs.RowOpening.{AreFresh}
use Rattle.host_core.specs.Opened.{IsNameAt, IsFreshRow, AreOpened}
use Rattle.host_core.proofs.Rows.{get-left, get-right, within-or-behind}

some-at : {X : Type 0} (xs : List X) (i : ℕ) → i < length xs → (x : X) × (slice_get xs i ≡ Some x)
some-at [] i h = absurd (omega (arith, h))
some-at (x ∷ xs) zero h = (x, refl)
some-at (x ∷ xs) (suc i) h = some-at xs i (omega (arith, h))

-- the last of a longer list, or one before
last-or-before : {X : Type 0} (xs : List X) (y x : X) (i : ℕ) → slice_get (xs ++ y ∷ []) i ≡ Some x → ((i ≡ length xs) × (x ≡ y)) ⊎ (slice_get xs i ≡ Some x)
last-or-before [] y x zero h = inl (refl, sym (same_Some y x h))
last-or-before [] y x (suc i) h = inr h
last-or-before (z ∷ xs) y x zero h = inr h
last-or-before (z ∷ xs) y x (suc i) h = elim (last-or-before xs y x i h) [ inl e ↦ inl (ap suc e.0, e.1) | inr e ↦ inr e ]

-- the row of a desk to which nothing has come
abbrev pub IsRowOf : SeatName → Row → Type 0
IsRowOf name r = (r.name ≡ name) × IsFreshRow r

module _ {C P : Type 0} where
  pub fresh-none : AreFresh {C = C} {P = P} 0 [] []
  fresh-none = record { seats_are = refl; desks_are = refl; fresh = λ i s at. absurd (omega (arith, slice_get_within [] i s at)) }

  -- one seat more
  pub fresh-more : (n : ℕ) (seats : List (Seat C P)) (desks : List (Desk C P)) (seat : Seat C P) (desk : Desk C P) → AreFresh n seats desks → IsFresh seat desk n
      → AreFresh (n + 1) (seats ++ seat ∷ []) (desks ++ desk ∷ [])
  fresh-more n seats desks seat desk h new = record {
    seats_are = omega (arith, h.seats_are, length-append seats (seat ∷ []));
    desks_are = omega (arith, h.desks_are, length-append desks (desk ∷ []));
    fresh = λ i s at. elim (last-or-before seats seat s i at) [
      | inl a ↦ (desk, get-right desks (desk ∷ []) 0 i (omega (arith, a.0, h.seats_are, h.desks_are)), rw (a.1, a.0, h.seats_are) new)
      | inr a ↦ let d = h.fresh i s a in (d.0, get-left desks (desk ∷ []) i (slice_get_within desks i d.0 d.1) ∙ d.1, d.2)
    ];
  }

  pub fresh-row : (asked_by : ℕ → C → Asked) (named : ℕ → SeatName) (s : Seat C P) (d : Desk C P) (n : ℕ) → IsFresh s d n → IsRowOf (named n) (row_of asked_by named d)
  fresh-row asked_by named s d n f =
      (ap named f.numbered, (ap (map (asked_by d.number)) f.taken, ap option_to_list f.waiting, f.replied, f.closed))

  pub fresh-rows : (asked_by : ℕ → C → Asked) (named : ℕ → SeatName) (n : ℕ) (seats : List (Seat C P)) (desks : List (Desk C P)) → AreFresh n seats desks
      → (i : ℕ) (r : Row) → slice_get (map (row_of asked_by named) desks) i ≡ Some r → (i < n) × IsRowOf (named i) r
  fresh-rows asked_by named n seats desks h i r at =
      let within : i < length desks = omega (arith, slice_get_within (map (row_of asked_by named) desks) i r at, length-map desks (row_of asked_by named)) in
      let s = some-at seats i (omega (arith, within, h.seats_are, h.desks_are)) in
      let d = h.fresh i s.0 s.1 in (
        omega (arith, within, h.desks_are),
        subst (IsRowOf (named i)) (same_Some (row_of asked_by named d.0) r (sym (slice_get-map (row_of asked_by named) desks i ∙ ap (option_map (row_of asked_by named)) d.1) ∙ at))
            (fresh-row asked_by named s.0 d.0 i d.2),
      )

  pub rows-long : (asked_by : ℕ → C → Asked) (named : ℕ → SeatName) (n : ℕ) (seats : List (Seat C P)) (desks : List (Desk C P)) → AreFresh n seats desks
      → length (map (row_of asked_by named) desks) ≡ n
  rows-long asked_by named n seats desks h = length-map desks (row_of asked_by named) ∙ h.desks_are

only-one : (o r : Row) (i : ℕ) → slice_get (o ∷ []) i ≡ Some r → (i ≡ 0) × (o ≡ r)
only-one o r zero at = (refl, same_Some o r at)
only-one o r (suc i) at = absurd (omega (arith, slice_get_within (o ∷ []) (suc i) r at))

-- the rows of all kinds
module _ (callers devices : ℕ) (xs ys : List Row) (o : Row) (xs_long : length xs ≡ callers) (ys_long : length ys ≡ devices)
    (xs_are : (i : ℕ) (r : Row) → slice_get xs i ≡ Some r → (i < callers) × IsRowOf (Client i) r)
    (ys_are : (i : ℕ) (r : Row) → slice_get ys i ≡ Some r → (i < devices) × IsRowOf (Device i) r)
    (o_is : IsRowOf Operator o) where
  opened-at : (i : ℕ) (r : Row) → slice_get (xs ++ (ys ++ o ∷ [])) i ≡ Some r → IsNameAt callers devices i r.name × IsFreshRow r
  opened-at i r at = elim (within-or-behind i (length xs)) [
    | inl lt ↦ let x = xs_are i r (sym (get-left xs (ys ++ o ∷ []) i lt) ∙ at) in (inl (x.0, x.1.0), x.1.1)
    | inr k ↦ let at_k : slice_get (ys ++ o ∷ []) k.0 ≡ Some r = sym (get-right xs (ys ++ o ∷ []) k.0 i k.1) ∙ at in
        elim (within-or-behind k.0 (length ys)) [
          | inl lt ↦ let y = ys_are k.0 r (sym (get-left ys (o ∷ []) k.0 lt) ∙ at_k) in
              (inr (inl (k.0, y.0, omega (arith, k.1, xs_long), y.1.0)), y.1.1)
          | inr m ↦ let z = only-one o r m.0 (sym (get-right ys (o ∷ []) m.0 k.0 m.1) ∙ at_k) in
              let is : IsRowOf Operator r = subst (IsRowOf Operator) z.1 o_is in
              (inr (inr (omega (arith, k.1, m.1, z.0, xs_long, ys_long), is.0)), is.1)
        ]
  ]

  pub opened-rows : AreOpened callers devices (xs ++ (ys ++ o ∷ []))
  opened-rows = record {
    long = omega (arith, xs_long, ys_long, length-append xs (ys ++ o ∷ []), length-append ys (o ∷ []));
    names = λ i r at. (opened-at i r at).0;
    fresh = λ i r at. (opened-at i r at).1;
  }
