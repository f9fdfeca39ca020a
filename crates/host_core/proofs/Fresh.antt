-- A core before its first turn.
use Rattle.std.proofs.Common.{false, ◌≡◌, ◌≢◌, ℕ, ◌==◌, List, [], length, Some, slice_get, refl, sym, subst, ◌∙◌, ap, arith, inl, inr}
use Rattle.host_calls.specs.declared.ring.RingReply.TheVariants.{Answer as Answered}
use Rattle.host_calls.specs.declared.seat.SeatName.{SeatName}
use Rattle.host_calls.specs.declared.seat.SeatName.TheVariants.{Core}
use Rattle.host_core.specs.Journal.{Pages}
use Rattle.host_core.specs.Rows.{Row}
use Rattle.host_core.proofs.SeatAccounts.{account-none}
use Rattle.host_core.specs.Seats.{IsFresh, AreBeside}
use Rattle.host_core.specs.declared.desk.Desk.{Desk}
use Rattle.host_core.specs.declared.seat.Seat.{Seat}
use Rattle.host_core.specs.RowOpening.{AreFresh}
use Rattle.host_core.specs.Opened.{IsNameAt, AreOpened}
use Rattle.host_core.specs.RowSettling.{IsSeatedIn}
use Rattle.host_core.specs.Visits.{AllReady}
use Rattle.host_core.specs.Names.{same_name, AreNamed}
use Rattle.host_core.specs.Opening.{AreIdle}
use Rattle.host_core.specs.Keeping.{devices_among, judges, is_entry, entry_under, is_own, AreKept}

pub kept-fresh : (p : Pages) (callers devices : ℕ) (rows : List Row) → p.entries ≡ [] → AreOpened callers devices rows → AreKept p rows
kept-fresh p callers devices rows e o = λ i r at. let f = o.fresh i r at in
    rw (e, f.0, f.1, f.2, f.3) (account-none (judges (devices_among rows) p.limits p.most r.name) is_entry (entry_under r.name) (is_own r.name) Answered [])

pub ready-fresh : (callers devices : ℕ) (rows : List Row) → AreOpened callers devices rows → AllReady rows
ready-fresh callers devices rows o = λ i r at. let f = o.fresh i r at in (f.3, rw f.1 refl, λ k. ap length f.1)

apart-number : (a b : ℕ) → (a ≡ b → ⊥) → (a == b) ≡ false
apart-number a b n = grind (arith, n)

apart-names : (callers devices i j : ℕ) (a b : SeatName) → IsNameAt callers devices i a → IsNameAt callers devices j b → i ≢ j → same_name a b ≡ false
apart-names callers devices i j a b is other n = elim is [
  | inl x ↦ elim other [
    | inl y ↦ rw (x.1, y.1) (apart-number i j n)
    | inr y ↦ elim y [ inl z ↦ rw (x.1, z.3) refl | inr z ↦ rw (x.1, z.1) refl ]
  ]
  | inr x ↦ elim x [
    | inl u ↦ elim other [
      | inl y ↦ rw (u.3, y.1) refl
      | inr y ↦ elim y [
        | inl z ↦ rw (u.3, z.3) (apart-number u.0 z.0 (λ e. n (omega (arith, e, u.2, z.2))))
        | inr z ↦ rw (u.3, z.1) refl
      ]
    ]
    | inr u ↦ elim other [
      | inl y ↦ rw (u.1, y.1) refl
      | inr y ↦ elim y [ inl z ↦ rw (u.1, z.3) refl | inr z ↦ absurd (n (omega (arith, u.0, z.0))) ]
    ]
  ]
]

seated-name : (callers devices i : ℕ) (a : SeatName) → IsNameAt callers devices i a → same_name a Core ≡ false
seated-name callers devices i a is = elim is [ inl x ↦ rw x.1 refl | inr x ↦ elim x [ inl u ↦ rw u.3 refl | inr u ↦ rw u.1 refl ] ]

pub named-fresh : (callers devices : ℕ) (rows : List Row) → AreOpened callers devices rows → AreNamed rows
named-fresh callers devices rows o = (
  (λ i j r s at_r at_s n. apart-names callers devices i j r.name s.name (o.names i r at_r) (o.names j s at_s) n),
  (λ i r at. seated-name callers devices i r.name (o.names i r at)),
)

pub idle-fresh : {C P : Type 0} (n : ℕ) (seats : List (Seat C P)) (desks : List (Desk C P)) → AreFresh n seats desks → AreIdle seats
idle-fresh n seats desks h = λ i s at. let f = (h.fresh i s at).2 in (f.staged, f.collected, f.unclosed)

module _ {C P : Type 0} where
  pub beside-fresh : (i : ℕ) (s : Seat C P) (d : Desk C P) → IsFresh s d i → AreBeside s d
  beside-fresh i s d fresh = (fresh.calls, fresh.replies, fresh.numbered ∙ sym fresh.seat_numbered)

  -- each seat's desk stands at its number
  pub seated-fresh : (count : ℕ) (seats : List (Seat C P)) (desks : List (Desk C P)) → AreFresh count seats desks
      → (i : ℕ) (s : Seat C P) → slice_get seats i ≡ Some s → IsSeatedIn s desks
  seated-fresh count seats desks h i s at =
      let f = h.fresh i s at in (f.0, subst (λ n. slice_get desks n ≡ Some f.0) (sym f.2.seat_numbered) f.1, beside-fresh i s f.0 f.2)
