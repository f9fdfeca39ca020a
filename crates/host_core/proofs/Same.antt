-- Desks over the same rings.
use Rattle.std.proofs.Common.{◌≡◌, ℕ, ◌<◌, List, length, set, get_or, refl, sym, ap, ◌∙◌, subst, Some, inl, inr}
use Rattle.std.specs.List.{slice_get}
use Rattle.std.proofs.lemmas.Option.{same_Some}
use Rattle.host_core.specs.Seats.{SameDesk}
use Rattle.host_core.specs.declared.desk.Desk.{Desk}
use Rattle.host_core.specs.Same.{SameEach, SameDesks}
use Rattle.host_core.specs.declared.desks.Desks.{Desks}
use Rattle.host_core.proofs.Ends.{same-place}
use Rattle.host_core.proofs.Rows.{set-at, set-other, or-at}

module _ {C P : Type 0} where
  pub same-none : (d : Desk C P) → SameDesk d d
  same-none d = (((refl, refl, refl, refl), refl), ((refl, refl, refl, refl), refl), refl)

  pub same-twice : (d e f : Desk C P) → SameDesk d e → SameDesk e f → SameDesk d f
  same-twice d e f a b = (
    ((b.0.0.0 ∙ a.0.0.0, b.0.0.1 ∙ a.0.0.1, b.0.0.2 ∙ a.0.0.2, b.0.0.3 ∙ a.0.0.3), b.0.1 ∙ a.0.1),
    ((b.1.0.0 ∙ a.1.0.0, b.1.0.1 ∙ a.1.0.1, b.1.0.2 ∙ a.1.0.2, b.1.0.3 ∙ a.1.0.3), b.1.1 ∙ a.1.1),
    b.2 ∙ a.2,
  )

  pub each-none : (xs : List (Desk C P)) → SameEach xs xs
  each-none xs = λ i d at. (d, at, same-none d)

  pub each-twice : (xs ys zs : List (Desk C P)) → SameEach xs ys → SameEach ys zs → SameEach xs zs
  each-twice xs ys zs a b = λ i d at. let e = a i d at in let f = b i e.0 e.1 in (f.0, f.1, same-twice d e.0 f.0 e.2 f.2)

  -- one desk was at work
  pub each-set : (xs ys : List (Desk C P)) (place : ℕ) (d e : Desk C P) → place < length xs → d ≡ get_or xs place d → ys ≡ set xs place e → SameDesk d e → SameEach xs ys
  each-set xs ys place d e within stood set_is h = λ i x at. elim (same-place i place) [
    | inl p ↦ (
      e,
      ap (λ zs. slice_get zs i) set_is ∙ ap (slice_get (set xs place e)) p ∙ set-at xs place e within,
      subst (λ y. SameDesk y e) (same_Some d x (ap Some stood ∙ sym (or-at xs place d within) ∙ ap (slice_get xs) (sym p) ∙ at)) h,
    )
    | inr n ↦ (x, ap (λ zs. slice_get zs i) set_is ∙ set-other xs place i e n ∙ at, same-none x)
  ]

-- all desks of a core
pub desks-none : (a : Desks) → SameDesks a a
desks-none a = (each-none a.callers.items, each-none a.devices.items, same-none a.operator)

pub desks-twice : (a b c : Desks) → SameDesks a b → SameDesks b c → SameDesks a c
desks-twice a b c x y = (
  each-twice a.callers.items b.callers.items c.callers.items x.0 y.0,
  each-twice a.devices.items b.devices.items c.devices.items x.1 y.1,
  same-twice a.operator b.operator c.operator x.2 y.2,
)
