-- Seats over the same rings.
use Rattle.std.proofs.Common.{refl, ◌∙◌}
use Rattle.host_core.specs.Seats.{SameSeat}
use Rattle.host_core.specs.declared.seat.Seat.{Seat}

module _ {C P : Type 0} where
  pub seat-none : (s : Seat C P) → SameSeat s s
  seat-none s = (((refl, refl, refl, refl), refl), ((refl, refl, refl, refl), refl), refl)

  pub seat-twice : (s t u : Seat C P) → SameSeat s t → SameSeat t u → SameSeat s u
  seat-twice s t u a b = (
    ((b.0.0.0 ∙ a.0.0.0, b.0.0.1 ∙ a.0.0.1, b.0.0.2 ∙ a.0.0.2, b.0.0.3 ∙ a.0.0.3), b.0.1 ∙ a.0.1),
    ((b.1.0.0 ∙ a.1.0.0, b.1.0.1 ∙ a.1.0.1, b.1.0.2 ∙ a.1.0.2, b.1.0.3 ∙ a.1.0.3), b.1.1 ∙ a.1.1),
    b.2 ∙ a.2,
  )
