-- Seats of looks over the same rings.
use Rattle.std.proofs.Common.{refl, ◌∙◌}
use Rattle.host_looks.specs.Looking.{SameSeat}
use Rattle.host_looks.specs.declared.seat.LookSeat.{LookSeat}

pub seat-none : (s : LookSeat) → SameSeat s s
seat-none s = (((refl, refl, refl, refl), refl), ((refl, refl, refl, refl), refl))

pub seat-twice : (s t u : LookSeat) → SameSeat s t → SameSeat t u → SameSeat s u
seat-twice s t u a b = (
  ((b.0.0.0 ∙ a.0.0.0, b.0.0.1 ∙ a.0.0.1, b.0.0.2 ∙ a.0.0.2, b.0.0.3 ∙ a.0.0.3), b.0.1 ∙ a.0.1),
  ((b.1.0.0 ∙ a.1.0.0, b.1.0.1 ∙ a.1.0.1, b.1.0.2 ∙ a.1.0.2, b.1.0.3 ∙ a.1.0.3), b.1.1 ∙ a.1.1),
)
