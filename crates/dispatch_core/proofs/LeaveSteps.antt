-- What the plain Leave says where the code has made its tests.
use Rattle.std.proofs.Common.{◌≡◌, ℕ, ◌<◌, ◌≤◌, [], ◌∷◌, Some, None, Bool, true, false, not, nat_le, refl, sym, ap, ◌∙◌, subst, le-leb}
use Rattle.std.proofs.lemmas.Bool.{lt-leb}
use Rattle.dispatch_core.proofs.Words.{Seat, Plain, Limits, has_session}
use Rattle.plain.specs.declared.answer.Code.TheVariants.{BadSeat, NoSession, HistoryFull}
use Rattle.plain.specs.declared.answer.Reply.TheVariants.{Left}
use Rattle.plain.specs.declared.answer.Answer.{Answer}
use Rattle.plain.specs.declared.answer.Answer.TheVariants.{Accepted, Refused}
use Rattle.plain.specs.Tests.{StepResult, unless, accepted}
use Rattle.plain.specs.Step.{MayGiveWay}
use Rattle.plain.specs.Steps.Leave.{left, leave}

-- two tests that have passed
passed : (a b : Bool) (x y : Answer) (m : Plain) (o : StepResult) → a ≡ false → b ≡ false → unless ((a, x) ∷ (b, y) ∷ []) m o ≡ o
passed a b x y m o p q = rw (p, q) refl

-- of which the second has not
second : (a b : Bool) (x y : Answer) (m : Plain) (o : StepResult) → a ≡ false → b ≡ true → unless ((a, x) ∷ (b, y) ∷ []) m o ≡ (m, y)
second a b x y m o p q = rw (p, q) refl

first : (a b : Bool) (x y : Answer) (m : Plain) (o : StepResult) → a ≡ true → unless ((a, x) ∷ (b, y) ∷ []) m o ≡ (m, x)
first a b x y m o p = rw p refl

module _ (l : Limits) (m : Plain) (room : Bool) (seat : ℕ) where
  abbrev done : StepResult
  done = accepted room m (left l m seat) Left

  pub leave_seat : 16 ≤ seat → leave l m room seat ≡ (m, Refused BadSeat)
  leave_seat h = first (nat_le 16 seat) (not (has_session (m.seat seat))) (Refused BadSeat) (Refused NoSession) m done (le-leb 16 seat h)

  module _ (within : seat < 16) where
    pub leave_nobody : m.seat seat ≡ None → leave l m room seat ≡ (m, Refused NoSession)
    leave_nobody none =
        second (nat_le 16 seat) (not (has_session (m.seat seat))) (Refused BadSeat) (Refused NoSession) m done (lt-leb 16 seat within) (ap (λ o. not (has_session o)) none)

    module _ (s : Seat) (sits : m.seat seat ≡ Some s) where
      pub leave_again : s.leaving ≡ true → leave l m room seat ≡ (m, Refused NoSession)
      leave_again leaves =
          second (nat_le 16 seat) (not (has_session (m.seat seat))) (Refused BadSeat) (Refused NoSession) m done (lt-leb 16 seat within)
          (ap (λ o. not (has_session o)) sits ∙ ap (λ b. not (not b)) leaves)

      leave_goes : s.leaving ≡ false → leave l m room seat ≡ accepted room m (left l m seat) Left
      leave_goes stays =
          passed (nat_le 16 seat) (not (has_session (m.seat seat))) (Refused BadSeat) (Refused NoSession) m done (lt-leb 16 seat within)
          (ap (λ o. not (has_session o)) sits ∙ ap (λ b. not (not b)) stays)

      pub leave_late : s.leaving ≡ false → room ≡ false → leave l m room seat ≡ (m, Refused HistoryFull)
      leave_late stays e = leave_goes stays ∙ ap (λ b. accepted b m (left l m seat) Left) e

      pub leave_does : s.leaving ≡ false → room ≡ true → leave l m room seat ≡ (left l m seat, Accepted Left)
      leave_does stays e = leave_goes stays ∙ ap (λ b. accepted b m (left l m seat) Left) e

      pub leave_accepts : s.leaving ≡ false → room ≡ true → MayGiveWay (leave l m room seat).1
      leave_accepts stays e = let P : Plain × Answer → Type 0 = λ o. MayGiveWay o.1 in subst P (sym (leave_does stays e)) tt
