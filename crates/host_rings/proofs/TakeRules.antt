-- The rule of Take.
use Rattle.std.proofs.Common.{Bool, true, false, ◌≡◌, ◌≢◌, ℕ, List, sym, ◌∙◌, refl, subst, Option}
use Rattle.std.proofs.lemmas.Bool.{true≢false, false≢true}
use Rattle.plain.specs.Machine.{Plain}
use Rattle.plain.specs.Keeper.{State, machine_of}
use Rattle.plain.specs.declared.answer.Answer.{Answer}
use Rattle.plain.specs.declared.answer.Answer.TheVariants.{Refused, NotYet}
use Rattle.plain.specs.declared.answer.Cause.TheVariants.{Held}
use Rattle.plain.specs.declared.answer.Code.TheVariants.{BadWorker}
use Rattle.plain.specs.declared.answer.Work.{Work}
use Rattle.host_core.specs.Takes.{IsBest, TakeRule, of_best}

module _ (k s : State) (own worker : ℕ) (lasts : List (Option ℕ)) (is_held : Bool) (same : s ≡ k) (told : is_held ≡ s.held) where
  -- the host is held
  pub take-held : is_held ≡ true → TakeRule k own worker lasts (NotYet Held)
  take-held held = subst (λ k. TakeRule k own worker lasts (NotYet Held)) same (record {
    held = λ h. refl;
    stranger = λ h n. absurd (true≢false (sym held ∙ told ∙ h));
    takes = λ h e. absurd (true≢false (sym held ∙ told ∙ h));
  })

  -- the number is another device's
  pub take-stranger : is_held ≡ false → worker ≢ own → TakeRule k own worker lasts (Refused BadWorker)
  take-stranger held other = subst (λ k. TakeRule k own worker lasts (Refused BadWorker)) same (record {
    held = λ h. absurd (false≢true (sym held ∙ told ∙ h));
    stranger = λ h n. refl;
    takes = λ h e. absurd (other e);
  })

  -- the device's next work, or none
  pub take-best : (device : ℕ) (m : Plain) (best : Option Work) (answer : Answer) → is_held ≡ false → worker ≡ own → device ≡ own → m ≡ machine_of s
      → IsBest m lasts device best → answer ≡ of_best best → TakeRule k own worker lasts answer
  take-best device m best answer held seat from shown is a = subst (λ k. TakeRule k own worker lasts answer) same (record {
    held = λ h. absurd (false≢true (sym held ∙ told ∙ h));
    stranger = λ h n. absurd (n seat);
    takes = λ h e. (best, subst (λ x. IsBest x lasts own best) shown (subst (λ n. IsBest m lasts n best) from is), a);
  })
