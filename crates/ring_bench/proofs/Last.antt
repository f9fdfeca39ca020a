-- A list whose last element was taken.
use Rattle.std.proofs.Common.{◌≡◌, ℕ, List, [], ◌++◌, length, Option, Some, None, IfSome, slice_get, option_to_list, ap, ◌∙◌}
use Rattle.host_core.proofs.Fits.{get-longer, get-next}

module _ {X : Type 0} (Q : X → Type 0) (olds news : List X) where
  pub of-rest : (r : Option X) → olds ≡ news ++ option_to_list r → ((i : ℕ) (s : X) → slice_get olds i ≡ Some s → Q s)
      → (i : ℕ) (s : X) → slice_get news i ≡ Some s → Q s
  of-rest r e all i s at = all i s (ap (λ xs. slice_get xs i) e ∙ get-longer news (option_to_list r) i s at)

  pub of-last : (r : Option X) → olds ≡ news ++ option_to_list r → ((i : ℕ) (s : X) → slice_get olds i ≡ Some s → Q s) → IfSome r Q
  of-last (Some x) e all = all (length news) x (ap (λ xs. slice_get xs (length news)) e ∙ get-next news [] x)
  of-last None e all = tt
