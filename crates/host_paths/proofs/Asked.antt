-- The seat of the operator after a call.
use Rattle.std.proofs.Common.{◌≡◌, [], ◌∷◌, ◌++◌, length, ◌+◌, ap, sym, ◌∙◌, arith}
use Rattle.std.proofs.lemmas.List.{length-append}
use Rattle.host_calls.specs.declared.operator.OperatorCall.{OperatorCall}
use Rattle.host_calls.specs.declared.ring.RingReply.{RingReply}
use Rattle.host_core.specs.Seats.{staged, collected, is_closed, SameSeat}
use Rattle.host_paths.specs.Operating.{Operators, IsBetween}

-- a call that got its reply leaves the seat between two calls
pub asked-between : (s t : Operators) (call : OperatorCall) (reply : RingReply) → IsBetween s → is_closed t ≡ is_closed s → staged t ≡ staged s ++ call ∷ []
    → collected t ≡ collected s ++ reply ∷ [] → IsBetween t
asked-between s t call reply before same calls replies = λ is_open.
    let even : length (staged s) ≡ length (collected s) = before (sym same ∙ is_open) in
    let called : length (staged t) ≡ length (staged s) + 1 = ap length calls ∙ length-append (staged s) (call ∷ []) in
    let replied : length (collected t) ≡ length (collected s) + 1 = ap length replies ∙ length-append (collected s) (reply ∷ []) in
    omega (arith, even, called, replied)

-- the same seat, after two steps that leave it so
pub seat-twice : (s t u : Operators) → SameSeat s t → SameSeat t u → SameSeat s u
seat-twice s t u a b = (
  ((b.0.0.0 ∙ a.0.0.0, b.0.0.1 ∙ a.0.0.1, b.0.0.2 ∙ a.0.0.2, b.0.0.3 ∙ a.0.0.3), b.0.1 ∙ a.0.1),
  ((b.1.0.0 ∙ a.1.0.0, b.1.0.1 ∙ a.1.0.1, b.1.0.2 ∙ a.1.0.2, b.1.0.3 ∙ a.1.0.3), b.1.1 ∙ a.1.1),
  b.2 ∙ a.2,
)
