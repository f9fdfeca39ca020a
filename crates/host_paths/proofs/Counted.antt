-- How many calls were asked.
use Rattle.std.proofs.Common.{◌≡◌, ℕ, ◌+◌, ◌≤◌, Bool, true, List, length, map, ap, ◌∙◌, arith, length-append}
use Rattle.std.proofs.lemmas.List.{length-map}
use Rattle.host_core.specs.Seats.{staged}
use Rattle.session_proto.specs.declared.operator.Operator.{Operator}
use Rattle.host_paths.specs.Operating.{Operators, Known, HasAsked}

-- as many as were asked
asked_count : (s t : Operators) (w0 w1 : Known) (calls : List Operator) (goes_on : Bool) → (h : HasAsked s t w0 w1 calls goes_on)
    → length (staged t) ≡ length (staged s) + length h.asked
asked_count s t w0 w1 calls goes_on h =
    ap length h.stages ∙ length-append (staged s) (map (λ (c : Operator). c.0) h.asked)
    ∙ ap (λ (n : ℕ). length (staged s) + n) (length-map h.asked (λ (c : Operator). c.0))

-- no more than there are
pub asked_few : (s t : Operators) (w0 w1 : Known) (calls : List Operator) (goes_on : Bool) → HasAsked s t w0 w1 calls goes_on
    → length (staged t) ≤ length (staged s) + length calls
asked_few s t w0 w1 calls goes_on h =
    let count = asked_count s t w0 w1 calls goes_on h in
    let parts = ap length h.order ∙ length-append h.asked h.unasked in
    omega (arith, count, parts)

-- and all, if it goes on
pub asked_whole_count : (s t : Operators) (w0 w1 : Known) (calls : List Operator) (goes_on : Bool) → HasAsked s t w0 w1 calls goes_on → goes_on ≡ true
    → length (staged t) ≡ length (staged s) + length calls
asked_whole_count s t w0 w1 calls goes_on h on =
    let count = asked_count s t w0 w1 calls goes_on h in
    let parts = ap length h.order ∙ length-append h.asked h.unasked in
    let none = ap length (h.all on).0 in
    omega (arith, count, parts, none)
