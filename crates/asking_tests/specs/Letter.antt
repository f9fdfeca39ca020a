-- An example of a side, for the tests: the body of a value is one byte.
use Rattle.std.specs.Prelude.{◌≡◌, ℕ, List, [], ◌∷◌, length, slice_index, Result, Ok, Err, ◌==◌, if◌then◌else◌}
use Rattle.std.proofs.Common.{refl, arith, eqb, false}
use Rattle.std.proofs.lemmas.Bool.{ne_eqb}
use Rattle.session_proto.specs.declared.fault.Fault.{Fault}
use Rattle.session_proto.specs.declared.fault.Fault.TheVariants.{BadBody}

-- one byte says a value, and other bytes say none (for the tests)
abbrev pub one_byte : {T : Type 0} → (ℕ → T) → List ℕ → Result T Fault
one_byte made bytes = if length bytes == 1 then Ok (made (slice_index bytes 0)) else Err BadBody

-- bytes that say a value are one byte, its own (for the tests)
pub one_byte-spelled : {T : Type 0} (made : ℕ → T) (bytes : List ℕ) (v : T) → one_byte made bytes ≡ Ok v
    → (bytes ≡ slice_index bytes 0 ∷ []) × (made (slice_index bytes 0) ≡ v)
one_byte-spelled made [] v e = absurd cc
one_byte-spelled made (b ∷ []) v e = (refl, cc)
one_byte-spelled made (b ∷ c ∷ bs) v e =
    let long : eqb (length (b ∷ c ∷ bs)) 1 ≡ false = ne_eqb (length (b ∷ c ∷ bs)) 1 (λ x. omega (arith, x)) in
    let bad = rw long at e in
    absurd cc
