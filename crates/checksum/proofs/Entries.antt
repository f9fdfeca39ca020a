-- The table of what each byte brings in.
use Rattle.std.proofs.Common.{◌≡◌, ℕ, zero, suc, ◌+◌, ◌<◌, ◌==◌, true, false, true≢false, cond, List, [], ◌∷◌, length, slice_index_or, refl, sym, ap, ◌∙◌, arith}
use Rattle.std.proofs.lemmas.Bool.Decides.{nat_tests}
use Rattle.checksum.specs.Crc.{entry_before, are_entries}

-- of numbers that are what bytes bring in, the first is, and so are the others
first_of : (behind from number : ℕ) (numbers : List ℕ) → are_entries behind from (number ∷ numbers) ≡ true
    → (number ≡ entry_before behind from) × (are_entries behind (from + 1) numbers ≡ true)
first_of behind from number numbers h =
    elim (number == entry_before behind from) as (λ b. b ≡ (number == entry_before behind from) → cond b (are_entries behind (from + 1) numbers) false ≡ true → (number ≡ entry_before behind from) × (are_entries behind (from + 1) numbers ≡ true)) [
      | true ↦ λ e t. (grind (arith, nat_tests), t)
      | false ↦ λ e t. absurd (true≢false (sym t))
    ] refl h

pub entry_at : (behind from i : ℕ) (numbers : List ℕ) → i < length numbers → are_entries behind from numbers ≡ true → slice_index_or numbers i 0 ≡ entry_before behind (from + i)
entry_at behind from i [] h is = absurd (omega arith)
entry_at behind from zero (number ∷ numbers) h is =
    let same : from ≡ from + 0 = omega arith in
    (first_of behind from number numbers is).0 ∙ ap (entry_before behind) same
entry_at behind from (suc i) (number ∷ numbers) h is =
    let same : from + 1 + i ≡ from + suc i = omega arith in
    entry_at behind (from + 1) i numbers (omega arith) (first_of behind from number numbers is).1 ∙ ap (entry_before behind) same
