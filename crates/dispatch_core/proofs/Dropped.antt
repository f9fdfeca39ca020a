-- What a table of bios has after some of its slots were emptied.
use Rattle.std.proofs.Common.{◌≡◌, inl, inr, ℕ, ◌+◌, ◌<◌, List, [], ◌∷◌, Some, None, Option, length, get_or, set, refl, sym, ap, ◌∙◌, arith, length-set}
use Rattle.std.specs.Prelude.{All}
use Rattle.std.proofs.lemmas.List.{get_or-set_other}
use Rattle.std.proofs.lemmas.List.Elements.{All-head, All-tail}
use Rattle.dispatch_core.proofs.Words.{Bio, bios_at, at, one, times, IsSlotOf, without_bios}
use Rattle.request_pool.specs.Slots.{seat_slots}
use Rattle.dispatch_core.specs.WellFormed.{taken}
use Rattle.dispatch_core.proofs.Times.{Apart, set_cases, same, same_is, same_not, times-cons, filter_map_same}
use Rattle.dispatch_core.proofs.SlotCounts.{taken_in, taken_out}
use Rattle.dispatch_core.proofs.Room.{Distinct, Distinct-head, Distinct-tail}
use Rattle.dispatch_core.proofs.Written.{AreTaken, head_taken, taken_within}

-- the others are taken still, where none of them was emptied
pub others_taken : (table : List (Option Bio)) (s : ℕ) (slots : List ℕ) → Distinct (s ∷ slots) → AreTaken table (s ∷ slots) → AreTaken (set table s None) slots
others_taken table s slots few h k d lt =
    ap one (get_or-set_other table s (get_or slots k d) None None (Distinct-head s slots few k d lt)) ∙ All-tail (λ q. one (at table q) ≡ 1) s slots h k d lt

-- the table stays as long
pub length-without_bios : (table : List (Option Bio)) (slots : List ℕ) → length (without_bios table slots) ≡ length table
length-without_bios table [] = refl
length-without_bios table (s ∷ slots) = length-without_bios (set table s None) slots ∙ length-set table s None

-- a slot that is not emptied keeps what it has
pub without_bios_apart : (table : List (Option Bio)) (slots : List ℕ) (q : ℕ) → Apart q slots → at (without_bios table slots) q ≡ at table q
without_bios_apart table [] q h = refl
without_bios_apart table (s ∷ slots) q h =
    without_bios_apart (set table s None) slots q (All-tail (λ x. x ≡ q → ⊥) s slots h)
    ∙ get_or-set_other table s q None None (λ e. All-head (λ x. x ≡ q → ⊥) s slots h (sym e))

-- each slot that is emptied had one
pub one-without_bios : (table : List (Option Bio)) (slots : List ℕ) (q : ℕ) → Distinct slots → AreTaken table slots → one (at (without_bios table slots) q) + times q slots ≡ one (at table q)
one-without_bios table [] q few h = omega arith
one-without_bios table (s ∷ slots) q few h =
    let rest = one-without_bios (set table s None) slots q (Distinct-tail s slots few) (others_taken table s slots few h) in
    let was : one (at table s) ≡ 1 = head_taken table s slots h in
    elim (set_cases table s q None (taken_within table s was)) [
      | inl here ↦
          let a : same s q ≡ 1 = ap (same s) here.0 ∙ same_is s in
          let b : one (at (set table s None) q) ≡ 0 = ap one here.1 in
          let c : one (at table q) ≡ 1 = ap (λ k. one (at table k)) here.0 ∙ was in
          omega (arith, rest, times-cons q s slots, a, b, c)
      | inr other ↦
          let a : same s q ≡ 0 = same_not s q (λ e. other.0 (sym e)) in
          let b : one (at (set table s None) q) ≡ one (at table q) = ap one other.1 in
          omega (arith, rest, times-cons q s slots, a, b)
    ]

-- a bio that is there still was there
pub was_there : (table : List (Option Bio)) (slots : List ℕ) (q : ℕ) (b : Bio) → AreTaken table slots → Distinct slots → at (without_bios table slots) q ≡ Some b → at table q ≡ Some b
was_there table [] q b h few e = e
was_there table (s ∷ slots) q b h few e =
    let before : at (set table s None) q ≡ Some b = was_there (set table s None) slots q b (others_taken table s slots few h) (Distinct-tail s slots few) e in
    elim (set_cases table s q None (taken_within table s (head_taken table s slots h))) [
      | inl here ↦ let both : None ≡ Some b = sym here.1 ∙ before in absurd cc
      | inr other ↦ sym other.1 ∙ before
    ]

-- a seat has so many taken slots less
pub taken-without_here : (seat : ℕ) (table : List (Option Bio)) (slots : List ℕ) → seat < 16 → length table ≡ 512 → All (IsSlotOf seat) slots → Distinct slots → AreTaken table slots
    → taken (seat_slots seat (without_bios table slots)) + length slots ≡ taken (seat_slots seat table)
taken-without_here seat table [] within long of few h = omega arith
taken-without_here seat table (s ∷ slots) within long of few h =
    let rest = taken-without_here seat (set table s None) slots within (length-set table s None ∙ long) (All-tail (IsSlotOf seat) s slots of) (Distinct-tail s slots few) (others_taken table s slots few h) in
    let total : taken (seat_slots seat (set table s None)) + one (at table s) ≡ taken (seat_slots seat table) + 0 = taken_in seat s table None within long (All-head (IsSlotOf seat) s slots of) in
    let was : one (at table s) ≡ 1 = head_taken table s slots h in
    omega (arith, rest, total, was)

-- and another seat has as many as before
pub taken-without_other : (seat k : ℕ) (table : List (Option Bio)) (slots : List ℕ) → (k ≡ seat → ⊥) → All (IsSlotOf seat) slots
    → taken (seat_slots k (without_bios table slots)) ≡ taken (seat_slots k table)
taken-without_other seat k table [] other of = refl
taken-without_other seat k table (s ∷ slots) other of =
    taken-without_other seat k (set table s None) slots other (All-tail (IsSlotOf seat) s slots of) ∙ taken_out seat k s table None other (All-head (IsSlotOf seat) s slots of)

-- lists of bios whose slots were not emptied
pub bios_at-without : (table : List (Option Bio)) (slots others : List ℕ) → All (λ q. Apart q slots) others → bios_at (without_bios table slots) others ≡ bios_at table others
bios_at-without table slots others apart =
    filter_map_same (at (without_bios table slots)) (at table) others (λ k d lt. without_bios_apart table slots (get_or others k d) (apart k d lt))
