-- What a table has after bios were written into some of its slots.
use Rattle.std.proofs.Common.{◌≡◌, inl, inr, ℕ, ◌+◌, ◌<◌, ◌≤◌, List, [], ◌∷◌, Option, Some, None, length, get_or, set, refl, sym, ap, ◌∙◌, subst, arith, length-set}
use Rattle.std.specs.Prelude.{All, IsSome}
use Rattle.std.proofs.lemmas.Bool.{cases_eq}
use Rattle.std.proofs.lemmas.List.{get_or-set_same, get_or-set_other}
use Rattle.std.proofs.lemmas.List.Elements.{All-nil, All-cons, All-head, All-tail}
use Rattle.dispatch_core.proofs.Words.{Bio, Effect, Blocks, bios_at, Limits, completed, result_of, rest_of_effect, at, one, IsSlotOf, IsBio, IsCompleted, with_bios}
use Rattle.request_pool.specs.Slots.{seat_slots}
use Rattle.dispatch_core.specs.WellFormed.{taken}
use Rattle.dispatch_core.proofs.Times.{Apart, set_cases, at_within}
use Rattle.dispatch_core.proofs.SlotCounts.{taken_in, taken_out}
use Rattle.dispatch_core.proofs.Room.{Distinct, Distinct-head, Distinct-tail}

-- one is the most
pub one-le : {A : Type 0} (o : Option A) → one o ≤ 1
one-le None = omega arith
one-le (Some a) = omega arith

-- where one is counted there is something
pub some_of : {A : Type 0} (o : Option A) → one o ≡ 1 → (a : A) × (o ≡ Some a)
some_of None e = absurd (omega arith)
some_of (Some a) e = (a, refl)

-- every slot of a list is taken
abbrev pub AreTaken : List (Option Bio) → List ℕ → Type 0
AreTaken table slots = All (λ s. one (at table s) ≡ 1) slots

-- a taken place is within its table
pub taken_within : {A : Type 0} (xs : List (Option A)) (k : ℕ) → one (at xs k) ≡ 1 → k < length xs
taken_within xs k e = let found = some_of (at xs k) e in at_within xs k found.0 found.1

-- they are taken still after one of them was written
taken_still : (table : List (Option Bio)) (s : ℕ) (b : Bio) (slots : List ℕ) → s < length table → AreTaken table slots → AreTaken (set table s (Some b)) slots
taken_still table s b slots within h k d lt = elim (set_cases table s (get_or slots k d) (Some b) within) [
  | inl here ↦ ap one here.1
  | inr other ↦ ap one other.1 ∙ h k d lt
]

-- the first slot is taken
pub head_taken : (table : List (Option Bio)) (s : ℕ) (slots : List ℕ) → AreTaken table (s ∷ slots) → one (at table s) ≡ 1
head_taken table s slots h = All-head (λ q. one (at table q) ≡ 1) s slots h

-- and the others are, after the first was written
tail_taken : (table : List (Option Bio)) (s : ℕ) (b : Bio) (slots : List ℕ) → AreTaken table (s ∷ slots) → AreTaken (set table s (Some b)) slots
tail_taken table s b slots h = taken_still table s b slots (taken_within table s (head_taken table s slots h)) (All-tail (λ q. one (at table q) ≡ 1) s slots h)

-- a list has as many bios as slots where all are taken
pub length-bios_at : (table : List (Option Bio)) (slots : List ℕ) → AreTaken table slots → length (bios_at table slots) ≡ length slots
length-bios_at table [] h = refl
length-bios_at table (s ∷ slots) h =
    let found = some_of (at table s) (head_taken table s slots h) in
    let here : at table s ≡ Some found.0 = found.1 in
    let rest = length-bios_at table slots (All-tail (λ q. one (at table q) ≡ 1) s slots h) in
    rw here (omega arith)

-- and what is true of each bio of the table is true of those
pub All-bios_at : (P : Bio → Type 0) (table : List (Option Bio)) (slots : List ℕ) → AreTaken table slots → ((q : ℕ) (b : Bio) → at table q ≡ Some b → P b) → All P (bios_at table slots)
All-bios_at P table [] h each = All-nil P
All-bios_at P table (s ∷ slots) h each =
    let found = some_of (at table s) (head_taken table s slots h) in
    let here : at table s ≡ Some found.0 = found.1 in
    rw here (All-cons P found.0 (bios_at table slots) (each s found.0 here) (All-bios_at P table slots (All-tail (λ q. one (at table q) ≡ 1) s slots h) each))

-- a slot that is not written keeps what it has
pub with_bios_apart : (table : List (Option Bio)) (slots : List ℕ) (bios : List Bio) (q : ℕ) → Apart q slots → at (with_bios table slots bios) q ≡ at table q
with_bios_apart table [] bios q h = refl
with_bios_apart table (s ∷ slots) [] q h = refl
with_bios_apart table (s ∷ slots) (b ∷ bios) q h =
    with_bios_apart (set table s (Some b)) slots bios q (All-tail (λ x. x ≡ q → ⊥) s slots h)
    ∙ get_or-set_other table s q (Some b) None (λ e. All-head (λ x. x ≡ q → ⊥) s slots h (sym e))

-- the bios that are written stand in their slots
pub bios_at-with_bios : (table : List (Option Bio)) (slots : List ℕ) (bios : List Bio) → Distinct slots → AreTaken table slots → length bios ≡ length slots
    → bios_at (with_bios table slots bios) slots ≡ bios
bios_at-with_bios table [] [] few h e = refl
bios_at-with_bios table [] (b ∷ bios) few h e = absurd (omega arith)
bios_at-with_bios table (s ∷ slots) [] few h e = absurd (omega arith)
bios_at-with_bios table (s ∷ slots) (b ∷ bios) few h e =
    let here : at (with_bios (set table s (Some b)) slots bios) s ≡ Some b =
    with_bios_apart (set table s (Some b)) slots bios s (Distinct-head s slots few)
    ∙ get_or-set_same table s (Some b) None (taken_within table s (head_taken table s slots h)) in
    let rest : bios_at (with_bios (set table s (Some b)) slots bios) slots ≡ bios =
    bios_at-with_bios (set table s (Some b)) slots bios (Distinct-tail s slots few) (tail_taken table s b slots h) (omega arith) in
    rw (here, rest) refl

-- what is true of each bio is true after others were written of which it is true
pub with_bios_each : (P : Bio → Type 0) (table : List (Option Bio)) (slots : List ℕ) (bios : List Bio) → AreTaken table slots → All P bios
    → ((q : ℕ) (b : Bio) → at table q ≡ Some b → P b) → (q : ℕ) (b : Bio) → at (with_bios table slots bios) q ≡ Some b → P b
with_bios_each P table [] bios h all each = each
with_bios_each P table (s ∷ slots) [] h all each = each
with_bios_each P table (s ∷ slots) (b ∷ bios) h all each =
    with_bios_each P (set table s (Some b)) slots bios (tail_taken table s b slots h) (All-tail P b bios all) (λ q c e.
    elim (set_cases table s q (Some b) (taken_within table s (head_taken table s slots h))) [
      | inl here ↦ let both : Some b ≡ Some c = sym here.1 ∙ e in let same : b ≡ c = cc in subst P same (All-head P b bios all)
      | inr other ↦ each q c (sym other.1 ∙ e)
    ])

-- no slot is taken or freed
pub one-with_bios : (table : List (Option Bio)) (slots : List ℕ) (bios : List Bio) (q : ℕ) → AreTaken table slots → one (at (with_bios table slots bios) q) ≡ one (at table q)
one-with_bios table [] bios q h = refl
one-with_bios table (s ∷ slots) [] q h = refl
one-with_bios table (s ∷ slots) (b ∷ bios) q h =
    one-with_bios (set table s (Some b)) slots bios q (tail_taken table s b slots h)
    ∙ elim (set_cases table s q (Some b) (taken_within table s (head_taken table s slots h))) [
      | inl here ↦ ap one here.1 ∙ sym (ap (λ j. one (at table j)) here.0 ∙ head_taken table s slots h)
      | inr other ↦ ap one other.1
    ]

-- so each seat has as many as before
pub taken-with_bios : (seat k : ℕ) (table : List (Option Bio)) (slots : List ℕ) (bios : List Bio) → seat < 16 → length table ≡ 512 → All (IsSlotOf seat) slots → AreTaken table slots
    → taken (seat_slots k (with_bios table slots bios)) ≡ taken (seat_slots k table)
taken-with_bios seat k table [] bios within long of h = refl
taken-with_bios seat k table (s ∷ slots) [] within long of h = refl
taken-with_bios seat k table (s ∷ slots) (b ∷ bios) within long of h =
    let s_of : IsSlotOf seat s = All-head (IsSlotOf seat) s slots of in
    taken-with_bios seat k (set table s (Some b)) slots bios within (length-set table s (Some b) ∙ long) (All-tail (IsSlotOf seat) s slots of) (tail_taken table s b slots h)
    ∙ elim (cases_eq k seat) [
      | inl e ↦
          let total : taken (seat_slots seat (set table s (Some b))) + one (at table s) ≡ taken (seat_slots seat table) + 1 = taken_in seat s table (Some b) within long s_of in
          let was : one (at table s) ≡ 1 = head_taken table s slots h in
          let here : taken (seat_slots seat (set table s (Some b))) ≡ taken (seat_slots seat table) = omega (arith, total, was) in
          subst (λ j. taken (seat_slots j (set table s (Some b))) ≡ taken (seat_slots j table)) (sym e) here
      | inr other ↦ taken_out seat k s table (Some b) other s_of
    ]

-- completed bios that are written stand there completed
pub completed_written : (seat : ℕ) (table : List (Option Bio)) (slots : List ℕ) (bios : List Bio) → Distinct slots → AreTaken table slots → length bios ≡ length slots
    → All (IsSlotOf seat) slots → All (λ b. IsSome b.result) bios → All (IsCompleted (with_bios table slots bios) seat) slots
completed_written seat table [] bios few h e of all = All-nil (IsCompleted table seat)
completed_written seat table (s ∷ slots) [] few h e of all = absurd (omega arith)
completed_written seat table (s ∷ slots) (b ∷ bios) few h e of all =
    let later = with_bios (set table s (Some b)) slots bios in
    let here : at later s ≡ Some b =
    with_bios_apart (set table s (Some b)) slots bios s (Distinct-head s slots few)
    ∙ get_or-set_same table s (Some b) None (taken_within table s (head_taken table s slots h)) in
    let first : IsCompleted later seat s = record { slot_of = All-head (IsSlotOf seat) s slots of; bio = b; here = here; done = All-head (λ (c : Bio). IsSome c.result) b bios all } in
    All-cons (IsCompleted later seat) s slots first
    (completed_written seat (set table s (Some b)) slots bios (Distinct-tail s slots few) (tail_taken table s b slots h) (omega arith)
    (All-tail (IsSlotOf seat) s slots of) (All-tail (λ (c : Bio). IsSome c.result) b bios all))

-- completed bios have a result, and are where they were
pub length-completed : (effect : Effect) (overlay : Blocks) (bios : List Bio) → length (completed effect overlay bios) ≡ length bios
length-completed effect overlay [] = refl
length-completed effect overlay (b ∷ bios) = let rest = length-completed (rest_of_effect b.range.count effect) overlay bios in omega arith

-- each completed bio has a result
pub completed_done : (effect : Effect) (overlay : Blocks) (bios : List Bio) → All (λ b. IsSome b.result) (completed effect overlay bios)
completed_done effect overlay [] = All-nil (λ (b : Bio). IsSome b.result)
completed_done effect overlay (b ∷ bios) =
    All-cons (λ (c : Bio). IsSome c.result) (record b { result = Some (result_of effect overlay b) }) (completed (rest_of_effect b.range.count effect) overlay bios) refl
    (completed_done (rest_of_effect b.range.count effect) overlay bios)

-- and lies within the image as before
pub completed_bios : (l : Limits) (effect : Effect) (overlay : Blocks) (bios : List Bio) → All (IsBio l) bios → All (IsBio l) (completed effect overlay bios)
completed_bios l effect overlay [] all = All-nil (IsBio l)
completed_bios l effect overlay (b ∷ bios) all =
    let here : IsBio l b = All-head (IsBio l) b bios all in
    All-cons (IsBio l) (record b { result = Some (result_of effect overlay b) }) (completed (rest_of_effect b.range.count effect) overlay bios)
    (record { some_sectors = here.some_sectors; few_sectors = here.few_sectors; within = here.within })
    (completed_bios l (rest_of_effect b.range.count effect) overlay bios (All-tail (IsBio l) b bios all))
