-- How many slots of a seat are taken.
use Rattle.std.proofs.Common.{◌≡◌, ◌⊎◌, inl, inr, ℕ, zero, suc, ◌+◌, ◌*◌, ◌-◌, ◌<◌, ◌≤◌, List, [], ◌∷◌, cond, Option, Some, None, length, set, take, drop, refl, sym, ap, ◌∙◌, subst, arith, length-drop, length-take-le}
use Rattle.std.specs.Option.{option_map_or}
use Rattle.std.proofs.lemmas.Bool.{cases_lt}
use Rattle.std.proofs.lemmas.List.{drop-set-add, drop-set-lt, take-set-le, get_or-take, get_or-drop}
use Rattle.std.proofs.lemmas.List.Sums.{sum_by-set, sum_by-cons}
use Rattle.dispatch_core.proofs.Words.{Bio, Seat, at, one, IsSlotOf}
use Rattle.sector_core.specs.Table.{AllTaken}
use Rattle.request_pool.specs.Slots.{seat_slots}
use Rattle.dispatch_core.specs.WellFormed.{taken}
use Rattle.dispatch_core.proofs.Times.{set_cases}

-- the first places of a table after one of them was written
take-set_in : {A : Type 0} (n i : ℕ) (xs : List A) (v : A) → take n (set xs i v) ≡ set (take n xs) i v
take-set_in zero i xs v = refl
take-set_in (suc n) i [] v = refl
take-set_in (suc n) zero (x ∷ xs) v = refl
take-set_in (suc n) (suc i) (x ∷ xs) v = ap (λ l. x ∷ l) (take-set_in n i xs v)

-- a part of a table, after another value was put at a place of it
taken_part_in : {A : Type 0} (lo n i : ℕ) (xs : List (Option A)) (v : Option A) → i < n → lo + n ≤ length xs
    → taken (take n (drop lo (set xs (lo + i) v))) + one (at xs (lo + i)) ≡ taken (take n (drop lo xs)) + one v
taken_part_in lo n i xs v h within =
    let long : length (take n (drop lo xs)) ≡ n = length-take-le n (drop lo xs) (omega (arith, length-drop lo xs)) in
    let now : taken (take n (drop lo (set xs (lo + i) v))) ≡ taken (set (take n (drop lo xs)) i v) =
    ap (λ l. taken (take n l)) (drop-set-add lo xs i v) ∙ ap taken (take-set_in n i (drop lo xs) v) in
    let was : one (at (take n (drop lo xs)) i) ≡ one (at xs (lo + i)) = ap one (get_or-take n (drop lo xs) i None h ∙ get_or-drop lo xs i None) in
    let sums : taken (set (take n (drop lo xs)) i v) + one (at (take n (drop lo xs)) i) ≡ taken (take n (drop lo xs)) + one v =
    sum_by-set (λ o. one o) (take n (drop lo xs)) i v None (omega arith) in
    ap (λ a. a + one (at xs (lo + i))) now ∙ ap (λ a. taken (set (take n (drop lo xs)) i v) + a) (sym was) ∙ sums

-- and at a place outside it
taken_part_out : {A : Type 0} (lo n p : ℕ) (xs : List (Option A)) (v : Option A) → (p < lo) ⊎ (lo + n ≤ p)
    → taken (take n (drop lo (set xs p v))) ≡ taken (take n (drop lo xs))
taken_part_out lo n p xs v h = elim h [
  | inl below ↦ ap (λ l. taken (take n l)) (drop-set-lt lo xs p v below)
  | inr above ↦
      let e : p ≡ lo + (p - lo) = omega arith in
      ap (λ q. taken (take n (drop lo (set xs q v)))) e ∙ ap (λ l. taken (take n l)) (drop-set-add lo xs (p - lo) v)
      ∙ ap taken (take-set-le n (drop lo xs) (p - lo) v (omega arith))
]

-- so for a seat, at a slot of its own
pub taken_in : (seat place : ℕ) (bios : List (Option Bio)) (v : Option Bio) → seat < 16 → length bios ≡ 512 → IsSlotOf seat place
    → taken (seat_slots seat (set bios place v)) + one (at bios place) ≡ taken (seat_slots seat bios) + one v
taken_in seat place bios v within long of =
    let e : place ≡ 32 * seat + (place - 32 * seat) = omega (arith, of.least) in
    let part = taken_part_in (32 * seat) 32 (place - 32 * seat) bios v (omega (arith, of.least, of.most)) (omega arith) in
    subst (λ p. taken (seat_slots seat (set bios p v)) + one (at bios p) ≡ taken (seat_slots seat bios) + one v) (sym e) part

-- and at another seat's slot
pub taken_out : (seat k place : ℕ) (bios : List (Option Bio)) (v : Option Bio) → (k ≡ seat → ⊥) → IsSlotOf seat place
    → taken (seat_slots k (set bios place v)) ≡ taken (seat_slots k bios)
taken_out seat k place bios v apart of = taken_part_out (32 * k) 32 place bios v (elim (cases_lt place (32 * k)) [
  | inl below ↦ inl below
  | inr above ↦ inr (elim (cases_lt place (32 * k + 32)) [ inl here ↦ absurd (apart (omega (arith, of.least, of.most))) | inr past ↦ past ])
])

-- a table with every place taken
taken_all : {A : Type 0} (xs : List (Option A)) → AllTaken xs → taken xs ≡ length xs
taken_all [] h = refl
taken_all (x ∷ xs) h =
    let rest = taken_all xs (λ k lt. h (suc k) (omega arith)) in
    let here : one x ≡ 1 = ap (λ b. cond b 1 0) (h zero (omega arith)) in
    omega (arith, sum_by-cons (λ o. one o) x xs)

-- a seat with no free slot has 32 taken
pub all_taken : (seat : ℕ) (bios : List (Option Bio)) → seat < 16 → length bios ≡ 512 → AllTaken (seat_slots seat bios) → taken (seat_slots seat bios) ≡ 32
all_taken seat bios within long all =
    taken_all (seat_slots seat bios) all ∙ length-take-le 32 (drop (32 * seat) bios) (omega (arith, length-drop (32 * seat) bios))

-- a taken slot is counted
pub one_taken : (seat place : ℕ) (bios : List (Option Bio)) (bio : Bio) → seat < 16 → length bios ≡ 512 → IsSlotOf seat place → at bios place ≡ Some bio
    → 1 ≤ taken (seat_slots seat bios)
one_taken seat place bios bio within long of here =
    let gone = taken_in seat place bios None within long of in
    let was : one (at bios place) ≡ 1 = ap one here in
    omega arith

-- each seat counts its slots, after a bio was put into one or taken out, and its entry with it
pub counted_set : (seats : List (Option Seat)) (bios : List (Option Bio)) (seat place : ℕ) (v : Seat) (b : Option Bio)
    → seat < 16 → length seats ≡ 16 → length bios ≡ 512 → IsSlotOf seat place
    → v.unreaped + one (at bios place) ≡ option_map_or (λ s. s.unreaped) (at seats seat) 0 + one b
    → ((k : ℕ) → k < 16 → option_map_or (λ s. s.unreaped) (at seats k) 0 ≡ taken (seat_slots k bios))
    → (k : ℕ) → k < 16 → option_map_or (λ s. s.unreaped) (at (set seats seat (Some v)) k) 0 ≡ taken (seat_slots k (set bios place b))
counted_set seats bios seat place v b within seats_long long of change counted k h = elim (set_cases seats seat k (Some v) (omega arith)) [
  | inl here ↦
      let total = taken_in seat place bios b within long of in
      let before = counted seat within in
      let now : v.unreaped ≡ taken (seat_slots seat (set bios place b)) = omega arith in
      ap (λ o. option_map_or (λ s. s.unreaped) o 0) here.1 ∙ now ∙ ap (λ j. taken (seat_slots j (set bios place b))) (sym here.0)
  | inr other ↦ ap (λ o. option_map_or (λ s. s.unreaped) o 0) other.1 ∙ counted k h ∙ sym (taken_out seat k place bios b other.0 of)
]
