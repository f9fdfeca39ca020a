use Rattle.std.proofs.Common.{◌≡◌, ℕ, ◌+◌, ◌*◌, ◌/◌, ◌%◌, ◌<◌, List, Option, None, IsSome, slice_index_or, drop, inl, inr, ap, ◌∙◌, sym, subst, arith}
use Rattle.std.proofs.lemmas.Bool.{cases_lt}
use Rattle.std.proofs.lemmas.List.{get_or-take, get_or-drop, length-take}
use Rattle.sector_core.specs.declared.bio.BioFields.{BioFields as Bio}
use Rattle.request_pool.specs.Slots.{AreTaken, AreTakenOfSeats, seat_slots}
use Rattle.request_pool.proofs.RequestPool.free_bio.Goals as goal

-- where the slots below a seat's bound are taken, and those from it on too, all of the seat are
all_of_seat : (bios : List (Option Bio)) (bounds : List ℕ) (seat : ℕ) → AreTakenOfSeats bios bounds
    → AreTaken bios (32 * seat + slice_index_or bounds seat 0) (32 * seat + 32)
    → (k : ℕ) → k < 32 → IsSome (slice_index_or (seat_slots seat bios) k None)
all_of_seat bios bounds seat below from k within =
    let slot : ℕ = 32 * seat + k in
    let place : slot % 32 ≡ k = omega (arith, within) in
    let number : slot / 32 ≡ seat = omega (arith, within) in
    let here = get_or-take 32 (drop (32 * seat) bios) k None within ∙ get_or-drop (32 * seat) bios k None in
    subst (λ (bio : Option Bio). IsSome bio) (sym here) (elim (cases_lt k (slice_index_or bounds seat 0)) [
      | inl less ↦ below slot (subst (λ j. j < slice_index_or bounds (slot / 32) 0) (sym place) (subst (λ j. k < slice_index_or bounds j 0) (sym number) less))
      | inr more ↦ from slot (omega (arith, more)) (omega (arith, within))
    ])

pub returns-in-None-clause-slot : goal.returns-in-None-clause-slot
returns-in-None-clause-slot c k within =
    let start : ℕ = c.from-start.result * 32 in
    let bios : List (Option Bio) = c.self.inside.bios.items in
    let bounds : List ℕ = c.self.inside.bio_bounds in
    let at : start ≡ 32 * c.args.seat = omega (arith, c.from-start.ensures) in
    let index : c.from.result ≡ c.args.seat = c.from.ensures in
    let bound : c.from-2.result ≡ slice_index_or bounds c.args.seat 0 = c.from-2.ensures ∙ ap (λ n. slice_index_or bounds n 0) index in
    let few : k < 32 = omega (arith, within, length-take 32 (drop (32 * c.args.seat) c.args.self.now.bios)) in
    let from : AreTaken bios (32 * c.args.seat + slice_index_or bounds c.args.seat 0) (32 * c.args.seat + 32) = λ slot low below.
    subst (λ (all : List (Option Bio)). IsSome (slice_index_or all slot None)) c.as_slice.ensures.value
    (c.in-None.ensures.taken slot (omega (arith, at, bound, low)) (omega (arith, at, below))) in
    subst (λ (all : List (Option Bio)). IsSome (slice_index_or (seat_slots c.args.seat all) k None)) (ap (λ p. p.bios) c.self.view_is)
    (all_of_seat bios bounds c.args.seat c.self.invariant.bios_taken from k few)
