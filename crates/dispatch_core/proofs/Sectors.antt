-- The sectors of a request, by its slots and by its bios.
use Rattle.std.proofs.Common.{◌≡◌, ℕ, ◌+◌, ◌*◌, ◌≤◌, List, [], ◌∷◌, length, map, min, Option, Some, None, refl, sym, ap, ◌∙◌, arith}
use Rattle.std.proofs.lemmas.List.Sums.{sum_by-cons}
use Rattle.dispatch_core.proofs.Words.{Bio, Request, Tables, bios_at, Limits, size_of, range_of, at, one, WellFormed, count_at, first_start, total_count, HasFewSectors, count_of_bio, start_of_bio}
use Rattle.std.specs.List.{cons_option}
use Rattle.std.proofs.lemmas.List.Elements.{All-head, All-tail}
use Rattle.dispatch_core.proofs.Written.{AreTaken, some_of}

few_at : (o : Option Bio) → ((b : Bio) → o ≡ Some b → b.range.count ≤ 64) → count_of_bio o ≤ 64
few_at None h = omega arith
few_at (Some b) h = h b refl

-- a machine's bios have at most 64 sectors
pub few_sectors_of : (l : Limits) (n : ℕ) (t : Tables) → WellFormed l n t → HasFewSectors t.bios
few_sectors_of l n t w slot = few_at (at t.bios slot) (λ b e. (w.kept.bio slot b e).few_sectors)

total-le : (bios : List (Option Bio)) (slots : List ℕ) → HasFewSectors bios → total_count bios slots ≤ length slots * 64
total-le bios [] h = omega arith
total-le bios (slot ∷ slots) h = let r = total-le bios slots h in omega (arith, sum_by-cons (count_at bios) slot slots, h slot)

pub total_small : (bios : List (Option Bio)) (slots : List ℕ) → HasFewSectors bios → length slots ≤ 32 → total_count bios slots ≤ 2048
total_small bios slots h few = omega (arith, total-le bios slots h)

pub capped : (bios : List (Option Bio)) (slots : List ℕ) (count : ℕ) → HasFewSectors bios → length slots ≤ 32 → count ≡ min (total_count bios slots) 4294967295 → count ≡ total_count bios slots
capped bios slots count h few e = omega (arith, total-le bios slots h)

pub size-cons : (bio : Bio) (bios : List Bio) → size_of (bio ∷ bios) ≡ bio.range.count + size_of bios
size-cons bio bios = sum_by-cons (λ n. n) bio.range.count (map (λ b. b.range.count) bios)

-- the bios of taken slots have the sectors of their slots
pub size_is : (bios : List (Option Bio)) (slots : List ℕ) → AreTaken bios slots → size_of (bios_at bios slots) ≡ total_count bios slots
size_is bios [] h = refl
size_is bios (slot ∷ slots) h =
    let found = some_of (at bios slot) (All-head (λ q. one (at bios q) ≡ 1) slot slots h) in
    let here : at bios slot ≡ Some found.0 = found.1 in
    let rest = size_is bios slots (All-tail (λ q. one (at bios q) ≡ 1) slot slots h) in
    let list : bios_at bios (slot ∷ slots) ≡ found.0 ∷ bios_at bios slots = ap (λ o. cons_option o (bios_at bios slots)) here in
    ap size_of list ∙ size-cons found.0 (bios_at bios slots) ∙ ap (λ n. found.0.range.count + n) rest
    ∙ ap (λ o. count_of_bio o + total_count bios slots) (sym here) ∙ sym (sum_by-cons (count_at bios) slot slots)

pub range_is : (bios : List (Option Bio)) (slots : List ℕ) → AreTaken bios slots → range_of (bios_at bios slots) ≡ record { start = first_start bios slots; count = total_count bios slots }
range_is bios [] h = refl
range_is bios (slot ∷ slots) h =
    let found = some_of (at bios slot) (All-head (λ q. one (at bios q) ≡ 1) slot slots h) in
    let here : at bios slot ≡ Some found.0 = found.1 in
    let list : bios_at bios (slot ∷ slots) ≡ found.0 ∷ bios_at bios slots = ap (λ o. cons_option o (bios_at bios slots)) here in
    let size : size_of (found.0 ∷ bios_at bios slots) ≡ total_count bios (slot ∷ slots) = ap size_of (sym list) ∙ size_is bios (slot ∷ slots) h in
    ap range_of list ∙ (λ i. record { start = start_of_bio (sym here i); count = size i })

-- the slots of a request's bios are taken
pub request_taken : (l : Limits) (n : ℕ) (t : Tables) (slot : ℕ) (r : Request) → WellFormed l n t → at t.requests slot ≡ Some r → AreTaken t.bios r.bios.items
request_taken l n t slot r w here k d lt = ap one (((w.kept.request slot r here).bios k d lt).here)
