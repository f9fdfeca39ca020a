-- The request at a place of a queue is that of the slot at the place.
use Rattle.std.specs.Prelude.{slice_get}
use Rattle.std.proofs.Common.{◌≡◌, ℕ, zero, suc, ◌+◌, ◌<◌, ◌≤◌, ◌^◌, List, [], ◌∷◌, map, length, drop, get_or, Option, Some, None, IsSome, refl, sym, ap, ◌∙◌, arith}
use Rattle.std.specs.List.{filter_map, cons_option, AllByRecursion}
use Rattle.std.specs.Option.{option_map, option_and_then}
use Rattle.std.proofs.lemmas.List.{drop_more}
use Rattle.dispatch_core.proofs.Words.{Bio, bios_at, Link, nth_slot, placed, Tables, WholeRequest, meaning, whole_at, Limits, size_of, at, Placed, WellFormed, count_of_bio, count_at}
use Rattle.dispatch_core.proofs.Sectors.{size-cons}
use Rattle.dispatch_core.proofs.QueueFacts.{linked_some, whole_with}
use Rattle.dispatch_core.proofs.QueueLists.{each_queued, queue_length}
use Rattle.dispatch_core.proofs.Places.{length-placed}

-- where each entry has a value, the value at a place is that of the entry at the place
slice_get-filter_map : (f : ℕ → Option WholeRequest) (xs : List (ℕ × ℕ)) (k : ℕ) → AllByRecursion (λ e. IsSome (f e.1)) xs
    → slice_get (filter_map f (map (λ e. e.1) xs)) k ≡ option_and_then f (slice_get (map (λ e. e.1) xs) k)
slice_get-filter_map f [] k ps = refl
slice_get-filter_map f (x ∷ xs) zero ps =
    elim (f x.1) as (λ o. IsSome o → slice_get (cons_option o (filter_map f (map (λ e. e.1) xs))) 0 ≡ o) [
      | None ↦ λ h. cc
      | Some v ↦ λ h. refl
    ] ps.0
slice_get-filter_map f (x ∷ xs) (suc k) ps =
    let ih : slice_get (filter_map f (map (λ e. e.1) xs)) k ≡ option_and_then f (slice_get (map (λ e. e.1) xs) k) = slice_get-filter_map f xs k ps.1 in
    elim (f x.1) as (λ o. IsSome o → slice_get (cons_option o (filter_map f (map (λ e. e.1) xs))) (suc k) ≡ option_and_then f (slice_get (map (λ e. e.1) xs) k)) [
      | None ↦ λ h. cc
      | Some v ↦ λ h. ih
    ] ps.0

-- the request at a place of a seat's queue
pub queued_at : (l : Limits) (n : ℕ) (t : Tables) (seat place : ℕ) (found : Option ℕ) → WellFormed l n t → found ≡ nth_slot seat t.links place
    → option_and_then (whole_at t.requests t.bios) found ≡ slice_get ((meaning t).queue seat) place
queued_at l n t seat place found w is =
    ap (option_and_then (whole_at t.requests t.bios)) is
    ∙ sym (slice_get-filter_map (whole_at t.requests t.bios) (placed seat 0 t.links) place
    (each_queued (λ e. IsSome (whole_at t.requests t.bios e.1)) seat t.links (λ k link g _. linked_some n t w.placed k link g)))

-- what is in the dispatch list is a request
requeued_some : (n : ℕ) (t : Tables) → Placed n t → (slot : ℕ) (link : Link) → at t.requeued slot ≡ Some link → IsSome (whole_at t.requests t.bios slot)
requeued_some n t p slot link e =
    elim (at t.requests slot) as (λ o. IsSome o → IsSome (option_map (whole_with t.bios) o)) [
      | None ↦ λ h. h
      | Some r ↦ λ h. refl
    ] (p.requeued slot link e).here

-- the request at a place of the dispatch list
pub requeued_at : (l : Limits) (n : ℕ) (t : Tables) (place : ℕ) (found : Option ℕ) → WellFormed l n t → found ≡ nth_slot 0 t.requeued place
    → option_and_then (whole_at t.requests t.bios) found ≡ slice_get (meaning t).requeued place
requeued_at l n t place found w is =
    ap (option_and_then (whole_at t.requests t.bios)) is
    ∙ sym (slice_get-filter_map (whole_at t.requests t.bios) (placed 0 0 t.requeued) place
    (each_queued (λ e. IsSome (whole_at t.requests t.bios e.1)) 0 t.requeued (λ k link g _. requeued_some n t w.placed k link g)))

-- what the slot at a place has, if something stands there, and what those after it have
pub size_more : (bios : List (Option Bio)) (slots : List ℕ) (i : ℕ) → i < length slots
    → count_at bios (get_or slots i 0) + size_of (bios_at bios (drop (i + 1) slots)) ≡ size_of (bios_at bios (drop i slots))
size_more bios slots i lt =
    let rest : List Bio = bios_at bios (drop (i + 1) slots) in
    let here : count_at bios (get_or slots i 0) + size_of rest ≡ size_of (cons_option (at bios (get_or slots i 0)) rest) =
    elim (at bios (get_or slots i 0)) as (λ o. count_of_bio o + size_of rest ≡ size_of (cons_option o rest)) [
      | None ↦ omega arith
      | Some bio ↦ sym (size-cons bio rest)
    ] in
    here ∙ sym (ap (λ l. size_of (bios_at bios l)) (drop_more slots i 0 lt))

-- the dispatch list has no more requests than there are slots
pub short_requeued : (l : Limits) (n : ℕ) (t : Tables) → WellFormed l n t → length (meaning t).requeued < 2 ^ 16
short_requeued l n t w =
    omega (arith, w.sized.few_requests, queue_length (whole_at t.requests t.bios) 0 t.requeued (requeued_some n t w.placed), length-placed 0 0 t.requeued, w.sized.requeued)

-- some slots have no more bios than they are
pub few_bios : (bios : List (Option Bio)) (slots : List ℕ) → length (bios_at bios slots) ≤ length slots
few_bios bios [] = omega arith
few_bios bios (slot ∷ slots) =
    let ih = few_bios bios slots in
    elim (at bios slot) as (λ o. length (cons_option o (bios_at bios slots)) ≤ suc (length slots)) [
      | None ↦ omega arith
      | Some bio ↦ omega arith
    ]
