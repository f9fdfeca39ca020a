-- What stands at a place of a queue, read off the tables.
use Rattle.std.specs.Prelude.{slice_get}
use Rattle.std.proofs.Common.{◌≡◌, ℕ, zero, suc, ◌+◌, ◌<◌, ◌≤◌, ◌^◌, List, [], ◌∷◌, length, map, Option, Some, None, true, false, cond, IsSome, ◌==◌, nat_lt, refl, sym, ap, ◌∙◌, arith}
use Rattle.std.specs.List.{filter_map, cons_option, AllByRecursion}
use Rattle.std.specs.Option.{option_map}
use Rattle.dispatch_core.proofs.Words.{Range, Request, Link, insert_in, nth_slot, placed, Tables, bios_at, WholeRequest, meaning, whole_at, Seat, Limits, range_of, at, WellFormed, first_start, total_count}
use Rattle.plain.specs.Looks.{view_in, view_at, request_view}
use Rattle.plain.specs.declared.view.RequestView.{RequestView}
use Rattle.plain.specs.declared.view.RequestView.TheVariants.{Past, Queued}
use Rattle.dispatch_core.proofs.QueueFacts.{linked_some, whole_with}
use Rattle.dispatch_core.proofs.QueueLists.{each_queued, queue_length}
use Rattle.dispatch_core.proofs.Sectors.{range_is, request_taken}
use Rattle.dispatch_core.proofs.Written.{length-bios_at}

-- a request as a look shows it, or that there is none
abbrev shown : Option WholeRequest → RequestView
shown None = Past
shown (Some request) = Queued (range_of request.bios) (length request.bios)

-- what the entry at a place is shown as, where each entry has a request
abbrev shown_at : (ℕ → Option WholeRequest) → Option ℕ → RequestView
shown_at f None = Past
shown_at f (Some slot) = shown (f slot)

-- the request at a place of a queue is that of the slot at the place
view_in-filter_map : (f : ℕ → Option WholeRequest) (xs : List (ℕ × ℕ)) (k : ℕ) → AllByRecursion (λ e. IsSome (f e.1)) xs
    → view_in (filter_map f (map (λ e. e.1) xs)) k ≡ shown_at f (slice_get (map (λ e. e.1) xs) k)
view_in-filter_map f [] k ps = refl
view_in-filter_map f (x ∷ xs) zero ps =
    elim (f x.1) as (λ o. IsSome o → view_in (cons_option o (filter_map f (map (λ e. e.1) xs))) 0 ≡ shown o) [
      | None ↦ λ h. cc
      | Some v ↦ λ h. refl
    ] ps.0
view_in-filter_map f (x ∷ xs) (suc k) ps =
    let ih : view_in (filter_map f (map (λ e. e.1) xs)) k ≡ shown_at f (slice_get (map (λ e. e.1) xs) k) = view_in-filter_map f xs k ps.1 in
    elim (f x.1) as (λ o. IsSome o → view_in (cons_option o (filter_map f (map (λ e. e.1) xs))) (suc k) ≡ shown_at f (slice_get (map (λ e. e.1) xs) k)) [
      | None ↦ λ h. cc
      | Some v ↦ λ h. ih
    ] ps.0

-- the request at a place of a seat's queue is that of the slot at the place
view_in-queue : (l : Limits) (n : ℕ) (t : Tables) (seat place : ℕ) → WellFormed l n t
    → view_in ((meaning t).queue seat) place ≡ shown_at (whole_at t.requests t.bios) (nth_slot seat t.links place)
view_in-queue l n t seat place w =
    view_in-filter_map (whole_at t.requests t.bios) (placed seat 0 t.links) place
    (each_queued (λ e. IsSome (whole_at t.requests t.bios e.1)) seat t.links (λ k link g _. linked_some n t w.placed k link g))

-- a look at a taken seat is one at its queue
request_view-taken : (l : Limits) (n : ℕ) (t : Tables) (seat place : ℕ) (s : Seat) (o : Option ℕ) → WellFormed l n t → at t.seats seat ≡ Some s → o ≡ nth_slot seat t.links place
    → shown_at (whole_at t.requests t.bios) o ≡ request_view (meaning t) seat place
request_view-taken l n t seat place s o w sits found =
    ap (shown_at (whole_at t.requests t.bios)) found ∙ sym (view_in-queue l n t seat place w)
    ∙ sym (ap (λ m. view_at m ((meaning t).queue seat) place) sits)

-- a look past the end of a queue
pub request_view-past : (l : Limits) (n : ℕ) (t : Tables) (seat place : ℕ) (s : Seat) → WellFormed l n t → at t.seats seat ≡ Some s → None ≡ nth_slot seat t.links place
    → Past ≡ request_view (meaning t) seat place
request_view-past l n t seat place s w sits none = request_view-taken l n t seat place s None w sits none

-- a look at a slot with no request
pub request_view-none : (l : Limits) (n : ℕ) (t : Tables) (seat place : ℕ) (s : Seat) (slot : ℕ) → WellFormed l n t → at t.seats seat ≡ Some s
    → Some slot ≡ nth_slot seat t.links place → at t.requests slot ≡ None → Past ≡ request_view (meaning t) seat place
request_view-none l n t seat place s slot w sits found none =
    sym (ap (λ o. shown (option_map (whole_with t.bios) o)) none) ∙ request_view-taken l n t seat place s (Some slot) w sits found

-- a look at a queued request
pub request_view-queued : (l : Limits) (n : ℕ) (t : Tables) (seat place : ℕ) (s : Seat) (slot : ℕ) (r : Request) (range : Range) → WellFormed l n t → at t.seats seat ≡ Some s
    → Some slot ≡ nth_slot seat t.links place → at t.requests slot ≡ Some r → range.start ≡ first_start t.bios r.bios.items → range.count ≡ total_count t.bios r.bios.items
    → Queued range (length r.bios.items) ≡ request_view (meaning t) seat place
request_view-queued l n t seat place s slot r range w sits found here start count =
    let read : range ≡ record { start = first_start t.bios r.bios.items; count = total_count t.bios r.bios.items } = (λ i. record { start = start i; count = count i }) in
    let taken = request_taken l n t slot r w here in
    let whole_range : range ≡ range_of (bios_at t.bios r.bios.items) = read ∙ sym (range_is t.bios r.bios.items taken) in
    let size : length r.bios.items ≡ length (bios_at t.bios r.bios.items) = sym (length-bios_at t.bios r.bios.items taken) in
    (λ i. Queued (whole_range i) (size i))
    ∙ sym (ap (λ o. shown (option_map (whole_with t.bios) o)) here) ∙ request_view-taken l n t seat place s (Some slot) w sits found

-- one entry is put in
length-insert_in : (e : ℕ × ℕ) (xs : List (ℕ × ℕ)) → length (insert_in e xs) ≡ length xs + 1
length-insert_in e [] = refl
length-insert_in e (x ∷ xs) =
    let ih = length-insert_in e xs in
    elim (nat_lt x.0 e.0) as (λ b. length (cond b (x ∷ insert_in e xs) (e ∷ x ∷ xs)) ≡ length (x ∷ xs) + 1) [
      | true ↦ omega arith
      | false ↦ omega arith
    ]

-- a queue has no more entries than there are links
pub length-placed : (seat base : ℕ) (links : List (Option Link)) → length (placed seat base links) ≤ length links
length-placed seat base [] = omega arith
length-placed seat base (None ∷ links) = let ih = length-placed seat (base + 1) links in omega arith
length-placed seat base (Some l ∷ links) =
    let ih = length-placed seat (base + 1) links in
    let put = length-insert_in (l.serial, base) (placed seat (base + 1) links) in
    elim (l.seat == seat) as (λ b. length (cond b (insert_in (l.serial, base) (placed seat (base + 1) links)) (placed seat (base + 1) links)) ≤ suc (length links)) [
      | true ↦ omega arith
      | false ↦ omega arith
    ]

-- a queue has no more requests than there are slots
pub short_queue : (l : Limits) (n : ℕ) (t : Tables) (seat : ℕ) → WellFormed l n t → length ((meaning t).queue seat) < 2 ^ 16
short_queue l n t seat w =
    omega (arith, w.sized.few_requests, queue_length (whole_at t.requests t.bios) seat t.links (linked_some n t w.placed), length-placed seat 0 t.links, w.sized.links)
