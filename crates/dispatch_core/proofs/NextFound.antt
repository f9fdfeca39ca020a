-- Which request of a queue is served next, as the slots say it and as the plain machine says it.
use Rattle.std.proofs.Common.{◌≡◌, ℕ, ◌+◌, List, [], ◌∷◌, map, Option, Some, None, Bool, true, false, ◌==◌, nat_eq, refl, sym, ap, ◌∙◌, arith}
use Rattle.std.specs.List.{filter_map, cons_option, find}
use Rattle.std.specs.Option.{option_map, option_map_or, option_and_then}
use Rattle.std.proofs.lemmas.Bool.Decides.{nat_tests}
use Rattle.std.proofs.lemmas.List.Sums.{sum_by-cons}
use Rattle.dispatch_core.proofs.Words.{Bio, Request, Link, queue_slots, first_in, bios_at, shape_at, shape_of, starts, wanted, has_start, next_of, Tables, WholeRequest, meaning, whole_at, shape, range_of, size_of, at, count_at, count_of_bio, total_count}
use Rattle.plain.specs.declared.shape.Shape.{Shape}
use Rattle.process_queue.specs.Next.{next_slot}
use Rattle.plain.specs.Steps.Dispatch.{next_request}
use Rattle.plain.specs.Steps.Dispatch as plain
use Rattle.dispatch_core.proofs.QueueFacts.{whole_with}
use Rattle.dispatch_core.proofs.Joins.{Reads, find_read, find_true, found_linked}

-- a request starts at its first sector
pub start_is : (bios : List Bio) → option_map_or (λ (bio : Bio). bio.range.start) (first_in bios) 0 ≡ (range_of bios).start
start_is [] = refl
start_is (bio ∷ bios) = refl

-- and has the sectors of its size
pub size_of_range : (bios : List Bio) → (range_of bios).count ≡ size_of bios
size_of_range [] = refl
size_of_range (bio ∷ bios) = refl

-- the bios in some slots have the sectors of the slots
pub size_read : (bios : List (Option Bio)) (slots : List ℕ) → size_of (bios_at bios slots) ≡ total_count bios slots
size_read bios [] = refl
size_read bios (x ∷ xs) =
    let ih = size_read bios xs in
    elim (at bios x) as (λ o. size_of (cons_option o (bios_at bios xs)) ≡ count_of_bio o + total_count bios xs) [
      | None ↦ omega (arith, ih)
      | Some bio ↦ sum_by-cons (λ (n : ℕ). n) bio.range.count (map (λ (b : Bio). b.range.count) (bios_at bios xs)) ∙ ap (λ n. bio.range.count + n) ih
    ] ∙ sym (sum_by-cons (count_at bios) x xs)

module _ (t : Tables) where
  -- what a search asks of the request in a slot
  abbrev shape_in : Option Request → Option Shape
  shape_in o = option_map (λ (r : Request). shape_of r.session r.op (bios_at t.bios r.bios.items)) o

  -- the slots have the starts of their requests
  starts_read : (slots : List ℕ) → starts shape (filter_map (whole_at t.requests t.bios) slots) ≡ starts (shape_at t.requests t.bios) slots
  starts_read [] = refl
  starts_read (x ∷ xs) =
      let ih = starts_read xs in
      elim (at t.requests x) as (λ o. starts shape (cons_option (option_map (whole_with t.bios) o) (filter_map (whole_at t.requests t.bios) xs))
      ≡ cons_option (option_map (λ (s : Shape). s.start) (shape_in o)) (starts (shape_at t.requests t.bios) xs)) [
        | None ↦ ih
        | Some r ↦ ap (λ l. option_map_or (λ (bio : Bio). bio.range.start) (first_in (bios_at t.bios r.bios.items)) 0 ∷ l) ih
      ]

  -- the test of a slot is that of its request
  pub start_reads : (sector : ℕ) → Reads (has_start (shape_at t.requests t.bios) sector) (has_start shape sector) (whole_at t.requests t.bios)
  start_reads sector k = elim (at t.requests k)
      as (λ o. option_map_or (λ start. start == sector) (option_map (λ (s : Shape). s.start) (shape_in o)) false ≡ option_map_or (has_start shape sector) (option_map (whole_with t.bios) o) false) [
        | None ↦ refl
        | Some r ↦ refl
      ]

  -- the next request of a queue is that of its next slot
  next_read : (slots : List ℕ) (head : ℕ) → next_of shape (filter_map (whole_at t.requests t.bios) slots) head
      ≡ option_and_then (whole_at t.requests t.bios) (next_slot t.requests t.bios slots head)
  next_read slots head =
      let queue : List WholeRequest = filter_map (whole_at t.requests t.bios) slots in
      ap (λ s. option_and_then (λ sector. find (has_start shape sector) queue) (wanted head s)) (starts_read slots)
      ∙ elim (wanted head (starts (shape_at t.requests t.bios) slots)) as (λ o. option_and_then (λ sector. find (has_start shape sector) queue) o
      ≡ option_and_then (whole_at t.requests t.bios) (option_and_then (λ sector. find (has_start (shape_at t.requests t.bios) sector) slots) o)) [
        | None ↦ refl
        | Some sector ↦ find_read (has_start (shape_at t.requests t.bios) sector) (has_start shape sector) (whole_at t.requests t.bios) slots (start_reads sector)
      ]

  module _ (seat : ℕ) where
    -- where no slot is next, no request is
    pub next_none : next_slot t.requests t.bios (queue_slots seat t.links) ((meaning t).head seat) ≡ None → next_request (meaning t) seat ≡ None
    next_none none = next_read (queue_slots seat t.links) ((meaning t).head seat) ∙ ap (option_and_then (whole_at t.requests t.bios)) none

    -- nothing has no sectors
    pub no_size : next_request (meaning t) seat ≡ None → plain.next_size (meaning t) seat ≡ 0
    no_size none = ap (λ o. option_map_or (λ (r : WholeRequest). size_of r.bios) o 0) none

    -- nor where the next slot has none
    pub next_empty : (slot : ℕ) → next_slot t.requests t.bios (queue_slots seat t.links) ((meaning t).head seat) ≡ Some slot → at t.requests slot ≡ None → next_request (meaning t) seat ≡ None
    next_empty slot next none =
        next_read (queue_slots seat t.links) ((meaning t).head seat) ∙ ap (option_and_then (whole_at t.requests t.bios)) next
        ∙ ap (option_map (whole_with t.bios)) none

    module _ (slot : ℕ) (request : Request) (next : next_slot t.requests t.bios (queue_slots seat t.links) ((meaning t).head seat) ≡ Some slot) (here : at t.requests slot ≡ Some request) where
      -- the request in the next slot is next
      pub next_some : next_request (meaning t) seat ≡ Some (whole_with t.bios request)
      next_some =
          next_read (queue_slots seat t.links) ((meaning t).head seat) ∙ ap (option_and_then (whole_at t.requests t.bios)) next
          ∙ ap (option_map (whole_with t.bios)) here

      -- its size is that of the next one
      pub next_size_is : plain.next_size (meaning t) seat ≡ size_of (bios_at t.bios request.bios.items)
      next_size_is = ap (λ o. option_map_or (λ (r : WholeRequest). size_of r.bios) o 0) next_some

      -- the slot was found by some start
      found_at : (sector : ℕ) × (find (has_start (shape_at t.requests t.bios) sector) (queue_slots seat t.links) ≡ Some slot)
      found_at = elim (wanted ((meaning t).head seat) (starts (shape_at t.requests t.bios) (queue_slots seat t.links)))
          as (λ o. option_and_then (λ sector. find (has_start (shape_at t.requests t.bios) sector) (queue_slots seat t.links)) o ≡ Some slot
          → (sector : ℕ) × (find (has_start (shape_at t.requests t.bios) sector) (queue_slots seat t.links) ≡ Some slot)) [
            | None ↦ λ e. cc
            | Some sector ↦ λ e. (sector, e)
          ] next

      -- which is that of its request
      pub next_find : find (has_start (shape_at t.requests t.bios) (range_of (bios_at t.bios request.bios.items)).start) (queue_slots seat t.links) ≡ Some slot
      next_find =
          let sector : ℕ = found_at.0 in
          let passes : has_start (shape_at t.requests t.bios) sector slot ≡ true =
          find_true (has_start (shape_at t.requests t.bios) sector) (queue_slots seat t.links) slot found_at.1 in
          let f : Option Request → Bool = λ o. option_map_or (λ start. start == sector) (option_map (λ (s : Shape). s.start) (shape_in o)) false in
          let start : ℕ = option_map_or (λ (bio : Bio). bio.range.start) (first_in (bios_at t.bios request.bios.items)) 0 in
          let test : nat_eq start sector ≡ true = sym (ap f here) ∙ passes in
          let same : sector ≡ (range_of (bios_at t.bios request.bios.items)).start = sym (number start sector test) ∙ start_is (bios_at t.bios request.bios.items) in
          ap (λ s. find (has_start (shape_at t.requests t.bios) s) (queue_slots seat t.links)) (sym same) ∙ found_at.1 where
            -- equal numbers, by the test
            number : (a b : ℕ) → nat_eq a b ≡ true → a ≡ b
            number a b e = grind (arith, nat_tests)

      -- it is linked to the seat
      pub next_linked : (link : Link) × (at t.links slot ≡ Some link) × (link.seat ≡ seat)
      next_linked = found_linked (has_start (shape_at t.requests t.bios) (range_of (bios_at t.bios request.bios.items)).start) seat slot t.links next_find
