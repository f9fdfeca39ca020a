-- What the search for a merge says of the plain machine: which request the bio joins, or that it joins none.
use Rattle.std.proofs.Common.{◌≡◌, ℕ, ◌<◌, List, length, Option, Some, None, Bool, true, false, ◌&&◌, nat_eq, nat_lt, refl, sym, ap, ◌∙◌, arith}
use Rattle.std.specs.List.{find}
use Rattle.std.specs.Option.{option_map, option_map_or, option_or}
use Rattle.std.proofs.lemmas.Bool.Decides.{nat_tests}
use Rattle.dispatch_core.proofs.Words.{Range, Op, Request, Link, queue_slots, bios_at, shape_at, merge_place, shape_of, same_op, has_room, may_join, joins, joins_at, Tables, WholeRequest, meaning, whole_at, shape, merge_in, at}
use Rattle.sector_core.specs.declared.bio.Op.TheVariants.{Fetch, Store, Discard}
use Rattle.plain.specs.declared.shape.Shape.{Shape}
use Rattle.process_queue.specs.declared.merge.Place.{Place}
use Rattle.dispatch_core.proofs.QueueFacts.{whole_with}
use Rattle.dispatch_core.proofs.Joins.{Reads, find_read_none, find_read_some, find_true, found_linked, chosen_none, chosen_back, chosen_front}

-- both of two tests that hold together
both : (a b : Bool) → (a && b) ≡ true → (a ≡ true) × (b ≡ true)
both true b e = (refl, e)
both false b e = cc

-- equal numbers, by the test
number : (a b : ℕ) → nat_eq a b ≡ true → a ≡ b
number a b e = grind (arith, nat_tests)

-- a lesser number, by the test
lesser : (a b : ℕ) → nat_lt a b ≡ true → a < b
lesser a b e = grind (arith, nat_tests)

-- equal operations, by the test
operation : (a b : Op) → same_op a b ≡ true → a ≡ b
operation Fetch Fetch e = refl
operation Fetch Store e = cc
operation Store Fetch e = cc
operation Fetch Discard e = cc
operation Store Store e = refl
operation Store Discard e = cc
operation Discard Fetch e = cc
operation Discard Store e = cc
operation Discard Discard e = refl

-- what a request is that a bio joins
pub record IsJoined (t : Tables) (slot session : ℕ) (op : Op) (request : Request) : Type 0 where
  pub here : at t.requests slot ≡ Some request
  pub session_is : request.session ≡ session
  pub op_is : request.op ≡ op
  pub few_bios : length (bios_at t.bios request.bios.items) < 32

module _ (t : Tables) (seat session : ℕ) (op : Op) (range : Range) where
  -- the test of a slot, and that of a request
  abbrev slot_test : Bool → ℕ → Bool
  slot_test front = joins_at (shape_at t.requests t.bios) front session op range

  abbrev request_test : Bool → WholeRequest → Bool
  request_test front = joins_at shape front session op range

  -- the two agree
  pub tests_agree : (front : Bool) → Reads (joins_at (shape_at t.requests t.bios) front session op range) (joins_at shape front session op range) (whole_at t.requests t.bios)
  tests_agree front k = elim (at t.requests k)
      as (λ o. option_map_or (joins front session op range) (option_map (λ (r : Request). shape_of r.session r.op (bios_at t.bios r.bios.items)) o) false
      ≡ option_map_or (joins_at shape front session op range) (option_map (whole_with t.bios) o) false) [
        | None ↦ refl
        | Some r ↦ refl
      ]

  -- where the search finds no place, the plain machine has no merge
  pub merge_none : merge_place t.requests t.bios (queue_slots seat t.links) session op range ≡ None → merge_in (meaning t) seat session op range ≡ None
  merge_none e =
      let slots : List ℕ = queue_slots seat t.links in
      let none = chosen_none (find (slot_test false) slots) (find (slot_test true) slots) e in
      let back : find (request_test false) ((meaning t).queue seat) ≡ None = find_read_none (slot_test false) (request_test false) (whole_at t.requests t.bios) slots (tests_agree false) none.0 in
      let front : find (request_test true) ((meaning t).queue seat) ≡ None = find_read_none (slot_test true) (request_test true) (whole_at t.requests t.bios) slots (tests_agree true) none.1 in
      ap (λ o. option_or (option_map (λ (a : WholeRequest). (a, false)) o) (option_map (λ (a : WholeRequest). (a, true)) (find (request_test true) ((meaning t).queue seat)))) back
      ∙ ap (λ o. option_map (λ (a : WholeRequest). (a, true)) o) front

  module _ (place : Place) (joined : merge_place t.requests t.bios (queue_slots seat t.links) session op range ≡ Some place) where
    -- the slot was found by the test of its end
    pub merge_found : find (joins_at (shape_at t.requests t.bios) place.front session op range) (queue_slots seat t.links) ≡ Some place.slot
    merge_found =
        let slots : List ℕ = queue_slots seat t.links in
        elim place.front as (λ b. place.front ≡ b → find (slot_test b) slots ≡ Some place.slot) [
          | true ↦ λ e. (chosen_front (find (slot_test false) slots) (find (slot_test true) slots) place joined e).1
          | false ↦ λ e. chosen_back (find (slot_test false) slots) (find (slot_test true) slots) place joined e
        ] refl

    -- it is linked to the seat
    pub merge_linked : (link : Link) × (at t.links place.slot ≡ Some link) × (link.seat ≡ seat)
    merge_linked = found_linked (slot_test place.front) seat place.slot t.links merge_found

    -- its request passes the test
    merge_passes : (request : Request) → at t.requests place.slot ≡ Some request
        → joins place.front session op range (shape_of request.session request.op (bios_at t.bios request.bios.items)) ≡ true
    merge_passes request here =
        let passes : slot_test place.front place.slot ≡ true = find_true (slot_test place.front) (queue_slots seat t.links) place.slot merge_found in
        let f : Option Request → Bool =
        λ o. option_map_or (joins place.front session op range) (option_map (λ (r : Request). shape_of r.session r.op (bios_at t.bios r.bios.items)) o) false in
        sym (ap f here) ∙ passes

    -- so it is of the bio's session and operation, and has room
    pub merge_request : (request : Request) → at t.requests place.slot ≡ Some request → IsJoined t place.slot session op request
    merge_request request here =
        let s : Shape = shape_of request.session request.op (bios_at t.bios request.bios.items) in
        let ends = both (may_join session op range s) _ (merge_passes request here) in
        let owner = both (nat_eq request.session session && same_op request.op op) (has_room range s) ends.0 in
        let first = both (nat_eq request.session session) (same_op request.op op) owner.0 in
        let few = both _ (nat_lt (length (bios_at t.bios request.bios.items)) 32) owner.1 in
        record { here = here; session_is = number request.session session first.0; op_is = operation request.op op first.1; few_bios = lesser _ 32 few.1 }

    -- the plain machine finds that request, at that end
    pub merge_some : (request : Request) → at t.requests place.slot ≡ Some request → merge_in (meaning t) seat session op range ≡ Some (whole_with t.bios request, place.front)
    merge_some request here =
        let slots : List ℕ = queue_slots seat t.links in
        let value : whole_at t.requests t.bios place.slot ≡ Some (whole_with t.bios request) = ap (option_map (whole_with t.bios)) here in
        let join : Option WholeRequest → Option WholeRequest → Option (WholeRequest × Bool) =
        λ back front. option_or (option_map (λ (a : WholeRequest). (a, false)) back) (option_map (λ (a : WholeRequest). (a, true)) front) in
        let queue : List WholeRequest = (meaning t).queue seat in
        elim place.front as (λ b. place.front ≡ b → merge_in (meaning t) seat session op range ≡ Some (whole_with t.bios request, b)) [
          | true ↦ λ e.
              let both_found = chosen_front (find (slot_test false) slots) (find (slot_test true) slots) place joined e in
              let back : find (request_test false) queue ≡ None = find_read_none (slot_test false) (request_test false) (whole_at t.requests t.bios) slots (tests_agree false) both_found.0 in
              let front : find (request_test true) queue ≡ Some (whole_with t.bios request) =
              find_read_some (slot_test true) (request_test true) (whole_at t.requests t.bios) slots place.slot (tests_agree true) both_found.1 ∙ value in
              ap (λ o. join o (find (request_test true) queue)) back ∙ ap (join None) front
          | false ↦ λ e.
              let found = chosen_back (find (slot_test false) slots) (find (slot_test true) slots) place joined e in
              let back : find (request_test false) queue ≡ Some (whole_with t.bios request) =
              find_read_some (slot_test false) (request_test false) (whole_at t.requests t.bios) slots place.slot (tests_agree false) found ∙ value in
              ap (λ o. join o (find (request_test true) queue)) back
        ] refl
