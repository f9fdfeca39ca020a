-- What holds between requests, links, tags and bios, and what a change of one place leaves.
use Rattle.std.proofs.Common.{◌≡◌, ◌≢◌, ◌⊎◌, inl, inr, ℕ, ◌+◌, ◌<◌, ◌≤◌, List, [], ◌∷◌, length, map, Option, Some, None, Bool, cond, is_some, IsSome, ◌==◌, sum_by, count_by, sum, set, refl, sym, ap, ◌∙◌, arith, eq-eqb, ne_eqb}
use Rattle.std.specs.List.{filter_map, cons_option}
use Rattle.std.specs.Option.{option_map, option_map_or, option_and_then}
use Rattle.std.proofs.Math.Path.{fun_ext}
use Rattle.std.proofs.lemmas.Bool.{cases_eq, cond-true, cond-false}
use Rattle.std.proofs.lemmas.List.{get_or-set_same, get_or-set_other, length-set}
use Rattle.std.proofs.lemmas.List.Sums.{sum_by-cons, sum_by-set, get_or-le-sum_by, sum-map}
use Rattle.arrayvec.specs.ArrayVec.{ArrayVec}
use Rattle.dispatch_core.proofs.Words.{Bio, Request, Issue, Link, placed, queue_slots, numbers, Tables, bios_at, WholeRequest, Flight, put, meaning, whole_at, outbox_at, Limits, queued, in_flight, at, one, times, bears, Kept, Placed, with_bios}
use Rattle.dispatch_core.specs.WellFormed.{taken}
use Rattle.dispatch_core.proofs.QueueLists.{within_of, queue_length}
use Rattle.dispatch_core.proofs.Counts.{one-le, sum_agree, lengths_from, count_numbers}

-- a function with one value put in it
pub put_is : {A : Type 0} (f g : ℕ → A) (k : ℕ) (v : A) → g k ≡ v → ((n : ℕ) → n ≢ k → g n ≡ f n) → g ≡ put f k v
put_is f g k v here others = fun_ext (λ n. elim (cases_eq n k) [
  | inl e ↦ ap g e ∙ here ∙ sym (cond-true (n == k) v (f n) (eq-eqb n k e))
  | inr ne ↦ others n ne ∙ sym (cond-false (n == k) v (f n) (ne_eqb n k ne))
])

-- what there is, where there is something
pub some_of : {A : Type 0} (o : Option A) → IsSome o → (v : A) × (o ≡ Some v)
some_of None h = cc
some_of (Some v) h = (v, refl)

-- what counts for nothing is nothing
pub none_of : {A : Type 0} (o : Option A) → one o ≡ 0 → o ≡ None
none_of None h = refl
none_of (Some v) h = cc

-- what is known to be there is there
pub is_some_of : {A : Type 0} (o : Option A) (v : A) → o ≡ Some v → IsSome o
is_some_of o v e = ap is_some e

-- what stands in a table with one place set is what was set, or stood there before at another place
pub set_cases : {A : Type 0} (xs : List (Option A)) (i j : ℕ) (v : Option A) (w : A) → i < length xs → at (set xs i v) j ≡ Some w
    → ((j ≡ i) × (v ≡ Some w)) ⊎ ((j ≢ i) × (at xs j ≡ Some w))
set_cases xs i j v w h e = elim (cases_eq j i) [
  | inl same ↦ inl (same, sym (ap (at (set xs i v)) same ∙ get_or-set_same xs i v None h) ∙ e)
  | inr other ↦ inr (other, sym (get_or-set_other xs i j v None other) ∙ e)
]

-- one where a number is the slot
abbrev hit : ℕ → ℕ → ℕ
hit slot x = cond (x == slot) 1 0

-- a slot stands as often in a list as at its head and in the rest
times-cons : (slot x : ℕ) (xs : List ℕ) → times slot (x ∷ xs) ≡ hit slot x + times slot xs
times-cons slot x xs = sum_by-cons (hit slot) x xs

-- a slot stands at the head of its list
pub times_first : (slot : ℕ) (xs : List ℕ) → 1 ≤ times slot (slot ∷ xs)
times_first slot xs = let e : hit slot slot ≡ 1 = cond-true (slot == slot) 1 0 (eq-eqb slot slot refl) in omega (arith, times-cons slot slot xs, e)

-- bios in other slots than the one set
pub bios_at_other : (table : List (Option Bio)) (place : ℕ) (v : Option Bio) (slots : List ℕ) → times place slots ≡ 0 → bios_at (set table place v) slots ≡ bios_at table slots
bios_at_other table place v [] h = refl
bios_at_other table place v (x ∷ slots) h = elim (cases_eq x place) [
  | inl e ↦
      let p : hit place x ≡ 1 = cond-true (x == place) 1 0 (eq-eqb x place e) in
      absurd (omega (arith, times-cons place x slots, p, h))
  | inr ne ↦
      ap (λ o. cons_option o (bios_at (set table place v) slots)) (get_or-set_other table place x v None ne)
      ∙ ap (cons_option (at table x)) (bios_at_other table place v slots (omega (arith, times-cons place x slots, h)))
]

-- bios in other slots than those of a list
pub bios_at_with : (table : List (Option Bio)) (slots : List ℕ) (bios : List Bio) (others : List ℕ) → ((place : ℕ) → times place slots + times place others ≤ 1)
    → bios_at (with_bios table slots bios) others ≡ bios_at table others
bios_at_with table [] bios others h = refl
bios_at_with table (x ∷ slots) [] others h = refl
bios_at_with table (x ∷ slots) (bio ∷ bios) others h =
    bios_at_with (set table x (Some bio)) slots bios others (λ place. omega (arith, times-cons place x slots, h place))
    ∙ bios_at_other table x (Some bio) others (omega (arith, times_first x slots, h x))

-- a request with its bios
abbrev pub whole_with : List (Option Bio) → Request → WholeRequest
whole_with bios r = record { session = r.session; op = r.op; bios = bios_at bios r.bios.items }

-- a request with its bios, where the bios do not change
whole_step : (before after : List (Option Bio)) (o : Option Request) → ((r : Request) → o ≡ Some r → bios_at after r.bios.items ≡ bios_at before r.bios.items)
    → option_map (whole_with after) o ≡ option_map (whole_with before) o
whole_step before after None h = refl
whole_step before after (Some r) h = ap (λ bios. Some (let w : WholeRequest = record { session = r.session; op = r.op; bios = bios } in w)) (h r refl)

-- a slot's request, where neither its entry nor its bios change
pub whole_same : (old new : List (Option Request)) (before after : List (Option Bio)) (k : ℕ) → at new k ≡ at old k
    → ((r : Request) → at old k ≡ Some r → bios_at after r.bios.items ≡ bios_at before r.bios.items) → whole_at new after k ≡ whole_at old before k
whole_same old new before after k e h =
    ap (option_map (whole_with after)) e
    ∙ whole_step before after (at old k) h

-- the flight that an issue means
abbrev pub flight_of : List (Option Request) → List (Option Bio) → Option Issue → Option Flight
flight_of requests bios issue = option_and_then (λ issue. option_map (λ r. record { issue = issue.issue; request = r }) (whole_at requests bios issue.slot)) issue

-- a tag's flight, where the request that it bears does not change
pub flight_same : (old new : List (Option Request)) (before after : List (Option Bio)) (o : Option Issue)
    → ((issue : Issue) → o ≡ Some issue → whole_at new after issue.slot ≡ whole_at old before issue.slot) → flight_of new after o ≡ flight_of old before o
flight_same old new before after None h = refl
flight_same old new before after (Some issue) h = ap (option_map (λ r. record { issue = issue.issue; request = r })) (h issue refl)

-- how often requests name a slot, and how often outboxes do
abbrev pub names : ℕ → Option Request → ℕ
names slot request = option_map_or (λ r. times slot r.bios.items) request 0

-- how often an outbox holds a slot
abbrev pub held : ℕ → ArrayVec ℕ → ℕ
held slot outbox = times slot outbox.items

-- no request names a free slot of a bio
pub unnamed_free : (l : Limits) (t : Tables) (place k : ℕ) (r : Request) → Kept l t → at t.bios place ≡ None → at t.requests k ≡ Some r → times place r.bios.items ≡ 0
unnamed_free l t place k r kept free here =
    let most : names place (at t.requests k) ≤ sum_by (names place) t.requests = get_or-le-sum_by (names place) t.requests k None (within_of t.requests k r here) in
    let e : names place (at t.requests k) ≡ times place r.bios.items = ap (names place) here in
    let f : one (at t.bios place) ≡ 0 = ap one free in
    omega (arith, most, e, f, kept.once place)

-- no request names the first slot of an outbox
pub unnamed_outbox : (l : Limits) (t : Tables) (seat place : ℕ) (rest : List ℕ) (k : ℕ) (r : Request) → Kept l t → seat < length t.outboxes → outbox_at t.outboxes seat ≡ place ∷ rest
    → at t.requests k ≡ Some r → times place r.bios.items ≡ 0
unnamed_outbox l t seat place rest k r kept within first here =
    let most : names place (at t.requests k) ≤ sum_by (names place) t.requests = get_or-le-sum_by (names place) t.requests k None (within_of t.requests k r here) in
    let e : names place (at t.requests k) ≡ times place r.bios.items = ap (names place) here in
    let some : times place (outbox_at t.outboxes seat) ≤ sum_by (held place) t.outboxes = get_or-le-sum_by (held place) t.outboxes seat (record { items = [] }) within in
    let f : times place (outbox_at t.outboxes seat) ≡ times place (place ∷ rest) = ap (times place) first in
    omega (arith, most, e, some, f, times_first place rest, one-le (at t.bios place), kept.once place)

-- two requests name no slot both
pub unnamed_other : (l : Limits) (t : Tables) (place j k : ℕ) (a b : Request) → Kept l t → at t.requests j ≡ Some a → at t.requests k ≡ Some b → k ≢ j
    → times place a.bios.items + times place b.bios.items ≤ 1
unnamed_other l t place j k a b kept first second ne =
    let h : j < length t.requests = within_of t.requests j a first in
    let hk : k < length t.requests = within_of t.requests k b second in
    let rest : List (Option Request) = set t.requests j None in
    let moved : sum_by (names place) (set t.requests j None) + names place (at t.requests j) ≡ sum_by (names place) t.requests + 0 = sum_by-set (names place) t.requests j None None h in
    let e : names place (at t.requests j) ≡ times place a.bios.items = ap (names place) first in
    let most : names place (at (set t.requests j None) k) ≤ sum_by (names place) (set t.requests j None) =
    get_or-le-sum_by (names place) (set t.requests j None) k None (omega (arith, length-set t.requests j None)) in
    let f : names place (at (set t.requests j None) k) ≡ times place b.bios.items = ap (names place) (get_or-set_other t.requests j k None None ne ∙ second) in
    omega (arith, moved, e, most, f, one-le (at t.bios place), kept.once place)

-- a slot whose request is free is not linked
pub unlinked_free : (n : ℕ) (t : Tables) (slot : ℕ) → Placed n t → at t.requests slot ≡ None → (at t.links slot ≡ None) × (count_by (bears slot) t.tags ≡ 0)
unlinked_free n t slot p free =
    let e : one (at t.requests slot) ≡ 0 = ap one free in
    (none_of (at t.links slot) (omega (arith, p.once slot, e)), omega (arith, p.once slot, e))

-- one where an issue is of the slot
abbrev pub borne : ℕ → Option Issue → ℕ
borne slot issue = cond (bears slot issue) 1 0

-- an issue is of its own slot
borne_here : (o : Option Issue) (issue : Issue) → o ≡ Some issue → borne issue.slot o ≡ 1
borne_here o issue e = ap (borne issue.slot) e ∙ cond-true (issue.slot == issue.slot) 1 0 (eq-eqb issue.slot issue.slot refl)

-- a slot that a tag bears is not linked
pub unlinked_borne : (n : ℕ) (t : Tables) (tag : ℕ) (issue : Issue) → Placed n t → at t.tags tag ≡ Some issue → at t.links issue.slot ≡ None
unlinked_borne n t tag issue p here =
    let some : borne issue.slot (at t.tags tag) ≤ count_by (bears issue.slot) t.tags = get_or-le-sum_by (borne issue.slot) t.tags tag None (within_of t.tags tag issue here) in
    none_of (at t.links issue.slot) (omega (arith, some, borne_here (at t.tags tag) issue here, one-le (at t.requests issue.slot), p.once issue.slot))

-- two tags bear two slots
pub other_slot : (n : ℕ) (t : Tables) (tag j : ℕ) (a b : Issue) → Placed n t → at t.tags tag ≡ Some a → at (set t.tags tag None) j ≡ Some b → b.slot ≢ a.slot
other_slot n t tag j a b p first second = λ same.
    let h : tag < length t.tags = within_of t.tags tag a first in
    let moved : count_by (bears a.slot) (set t.tags tag None) + borne a.slot (at t.tags tag) ≡ count_by (bears a.slot) t.tags + 0 = sum_by-set (borne a.slot) t.tags tag None None h in
    let some : borne a.slot (at (set t.tags tag None) j) ≤ count_by (bears a.slot) (set t.tags tag None) =
    get_or-le-sum_by (borne a.slot) (set t.tags tag None) j None (within_of (set t.tags tag None) j b second) in
    let e : borne a.slot (at (set t.tags tag None) j) ≡ 1 =
    ap (borne a.slot) second ∙ cond-true (b.slot == a.slot) 1 0 (eq-eqb b.slot a.slot same) in
    absurd (omega (arith, moved, some, e, borne_here (at t.tags tag) a first, one-le (at t.requests a.slot), p.once a.slot))

-- a linked slot has a request
pub linked_some : (n : ℕ) (t : Tables) → Placed n t → (slot : ℕ) (link : Link) → at t.links slot ≡ Some link → IsSome (whole_at t.requests t.bios slot)
linked_some n t p slot link e =
    ap (λ o. is_some (option_map (whole_with t.bios) o)) (p.link slot link e).here

-- the lengths of the first queues are together the number of the links, where each link is of one of them
queued_in : (n : ℕ) (t : Tables) (count : ℕ) → Placed n t → ((k : ℕ) (link : Link) → at t.links k ≡ Some link → link.seat < count)
    → sum (map (λ seat. length (filter_map (whole_at t.requests t.bios) (queue_slots seat t.links))) (numbers 0 count)) ≡ taken t.links
queued_in n t count p few =
    sum-map (λ seat. length (filter_map (whole_at t.requests t.bios) (queue_slots seat t.links))) (numbers 0 count)
    ∙ sum_agree _ (λ seat. length (placed seat 0 t.links)) (numbers 0 count) (λ seat. queue_length (whole_at t.requests t.bios) seat t.links (linked_some n t p))
    ∙ lengths_from count 0 t.links few

-- the queued requests are the links
pub queued_is : (n : ℕ) (t : Tables) → Placed n t → queued (meaning t) ≡ taken t.links
queued_is n t p = queued_in n t 16 p (λ k link e. (p.link k link e).within)

-- an issue means a flight where its slot has a request
flight_step : (t : Tables) (o : Option Issue) → ((issue : Issue) → o ≡ Some issue → IsSome (at t.requests issue.slot)) → is_some (flight_of t.requests t.bios o) ≡ is_some o
flight_step t None h = refl
flight_step t (Some issue) h =
    let found : (r : Request) × (at t.requests issue.slot ≡ Some r) = some_of (at t.requests issue.slot) (h issue refl) in
    let f : Option Request → Bool = λ o. is_some (option_map (λ (r : WholeRequest). let w : Flight = record { issue = issue.issue; request = r } in w) (option_map (whole_with t.bios) o)) in
    ap f found.1

-- a tag's flight is there where the tag has an issue
pub flight_some : (n : ℕ) (t : Tables) (tag : ℕ) → Placed n t → is_some ((meaning t).flight tag) ≡ is_some (at t.tags tag)
flight_some n t tag p = flight_step t (at t.tags tag) (λ issue e. (p.tag tag issue e).1)

-- the requests in flight are the taken tags
pub in_flight_is : (l : Limits) (n : ℕ) (t : Tables) → Placed n t → length t.tags ≡ l.tags → in_flight l (meaning t) ≡ taken t.tags
in_flight_is l n t p e =
    let f : ℕ → Bool = λ tag. is_some ((meaning t).flight tag) in
    ap (λ m. count_by f (numbers 0 m)) (sym e)
    ∙ count_numbers f 0 t.tags (λ k. let z : 0 + k ≡ k = omega arith in ap f z ∙ flight_some n t k p)
