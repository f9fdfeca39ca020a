-- A session that leaves, and the requests that are left of it.
use Rattle.std.proofs.Common.{◌≡◌, inl, inr, ℕ, zero, suc, ◌+◌, ◌*◌, ◌<◌, ◌≤◌, List, [], ◌∷◌, ◌++◌, Bool, cond, true, false, Option, Some, None, length, map, get_or, take, drop, nat_lt, nat_le, ◌==◌, ◌&&◌, refl, sym, ap, ◌∙◌, subst, arith, eq-eqb, ne_eqb, length-drop, length-take-le}
use Rattle.std.specs.Prelude.{sum_by, count_by}
use Rattle.std.specs.List.{filter, filter_map, cons_option}
use Rattle.std.specs.Option.{option_map, option_map_or}
use Rattle.std.proofs.lemmas.Bool.{cases_eq, cases_lt, cond-true, lt-leb}
use Rattle.std.proofs.lemmas.Option.{same_Some}
use Rattle.std.proofs.lemmas.List.{get_or-take, get_or-drop}
use Rattle.std.proofs.lemmas.List.Sums.{sum_by-cons}
use Rattle.std.proofs.lemmas.List.Elements.{filter-append}
use Rattle.dispatch_core.proofs.Words.{Bio, Request, Issue, numbers, is_empty, Link, insert_in, placed, queue_slots, Seat, Tables, WholeRequest, Flight, meaning, whole_at, outbox_at, Limits, is_of, left_of, is_gone, request_at, at, one, times, bears, WellFormed, IsSlotOf}
use Rattle.request_pool.specs.Slots.{seat_slots}
use Rattle.dispatch_core.specs.WellFormed.{taken}
use Rattle.dispatch_core.proofs.Times.{same, same_is, same_not, times-cons}
use Rattle.dispatch_core.proofs.SlotCounts.{one_taken}
use Rattle.dispatch_core.proofs.Keeping.{one_seat, by_request, by_outbox}
use Rattle.dispatch_core.proofs.Written.{one-le, some_of}
use Rattle.dispatch_core.proofs.QueueFacts.{whole_with, flight_of, borne}

-- where a sum is not zero, one of its terms is not
pub some_counted : {A : Type 0} (f : A → ℕ) (xs : List A) (d : A) → 1 ≤ sum_by f xs → (i : ℕ) × (i < length xs) × (1 ≤ f (get_or xs i d))
some_counted f [] d h = absurd (omega (arith, h))
some_counted f (x ∷ xs) d h = elim (cases_lt 0 (f x)) [
  | inl here ↦ (zero, omega arith, omega (arith, here))
  | inr none ↦ let rest = some_counted f xs d (omega (arith, h, none, sum_by-cons f x xs)) in (suc rest.0, omega (arith, rest.1), rest.2)
]

-- what counts as a slot is the slot
counts_one : (x s : ℕ) → 1 ≤ same x s → x ≡ s
counts_one x s h = elim (cases_eq x s) [
  | inl e ↦ e
  | inr other ↦ absurd (omega (arith, h, same_not x s other))
]

-- a slot that stands in a list has a place there
pub place_of : (s : ℕ) (xs : List ℕ) → 1 ≤ times s xs → (i : ℕ) × (i < length xs) × (get_or xs i 0 ≡ s)
place_of s xs h =
    let found = some_counted (λ x. same x s) xs 0 h in
    (found.0, found.1, counts_one (get_or xs found.0 0) s found.2)

-- a slot that is put into a queue counts there
times-insert : (k : ℕ) (e : ℕ × ℕ) (xs : List (ℕ × ℕ)) → times k (map (λ e. e.1) (insert_in e xs)) ≡ same e.1 k + times k (map (λ e. e.1) xs)
times-insert k e [] = times-cons k e.1 []
times-insert k e (x ∷ xs) =
    let ih = times-insert k e xs in
    elim (nat_lt x.0 e.0) as (λ b. times k (map (λ e. e.1) (cond b (x ∷ insert_in e xs) (e ∷ x ∷ xs))) ≡ same e.1 k + times k (map (λ e. e.1) (x ∷ xs))) [
      | true ↦ omega (arith, ih, times-cons k x.1 (map (λ e. e.1) (insert_in e xs)), times-cons k x.1 (map (λ e. e.1) xs))
      | false ↦ times-cons k e.1 (map (λ e. e.1) (x ∷ xs))
    ]

-- a linked slot stands in its queue
queue_times : (q base i : ℕ) (links : List (Option Link)) (l : Link) → get_or links i None ≡ Some l → l.seat ≡ q → 1 ≤ times (base + i) (map (λ e. e.1) (placed q base links))
queue_times q base i [] l e s = absurd cc
queue_times q base zero (None ∷ links) l e s = absurd cc
queue_times q base zero (Some m ∷ links) l e s =
    let same_link : m ≡ l = same_Some m l e in
    let here : (m.seat == q) ≡ true = eq-eqb m.seat q (ap (λ (x : Link). x.seat) same_link ∙ s) in
    let z : base ≡ base + zero = omega arith in
    let first : same base (base + zero) ≡ 1 = ap (same base) (sym z) ∙ same_is base in
    let put : placed q base (Some m ∷ links) ≡ insert_in (m.serial, base) (placed q (base + 1) links) = cond-true (m.seat == q) _ _ here in
    omega (arith, ap (λ xs. times (base + zero) (map (λ e. e.1) xs)) put, times-insert (base + zero) (m.serial, base) (placed q (base + 1) links), first)
queue_times q base (suc i) (None ∷ links) l e s =
    let z : base + 1 + i ≡ base + suc i = omega arith in
    subst (λ k. 1 ≤ times k (map (λ e. e.1) (placed q (base + 1) links))) z (queue_times q (base + 1) i links l e s)
queue_times q base (suc i) (Some m ∷ links) l e s =
    let z : base + 1 + i ≡ base + suc i = omega arith in
    let rest : List (ℕ × ℕ) = placed q (base + 1) links in
    let ih : 1 ≤ times (base + suc i) (map (λ e. e.1) rest) = subst (λ k. 1 ≤ times k (map (λ e. e.1) (placed q (base + 1) links))) z (queue_times q (base + 1) i links l e s) in
    elim (m.seat == q) as (λ b. 1 ≤ times (base + suc i) (map (λ e. e.1) (cond b (insert_in (m.serial, base) rest) rest))) [
      | true ↦ omega (arith, ih, times-insert (base + suc i) (m.serial, base) rest)
      | false ↦ ih
    ]

-- so it has a place in it
pub queue_place : (q i : ℕ) (links : List (Option Link)) (l : Link) → get_or links i None ≡ Some l → l.seat ≡ q
    → (j : ℕ) × (j < length (queue_slots q links)) × (get_or (queue_slots q links) j 0 ≡ i)
queue_place q i links l e s =
    let z : 0 + i ≡ i = omega arith in
    place_of i (queue_slots q links) (subst (λ k. 1 ≤ times k (queue_slots q links)) z (queue_times q 0 i links l e s))

-- a list has an element that passes the test
abbrev pub Has : {A : Type 0} → (A → Bool) → List A → Type 0
Has passes xs = is_empty (filter passes xs) ≡ false

pub Has-left : {A : Type 0} (p : A → Bool) (xs ys : List A) → Has p xs → Has p (xs ++ ys)
Has-left p [] ys h = absurd cc
Has-left p (x ∷ xs) ys h =
    (elim (p x) as (λ b. is_empty (cond b (x ∷ filter p xs) (filter p xs)) ≡ false → is_empty (cond b (x ∷ filter p (xs ++ ys)) (filter p (xs ++ ys))) ≡ false) [
      | true ↦ λ _. refl
      | false ↦ λ k. Has-left p xs ys k
    ]) h

pub Has-right : {A : Type 0} (p : A → Bool) (xs ys : List A) → Has p ys → Has p (xs ++ ys)
Has-right p [] ys h = h
Has-right p (x ∷ xs) ys h =
    let rest = Has-right p xs ys h in
    elim (p x) as (λ b. is_empty (cond b (x ∷ filter p (xs ++ ys)) (filter p (xs ++ ys))) ≡ false) [ true ↦ refl | false ↦ rest ]

-- it has one where one of its slots means one
pub Has-at : {X A : Type 0} (f : X → Option A) (p : A → Bool) (xs : List X) (i : ℕ) (d : X) (w : A) → i < length xs → f (get_or xs i d) ≡ Some w → p w ≡ true → Has p (filter_map f xs)
Has-at f p [] i d w h e passes = absurd (omega (arith, h))
Has-at f p (x ∷ xs) zero d w h e passes =
    ap (λ o. is_empty (filter p (cons_option o (filter_map f xs)))) e
    ∙ ap (λ b. is_empty (cond b (w ∷ filter p (filter_map f xs)) (filter p (filter_map f xs)))) passes
Has-at f p (x ∷ xs) (suc i) d w h e passes =
    let rest = Has-at f p xs i d w (omega (arith, h)) e passes in
    elim (f x) as (λ o. is_empty (filter p (cons_option o (filter_map f xs))) ≡ false) [
      | None ↦ rest
      | Some v ↦ elim (p v) as (λ b. is_empty (cond b (v ∷ filter p (filter_map f xs)) (filter p (filter_map f xs))) ≡ false) [ true ↦ refl | false ↦ rest ]
    ]

-- and none where none does
pub none_at : {X A : Type 0} (f : X → Option A) (p : A → Bool) (xs : List X) → ((x : X) (w : A) → f x ≡ Some w → p w ≡ false) → filter p (filter_map f xs) ≡ []
none_at f p [] h = refl
none_at f p (x ∷ xs) h =
    let rest = none_at f p xs h in
    (elim (f x) as (λ o. f x ≡ o → filter p (cons_option o (filter_map f xs)) ≡ []) [
      | None ↦ λ _. rest
      | Some w ↦ λ e. ap (λ b. cond b (w ∷ filter p (filter_map f xs)) (filter p (filter_map f xs))) (h x w e) ∙ rest
    ]) refl

pub none_both : {A : Type 0} (p : A → Bool) (xs ys : List A) → filter p xs ≡ [] → filter p ys ≡ [] → filter p (xs ++ ys) ≡ []
none_both p xs ys e f = filter-append p xs ys ∙ ap (λ l. l ++ filter p ys) e ∙ f

-- a number of a run
pub length-numbers : (from count : ℕ) → length (numbers from count) ≡ count
length-numbers from zero = refl
length-numbers from (suc count) = let rest = length-numbers (from + 1) count in omega (arith, rest)

pub numbers_at : (from count i : ℕ) → i < count → get_or (numbers from count) i 0 ≡ from + i
numbers_at from zero i h = absurd (omega (arith, h))
numbers_at from (suc count) zero h = omega arith
numbers_at from (suc count) (suc i) h = let rest = numbers_at (from + 1) count i (omega (arith, h)) in omega (arith, rest)

-- the request that an issue means
abbrev pub request_of : Tables → Option Issue → Option WholeRequest
request_of t o = option_map (λ (flight : Flight). flight.request) (flight_of t.requests t.bios o)

-- an issue of this slot means its request
request_borne : (t : Tables) (o : Option Issue) (issue : Issue) (k : ℕ) (r : Request) → o ≡ Some issue → issue.slot ≡ k → at t.requests k ≡ Some r → request_of t o ≡ Some (whole_with t.bios r)
request_borne t o issue k r h e here =
    let there : at t.requests issue.slot ≡ Some r = ap (at t.requests) e ∙ here in
    ap (request_of t) h
    ∙ ap (λ (v : Option Request). option_map (λ (flight : Flight). flight.request) (option_map (λ (r : WholeRequest). let f : Flight = record { issue = issue.issue; request = r } in f) (option_map (whole_with t.bios) v))) there

-- what a tag bears is the request of a slot
request_from : (t : Tables) (o : Option Issue) (w : WholeRequest) → request_of t o ≡ Some w → (k : ℕ) × (whole_at t.requests t.bios k ≡ Some w)
request_from t None w e = absurd cc
request_from t (Some issue) w e = (issue.slot, unwrapped (whole_at t.requests t.bios issue.slot) e) where
  unwrapped : (v : Option WholeRequest) → option_map (λ (flight : Flight). flight.request) (option_map (λ (r : WholeRequest). let f : Flight = record { issue = issue.issue; request = r } in f) v) ≡ Some w → v ≡ Some w
  unwrapped None e = absurd cc
  unwrapped (Some v) e = e

-- what a slot means is its request
whole_from : (t : Tables) (o : Option Request) (w : WholeRequest) → option_map (whole_with t.bios) o ≡ Some w → (r : Request) × (o ≡ Some r) × (whole_with t.bios r ≡ w)
whole_from t None w e = absurd cc
whole_from t (Some r) w e = (r, refl, same_Some (whole_with t.bios r) w e)

module _ (l : Limits) (n : ℕ) (t : Tables) (seat : ℕ) (entry : Seat) (w : WellFormed l n t) (within : seat < 16) (sits : at t.seats seat ≡ Some entry) where
  -- the entry counts the taken slots of the seat
  owed : entry.unreaped ≡ taken (seat_slots seat t.bios)
  owed = sym (ap (λ o. option_map_or (λ (s : Seat). s.unreaped) o 0) sits) ∙ w.seated.counted seat within

  module _ (none : entry.unreaped ≡ 0) where
    -- where it counts none, no request is of the session
    pub no_request : (k : ℕ) (r : Request) → at t.requests k ≡ Some r → r.session ≡ entry.session → ⊥
    no_request k r here same_session =
        let owned = w.kept.request k r here in
        let seat_is : owned.seat ≡ seat = w.seated.apart owned.seat seat owned.entry entry owned.sits sits (owned.session ∙ same_session) in
        let place : ℕ = get_or r.bios.items 0 0 in
        let first = owned.bios 0 0 (omega (arith, owned.some_bios)) in
        let of : IsSlotOf seat place = subst (λ j. IsSlotOf j (get_or r.bios.items 0 0)) seat_is first.slot_of in
        let le : 1 ≤ taken (seat_slots seat t.bios) = one_taken seat place t.bios first.bio within w.sized.bios of first.here in
        absurd (omega (arith, le, owed, none))

    whole_other : (k : ℕ) (x : WholeRequest) → whole_at t.requests t.bios k ≡ Some x → is_of entry.session x ≡ false
    whole_other k x e =
        let found = whole_from t (at t.requests k) x e in
        ap (is_of entry.session) (sym found.2) ∙ ne_eqb found.0.session entry.session (no_request k found.0 found.1)

    tag_other : (tag : ℕ) (x : WholeRequest) → request_at (meaning t) tag ≡ Some x → is_of entry.session x ≡ false
    tag_other tag x e = let found = request_from t (at t.tags tag) x e in whole_other found.0 x found.1

    left_none : is_empty (left_of l (meaning t) seat entry.session) ≡ true
    left_none =
        let p = is_of entry.session in
        let m = meaning t in
        ap is_empty (none_both p (m.queue seat ++ m.requeued) _ (none_both p (m.queue seat) m.requeued (none_at (whole_at t.requests t.bios) p (queue_slots seat t.links) whole_other)
        (none_at (whole_at t.requests t.bios) p (queue_slots 0 t.requeued) whole_other))
        (none_at (request_at m) p (numbers 0 l.tags) tag_other))

  module _ (some : 1 ≤ entry.unreaped) (empty : outbox_at t.outboxes seat ≡ []) where
    -- where it counts one, one of the seat's slots is taken
    a_place : (p : ℕ) × IsSlotOf seat p × (one (at t.bios p) ≡ 1)
    a_place =
        let all : List (Option Bio) = drop (32 * seat) t.bios in
        let found = some_counted (λ o. one o) (seat_slots seat t.bios) None (omega (arith, some, owed)) in
        let long : length (take 32 all) ≡ 32 = length-take-le 32 all (omega (arith, within, w.sized.bios, length-drop (32 * seat) t.bios)) in
        let i_within : found.0 < 32 = omega (arith, found.1, long) in
        let here : at (seat_slots seat t.bios) found.0 ≡ at t.bios (32 * seat + found.0) = get_or-take 32 all found.0 None i_within ∙ get_or-drop (32 * seat) t.bios found.0 None in
        (32 * seat + found.0, record { least = omega arith; most = omega (arith, i_within) }, omega (arith, found.2, ap one here, one-le (at t.bios (32 * seat + found.0))))

    abbrev p : ℕ
    p = a_place.0

    -- no outbox names it
    unboxed : sum_by (by_outbox p) t.outboxes ≡ 0
    unboxed = elim (cases_lt 0 (sum_by (by_outbox p) t.outboxes)) [
      | inr none ↦ omega (arith, none)
      | inl more ↦
          let found = some_counted (by_outbox p) t.outboxes (record { items = [] }) (omega (arith, more)) in
          let j : ℕ = found.0 in
          let j_within : found.0 < 16 = omega (arith, found.1, w.sized.outboxes) in
          let stands = place_of p (outbox_at t.outboxes j) found.2 in
          let done = w.kept.outbox j j_within stands.0 0 stands.1 in
          let of : IsSlotOf j p = subst (λ q. IsSlotOf j q) stands.2 done.slot_of in
          let seat_is : j ≡ seat = one_seat j seat p of a_place.1 in
          let gone : times p (outbox_at t.outboxes j) ≡ 0 = ap (λ k. times p (outbox_at t.outboxes k)) seat_is ∙ ap (times p) empty in
          absurd (omega (arith, found.2, gone))
    ]

    -- so a request does
    named_by : (k : ℕ) × (1 ≤ by_request p (at t.requests k))
    named_by =
        let once : sum_by (by_request p) t.requests + sum_by (by_outbox p) t.outboxes ≡ one (at t.bios p) = w.kept.once p in
        let found = some_counted (by_request p) t.requests None (omega (arith, once, unboxed, a_place.2)) in
        (found.0, found.2)

    -- which is of the session
    request_left : (k : ℕ) (r : Request) → at t.requests k ≡ Some r → 1 ≤ by_request p (at t.requests k) → r.session ≡ entry.session
    request_left k r here names =
        let count : 1 ≤ times p r.bios.items = omega (arith, names, ap (by_request p) here) in
        let stands = place_of p r.bios.items count in
        let owned = w.kept.request k r here in
        let waits = owned.bios stands.0 0 stands.1 in
        let of : IsSlotOf owned.seat p = subst (λ q. IsSlotOf owned.seat q) stands.2 waits.slot_of in
        let seat_is : owned.seat ≡ seat = one_seat owned.seat seat p of a_place.1 in
        let both : Some owned.entry ≡ Some entry = sym owned.sits ∙ ap (at t.seats) seat_is ∙ sits in
        sym owned.session ∙ ap (λ (s : Seat). s.session) (same_Some owned.entry entry both)

    module _ (k : ℕ) (r : Request) (here : at t.requests k ≡ Some r) (session : r.session ≡ entry.session) where
      whole_here : (j : ℕ) → j ≡ k → whole_at t.requests t.bios j ≡ Some (whole_with t.bios r)
      whole_here j e = ap (whole_at t.requests t.bios) e ∙ ap (option_map (whole_with t.bios)) here

      passes : is_of entry.session (whole_with t.bios r) ≡ true
      passes = eq-eqb r.session entry.session session

      -- where it is queued, it is at this seat
      in_queue : (link : Link) → at t.links k ≡ Some link → Has (is_of entry.session) ((meaning t).queue seat)
      in_queue link linked =
          let q = w.placed.link k link linked in
          let is : q.request ≡ r = same_Some q.request r (sym q.here ∙ here) in
          let at_seat : link.seat ≡ seat = w.seated.apart link.seat seat q.entry entry q.sits sits (q.session ∙ ap (λ (x : Request). x.session) is ∙ session) in
          let stands = queue_place seat k t.links link linked at_seat in
          Has-at (whole_at t.requests t.bios) (is_of entry.session) (queue_slots seat t.links) stands.0 0 (whole_with t.bios r) stands.1 (whole_here _ stands.2) passes

      in_requeued : (link : Link) → at t.requeued k ≡ Some link → Has (is_of entry.session) (meaning t).requeued
      in_requeued link linked =
          let stands = queue_place 0 k t.requeued link linked (w.placed.requeued k link linked).number in
          Has-at (whole_at t.requests t.bios) (is_of entry.session) (queue_slots 0 t.requeued) stands.0 0 (whole_with t.bios r) stands.1 (whole_here _ stands.2) passes

      in_flying : 1 ≤ count_by (bears k) t.tags → Has (is_of entry.session) (filter_map (request_at (meaning t)) (numbers 0 l.tags))
      in_flying h =
          let found = some_counted (borne k) t.tags None h in
          let tag : ℕ = found.0 in
          let bearing : (issue : Issue) × (at t.tags tag ≡ Some issue) × (issue.slot ≡ k) = bearer (at t.tags tag) found.2 in
          let tag_within : tag < l.tags = omega (arith, found.1, w.sized.tags) in
          let z : 0 + tag ≡ tag = omega arith in
          let number : get_or (numbers 0 l.tags) tag 0 ≡ tag = numbers_at 0 l.tags tag tag_within ∙ z in
          Has-at (request_at (meaning t)) (is_of entry.session) (numbers 0 l.tags) tag 0 (whole_with t.bios r) (omega (arith, tag_within, length-numbers 0 l.tags))
          (ap (request_at (meaning t)) number ∙ request_borne t (at t.tags tag) bearing.0 k r bearing.1 bearing.2 here) passes where
            bearer : (o : Option Issue) → 1 ≤ borne k o → (issue : Issue) × (o ≡ Some issue) × (issue.slot ≡ k)
            bearer None h = absurd (omega (arith, h))
            bearer (Some issue) h = (issue, refl, counts_one issue.slot k h)

      left_one : is_empty (left_of l (meaning t) seat entry.session) ≡ false
      left_one =
          let m = meaning t in
          let s = is_of entry.session in
          let flying = filter_map (request_at (meaning t)) (numbers 0 l.tags) in
          let once : count_by (bears k) t.tags + one (at t.links k) + one (at t.requeued k) ≡ one (at t.requests k) = w.placed.once k in
          elim (cases_lt 0 (one (at t.links k))) [
            | inl h ↦ let link = some_of (at t.links k) (omega (arith, h, one-le (at t.links k))) in Has-left s (m.queue seat ++ m.requeued) flying (Has-left s (m.queue seat) m.requeued (in_queue link.0 link.1))
            | inr no_link ↦ elim (cases_lt 0 (one (at t.requeued k))) [
              | inl h ↦
                  let link = some_of (at t.requeued k) (omega (arith, h, one-le (at t.requeued k))) in
                  Has-left s (m.queue seat ++ m.requeued) flying (Has-right s (m.queue seat) m.requeued (in_requeued link.0 link.1))
              | inr no_again ↦
                  Has-right s (m.queue seat ++ m.requeued) flying (in_flying (omega (arith, once, no_link, no_again, ap one here)))
            ]
          ]

    left_some : is_empty (left_of l (meaning t) seat entry.session) ≡ false
    left_some =
        let k : ℕ = named_by.0 in
        (elim (at t.requests k) as (λ o. at t.requests k ≡ o → is_empty (left_of l (meaning t) seat entry.session) ≡ false) [
          | None ↦ λ e. absurd (omega (arith, named_by.1, ap (by_request p) e))
          | Some r ↦ λ e. left_one k r e (request_left k r e named_by.1)
        ]) refl

  -- it is gone where its seat counts none
  pub gone_is : entry.leaving ≡ true → is_gone l (meaning t) seat ≡ nat_le entry.unreaped 0
  gone_is leaves =
      ap (λ o. option_map_or (λ (s : Seat). s.leaving && is_empty (left_of l (meaning t) seat s.session)) o false) sits
      ∙ ap (λ b. b && is_empty (left_of l (meaning t) seat entry.session)) leaves
      ∙ counted entry.unreaped refl where
        counted : (u : ℕ) → entry.unreaped ≡ u → is_empty (left_of l (meaning t) seat entry.session) ≡ nat_le u 0
        counted zero e = left_none e
        counted (suc u) e = left_some (omega (arith, e)) (w.seated.left seat entry sits leaves) ∙ sym (lt-leb (suc u) 0 (omega arith))
