-- The dispatch list: what its links say of requests, and what is left of it where requests stay.
use Rattle.std.proofs.Common.{◌≡◌, ◌≢◌, ℕ, zero, suc, ◌+◌, ◌<◌, ◌≤◌, List, [], ◌∷◌, length, cond, Option, Some, None, true, is_some, IsSome, ◌==◌, count_by, refl, ap, ◌∙◌, arith, eq-eqb}
use Rattle.std.specs.List.{filter_map}
use Rattle.std.specs.Option.{option_map}
use Rattle.std.proofs.lemmas.Bool.{cond-true}
use Rattle.std.proofs.lemmas.List.Sums.{sum_by-cons, get_or-le-sum_by}
use Rattle.dispatch_core.proofs.Words.{Issue, Request, Link, placed, insert_in, queue_slots, Tables, meaning, whole_at, at, one, bears, Placed, IsRequeued}
use Rattle.dispatch_core.specs.WellFormed.{taken}
use Rattle.dispatch_core.proofs.QueueLists.{within_of, same_queue, queue_length}
use Rattle.dispatch_core.proofs.Counts.{one-le, length-insert_in}
use Rattle.dispatch_core.proofs.QueueFacts.{whole_with, some_of, none_of, borne}

-- a link stays one of the dispatch list while its slot has a request
pub requeued_still : (n : ℕ) (t u : Tables) (slot : ℕ) (link : Link) → IsRequeued n t slot link → IsSome (at u.requests slot) → IsRequeued (n + 1) u slot link
requeued_still n t u slot link q here =
    let early : link.serial < n = q.early in
    record { early = omega (arith, early); number = q.number; here = here }

-- a slot of the dispatch list has a whole request
pub requeued_some : (n : ℕ) (t : Tables) → Placed n t → (slot : ℕ) (link : Link) → at t.requeued slot ≡ Some link → IsSome (whole_at t.requests t.bios slot)
requeued_some n t p slot link e =
    let found : (r : Request) × (at t.requests slot ≡ Some r) = some_of (at t.requests slot) (p.requeued slot link e).here in
    ap (λ o. is_some (option_map (whole_with t.bios) o)) found.1

-- the dispatch list means what it meant, where the requests of its slots stay
pub requeued_same : (t u : Tables) → u.requeued ≡ t.requeued
    → ((slot : ℕ) (link : Link) → at t.requeued slot ≡ Some link → whole_at u.requests u.bios slot ≡ whole_at t.requests t.bios slot)
    → (meaning u).requeued ≡ (meaning t).requeued
requeued_same t u same h =
    ap (λ links. filter_map (whole_at u.requests u.bios) (queue_slots 0 links)) same
    ∙ same_queue (whole_at u.requests u.bios) (whole_at t.requests t.bios) 0 t.requeued (λ k m e _. h k m e)

-- links of one number are all in its queue
all_placed : (base : ℕ) (links : List (Option Link)) → ((k : ℕ) (l : Link) → at links k ≡ Some l → l.seat ≡ 0) → length (placed 0 base links) ≡ taken links
all_placed base [] h = refl
all_placed base (None ∷ links) h = all_placed (base + 1) links (λ k l e. h (suc k) l e)
all_placed base (Some l ∷ links) h =
    let ih : length (placed 0 (base + 1) links) ≡ taken links = all_placed (base + 1) links (λ k m e. h (suc k) m e) in
    let of : (l.seat == 0) ≡ true = eq-eqb l.seat 0 (h zero l refl) in
    let put : length (placed 0 base (Some l ∷ links)) ≡ length (insert_in (l.serial, base) (placed 0 (base + 1) links)) =
    ap (λ b. length (cond b (insert_in (l.serial, base) (placed 0 (base + 1) links)) (placed 0 (base + 1) links))) of in
    omega (arith, put, ih, length-insert_in (l.serial, base) (placed 0 (base + 1) links), sum_by-cons (λ (v : Option Link). cond (is_some v) 1 0) (Some l) links)

-- the dispatch list is as long as its links are many
pub requeued_is : (n : ℕ) (t : Tables) → Placed n t → length (meaning t).requeued ≡ taken t.requeued
requeued_is n t p =
    queue_length (whole_at t.requests t.bios) 0 t.requeued (requeued_some n t p)
    ∙ all_placed 0 t.requeued (λ k l e. (p.requeued k l e).number)

-- a slot whose request is free is not in the dispatch list
pub unrequeued_free : (n : ℕ) (t : Tables) (slot : ℕ) → Placed n t → at t.requests slot ≡ None → at t.requeued slot ≡ None
unrequeued_free n t slot p free =
    let e : one (at t.requests slot) ≡ 0 = ap one free in
    none_of (at t.requeued slot) (omega (arith, p.once slot, e))

-- nor is one that is queued
pub unrequeued_linked : (n : ℕ) (t : Tables) (slot : ℕ) (link : Link) → Placed n t → at t.links slot ≡ Some link → at t.requeued slot ≡ None
unrequeued_linked n t slot link p linked =
    let e : one (at t.links slot) ≡ 1 = ap one linked in
    none_of (at t.requeued slot) (omega (arith, p.once slot, e, one-le (at t.requests slot)))

-- nor is one that a tag bears
pub unrequeued_borne : (n : ℕ) (t : Tables) (tag : ℕ) (issue : Issue) → Placed n t → at t.tags tag ≡ Some issue → at t.requeued issue.slot ≡ None
unrequeued_borne n t tag issue p here =
    let some : borne issue.slot (at t.tags tag) ≤ count_by (bears issue.slot) t.tags = get_or-le-sum_by (borne issue.slot) t.tags tag None (within_of t.tags tag issue here) in
    let e : borne issue.slot (at t.tags tag) ≡ 1 = ap (borne issue.slot) here ∙ cond-true (issue.slot == issue.slot) 1 0 (eq-eqb issue.slot issue.slot refl) in
    none_of (at t.requeued issue.slot) (omega (arith, some, e, one-le (at t.requests issue.slot), p.once issue.slot))

-- two slots, of which one alone is in the dispatch list, differ
pub requeued_apart : (t : Tables) (slot k : ℕ) (link : Link) → at t.requeued slot ≡ None → at t.requeued k ≡ Some link → k ≢ slot
requeued_apart t slot k link none e = λ f. let g : at t.requeued k ≡ None = ap (at t.requeued) f ∙ none in cc
