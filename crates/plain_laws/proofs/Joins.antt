-- Submit's queue: a bio joins the first request that passes the test, or becomes a new one.
use Rattle.std.proofs.Common.{true, false, Bool, ◌≡◌, ℕ, ◌+◌, ◌<◌, ◌≤◌, ◌==◌, ◌&&◌, nat_le, nat_lt, if◌then◌else◌, List, [], ◌∷◌, length, Option, Some, None, All, cond, sum_by, refl, subst, arith}
use Rattle.std.specs.List.{find}
use Rattle.std.specs.Option.{option_map, option_or}
use Rattle.std.proofs.lemmas.Bool.{and_parts, ltb-true, leb-true, eqb-true}
use Rattle.std.proofs.lemmas.List.Elements.{All-cons, All-head, All-tail, All-push}
use Rattle.std.proofs.lemmas.List.Sums.{sum_by-cons, sum_by_push}
use Rattle.sector_core.specs.declared.bio.BioFields.{BioFields as Bio}
use Rattle.sector_core.specs.declared.bio.Op.{Op}
use Rattle.sector_core.specs.declared.range.Range.{Range}
use Rattle.plain.specs.Machine.{WholeRequest}
use Rattle.plain.specs.declared.shape.Shape.{Shape}
use Rattle.plain.specs.Merge.{merge_of, joins_at, may_join, same_op, has_room, shape_of, starts_at, ends_at}
use Rattle.plain.specs.Requests.{size_of, shape}
use Rattle.plain.specs.Steps.Submit.{with_bio, change_first, queue_with}
use Rattle.plain_laws.proofs.Puts.{some_is}

-- what is found among those that pass one test, or else another, is found by its own
found_by : {A : Type 0} (p : Bool → A → Bool) (xs : List A) (found : A × Bool)
    → option_or (option_map (λ a. (a, false)) (find (p false) xs)) (option_map (λ a. (a, true)) (find (p true) xs)) ≡ Some found
    → find (p found.1) xs ≡ Some found.0
found_by {A} p xs found e =
    let Is : A × Bool → Type 0 = λ f. find (p f.1) xs ≡ Some f.0 in
    elim (find (p false) xs) as (λ o. find (p false) xs ≡ o → option_or (option_map (λ a. (a, false)) o) (option_map (λ a. (a, true)) (find (p true) xs)) ≡ Some found → Is found) [
      | Some a ↦ λ q back. subst Is (some_is (a, false) found back) q
      | None ↦ λ _ other. elim (find (p true) xs) as (λ o. find (p true) xs ≡ o → option_map (λ a. (a, true)) o ≡ Some found → Is found) [
        | Some a ↦ λ q front. subst Is (some_is (a, true) found front) q
        | None ↦ λ _ none. cc
      ] refl other
    ] refl e

-- one element changes, where one passes: a sum grows as that element does
sum_by-change_first : {A : Type 0} (passes : A → Bool) (change : A → A) (f : A → ℕ) (n : ℕ) (xs : List A) (x : A) → find passes xs ≡ Some x
    → ((y : A) → passes y ≡ true → f (change y) ≡ f y + n) → sum_by f (change_first passes change xs) ≡ sum_by f xs + n
sum_by-change_first passes change f n [] x found grows = cc
sum_by-change_first {A} passes change f n (y ∷ ys) x found grows =
    elim (passes y) as (λ b. passes y ≡ b → cond b (Some y) (find passes ys) ≡ Some x
    → sum_by f (cond b (change y ∷ ys) (y ∷ change_first passes change ys)) ≡ sum_by f (y ∷ ys) + n) [
      | true ↦ λ yes _. omega (arith, sum_by-cons f (change y) ys, sum_by-cons f y ys, grows y yes)
      | false ↦ λ _ later. omega (arith, sum_by-cons f y (change_first passes change ys), sum_by-cons f y ys, sum_by-change_first passes change f n ys x later grows)
    ] refl found

-- what the change keeps where the test passes holds of every element still
All-change_first : {A : Type 0} (P : A → Type 0) (passes : A → Bool) (change : A → A) (xs : List A)
    → ((y : A) → passes y ≡ true → P y → P (change y)) → All P xs → All P (change_first passes change xs)
All-change_first P passes change [] keeps h = h
All-change_first P passes change (y ∷ ys) keeps h =
    let here : P y = All-head P y ys h in
    let rest : All P ys = All-tail P y ys h in
    elim (passes y) as (λ b. passes y ≡ b → All P (cond b (change y ∷ ys) (y ∷ change_first passes change ys))) [
      | true ↦ λ yes. All-cons P (change y) ys (keeps y yes here) rest
      | false ↦ λ _. All-cons P y (change_first passes change ys) here (All-change_first P passes change ys keeps rest)
    ] refl

-- a queue with one more bio: what holds of a new request with it, and of each that it joins, holds of every request
pub All-queue_with : (P : WholeRequest → Type 0) (session : ℕ) (op : Op) (bio : Bio) (found : Option (WholeRequest × Bool)) (queue : List WholeRequest)
    → P (record { session = session; op = op; bios = bio ∷ [] })
    → ((front : Bool) (r : WholeRequest) → joins_at shape front session op bio.range r ≡ true → P r → P (with_bio front bio r))
    → All P queue → All P (queue_with session op bio found queue)
All-queue_with P session op bio None queue new joined h = All-push P queue (record { session = session; op = op; bios = bio ∷ [] }) h new
All-queue_with P session op bio (Some found) queue new joined h =
    All-change_first P (joins_at shape found.1 session op bio.range) (with_bio found.1 bio) queue (joined found.1) h

-- a sum over the requests grows as one request does: the one that is joined, or a new one
pub sum_by-queue_with : (f : WholeRequest → ℕ) (n session : ℕ) (op : Op) (bio : Bio) (found : Option (WholeRequest × Bool)) (queue : List WholeRequest)
    → merge_of shape queue session op bio.range ≡ found
    → f (record { session = session; op = op; bios = bio ∷ [] }) ≡ n
    → ((front : Bool) (r : WholeRequest) → joins_at shape front session op bio.range r ≡ true → f (with_bio front bio r) ≡ f r + n)
    → sum_by f (queue_with session op bio found queue) ≡ sum_by f queue + n
sum_by-queue_with f n session op bio None queue is new joined =
    omega (arith, new, sum_by_push f queue (record { session = session; op = op; bios = bio ∷ [] }))
sum_by-queue_with f n session op bio (Some found) queue is new joined =
    sum_by-change_first (joins_at shape found.1 session op bio.range) (with_bio found.1 bio) f n queue found.0
    (found_by (λ front. joins_at shape front session op bio.range) queue found is) (joined found.1)

-- what a bio joins is of its session and its operation and has room for it, and starts where the bio ends, or ends where it starts
pub joined_is : (front : Bool) (session : ℕ) (op : Op) (range : Range) (r : WholeRequest) → joins_at shape front session op range r ≡ true
    → (r.session ≡ session) × (size_of r.bios + range.count ≤ 256) × (length r.bios < 32)
    × ((if front then starts_at range (shape_of r.session r.op r.bios) else ends_at range (shape_of r.session r.op r.bios)) ≡ true)
    × (same_op r.op op ≡ true)
joined_is front session op range r joined =
    let s : Shape = shape_of r.session r.op r.bios in
    let edge : Bool = if front then starts_at range s else ends_at range s in
    let a : (may_join session op range s ≡ true) × (edge ≡ true) = and_parts (may_join session op range s) edge joined in
    let b : (((s.session == session) && same_op s.op op) ≡ true) × (has_room range s ≡ true) = and_parts ((s.session == session) && same_op s.op op) (has_room range s) a.0 in
    let c : ((s.session == session) ≡ true) × (same_op s.op op ≡ true) = and_parts (s.session == session) (same_op s.op op) b.0 in
    let d : (nat_le (s.size + range.count) 256 ≡ true) × (nat_lt s.bios 32 ≡ true) = and_parts (nat_le (s.size + range.count) 256) (nat_lt s.bios 32) b.1 in
    (eqb-true s.session session c.0, leb-true (s.size + range.count) 256 d.0, ltb-true s.bios 32 d.1, a.1, c.1)
