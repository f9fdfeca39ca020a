-- A machine before its first step.
use Rattle.std.proofs.Common.{◌≡◌, ℕ, zero, suc, ◌+◌, ◌*◌, ◌<◌, ◌≤◌, ◌^◌, List, [], Option, Some, None, replicate, drop, get_or, ◌++◌, ◌∷◌, nat_lt, Bool, true, false, sum_by, count_by, cond, is_some, map, mul-zero, refl, sym, ap, ◌∙◌, subst, arith, All, lt-ltb, le-ltb, ◌-◌, inl, inr}
use Rattle.std.proofs.lemmas.List.{length-replicate, append-nil}
use Rattle.std.proofs.lemmas.Bool.{cases_lt, cond-true, cond-false}
use Rattle.std.proofs.lemmas.List.Folds.{sum_by-replicate}
use Rattle.std.proofs.lemmas.List.Sums.{sum_by-take-le, sum_by-take-drop}
use Rattle.std.proofs.lemmas.List.Elements.{All-nil}
use Rattle.std.specs.List.{filter_map}
use Rattle.std.specs.Option.{option_map_or}
use Rattle.request_pool.specs.Slots.{seat_slots}
use Rattle.dispatch_core.proofs.Queues.{no_flight}
use Rattle.std.proofs.Math.Path.{fun_ext}
use Rattle.std.specs.FinMap as map
use Rattle.arrayvec.specs.ArrayVec.{ArrayVec}
use Rattle.dispatch_core.proofs.Words.{Bio, Request, Issue, Link, placed, Seat, empty_tables, empty_service, Limits, opening, opening_bfq, Member, bios_at, Bfq, bfq_of, meaning, outbox_at, whole_at, at, one, times, named, bears, IsCompleted, WellFormed, Ruled, Classes, same_times, time_of}
use Rattle.sector_core.specs.declared.class.Class.{Class}
use Rattle.change_record.specs.declared.change.Making.{Making}
use Rattle.bfq_select.specs.Service.{IsBounded}
use Rattle.dispatch_core.specs.WellFormed.{taken}
use Rattle.class_laws.proofs.Times.{same_most}

at-replicate : {A : Type 0} (n k : ℕ) → at (replicate {A = Option A} n None) k ≡ None
at-replicate zero k = refl
at-replicate (suc n) zero = refl
at-replicate (suc n) (suc k) = at-replicate n k

outbox-replicate : (n k : ℕ) → outbox_at (replicate n (record { items = [] })) k ≡ []
outbox-replicate zero k = refl
outbox-replicate (suc n) zero = refl
outbox-replicate (suc n) (suc k) = outbox-replicate n k

placed-replicate : (n seat base : ℕ) → placed seat base (replicate n None) ≡ []
placed-replicate zero seat base = refl
placed-replicate (suc n) seat base = placed-replicate n seat (base + 1)

none_taken : (A : Type 0) (n : ℕ) → taken (replicate {A = Option A} n None) ≡ 0
none_taken A n = sum_by-replicate (λ (o : Option A). cond (is_some o) 1 0) n None ∙ mul-zero n

-- no slot of a seat is taken
seat_empty : (k : ℕ) → taken (seat_slots k (replicate {A = Option Bio} 512 None)) ≡ 0
seat_empty k =
    let f : Option Bio → ℕ = λ o. cond (is_some o) 1 0 in
    let whole : sum_by f (replicate 512 None) ≡ 0 = none_taken Bio 512 in
    omega (arith, whole, sum_by-take-le f (drop (32 * k) (replicate 512 None)) 32, sum_by-take-drop f (replicate 512 None) (32 * k))

none_some : {A : Type 0} (o : Option A) (a : A) → o ≡ None → o ≡ Some a → ⊥
none_some o a e f = cc

queue_empty : (making : Making) (k : ℕ) → (meaning (empty_tables making)).queue k ≡ []
queue_empty making k = ap (λ p. filter_map (whole_at (empty_tables making).requests (empty_tables making).bios) (map (λ e. e.1) p)) (placed-replicate making.requests k 0)

requeued_empty : (making : Making) → (meaning (empty_tables making)).requeued ≡ []
requeued_empty making = ap (λ p. filter_map (whole_at (empty_tables making).requests (empty_tables making).bios) (map (λ e. e.1) p)) (placed-replicate making.requests 0 0)

outbox_empty : (making : Making) (k : ℕ) → (meaning (empty_tables making)).outbox k ≡ []
outbox_empty making k = ap (bios_at (empty_tables making).bios) (outbox-replicate 16 k)

flight_none : (making : Making) (k : ℕ) → (meaning (empty_tables making)).flight k ≡ None
flight_none making k = no_flight (empty_tables making) k (at-replicate making.tags k)

-- of a table with one value at all its places
inside : {A : Type 0} (n : ℕ) (x d : A) (ys : List A) (k : ℕ) → k < n → get_or (replicate n x ++ ys) k d ≡ x
inside zero x d ys k h = absurd (omega arith)
inside (suc n) x d ys zero h = refl
inside (suc n) x d ys (suc k) h = inside n x d ys k (omega arith)

-- past them stands what comes next
beyond : {A : Type 0} (n : ℕ) (x d : A) (ys : List A) (k : ℕ) → get_or (replicate n x ++ ys) (n + k) d ≡ get_or ys k d
beyond zero x d ys k = let e : 0 + k ≡ k = omega arith in ap (λ j. get_or ys j d) e
beyond (suc n) x d ys k = let e : suc n + k ≡ suc (n + k) = omega arith in ap (λ j. get_or (x ∷ (replicate n x ++ ys)) j d) e ∙ beyond n x d ys k

get-replicate_then : {A : Type 0} (n : ℕ) (x d : A) (ys : List A) (k : ℕ) → get_or (replicate n x ++ ys) k d ≡ cond (nat_lt k n) x (get_or ys (k - n) d)
get-replicate_then n x d ys k = elim (cases_lt k n) [
  | inl h ↦ inside n x d ys k h ∙ sym (cond-true (nat_lt k n) x (get_or ys (k - n) d) (lt-ltb k n h))
  | inr h ↦
      let e : k ≡ n + (k - n) = omega arith in
      ap (λ j. get_or (replicate n x ++ ys) j d) e ∙ beyond n x d ys (k - n) ∙ sym (cond-false (nat_lt k n) x (get_or ys (k - n) d) (le-ltb k n h))
]

get-replicate : {A : Type 0} (n : ℕ) (x d : A) (k : ℕ) → get_or (replicate n x) k d ≡ cond (nat_lt k n) x d
get-replicate n x d k = ap (λ l. get_or l k d) (sym (append-nil (replicate n x))) ∙ get-replicate_then n x d [] k

-- of two such tables, one after the other
get-replicate_two : {A : Type 0} (n m : ℕ) (x y d : A) (k : ℕ) → get_or (replicate n x ++ replicate m y) k d ≡ cond (nat_lt k n) x (cond (nat_lt k (n + m)) y d)
get-replicate_two n m x y d k =
    get-replicate_then n x d (replicate m y) k ∙ ap (cond (nat_lt k n) x) (get-replicate m y d (k - n))
    ∙ elim (cases_lt k n) [
      | inl h ↦ cond-true (nat_lt k n) x _ (lt-ltb k n h) ∙ sym (cond-true (nat_lt k n) x _ (lt-ltb k n h))
      | inr h ↦ ap (λ b. cond (nat_lt k n) x (cond b y d)) (shifted k n m h)
    ]
  where
    shifted : (k n m : ℕ) → n ≤ k → nat_lt (k - n) m ≡ nat_lt k (n + m)
    shifted k n m h = elim (cases_lt (k - n) m) [
      | inl g ↦ lt-ltb (k - n) m g ∙ sym (lt-ltb k (n + m) (omega arith))
      | inr g ↦ le-ltb (k - n) m g ∙ sym (le-ltb k (n + m) (omega arith))
    ]

-- what such a machine is made for
abbrev pub for_limits : Limits → Making
for_limits l = record { requests = l.requests; tags = l.tags; scheduler = l.scheduler; first_budget = l.first_budget; max_budget = l.max_budget; first_vtime = l.first_vtime }

-- where the heads are
heads_zero : (k : ℕ) → get_or {A = ℕ} (replicate 16 0) k 0 ≡ 0
heads_zero k = get-replicate {A = ℕ} 16 0 0 k ∙ same (nat_lt k 16) where
  same : (b : Bool) → cond {A = ℕ} b 0 0 ≡ 0
  same true = refl
  same false = refl

weights_one : (k : ℕ) → get_or {A = ℕ} (replicate 48 1) k 1 ≡ 1
weights_one k = get-replicate {A = ℕ} 48 1 1 k ∙ same (nat_lt k 48) where
  same : (b : Bool) → cond {A = ℕ} b 1 1 ≡ 1
  same true = refl
  same false = refl

bfq_opening : (l : Limits) → bfq_of (empty_tables (for_limits l)) ≡ opening_bfq l
bfq_opening l i = record {
  parent = fun_ext {f = (bfq_of (empty_tables (for_limits l))).parent} {g = λ _. None} (λ k. at-replicate {A = ℕ} 48 k) i;
  service = fun_ext {f = (bfq_of (empty_tables (for_limits l))).service} {g = (opening_bfq l).service} (λ k. get-replicate 32 (empty_service l.first_vtime) (record { vtimes = same_times 0; members = [] }) k) i;
  pending = fun_ext {f = (bfq_of (empty_tables (for_limits l))).pending} {g = λ _. 1} weights_one i;
  budget = fun_ext {f = (bfq_of (empty_tables (for_limits l))).budget} {g = (opening_bfq l).budget} (λ k. get-replicate_two 16 32 l.first_budget l.max_budget 256 k) i;
  in_service = None;
}

pub opening_is : (l : Limits) → meaning (empty_tables (for_limits l)) ≡ opening l
opening_is l i =
    let t = empty_tables (for_limits l) in
    record {
      overlay = map.empty;
      seat = fun_ext {f = (meaning t).seat} {g = λ _. None} (λ k. at-replicate {A = Seat} 16 k) i;
      queue = fun_ext {f = (meaning t).queue} {g = λ _. []} (queue_empty (for_limits l)) i;
      requeued = requeued_empty (for_limits l) i;
      outbox = fun_ext {f = (meaning t).outbox} {g = λ _. []} (outbox_empty (for_limits l)) i;
      flight = fun_ext {f = (meaning t).flight} {g = λ _. None} (flight_none (for_limits l)) i;
      frozen = false;
      served = 15;
      head = fun_ext {f = (meaning t).head} {g = λ _. 0} heads_zero i;
      bfq = bfq_opening l i;
      scheduler = l.scheduler;
    }

named_none : (making : Making) (slot : ℕ) → named (empty_tables making) slot ≡ 0
named_none making slot =
    let f : Option Request → ℕ = λ request. option_map_or (λ r. times slot r.bios.items) request 0 in
    let g : ArrayVec ℕ → ℕ = λ outbox. times slot outbox.items in
    omega (arith, sum_by-replicate f making.requests None, sum_by-replicate g 16 (record { items = [] }), mul-zero making.requests)

borne_none : (making : Making) (slot : ℕ) → count_by (bears slot) (replicate making.tags None) + one (at (replicate {A = Option Link} making.requests None) slot) + one (at (replicate {A = Option Link} making.requests None) slot) ≡ 0
borne_none making slot =
    let f : Option Issue → ℕ = λ o. cond (bears slot o) 1 0 in
    omega (arith, sum_by-replicate f making.tags None, mul-zero making.tags, ap one (at-replicate {A = Link} making.requests slot))

both_none : (making : Making) → taken (replicate {A = Option Link} making.requests None) + taken (replicate {A = Option Issue} making.tags None) + taken (replicate {A = Option Link} making.requests None) ≡ 0
both_none making = omega (arith, none_taken Link making.requests, none_taken Issue making.tags)

-- the budgets of a new machine are within their limits
module _ (l : Limits) (least : 256 ≤ l.first_budget) (first : l.first_budget ≤ l.max_budget) (most : l.max_budget ≤ 65536) where
  least_budgets : (k : ℕ) → 256 ≤ (opening_bfq l).budget k
  least_budgets k = elim (nat_lt k 16) as (λ b. 256 ≤ cond b l.first_budget (cond (nat_lt k 48) l.max_budget 256)) [
    | true ↦ least
    | false ↦ elim (nat_lt k 48) as (λ b. 256 ≤ cond b l.max_budget 256) [ true ↦ omega arith | false ↦ omega arith ]
  ]

  most_budgets : (k : ℕ) → (opening_bfq l).budget k ≤ 65536
  most_budgets k = elim (nat_lt k 16) as (λ b. cond b l.first_budget (cond (nat_lt k 48) l.max_budget 256) ≤ 65536) [
    | true ↦ omega arith
    | false ↦ elim (nat_lt k 48) as (λ b. cond b l.max_budget 256 ≤ 65536) [ true ↦ omega arith | false ↦ omega arith ]
  ]

-- the times of a new machine are within their limits, and there is no member
first_times : (l : Limits) → l.first_vtime ≤ 2 ^ 62 → (k : ℕ) (d : Class) → time_of ((opening_bfq l).service k).vtimes d ≤ 2 ^ 62
first_times l h k d = elim (nat_lt k 32) as (λ b. (let s : Classes = cond b (empty_service l.first_vtime) (record { vtimes = same_times 0; members = [] }) in time_of s.vtimes d) ≤ 2 ^ 62) [ true ↦ same_most l.first_vtime (2 ^ 62) h d | false ↦ same_most 0 (2 ^ 62) (omega arith) d ]

no_member : (l : Limits) (k e : ℕ) (m : Member) → get_or ((opening_bfq l).service k).members e None ≡ Some m → ⊥
no_member l k e m = elim (nat_lt k 32) as (λ b. get_or (let s : Classes = cond b (empty_service l.first_vtime) (record { vtimes = same_times 0; members = [] }) in s.members) e None ≡ Some m → ⊥) [
  | true ↦ λ h. none_some _ m (at-replicate {A = Member} 48 e) h
  | false ↦ λ h. cc
]

ruled_opening : (l : Limits) → l.first_vtime ≤ 2 ^ 62 → 256 ≤ l.first_budget → l.first_budget ≤ l.max_budget → l.max_budget ≤ 65536 → Ruled l (empty_tables (for_limits l))
ruled_opening l vtime least first most =
    let P : Bfq → Type 0 = λ b. IsBounded b in
    let bounded : IsBounded (opening_bfq l) = record {
      vtimes = first_times l vtime;
      starts = λ g e m h. absurd (no_member l g e m h);
      finishes = λ g e m h. absurd (no_member l g e m h);
      least_budgets = least_budgets l least first most;
      most_budgets = most_budgets l least first most;
      served = λ slot h. absurd cc;
    } in
    record {
      heads = refl;
      sized = record { trees = refl; parents = refl; weights = refl; budgets = refl; groups = λ e g h. absurd (none_some _ g (at-replicate {A = ℕ} 48 e) h); seat = λ slot h. absurd cc };
      bounded = subst P (sym (bfq_opening l)) bounded;
      first_vtime = vtime;
      least_budget = least;
      first_budget = first;
      most_budget = most;
    }

pub opening-well : (l : Limits) → l.sectors < 2 ^ 55 → l.tags ≤ 255 → l.requests < 2 ^ 16 → l.first_vtime ≤ 2 ^ 62 → 256 ≤ l.first_budget → l.first_budget ≤ l.max_budget → l.max_budget ≤ 65536
    → WellFormed l 1 (empty_tables (for_limits l))
opening-well l small few short vtime least first most = let making = for_limits l in record {
  sized = record {
    requests = length-replicate making.requests None;
    bios = refl;
    tags = length-replicate making.tags None;
    links = length-replicate making.requests None;
    requeued = length-replicate making.requests None;
    outboxes = refl;
    seats = refl;
    few_tags = few;
    few_requests = short;
    small_image = small;
  };
  seated = record {
    early = λ k s e. absurd (none_some _ s (at-replicate 16 k) e);
    apart = λ j k a b e f same. absurd (none_some _ a (at-replicate 16 j) e);
    counted = λ k h. ap (λ o. option_map_or (λ (s : Seat). s.unreaped) o 0) (at-replicate {A = Seat} 16 k) ∙ sym (seat_empty k);
    left = λ k s e leaves. absurd (none_some _ s (at-replicate 16 k) e);
  };
  kept = record {
    bio = λ k b e. absurd (none_some _ b (at-replicate 512 k) e);
    request = λ k r e. absurd (none_some _ r (at-replicate making.requests k) e);
    outbox = λ seat h. let P : List ℕ → Type 0 = λ xs. All (IsCompleted (replicate 512 None) seat) xs in subst P (sym (outbox-replicate 16 seat)) (All-nil (IsCompleted (replicate 512 None) seat));
    once = λ slot. named_none making slot ∙ sym (ap one (at-replicate {A = Bio} 512 slot));
  };
  placed = record {
    link = λ k x e. absurd (none_some _ x (at-replicate making.requests k) e);
    apart = λ i j a b e f same. absurd (none_some _ a (at-replicate making.requests i) e);
    again = λ i j a b e f same. absurd (none_some _ a (at-replicate making.requests i) e);
    requeued = λ k x e. absurd (none_some _ x (at-replicate making.requests k) e);
    tag = λ k x e. absurd (none_some _ x (at-replicate making.tags k) e);
    once = λ slot. borne_none making slot ∙ sym (ap one (at-replicate {A = Request} making.requests slot));
    counted = none_taken Request making.requests ∙ sym (both_none making);
  };
  ruled = ruled_opening l vtime least first most;
  young = λ slot e. absurd cc;
  first = omega arith;
  served = omega arith;
}
