-- What a step leaves of seats, bios, requests and outboxes.
use Rattle.std.proofs.Common.{◌≡◌, inl, inr, ℕ, ◌+◌, ◌<◌, ◌≤◌, List, [], cond, true, false, Option, Some, None, length, set, refl, sym, ap, ◌∙◌, subst, arith}
use Rattle.std.specs.Prelude.{All, is_some, sum_by}
use Rattle.std.specs.Option.{option_map_or}
use Rattle.std.proofs.Math.Path.{fun_ext}
use Rattle.std.proofs.lemmas.Bool.{cases_eq, eq-eqb, ne_eqb}
use Rattle.std.proofs.lemmas.List.{get_or-set_same, get_or-set_other, get_or_past}
use Rattle.std.proofs.lemmas.List.Sums.{sum_by-set, get_or-le-sum_by}
use Rattle.arrayvec.specs.ArrayVec.{ArrayVec}
use Rattle.dispatch_core.proofs.Words.{Op, Bio, Request, Seat, Tables, outbox_at, put, Limits, at, times, IsSlotOf, IsBio, IsWaiting, IsCompleted, IsOwned}
use Rattle.dispatch_core.proofs.Times.{set_cases, at_within}

-- a table with something put at one place, as a function
pub put-set : {A : Type 0} (xs : List (Option A)) (k : ℕ) (v : Option A) → k < length xs → (λ (n : ℕ). at (set xs k v) n) ≡ put (at xs) k v
put-set xs k v within = fun_ext (λ n. elim (set_cases xs k n v within) [
  | inl here ↦ here.1 ∙ sym (ap (λ b. cond b v (at xs n)) (eq-eqb n k here.0))
  | inr other ↦ other.1 ∙ sym (ap (λ b. cond b v (at xs n)) (ne_eqb n k other.0))
])

-- two functions that agree at one number and away from it, where the second has another value put there
pub put_from : {A : Type 0} (f g : ℕ → A) (k : ℕ) (v : A) → g k ≡ v → ((n : ℕ) → (n ≡ k → ⊥) → g n ≡ f n) → g ≡ put f k v
put_from f g k v here away = fun_ext (λ n. elim (cases_eq n k) [
  | inl e ↦ ap g e ∙ here ∙ sym (ap (λ b. cond b v (f n)) (eq-eqb n k e))
  | inr other ↦ away n other ∙ sym (ap (λ b. cond b v (f n)) (ne_eqb n k other))
])

-- an outbox with nothing in it
abbrev no_outbox : ArrayVec ℕ
no_outbox = record { items = [] }

-- an outbox that was put at a seat is there
pub outbox_same : (outboxes : List (ArrayVec ℕ)) (seat : ℕ) (xs : List ℕ) → seat < length outboxes → outbox_at (set outboxes seat (record { items = xs })) seat ≡ xs
outbox_same outboxes seat xs within = ap (λ (o : ArrayVec ℕ). o.items) (get_or-set_same outboxes seat (record { items = xs }) no_outbox within)

-- and the others stay
pub outbox_other : (outboxes : List (ArrayVec ℕ)) (seat k : ℕ) (xs : List ℕ) → (k ≡ seat → ⊥) → outbox_at (set outboxes seat (record { items = xs })) k ≡ outbox_at outboxes k
outbox_other outboxes seat k xs apart = ap (λ (o : ArrayVec ℕ). o.items) (get_or-set_other outboxes seat k (record { items = xs }) no_outbox apart)

-- past the last seat there is none
pub outbox_past : (outboxes : List (ArrayVec ℕ)) (seat : ℕ) → length outboxes ≤ seat → outbox_at outboxes seat ≡ []
outbox_past outboxes seat past = ap (λ (o : ArrayVec ℕ). o.items) (get_or_past outboxes seat no_outbox past)

-- a slot belongs to one seat
pub one_seat : (j k slot : ℕ) → IsSlotOf j slot → IsSlotOf k slot → j ≡ k
one_seat j k slot a b = omega (arith, a.least, a.most, b.least, b.most)

-- waiting and completed bios stand where they stood, where another slot was written
pub waiting_set : (bios : List (Option Bio)) (op : Op) (seat slot place : ℕ) (v : Option Bio) → (slot ≡ place → ⊥) → IsWaiting bios op seat slot → IsWaiting (set bios place v) op seat slot
waiting_set bios op seat slot place v apart h =
    record { slot_of = h.slot_of; bio = h.bio; here = get_or-set_other bios place slot v None apart ∙ h.here; waits = h.waits; payload = h.payload }

-- so with a completed bio
pub completed_set : (bios : List (Option Bio)) (seat slot place : ℕ) (v : Option Bio) → (slot ≡ place → ⊥) → IsCompleted bios seat slot → IsCompleted (set bios place v) seat slot
completed_set bios seat slot place v apart h =
    record { slot_of = h.slot_of; bio = h.bio; here = get_or-set_other bios place slot v None apart ∙ h.here; done = h.done }

-- and where the slot has what it had
pub waiting_same : (bios now : List (Option Bio)) (op : Op) (seat slot : ℕ) → at now slot ≡ at bios slot → IsWaiting bios op seat slot → IsWaiting now op seat slot
waiting_same bios now op seat slot same_here h =
    record { slot_of = h.slot_of; bio = h.bio; here = same_here ∙ h.here; waits = h.waits; payload = h.payload }

-- so with a completed bio
pub completed_same : (bios now : List (Option Bio)) (seat slot : ℕ) → at now slot ≡ at bios slot → IsCompleted bios seat slot → IsCompleted now seat slot
completed_same bios now seat slot same_here h =
    record { slot_of = h.slot_of; bio = h.bio; here = same_here ∙ h.here; done = h.done }

-- a slot with a waiting bio is none with a completed bio
pub waiting_apart : (bios : List (Option Bio)) (op : Op) (seat other slot place : ℕ) → IsWaiting bios op seat slot → IsCompleted bios other place → slot ≡ place → ⊥
waiting_apart bios op seat other slot place a b e =
    let both : Some a.bio ≡ Some b.bio = sym a.here ∙ ap (at bios) e ∙ b.here in
    let result : a.bio.result ≡ b.bio.result = cc in
    let none : false ≡ true = ap is_some (sym a.waits ∙ result) ∙ b.done in
    absurd cc

-- a slot with a bio is no free slot
pub free_apart : (bios : List (Option Bio)) (slot place : ℕ) (bio : Bio) → at bios slot ≡ Some bio → at bios place ≡ None → slot ≡ place → ⊥
free_apart bios slot place bio a b e = let both : Some bio ≡ None = sym a ∙ ap (at bios) e ∙ b in absurd cc

-- every bio of a table is within the image, after one was put in
pub IsBio_set : (l : Limits) (bios : List (Option Bio)) (place : ℕ) (b : Bio) → place < length bios → IsBio l b → ((slot : ℕ) (c : Bio) → at bios slot ≡ Some c → IsBio l c)
    → (slot : ℕ) (c : Bio) → at (set bios place (Some b)) slot ≡ Some c → IsBio l c
IsBio_set l bios place b within is all slot c h = elim (set_cases bios place slot (Some b) within) [
  | inl here ↦ let both : Some b ≡ Some c = sym here.1 ∙ h in let e : b ≡ c = cc in subst (IsBio l) e is
  | inr other ↦ all slot c (sym other.1 ∙ h)
]

-- and after one was taken out
pub IsBio_cleared : (l : Limits) (bios : List (Option Bio)) (place : ℕ) → place < length bios → ((slot : ℕ) (c : Bio) → at bios slot ≡ Some c → IsBio l c)
    → (slot : ℕ) (c : Bio) → at (set bios place None) slot ≡ Some c → IsBio l c
IsBio_cleared l bios place within all slot c h = elim (set_cases bios place slot None within) [
  | inl here ↦ let both : None ≡ Some c = sym here.1 ∙ h in absurd cc
  | inr other ↦ all slot c (sym other.1 ∙ h)
]

-- each session keeps its seat
abbrev pub KeepsSessions : List (Option Seat) → List (Option Seat) → Type 0
KeepsSessions seats now = (k : ℕ) (e : Seat) → at seats k ≡ Some e → (f : Seat) × (at now k ≡ Some f) × (f.session ≡ e.session)

-- they do where no seat changes
pub sessions_same : (seats : List (Option Seat)) → KeepsSessions seats seats
sessions_same seats k e h = (e, h, refl)

-- where an entry is replaced by one of the same session
pub sessions_set : (seats : List (Option Seat)) (seat : ℕ) (entry v : Seat) → at seats seat ≡ Some entry → v.session ≡ entry.session → KeepsSessions seats (set seats seat (Some v))
sessions_set seats seat entry v sits same_session k e h = elim (set_cases seats seat k (Some v) (at_within seats seat entry sits)) [
  | inl here ↦
      let both : Some e ≡ Some entry = sym h ∙ ap (at seats) here.0 ∙ sits in
      let eq : entry ≡ e = cc in
      (v, here.1, same_session ∙ ap (λ (s : Seat). s.session) eq)
  | inr other ↦ (e, other.1 ∙ h, refl)
]

-- and where a free seat is taken
pub sessions_free : (seats : List (Option Seat)) (seat : ℕ) (v : Seat) → seat < length seats → at seats seat ≡ None → KeepsSessions seats (set seats seat (Some v))
sessions_free seats seat v within free k e h = elim (set_cases seats seat k (Some v) within) [
  | inl here ↦ let both : Some e ≡ None = sym h ∙ ap (at seats) here.0 ∙ free in absurd cc
  | inr other ↦ (e, other.1 ∙ h, refl)
]

-- sessions are earlier serials, also after one was seated
pub early_set : (n : ℕ) (seats : List (Option Seat)) (seat : ℕ) (v : Seat) → seat < length seats → v.session < n + 1 → ((k : ℕ) (s : Seat) → at seats k ≡ Some s → s.session < n)
    → (k : ℕ) (s : Seat) → at (set seats seat (Some v)) k ≡ Some s → s.session < n + 1
early_set n seats seat v within new all k s h = elim (set_cases seats seat k (Some v) within) [
  | inl here ↦ let both : Some v ≡ Some s = sym here.1 ∙ h in let e : v ≡ s = cc in let session : v.session ≡ s.session = ap (λ (s : Seat). s.session) e in omega arith
  | inr other ↦ let old = all k s (sym other.1 ∙ h) in omega arith
]

-- each session is at one seat, also after one was seated
pub apart_set : (seats : List (Option Seat)) (seat : ℕ) (v : Seat) → seat < length seats
    → ((j k : ℕ) (a b : Seat) → at seats j ≡ Some a → at seats k ≡ Some b → a.session ≡ b.session → j ≡ k)
    → ((j : ℕ) (a : Seat) → at seats j ≡ Some a → a.session ≡ v.session → j ≡ seat)
    → (j k : ℕ) (a b : Seat) → at (set seats seat (Some v)) j ≡ Some a → at (set seats seat (Some v)) k ≡ Some b → a.session ≡ b.session → j ≡ k
apart_set seats seat v within apart new j k a b p q e = elim (set_cases seats seat j (Some v) within) [
  | inl hj ↦
      let vj : Some v ≡ Some a = sym hj.1 ∙ p in
      let ej : v ≡ a = cc in
      elim (set_cases seats seat k (Some v) within) [
        | inl hk ↦ hj.0 ∙ sym hk.0
        | inr ok ↦ hj.0 ∙ sym (new k b (sym ok.1 ∙ q) (sym e ∙ ap (λ (s : Seat). s.session) (sym ej)))
      ]
  | inr oj ↦ elim (set_cases seats seat k (Some v) within) [
    | inl hk ↦
        let vk : Some v ≡ Some b = sym hk.1 ∙ q in
        let ek : v ≡ b = cc in
        new j a (sym oj.1 ∙ p) (e ∙ ap (λ (s : Seat). s.session) (sym ek)) ∙ sym hk.0
    | inr ok ↦ apart j k a b (sym oj.1 ∙ p) (sym ok.1 ∙ q) e
  ]
]

-- a seat that is leaving has an empty outbox, also where another entry was written
pub left_set : (seats : List (Option Seat)) (outboxes : List (ArrayVec ℕ)) (seat : ℕ) (v : Seat) → seat < length seats → (v.leaving ≡ true → outbox_at outboxes seat ≡ [])
    → ((k : ℕ) (s : Seat) → at seats k ≡ Some s → s.leaving ≡ true → outbox_at outboxes k ≡ [])
    → (k : ℕ) (s : Seat) → at (set seats seat (Some v)) k ≡ Some s → s.leaving ≡ true → outbox_at outboxes k ≡ []
left_set seats outboxes seat v within new all k s h leaves = elim (set_cases seats seat k (Some v) within) [
  | inl here ↦
      let both : Some v ≡ Some s = sym here.1 ∙ h in
      let e : v ≡ s = cc in
      ap (outbox_at outboxes) here.0 ∙ new (ap (λ (x : Seat). x.leaving) e ∙ leaves)
  | inr other ↦ all k s (sym other.1 ∙ h) leaves
]

-- a request's session still sits at its seat, and its bios still wait there
pub owned_by : (t u : Tables) (r : Request) → KeepsSessions t.seats u.seats
    → ((seat : ℕ) → All (IsWaiting t.bios r.op seat) r.bios.items → All (IsWaiting u.bios r.op seat) r.bios.items) → IsOwned t r → IsOwned u r
owned_by t u r sessions waits h =
    let now = sessions h.seat h.entry h.sits in record {
      seat = h.seat;
      entry = now.0;
      within = h.within;
      sits = now.1;
      session = now.2 ∙ h.session;
      bios = waits h.seat h.bios;
      some_bios = h.some_bios;
    }

-- how often one request names a slot
abbrev pub by_request : ℕ → Option Request → ℕ
by_request slot request = option_map_or (λ r. times slot r.bios.items) request 0

-- how often one outbox names a slot
abbrev pub by_outbox : ℕ → ArrayVec ℕ → ℕ
by_outbox slot outbox = times slot outbox.items

-- how often the requests name a slot, after one of them was written
pub requests_set : (slot : ℕ) (requests : List (Option Request)) (k : ℕ) (v : Option Request) → k < length requests
    → sum_by (by_request slot) (set requests k v) + by_request slot (at requests k) ≡ sum_by (by_request slot) requests + by_request slot v
requests_set slot requests k v within = sum_by-set (by_request slot) requests k v None within

-- how often the outboxes do, after one of them was written
pub outboxes_set : (slot : ℕ) (outboxes : List (ArrayVec ℕ)) (k : ℕ) (xs : List ℕ) → k < length outboxes
    → sum_by (by_outbox slot) (set outboxes k (record { items = xs })) + times slot (outbox_at outboxes k) ≡ sum_by (by_outbox slot) outboxes + times slot xs
outboxes_set slot outboxes k xs within = sum_by-set (by_outbox slot) outboxes k (record { items = xs }) no_outbox within

-- one outbox names a slot no more often than all
pub outbox_named : (slot : ℕ) (outboxes : List (ArrayVec ℕ)) (k : ℕ) → k < length outboxes → times slot (outbox_at outboxes k) ≤ sum_by (by_outbox slot) outboxes
outbox_named slot outboxes k within = get_or-le-sum_by (by_outbox slot) outboxes k no_outbox within

-- nor does one request
pub request_named : (slot : ℕ) (requests : List (Option Request)) (k : ℕ) (r : Request) → at requests k ≡ Some r → times slot r.bios.items ≤ sum_by (by_request slot) requests
request_named slot requests k r h =
    let le = get_or-le-sum_by (by_request slot) requests k None (at_within requests k r h) in
    let e : by_request slot (at requests k) ≡ times slot r.bios.items = ap (by_request slot) h in
    omega arith

-- two requests name a slot as often as both together
pub requests_named : (slot : ℕ) (requests : List (Option Request)) (i j : ℕ) (a b : Request) → (j ≡ i → ⊥) → at requests i ≡ Some a → at requests j ≡ Some b
    → times slot a.bios.items + times slot b.bios.items ≤ sum_by (by_request slot) requests
requests_named slot requests i j a b apart p q =
    let sums : sum_by (by_request slot) (set requests i None) + by_request slot (at requests i) ≡ sum_by (by_request slot) requests + 0 =
    requests_set slot requests i None (at_within requests i a p) in
    let first : by_request slot (at requests i) ≡ times slot a.bios.items = ap (by_request slot) p in
    let second : times slot b.bios.items ≤ sum_by (by_request slot) (set requests i None) =
    request_named slot (set requests i None) j b (get_or-set_other requests i j None None apart ∙ q) in
    omega (arith, sums, first, second)
