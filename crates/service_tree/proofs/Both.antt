-- Both orders over one table of rows: what an exchange makes of them.
use Rattle.std.proofs.Common.{◌≡◌, ◌≢◌, ℕ, ◌+◌, ◌<◌, ◌≤◌, inl, inr, List, [], ◌∷◌, length, get_or, set, Option, None, Some, refl, ap, arith}
use Rattle.std.proofs.lemmas.Bool.{cases_lt}
use Rattle.augmented_tree.specs.Trees.{Entry, is_numbered}
use Rattle.plain.specs.declared.member.State.{State}
use Rattle.plain.specs.declared.member.State.TheVariants.{Idle, Active, Serving}
use Rattle.plain.specs.declared.member.Member.{Member}
use Rattle.service_tree.specs.declared.order.Orders.{Orders}
use Rattle.service_tree.specs.Orders.{IsRanked, active_of, active_order, brought_in, counted, exchanged, idle_of, idle_order, if_active, if_idle, left_out, share, without_active, without_member, also_active, with_member}
use Rattle.service_tree.proofs.Counts.{By, IsLight, counted-before, share-le, share-other}
use Rattle.service_tree.proofs.Changes.{Written, beside, joins, leaves, set_counts}

-- a member is in one order at most
share-apart : (i base : ℕ) (x : Option Member) → share (is_numbered i) base (active_of x) + share (is_numbered i) base (idle_of x) ≤ 1
share-apart i base None = omega arith
share-apart i base (Some m) = by_state m.state
  where
    by_state : (s : State) → share (is_numbered i) base (if_active s m) + share (is_numbered i) base (if_idle s m) ≤ 1
    by_state Idle = let h = share-le i base (if_idle Idle m) in omega (arith, h)
    by_state Active = let h = share-le i base (if_active Active m) in omega (arith, h)
    by_state Serving = omega arith

counted-apart : (i base : ℕ) (xs : List (Option Member)) → counted active_of (is_numbered i) base xs + counted idle_of (is_numbered i) base xs ≤ 1
counted-apart i base [] = omega arith
counted-apart i base (x ∷ xs) = elim (cases_lt i (base + 1)) as (λ _. counted active_of (is_numbered i) base (x ∷ xs) + counted idle_of (is_numbered i) base (x ∷ xs) ≤ 1) [
  | inl lt ↦ let a = counted-before active_of i (base + 1) xs lt in let b = counted-before idle_of i (base + 1) xs lt in let s = share-apart i base x in omega (arith, a, b, s)
  | inr ge ↦ let h = counted-apart i (base + 1) xs in
      let ne : base ≢ i = (λ same. let no : ⊥ = omega (arith, same, ge) in no) in
      let a = share-other i base (active_of x) ne in let b = share-other i base (idle_of x) ne in omega (arith, h, a, b)
]

-- without the member under a number there are no more than with one
fewer : (by : By) (f : Entry → ℕ) (ms : List (Option Member)) (n : ℕ) (w : Option Member) → by None ≡ None → n < length ms → counted by f 0 (set ms n None) ≤ counted by f 0 (set ms n w)
fewer by f ms n w none lt =
    let d = set_counts by f n ms None lt in let e = set_counts by f n ms w lt in
    let z : share f n (by None) ≡ 0 = ap (share f n) none in omega (arith, d, e, z)

fewer_now : (by : By) (f : Entry → ℕ) (ms : List (Option Member)) (n : ℕ) → by None ≡ None → n < length ms → counted by f 0 (set ms n None) ≤ counted by f 0 ms
fewer_now by f ms n none lt =
    let d = set_counts by f n ms None lt in
    let z : share f n (by None) ≡ 0 = ap (share f n) none in omega (arith, d, z)

-- both are orders of these members
pub record AreRanked (ms : List (Option Member)) (t : Orders) : Type 0 where
  pub active : IsRanked active_of ms (active_order t)
  pub idle : IsRanked idle_of ms (idle_order t)

without : (ms : List (Option Member)) (t : Orders) (n : ℕ) → AreRanked ms t → length ms ≡ 48 → IsLight active_of ms → IsLight idle_of ms → n < 48 → AreRanked (set ms n None) (without_member t n (get_or ms n None))
without ms t n k places light idle_light lt =
    let within : n < length ms = omega (arith, lt, places) in
    let none = set ms n None in
    let a = left_out (active_order t) n (active_of (get_or ms n None)) in
    let wa : Written t.rows active_of none a = leaves active_of ms (active_order t) n refl k.active places light lt in
    let u = without_active t n (get_or ms n None) in
    let still : IsRanked idle_of ms (idle_order u) = beside active_of idle_of none ms t.rows a t.idle wa k.idle
    (λ i. let h = counted-apart i 0 ms in let g = fewer_now active_of (is_numbered i) ms n refl within in omega (arith, h, g)) in
    let b = left_out (idle_order u) n (idle_of (get_or ms n None)) in
    let wb : Written a.rows idle_of none b = leaves idle_of ms (idle_order u) n refl still places idle_light lt in
    record {
      active = beside idle_of active_of none none a.rows b a.root wb wa.ranked (λ i. let h = counted-apart i 0 none in omega (arith, h));
      idle = wb.ranked;
    }

also : (ms : List (Option Member)) (t : Orders) (n : ℕ) (w : Option Member) → AreRanked (set ms n None) t → length ms ≡ 48 → IsLight active_of (set ms n w) → IsLight idle_of (set ms n w) → n < 48 → AreRanked (set ms n w) (with_member t n w)
also ms t n w k places light idle_light lt =
    let within : n < length ms = omega (arith, lt, places) in
    let none = set ms n None in
    let some = set ms n w in
    let a = brought_in (active_order t) n (active_of w) in
    let wa : Written t.rows active_of some a = joins active_of ms (active_order t) n w refl k.active places light lt in
    let u = also_active t n w in
    let still : IsRanked idle_of none (idle_order u) = beside active_of idle_of some none t.rows a t.idle wa k.idle
    (λ i. let h = counted-apart i 0 some in let g = fewer idle_of (is_numbered i) ms n w refl within in omega (arith, h, g)) in
    let b = brought_in (idle_order u) n (idle_of w) in
    let wb : Written a.rows idle_of some b = joins idle_of ms (idle_order u) n w refl still places idle_light lt in
    record {
      active = beside idle_of active_of some some a.rows b a.root wb wa.ranked (λ i. let h = counted-apart i 0 some in omega (arith, h));
      idle = wb.ranked;
    }

-- the orders after an exchange
pub exchanges : (ms : List (Option Member)) (t : Orders) (n : ℕ) (w : Option Member) → AreRanked ms t → length ms ≡ 48 → IsLight active_of ms → IsLight idle_of ms → IsLight active_of (set ms n w) → IsLight idle_of (set ms n w) → n < 48
    → AreRanked (set ms n w) (exchanged t n (get_or ms n None) w)
exchanges ms t n w k places light idle_light after idle_after lt =
    also ms (without_member t n (get_or ms n None)) n w (without ms t n k places light idle_light lt) places after idle_after lt
