-- What the orders answer is what the list of members answers.
use Rattle.std.proofs.Common.{◌≡◌, ℕ, ◌+◌, ◌^◌, ◌<◌, ◌≤◌, ◌⊎◌, nat_lt, Bool, true, false, cond, List, [], ◌∷◌, length, get_or, Option, None, Some, refl, ap, sym, subst, ◌∙◌, arith}
use Rattle.std.specs.List.{filter, sum_by}
use Rattle.std.proofs.lemmas.List.Sums.{sum_by-cons}
use Rattle.std.proofs.lemmas.Bool.Decides.{nat_tests}
use Rattle.augmented_tree.specs.declared.row.Figures.{Figures}
use Rattle.augmented_tree.specs.declared.row.Turn.{Turn}
use Rattle.augmented_tree.specs.Rows.{height_at, sum_at}
use Rattle.augmented_tree.specs.Tables.{pick_rows, above_rows, first_key_rows}
use Rattle.augmented_tree.specs.Trees.{Tree, root_of, weight_of, Holds, tree_in}
use Rattle.augmented_tree.proofs.Frames.{height_held, sum_held}
use Rattle.augmented_tree.proofs.Walks.{BestOf, IsBest, Under, pick-best, late, above-tally, IsLeastKey, first-key-least}
use Rattle.plain.specs.declared.member.State.{State}
use Rattle.plain.specs.declared.member.State.TheVariants.{Idle, Active, Serving}
use Rattle.plain.specs.declared.member.Member.{Member}
use Rattle.service_tree.specs.declared.order.Orders.{Orders}
use Rattle.plain.specs.Members.{IsActiveAt, IsEligibleAt, does_count, least_start, numbered, pick, weight_sum}
use Rattle.service_tree.specs.Orders.{IsRanked, IsService, Order, active_of, counted, idle_of, if_active, if_idle, if_serving, served, share}
use Rattle.service_tree.proofs.Chosen.{before_false}
use Rattle.service_tree.proofs.Compared.{IsLeast, first_picked, least_is, none_picked, not_eligible}
use Rattle.service_tree.proofs.Counts.{counted-weight, held_member, member_held}
use Rattle.service_tree.proofs.Changes.{fits_from}
use Rattle.service_tree.proofs.Kept.{active_light, idle_light, served-most}

-- an active member, and its figures
abbrev ActiveWith : Option Member → Figures → Type 0
ActiveWith o g = (m : Member) × ((o ≡ Some m) × ((m.state ≡ Active) × ((m.start ≡ g.key) × (m.finish ≡ g.finish))))

if_active-is : (s : State) (m : Member) (g : Figures) → if_active s m ≡ Some g → (s ≡ Active) × ((m.start ≡ g.key) × (m.finish ≡ g.finish))
if_active-is Idle m g is = cc
if_active-is Active m g is = let e : record { key = m.start; finish = m.finish; weight = m.weight } ≡ g = cc in (refl, (ap (λ (f : Figures). f.key) e, ap (λ (f : Figures). f.finish) e))
if_active-is Serving m g is = cc

active_is : (o : Option Member) (g : Figures) → active_of o ≡ Some g → ActiveWith o g
active_is None g is = cc
active_is (Some m) g is = (m, (refl, if_active-is m.state m g is))

is_active : (o : Option Member) (m : Member) → o ≡ Some m → m.state ≡ Active → active_of o ≡ Some (record { key = m.start; finish = m.finish; weight = m.weight })
is_active o m is active = ap active_of is ∙ ap (λ (s : State). if_active s m) active

tree_of : Order → Tree
tree_of o = tree_in o.rows o.root

best_at : (ms : List (Option Member)) (o : Order) (v : ℕ) → IsRanked active_of ms o → IsBest (Under v (tree_in o.rows o.root)) (pick_rows (height_at o.rows o.root) o.rows o.root v)
best_at ms o v k =
    let t = tree_in o.rows o.root in
    let level = height_held o.rows t k.held in
    let p = k.places in
    subst (λ (link : Option ℕ). IsBest (Under v t) (pick_rows (height_at o.rows link) o.rows link v)) (sym k.root_is) (pick-best (height_at o.rows (root_of t)) o.rows t v k.held k.ordered (omega (arith, p)) (omega (arith, level)))

-- an eligible member is held, and its key is not above the limit
eligible_held : (ms : List (Option Member)) (o : Order) (v n : ℕ) (m : Member) → IsRanked active_of ms o → IsEligibleAt v ms n m
    → Under v (tree_in o.rows o.root) (n, record { key = m.start; finish = m.finish; weight = m.weight })
eligible_held ms o v n m k h = (member_held active_of ms (tree_in o.rows o.root) n _ refl k.counts (is_active (get_or ms n None) m h.0.0 h.0.1), h.1)

pub picked_some : (ms : List (Option Member)) (o : Order) (v : ℕ) (s : Turn) → IsRanked active_of ms o → length ms ≡ 48 → Some s ≡ pick_rows (height_at o.rows o.root) o.rows o.root v → pick v ms ≡ Some s.number
picked_some ms o v s k places is =
    let b : BestOf (Under v (tree_in o.rows o.root)) s = subst (IsBest (Under v (tree_in o.rows o.root))) (sym is) (best_at ms o v k) in
    let own = held_member active_of ms (tree_in o.rows o.root) b.entry k.counts b.among.0 in
    let a = active_is (get_or ms b.entry.0 None) b.entry.1 own.0 in
    let m = a.0 in
    let here : IsEligibleAt v ms b.entry.0 m = ((a.1.0, a.1.1.0), (let le = b.among.1 in let e = a.1.1.1.0 in omega (arith, le, e))) in
    let finish : m.finish ≡ s.finish = a.1.1.1.1 ∙ ap (λ (x : Turn). x.finish) b.is in
    let number : b.entry.0 ≡ s.number = ap (λ (x : Turn). x.number) b.is in
    let done = first_picked v 48 ms b.entry.0 m places (omega (arith, places)) here (λ i other lt h.
    let c = before_false other.finish s.finish i s.number (b.first (i, record { key = other.start; finish = other.finish; weight = other.weight }) (eligible_held ms o v i other k h)) in
    moved m.finish s.finish other.finish b.entry.0 s.number i finish number c) in
    done ∙ ap Some number
  where
    moved : (f g h i j n : ℕ) → f ≡ g → i ≡ j → (g < h) ⊎ ((g ≡ h) × (j ≤ n)) → (f < h) ⊎ ((f ≡ h) × (i ≤ n))
    moved f g h i j n p q c = grind arith

pub picked_nobody : (ms : List (Option Member)) (o : Order) (v : ℕ) → IsRanked active_of ms o → length ms ≡ 48 → None ≡ pick_rows (height_at o.rows o.root) o.rows o.root v → None ≡ pick v ms
picked_nobody ms o v k places is =
    let b : IsBest (Under v (tree_in o.rows o.root)) None = subst (IsBest (Under v (tree_in o.rows o.root))) (sym is) (best_at ms o v k) in
    none_picked v 48 ms places (omega (arith, places)) (λ n lt found. not_eligible v ms n places (λ m h. b _ (eligible_held ms o v n m k h)) found)

pub least_key : (ms : List (Option Member)) (o : Order) → IsRanked active_of ms o → length ms ≡ 48 → first_key_rows (height_at o.rows o.root) o.rows o.root ≡ least_start ms
least_key ms o k places =
    let t = tree_in o.rows o.root in
    let level = height_held o.rows t k.held in
    let p = k.places in
    let found = first_key_rows (height_at o.rows o.root) o.rows o.root in
    let b : IsLeastKey t found = subst (λ (link : Option ℕ). IsLeastKey t (first_key_rows (height_at o.rows link) o.rows link)) (sym k.root_is)
    (first-key-least (height_at o.rows (root_of t)) o.rows t k.held k.ordered (omega (arith, p)) (omega (arith, level))) in
    let held : (n : ℕ) (m : Member) → IsActiveAt ms n m → Holds (n, record { key = m.start; finish = m.finish; weight = m.weight }) t = λ n m h.
    member_held active_of ms t n _ refl k.counts (is_active (get_or ms n None) m h.0 h.1) in
    let P : Option ℕ → Type 0 = λ f. IsLeastKey t f → IsLeast ms 48 f in
    let at : P found = elim found as P [
      | None ↦ λ none n m lt h. none _ (held n m h)
      | Some key ↦ λ l.
          let own = held_member active_of ms t l.entry k.counts l.among in
          let a = active_is (get_or ms l.entry.0 None) l.entry.1 own.0 in
          (((l.entry.0, a.0), ((a.1.0, a.1.1.0), a.1.1.1.0 ∙ l.is)), λ n m lt h. l.lowest _ (held n m h))
    ] in
    least_is 48 ms found (omega (arith, places)) (at b)

-- a member adds to one of the three sums, or to none
sum_one : (v base : ℕ) (s : State) (m : Member) → m.state ≡ s → (es : List (ℕ × Member))
    → share weight_of base (if_active s m) + share (late v) base (if_idle s m) + if_serving s m + sum_by (λ (e : ℕ × Member). e.1.weight) (filter (λ e. does_count v e.1) es)
    ≡ sum_by (λ (e : ℕ × Member). e.1.weight) (filter (λ e. does_count v e.1) ((base, m) ∷ es))
sum_one v base s m is es =
    let rest = filter (λ (e : ℕ × Member). does_count v e.1) es in
    let w : ℕ × Member → ℕ = λ e. e.1.weight in
    let more = sum_by-cons w (base, m) rest in
    let counts : Bool → Type 0 = λ b. sum_by w (cond b ((base, m) ∷ rest) rest) ≡ cond b m.weight 0 + sum_by w rest in
    let each : counts (does_count v m) = elim (does_count v m) as counts [ true ↦ omega (arith, more) | false ↦ omega arith ] in
    let own = amount s is in omega (arith, each, own)
  where
    amount : (s : State) → m.state ≡ s → share weight_of base (if_active s m) + share (late v) base (if_idle s m) + if_serving s m ≡ cond (does_count v m) m.weight 0
    amount Idle is = let d : does_count v m ≡ nat_lt v m.finish = grind (arith, nat_tests) in (let e : cond (does_count v m) m.weight 0 ≡ cond (nat_lt v m.finish) m.weight 0 = ap (λ b. cond b m.weight 0) d in omega (arith, e))
    amount Active is = let d : does_count v m ≡ true = grind (arith, nat_tests) in (let e : cond (does_count v m) m.weight 0 ≡ m.weight = ap (λ b. cond b m.weight 0) d in omega (arith, e))
    amount Serving is = let d : does_count v m ≡ true = grind (arith, nat_tests) in (let e : cond (does_count v m) m.weight 0 ≡ m.weight = ap (λ b. cond b m.weight 0) d in omega (arith, e))

sums : (v base : ℕ) (ms : List (Option Member)) → counted active_of weight_of base ms + counted idle_of (late v) base ms + served ms ≡ sum_by (λ (e : ℕ × Member). e.1.weight) (filter (λ e. does_count v e.1) (numbered base ms))
sums v base [] = refl
sums v base (None ∷ ms) = let h = sums v (base + 1) ms in omega (arith, h)
sums v base (Some m ∷ ms) = let h = sums v (base + 1) ms in let o = sum_one v base m.state m refl (numbered (base + 1) ms) in omega (arith, h, o)

late-le : (v : ℕ) (base : ℕ) (o : Option Figures) → share (late v) base o ≤ share weight_of base o
late-le v base None = omega arith
late-le v base (Some g) = grind (arith, nat_tests)

counted-late : (v base : ℕ) (ms : List (Option Member)) → counted idle_of (late v) base ms ≤ counted idle_of weight_of base ms
counted-late v base [] = omega arith
counted-late v base (x ∷ ms) = let h = counted-late v (base + 1) ms in let o = late-le v base (idle_of x) in omega (arith, h, o)

-- the three sums
pub record Summed (ms : List (Option Member)) (v a b s : ℕ) : Type 0 where
  pub is : a + b + s ≡ weight_sum v ms
  pub first_fits : a + b < 2 ^ 64
  pub all_fits : a + b + s < 2 ^ 64

pub summed : (ms : List (Option Member)) (t : Orders) (s v : ℕ) → IsService ms t s → Summed ms v (sum_at t.rows t.active) (above_rows (height_at t.rows t.idle) t.rows t.idle v) s
summed ms t s v k =
    let tx = tree_in t.rows t.active in let ty = tree_in t.rows t.idle in
    let fy = fits_from idle_of ms ty k.idle.counts k.places (idle_light ms k.light) in
    let level = height_held t.rows ty k.idle.held in
    let p = k.idle.places in
    let sa : sum_at t.rows t.active ≡ counted active_of weight_of 0 ms = ap (sum_at t.rows) k.active.root_is ∙ sum_held t.rows tx k.active.held ∙ k.active.counts weight_of in
    let sb : above_rows (height_at t.rows t.idle) t.rows t.idle v ≡ counted idle_of (late v) 0 ms = subst (λ (link : Option ℕ). above_rows (height_at t.rows link) t.rows link v ≡ counted idle_of (late v) 0 ms) (sym k.idle.root_is)
    (above-tally (height_at t.rows (root_of ty)) t.rows ty v k.idle.held k.idle.ordered (omega (arith, p)) fy.sum (omega (arith, level)) ∙ k.idle.counts (late v)) in
    let all = sums v 0 ms in
    let ma = counted-weight active_of 0 ms (active_light ms k.light) in
    let mb = counted-weight idle_of 0 ms (idle_light ms k.light) in
    let ml = counted-late v 0 ms in
    let mc = served-most ms k.light in
    let sc = k.serving_is in let n = k.places in
    record { is = omega (arith, sa, sb, sc, all); first_fits = omega (arith, sa, sb, ma, mb, ml, n); all_fits = omega (arith, sa, sb, sc, ma, mb, mc, ml, n) }
