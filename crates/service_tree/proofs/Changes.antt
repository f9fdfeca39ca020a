-- A member goes out of an order, and into it; the other order stays as it is.
use Rattle.std.proofs.Common.{◌≡◌, ◌≢◌, ℕ, zero, suc, ◌+◌, ◌^◌, ◌<◌, ◌≤◌, inl, inr, [], ◌∷◌, List, length, get_or, set, Option, None, Some, refl, ap, sym, subst, ◌∙◌, arith, get_or-set_other, get_or-set_same}
use Rattle.std.proofs.lemmas.List.{length-set, set-set}
use Rattle.std.proofs.lemmas.Bool.{cases_eq, cases_lt}
use Rattle.std.proofs.lemmas.Bool.Decides.{nat_tests}
use Rattle.augmented_tree.specs.declared.row.Figures.{Figures}
use Rattle.augmented_tree.specs.declared.row.Row.{Row}
use Rattle.augmented_tree.specs.Rows.{row_at, height_at}
use Rattle.augmented_tree.specs.Trees.{Entry, Tree, Leaf, Fork, rank, root_of, height, tally, is_numbered, one, weight_of, is_ranked, insert_tree, remove_tree, IsHeld, IsBalanced, IsOrdered, Fits, Becomes, tree_in}
use Rattle.augmented_tree.proofs.Plain.{tally-insert, tally-remove}
use Rattle.augmented_tree.proofs.Heights.{insert-balanced, remove-balanced}
use Rattle.augmented_tree.proofs.Orders.{insert-ordered, remove-ordered}
use Rattle.augmented_tree.proofs.Frames.{IsHeld-same, height_held, tree_in-held}
use Rattle.augmented_tree.proofs.Grows.{grows-insert, links-remove}
use Rattle.plain.specs.declared.member.Member.{Member}
use Rattle.service_tree.specs.Orders.{IsRanked, Order, brought_in, counted, inserted, left_out, removed, share}
use Rattle.service_tree.proofs.Counts.{By, Counts, IsLight, counted-none, counted-once, counted-set, counted-size, counted-weight, member_held}

-- a tree that the rows hold, and what it has
pub ranked_by : (by : By) (ms : List (Option Member)) (old : List Row) (o : Order) (t : Tree) → Becomes old o.rows o.root t → length old ≡ 48 → IsBalanced t → IsOrdered t → Counts by ms t → IsRanked by ms o
ranked_by by ms old o t b places balanced ordered counts =
    let same : tree_in o.rows o.root ≡ t = tree_in-held o.rows o.root t b.root b.held in
    record {
      root_is = subst (λ (s : Tree). o.root ≡ root_of s) (sym same) b.root;
      held = subst (IsHeld o.rows) (sym same) b.held;
      balanced = subst IsBalanced (sym same) balanced;
      ordered = subst IsOrdered (sym same) ordered;
      counts = subst (Counts by ms) (sym same) counts;
      places = b.same_length ∙ places;
    }

-- an order of these members, in rows of which only those of its members have changed
pub record Written (old : List Row) (by : By) (ms : List (Option Member)) (o : Order) : Type 0 where
  pub ranked : IsRanked by ms o
  pub others : (i : ℕ) → counted by (is_numbered i) 0 ms ≡ 0 → row_at o.rows i ≡ row_at old i
  pub same_length : length o.rows ≡ length old

written_by : (by : By) (ms : List (Option Member)) (old : List Row) (o : Order) (t : Tree) → Becomes old o.rows o.root t → length old ≡ 48 → IsBalanced t → IsOrdered t → Counts by ms t → Written old by ms o
written_by by ms old o t b places balanced ordered counts = record {
  ranked = ranked_by by ms old o t b places balanced ordered counts;
  others = λ i z. b.others i (counts (is_numbered i) ∙ z);
  same_length = b.same_length;
}

-- the members of two orders are different ones
abbrev pub Apart : By → List (Option Member) → By → List (Option Member) → Type 0
Apart by ms also others = (i : ℕ) → counted by (is_numbered i) 0 ms + counted also (is_numbered i) 0 others ≤ 1

-- an order stays where the rows of another one are written
pub beside : (by also : By) (ms others : List (Option Member)) (old : List Row) (o : Order) (root : Option ℕ) → Written old by ms o → IsRanked also others (record { rows = old; root = root }) → Apart by ms also others
    → IsRanked also others (record { rows = o.rows; root = root })
beside by also ms others old o root w k apart =
    let s = tree_in old root in
    let held : IsHeld o.rows s = IsHeld-same old o.rows s w.same_length (λ i c. let a = apart i in let e = k.counts (is_numbered i) in w.others i (omega (arith, a, e, c))) k.held in
    ranked_by also others o.rows (record { rows = o.rows; root = root }) s (record { root = k.root_is; held = held; others = λ i z. refl; same_length = refl })
    (w.same_length ∙ k.places) k.balanced k.ordered k.counts

pub fits_from : (by : By) (ms : List (Option Member)) (t : Tree) → Counts by ms t → length ms ≡ 48 → IsLight by ms → Fits t
fits_from by ms t counts places light = record {
  once = λ i. let a = counts (is_numbered i) in let b = counted-once by i 0 ms in omega (arith, a, b);
  size = (let a = counts one in let b = counted-size by 0 ms in omega (arith, a, b, places));
  sum = (let a = counts weight_of in let b = counted-weight by 0 ms light in omega (arith, a, b, places));
}

share_at : (f : Entry → ℕ) (n : ℕ) (o : Option Figures) → share f (0 + n) o ≡ share f n o
share_at f n o = let e : 0 + n ≡ n = omega arith in ap (λ (k : ℕ). share f k o) e

pub set_counts : (by : By) (f : Entry → ℕ) (n : ℕ) (ms : List (Option Member)) (w : Option Member) → n < length ms
    → counted by f 0 (set ms n w) + share f n (by (get_or ms n None)) ≡ counted by f 0 ms + share f n (by w)
set_counts by f n ms w lt =
    let h = counted-set by f 0 n ms w lt in
    let a = share_at f n (by (get_or ms n None)) in let b = share_at f n (by w) in omega (arith, h, a, b)

taken : (by : By) (ms : List (Option Member)) (o : Order) (n : ℕ) (g : Figures) → by None ≡ None → IsRanked by ms o → length ms ≡ 48 → IsLight by ms → n < 48 → by (get_or ms n None) ≡ Some g
    → Written o.rows by (set ms n None) (removed o n g.key)
taken by ms o n g none k places light lt is =
    let t = tree_in o.rows o.root in
    let fits = fits_from by ms t k.counts places light in
    let level = height_held o.rows t k.held in
    let top : height_at o.rows o.root ≡ height t = ap (height_at o.rows) k.root_is ∙ level in
    let holds = member_held by ms t n g none k.counts is in
    let done : Becomes o.rows (removed o n g.key).rows (removed o n g.key).root (remove_tree (n, g) t)
    = subst (λ (link : Option ℕ). Becomes o.rows (removed (record { rows = o.rows; root = link }) n g.key).rows (removed (record { rows = o.rows; root = link }) n g.key).root (remove_tree (n, g) t)) (sym k.root_is)
    (links-remove (height_at o.rows (root_of t)) o.rows t n g k.held fits (omega (arith, level))) in
    let b = remove-balanced (n, g) t k.balanced in
    written_by by (set ms n None) o.rows (removed o n g.key) (remove_tree (n, g) t) done k.places b.balanced (remove-ordered (n, g) t k.ordered)
    (λ f. let a = tally-remove f (n, g) t k.ordered (fits.once n) holds in let c = k.counts f in
    let d = set_counts by f n ms None (omega (arith, lt, places)) in
    let e : share f n (by (get_or ms n None)) ≡ f (n, g) = ap (share f n) is in
    let z : share f n (by None) ≡ 0 = ap (share f n) none in omega (arith, a, c, d, e, z))

rank_apart : (i n : ℕ) (g h : Figures) → i < 48 → n < 48 → i ≢ n → is_ranked (rank (n, g)) (i, h) ≡ 0
rank_apart i n g h li ln ne =
    let other : rank (i, h) ≢ rank (n, g) = λ same. (let no : ⊥ = ne (omega (arith, same, li, ln)) in no) in not_ranked other
  where
    not_ranked : rank (i, h) ≢ rank (n, g) → is_ranked (rank (n, g)) (i, h) ≡ 0
    not_ranked other = grind (arith, nat_tests)

put : (by : By) (ms : List (Option Member)) (o : Order) (n : ℕ) (g : Figures) (w : Option Member) → by None ≡ None → IsRanked by ms o → length ms ≡ 48 → IsLight by (set ms n w) → n < 48
    → get_or ms n None ≡ None → by w ≡ Some g → Written o.rows by (set ms n w) (inserted o n g)
put by ms o n g w none k places light lt free is =
    let t = tree_in o.rows o.root in
    let sums : (f : Entry → ℕ) → counted by f 0 (set ms n w) ≡ counted by f 0 ms + f (n, g) = λ f.
    (let d = set_counts by f n ms w (omega (arith, lt, places)) in
    let e : share f n (by (get_or ms n None)) ≡ 0 = ap (λ (x : Option Member). share f n (by x)) free ∙ ap (share f n) none in
    let h : share f n (by w) ≡ f (n, g) = ap (share f n) is in omega (arith, d, e, h)) in
    let counts : Counts by (set ms n w) (Fork t (n, g) Leaf) = λ f. (let a = k.counts f in let b = sums f in omega (arith, a, b)) in
    let fits = fits_from by (set ms n w) (Fork t (n, g) Leaf) counts (length-set ms n w ∙ places) light in
    let level = height_held o.rows t k.held in
    let apart : tally (is_ranked (rank (n, g))) t ≡ 0 = k.counts (is_ranked (rank (n, g))) ∙ counted-none by (is_ranked (rank (n, g))) 0 ms (λ i h at wi.
    let ne : i ≢ n = (λ same. let no : ⊥ = empty i h same at in no) in
    let e : 0 + i ≡ i = omega arith in subst (λ (j : ℕ). is_ranked (rank (n, g)) (j, h) ≡ 0) (sym e) (rank_apart i n g h (omega (arith, wi, places)) lt ne)) in
    let done : Becomes o.rows (inserted o n g).rows (inserted o n g).root (insert_tree (n, g) t)
    = subst (λ (link : Option ℕ). Becomes o.rows (inserted (record { rows = o.rows; root = link }) n g).rows (inserted (record { rows = o.rows; root = link }) n g).root (insert_tree (n, g) t)) (sym k.root_is)
    (grows-insert (height_at o.rows (root_of t)) o.rows t n g k.held (let p = k.places in omega (arith, p, lt)) fits (omega (arith, level))) in
    let b = insert-balanced (n, g) t k.balanced in
    written_by by (set ms n w) o.rows (inserted o n g) (insert_tree (n, g) t) done k.places b.balanced (insert-ordered (n, g) t k.ordered apart)
    (λ f. let a = tally-insert f (n, g) t in let c = k.counts f in let d = sums f in omega (arith, a, c, d))
  where
    empty : (i : ℕ) (h : Figures) → i ≡ n → by (get_or ms i None) ≡ Some h → ⊥
    empty i h same at =
        let there : get_or ms i None ≡ None = ap (λ (j : ℕ). get_or ms j None) same ∙ free in
        let gone : by (get_or ms i None) ≡ None = ap by there ∙ none in cc

-- an order that a member is in neither before nor after
untouched : (by : By) (ms : List (Option Member)) (o : Order) (n : ℕ) (w : Option Member) → IsRanked by ms o → n < length ms → by (get_or ms n None) ≡ None → by w ≡ None → Written o.rows by (set ms n w) o
untouched by ms o n w k lt was is = record {
  ranked = record {
    root_is = k.root_is;
    held = k.held;
    balanced = k.balanced;
    ordered = k.ordered;
    counts = λ f. (let d = set_counts by f n ms w lt in let a : share f n (by (get_or ms n None)) ≡ 0 = ap (share f n) was in let b : share f n (by w) ≡ 0 = ap (share f n) is in let c = k.counts f in omega (arith, a, b, c, d));
    places = k.places;
  };
  others = λ i z. refl;
  same_length = refl;
}

pub set-beyond : (ms : List (Option Member)) (n : ℕ) (w : Option Member) → length ms ≤ n → set ms n w ≡ ms
set-beyond [] n w le = refl
set-beyond (x ∷ xs) zero w le = let no : ⊥ = omega (arith, le) in absurd no
set-beyond (x ∷ xs) (suc n) w le = ap (λ ys. x ∷ ys) (set-beyond xs n w (omega (arith, le)))

set_light : (by : By) (ms : List (Option Member)) (n : ℕ) → by None ≡ None → IsLight by ms → IsLight by (set ms n None)
set_light by ms n none light = λ i g is. elim (cases_eq i n) as (λ _. g.weight < 2 ^ 32) [
  | inl same ↦ elim (cases_lt n (length ms)) as (λ _. g.weight < 2 ^ 32) [
    | inl lt ↦ let here : get_or (set ms n None) i None ≡ None = ap (λ (j : ℕ). get_or (set ms n None) j None) same ∙ get_or-set_same ms n None None lt in
        let gone : by (get_or (set ms n None) i None) ≡ None = ap by here ∙ none in let no : ⊥ = cc in absurd no
    | inr ge ↦ light i g (ap (λ (xs : List (Option Member)). by (get_or xs i None)) (sym (set-beyond ms n None ge)) ∙ is)
  ]
  | inr ne ↦ light i g (ap by (sym (get_or-set_other ms n i None None ne)) ∙ is)
]

-- the order without the member under a number
pub leaves : (by : By) (ms : List (Option Member)) (o : Order) (n : ℕ) → by None ≡ None → IsRanked by ms o → length ms ≡ 48 → IsLight by ms → n < 48 → Written o.rows by (set ms n None) (left_out o n (by (get_or ms n None)))
leaves by ms o n none k places light lt =
    let within : n < length ms = omega (arith, lt, places) in
    let out : (x : Option Figures) → by (get_or ms n None) ≡ x → Written o.rows by (set ms n None) (left_out o n x) = λ x. elim x as (λ x. by (get_or ms n None) ≡ x → Written o.rows by (set ms n None) (left_out o n x)) [
      | None ↦ λ is. untouched by ms o n None k within is none
      | Some g ↦ λ is. taken by ms o n g none k places light lt is
    ] in
    out (by (get_or ms n None)) refl

-- and with another one there
pub joins : (by : By) (ms : List (Option Member)) (o : Order) (n : ℕ) (w : Option Member) → by None ≡ None → IsRanked by (set ms n None) o → length ms ≡ 48 → IsLight by (set ms n w) → n < 48 → Written o.rows by (set ms n w) (brought_in o n (by w))
joins by ms o n w none k places light lt =
    let len : length (set ms n None) ≡ 48 = length-set ms n None ∙ places in
    let within : n < length ms = omega (arith, lt, places) in
    let free : get_or (set ms n None) n None ≡ None = get_or-set_same ms n None None within in
    let twice : set (set ms n None) n w ≡ set ms n w = set-set ms n None w in
    let into : (x : Option Figures) → by w ≡ x → Written o.rows by (set (set ms n None) n w) (brought_in o n x) = λ x. elim x as (λ x. by w ≡ x → Written o.rows by (set (set ms n None) n w) (brought_in o n x)) [
      | None ↦ λ is. untouched by (set ms n None) o n w k (omega (arith, lt, len)) (ap by free ∙ none) is
      | Some g ↦ λ is. put by (set ms n None) o n g w none k len (subst (IsLight by) (sym twice) light) lt free is
    ] in
    subst (λ (xs : List (Option Member)). Written o.rows by xs (brought_in o n (by w))) twice (into (by w) refl)
