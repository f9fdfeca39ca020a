-- The queues after a slot was taken out or put in.
use Rattle.std.proofs.Common.{◌≡◌, ◌≢◌, ℕ, zero, suc, ◌+◌, ◌-◌, ◌<◌, ◌≤◌, ◌==◌, List, [], ◌∷◌, ◌++◌, length, map, get_or, set, true, false, cond, Option, Some, None, inl, inr, refl, sym, ap, ◌∙◌, subst, arith, ne_eqb, get_or-set_other, get_or-set_same}
use Rattle.std.specs.Option.{option_map_or}
use Rattle.std.proofs.lemmas.List.{length-append, length-map, length-set, map-append, set-get_or, set-set}
use Rattle.std.proofs.lemmas.Option.{same_Some}
use Rattle.std.proofs.lemmas.Bool.{cases_eq, cond-false}
use Rattle.linked_rows.specs.declared.Sides.{Sides}
use Rattle.linked_rows.specs.declared.Ends.{Ends}
use Rattle.linked_rows.specs.Chains.{side_at, ends_at, row_behind, cut_sides, cut_ends, spliced_sides, spliced_ends, last_or, IsList, one_if, times, IsOnce}
use Rattle.linked_rows.proofs.Chains.{chain-same, chain-back, list-cut, list-splice, behind_front, cut-other, splice-other, cut-length, splice-length, cut-ends-other, splice-ends-other, cut-ends-length, splice-ends-length, last_or-append}
use Rattle.process_queue.specs.declared.Link.{Link}
use Rattle.process_queue.specs.Queue.{placed, is_after, queue_slots}
use Rattle.process_queue.specs.Links.{serial_at, unlinked_sides, unlinked_ends, walk_back, place_before, linked_sides, linked_ends, linked_in, fewer, IsQueues}
use Rattle.process_queue.proofs.Turns.{AreAfter, AreInTurn, AreInTurn-placed, is_after-turned}
use Rattle.process_queue.proofs.Back.{AllAfter, walk_found}
use Rattle.process_queue.proofs.Counts.{linked-out, linked-in}
use Rattle.process_queue.proofs.Entries.{Entry, Split, split-placed, same-placed, here, times-queue, length-placed, AreOf, AreOf-queue}

-- the slots of some entries
abbrev slots_of : List Entry → List ℕ
slots_of xs = map (λ e. e.1) xs

-- a slot is in no two queues
apart : (s t : ℕ) (o : Option Link) → s ≢ t → 1 ≤ here s o → here t o ≡ 0
apart s t None other h = refl
apart s t (Some l) other h = elim (cases_eq l.seat t) [
  | inl same ↦
      let no : one_if l.seat s ≡ 0 = cond-false (l.seat == s) _ _ (ne_eqb l.seat s (λ (is : l.seat ≡ s). other (sym is ∙ same))) in
      let never : ⊥ = omega (arith, h, no) in absurd never
  | inr ne ↦ cond-false (l.seat == t) _ _ (ne_eqb l.seat t ne)
]

apart-queues : (i s t : ℕ) (links : List (Option Link)) → s ≢ t → 1 ≤ times i (queue_slots s links) → times i (queue_slots t links) ≡ 0
apart-queues i s t links other h =
    let a = times-queue i s links in
    times-queue i t links ∙ apart s t (get_or links i None) other (omega (arith, a, h))

once-queue : (s : ℕ) (links : List (Option Link)) → IsOnce (queue_slots s links)
once-queue s links i = let a = times-queue i s links in let b = most (get_or links i None) in omega (arith, a, b)
  where
    most : (o : Option Link) → here s o ≤ 1
    most None = omega arith
    most (Some l) = elim (l.seat == s) as (λ b. cond b 1 0 ≤ 1) [ true ↦ omega arith | false ↦ omega arith ]

-- what one call makes of one seat's queue, and of the others
pub record Changes (t : ℕ) (links new_links : List (Option Link)) (sides new_sides : List Sides) (ends new_ends : List Ends) : Type 0 where
  pub touched : (i : ℕ) → times i (queue_slots t links) ≡ 0 → times i (queue_slots t new_links) ≡ 0 → side_at new_sides i ≡ side_at sides i
  pub others : (s : ℕ) → s ≢ t → queue_slots s new_links ≡ queue_slots s links
  pub own : IsList new_sides new_ends t (queue_slots t new_links)
  pub ends_others : (s : ℕ) → s ≢ t → ends_at new_ends s ≡ ends_at ends s
  pub new_seats : (i : ℕ) (l : Link) → get_or new_links i None ≡ Some l → l.seat < 256
  pub links_same : length new_links ≡ length links
  pub sides_same : length new_sides ≡ length sides
  pub ends_same : length new_ends ≡ length ends

changed : (t : ℕ) (links new_links : List (Option Link)) (sides new_sides : List Sides) (ends new_ends : List Ends) (queued new_queued : ℕ) → IsQueues links sides ends queued
    → new_queued ≡ linked_in new_links → Changes t links new_links sides new_sides ends new_ends → IsQueues new_links new_sides new_ends new_queued
changed t links new_links sides new_sides ends new_ends queued new_queued q count c = record {
  queues = λ s lt. elim (cases_eq s t) [
    | inl same ↦ subst (λ (k : ℕ). IsList new_sides new_ends k (queue_slots k new_links)) (sym same) c.own
    | inr other ↦
        subst (λ (xs : List ℕ). IsList new_sides new_ends s xs) (sym (c.others s other))
        (record {
          chain =
              chain-same sides new_sides (queue_slots s links) None None c.sides_same
              (λ i h. c.touched i (apart-queues i s t links other h) (apart-queues i s t new_links other (subst (λ (xs : List ℕ). 1 ≤ times i xs) (sym (c.others s other)) h)))
              (q.queues s lt).chain;
          ends_are = c.ends_others s other ∙ (q.queues s lt).ends_are;
        })
  ];
  count = count;
  seats = c.new_seats;
  sides_length = (let a = c.sides_same in let b = q.sides_length in let d = c.links_same in omega (arith, a, b, d));
  ends_length = (let a = c.ends_same in let b = q.ends_length in omega (arith, a, b));
  few = (let a = c.links_same in let b = q.few in omega (arith, a, b));
}

-- the slots of a list with an entry
with_slot : (e : Entry) (xs ys : List Entry) (zs : List Entry) → zs ≡ xs ++ e ∷ ys → slots_of zs ≡ slots_of xs ++ e.1 ∷ slots_of ys
with_slot e xs ys zs is = ap slots_of is ∙ map-append (λ (e : Entry). e.1) xs (e ∷ ys)

without_slot : (xs ys : List Entry) (zs : List Entry) → zs ≡ xs ++ ys → slots_of zs ≡ slots_of xs ++ slots_of ys
without_slot xs ys zs is = ap slots_of is ∙ map-append (λ (e : Entry). e.1) xs ys

-- a slot that was taken out is free
pub free_at : (links : List (Option Link)) (i : ℕ) → get_or (set links i None) i None ≡ None
free_at [] i = refl
free_at (x ∷ xs) zero = refl
free_at (x ∷ xs) (suc i) = free_at xs i

-- a slot is taken out
cut : (links : List (Option Link)) (sides : List Sides) (ends : List Ends) (queued slot : ℕ) (l : Link) → IsQueues links sides ends queued → get_or links slot None ≡ Some l
    → IsQueues (set links slot None) (cut_sides sides slot) (cut_ends sides ends l.seat slot) (queued - 1)
cut links sides ends queued slot l q is =
    let t : ℕ = l.seat in
    let small_seat : t < 256 = q.seats slot l is in
    let s = split-placed t 0 slot links l is refl in
    let xs : List ℕ = slots_of s.before in
    let ys : List ℕ = slots_of s.after in
    let zero_at : 0 + slot ≡ slot = omega arith in
    let old : queue_slots t links ≡ xs ++ slot ∷ ys = with_slot (l.serial, 0 + slot) s.before s.after _ s.large_is ∙ ap (λ (k : ℕ). xs ++ k ∷ ys) zero_at in
    let new : queue_slots t (set links slot None) ≡ xs ++ ys = without_slot s.before s.after _ s.small_is in
    let own : IsList sides ends t (xs ++ slot ∷ ys) = subst (λ (zs : List ℕ). IsList sides ends t zs) old (q.queues t small_seat) in
    let once : IsOnce (xs ++ slot ∷ ys) = subst IsOnce old (once-queue t links) in
    let lt : t < length ends = (let a = q.ends_length in omega (arith, a, small_seat)) in
    changed t links (set links slot None) sides (cut_sides sides slot) ends (cut_ends sides ends t slot) queued (queued - 1) q
    (let a = linked-out links slot l is in let b = q.count in omega (arith, a, b))
    (record {
      touched = λ i z zn. cut-other sides xs slot ys i own.chain (subst (λ (zs : List ℕ). times i zs ≡ 0) old z);
      others = λ s other. ap slots_of (same-placed s 0 slot links (λ m at. (λ (seat : m.seat ≡ s). other (sym seat ∙ ap (λ (k : Link). k.seat) (same_Some m l (sym at ∙ is))))));
      own = subst (λ (zs : List ℕ). IsList (cut_sides sides slot) (cut_ends sides ends t slot) t zs) (sym new) (list-cut sides ends t xs slot ys once lt own);
      ends_others = λ s other. cut-ends-other sides ends t slot s other;
      new_seats = λ i m at. elim (cases_eq i slot) [
        | inl same ↦ (let never : None ≡ Some m = sym (free i same) ∙ at in cc)
        | inr other ↦ q.seats i m (sym (get_or-set_other links slot i None None other) ∙ at)
      ];
      links_same = length-set links slot None;
      sides_same = cut-length sides slot;
      ends_same = cut-ends-length sides ends t slot;
    })
  where
    free : (i : ℕ) → i ≡ slot → get_or (set links slot None) i None ≡ None
    free i same = subst (λ (k : ℕ). get_or (set links slot None) k None ≡ None) (sym same) (free_at links slot)

pub unlinked : (links : List (Option Link)) (sides : List Sides) (ends : List Ends) (queued slot : ℕ) → IsQueues links sides ends queued
    → IsQueues (set links slot None) (unlinked_sides links sides slot) (unlinked_ends links sides ends slot) (fewer queued (get_or links slot None))
unlinked links sides ends queued slot q = at (get_or links slot None) refl
  where
    at : (o : Option Link) → get_or links slot None ≡ o
        → IsQueues (set links slot None) (option_map_or (λ l. cut_sides sides slot) o sides) (option_map_or (λ l. cut_ends sides ends l.seat slot) o ends) (fewer queued o)
    at None is = subst (λ (ls : List (Option Link)). IsQueues ls sides ends queued) (sym (ap (set links slot) (sym is) ∙ set-get_or links slot None)) q
    at (Some l) is = cut links sides ends queued slot l q is

-- the last of the entries before one does not come after it
last_not : (f : ℕ → ℕ) (e : Entry) (xs ys : List Entry) → AreInTurn (xs ++ e ∷ ys) → AreOf f xs → (i : ℕ) → last_or None (slots_of xs) ≡ Some i → is_after (Some e) (f i, i) ≡ false
last_not f e [] ys turn all i is = let no : None ≡ Some i = is in cc
last_not f e (x ∷ []) ys turn all i is =
    let same : x.1 ≡ i = same_Some x.1 i is in
    let entry : x ≡ (f i, i) = subst (λ (k : ℕ). x ≡ (f k, k)) same (ap (λ (n : ℕ). let p : Entry = (n, x.1) in p) (sym all.0)) in
    subst (λ (y : Entry). is_after (Some e) y ≡ false) entry (is_after-turned x e turn.0.0)
last_not f e (x ∷ y ∷ xs) ys turn all i is = last_not f e (y ∷ xs) ys turn.1 all.1 i is

-- the entries after one
all_after : (links : List (Option Link)) (e : Entry) (ys : List Entry) → AreAfter e ys → AreOf (serial_at links) ys → AllAfter links e (slots_of ys)
all_after links e [] after all = tt
all_after links e (y ∷ ys) after all = (ap (λ (n : ℕ). is_after (Some e) (n, y.1)) all.0 ∙ after.0, all_after links e ys after.1 all.1)

turn-back : (e : Entry) (xs ys : List Entry) → AreInTurn (xs ++ e ∷ ys) → AreAfter e ys
turn-back e [] ys turn = turn.0
turn-back e (x ∷ xs) ys turn = turn-back e xs ys turn.1

of-front : (f : ℕ → ℕ) (xs ys : List Entry) → AreOf f (xs ++ ys) → AreOf f xs
of-front f [] ys all = tt
of-front f (x ∷ xs) ys all = (all.0, of-front f xs ys all.1)

of-back : (f : ℕ → ℕ) (xs ys : List Entry) → AreOf f (xs ++ ys) → AreOf f ys
of-back f [] ys all = all
of-back f (x ∷ xs) ys all = of-back f xs ys all.1

-- a free slot is put in
pub linked : (links : List (Option Link)) (sides : List Sides) (ends : List Ends) (queued slot : ℕ) (l : Link) → IsQueues links sides ends queued → get_or links slot None ≡ None → slot < length links → l.seat < 256
    → IsQueues (set links slot (Some l)) (linked_sides links sides ends slot l) (linked_ends links sides ends slot l) (queued + 1)
linked links sides ends queued slot l q is within small_seat =
    let t : ℕ = l.seat in
    let e : Entry = (l.serial, slot) in
    let news : List (Option Link) = set links slot (Some l) in
    let here_is : get_or news slot None ≡ Some l = get_or-set_same links slot (Some l) None within in
    let undone : set news slot None ≡ links = set-set links slot (Some l) None ∙ ap (set links slot) (sym is) ∙ set-get_or links slot None in
    let zero_at : 0 + slot ≡ slot = omega arith in
    let s : Split e (placed t 0 news) (placed t 0 links) =
    subst (λ (ls : List (Option Link)). Split e (placed t 0 news) (placed t 0 ls)) undone
    (subst (λ (k : ℕ). Split (l.serial, k) (placed t 0 news) (placed t 0 (set news slot None))) zero_at (split-placed t 0 slot news l here_is refl)) in
    let xs : List ℕ = slots_of s.before in
    let ys : List ℕ = slots_of s.after in
    let old : queue_slots t links ≡ xs ++ ys = without_slot s.before s.after _ s.small_is in
    let new : queue_slots t news ≡ xs ++ slot ∷ ys = with_slot e s.before s.after _ s.large_is in
    let own : IsList sides ends t (xs ++ ys) = subst (λ (zs : List ℕ). IsList sides ends t zs) old (q.queues t small_seat) in
    let once : IsOnce (xs ++ slot ∷ ys) = subst IsOnce new (once-queue t news) in
    let lt : t < length ends = (let a = q.ends_length in omega (arith, a, small_seat)) in
    let slot_in : slot < length sides = (let a = q.sides_length in omega (arith, a, within)) in
    let turn : AreInTurn (s.before ++ e ∷ s.after) = subst AreInTurn s.large_is (AreInTurn-placed t 0 news) in
    let all : AreOf (serial_at links) (s.before ++ s.after) = subst (AreOf (serial_at links)) s.small_is (AreOf-queue t links) in
    let few : length ys ≤ length links = (
    let a = length-placed t 0 links in let b = ap length s.small_is in let d = length-append s.before s.after in let f = length-map s.after (λ (x : Entry). x.1) in
    omega (arith, a, b, d, f)) in
    let last_is : (ends_at ends t).last ≡ last_or (last_or None xs) ys = ap (λ (w : Ends). w.last) own.ends_are ∙ last_or-append xs ys None in
    let before_is : place_before links sides ends t e ≡ last_or None xs =
    ap (walk_back links sides e (length links)) last_is
    ∙ walk_found links sides e ys (last_or None xs) None (length links) few (chain-back sides xs ys None None own.chain)
    (all_after links e s.after (turn-back e s.before s.after turn) (of-back (serial_at links) s.before s.after all))
    (last_not (serial_at links) e s.before s.after turn (of-front (serial_at links) s.before s.after all)) in
    let new_sides : List Sides = spliced_sides sides (last_or None xs) slot (row_behind sides ends t (last_or None xs)) in
    let new_ends : List Ends = spliced_ends ends t (last_or None xs) slot (row_behind sides ends t (last_or None xs)) in
    let changes : Changes t links news sides new_sides ends new_ends = record {
      touched = λ i z zn.
          subst (λ (o : Option ℕ). side_at (spliced_sides sides (last_or None xs) slot o) i ≡ side_at sides i) (sym (behind_front sides ends t xs ys own))
          (splice-other sides xs slot ys i (subst (λ (zs : List ℕ). times i zs ≡ 0) new zn));
      others = λ s2 other.
          sym (ap (queue_slots s2) (sym undone)
          ∙ ap slots_of (same-placed s2 0 slot news (λ m at. (λ (seat : m.seat ≡ s2). other (sym seat ∙ ap (λ (k : Link). k.seat) (same_Some m l (sym at ∙ here_is)))))));
      own = subst (λ (zs : List ℕ). IsList new_sides new_ends t zs) (sym new) (list-splice sides ends t xs slot ys once lt slot_in own);
      ends_others = λ s2 other. splice-ends-other ends t (last_or None xs) (row_behind sides ends t (last_or None xs)) slot s2 other;
      new_seats = λ i m at. elim (cases_eq i slot) [
        | inl same ↦
            (let at_slot : get_or news slot None ≡ Some m = subst (λ (k : ℕ). get_or news k None ≡ Some m) same at in
            let link_is : l ≡ m = same_Some l m (sym here_is ∙ at_slot) in
            subst (λ (k : Link). k.seat < 256) link_is small_seat)
        | inr other ↦ q.seats i m (sym (get_or-set_other links slot i (Some l) None other) ∙ at)
      ];
      links_same = length-set links slot (Some l);
      sides_same = splice-length sides (last_or None xs) (row_behind sides ends t (last_or None xs)) slot;
      ends_same = splice-ends-length ends t (last_or None xs) (row_behind sides ends t (last_or None xs)) slot;
    } in
    changed t links news sides (linked_sides links sides ends slot l) ends (linked_ends links sides ends slot l) queued (queued + 1) q
    (let a = linked-in links slot l is within in let b = q.count in omega (arith, a, b))
    (subst (λ (o : Option ℕ). Changes t links news sides (spliced_sides sides o slot (row_behind sides ends t o)) ends (spliced_ends ends t o slot (row_behind sides ends t o))) (sym before_is) changes)
