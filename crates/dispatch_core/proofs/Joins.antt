-- Which request of a queue a bio joins, as the slots say it and as the plain machine says it.
use Rattle.std.proofs.Common.{◌≡◌, ◌≢◌, inl, inr, ℕ, ◌+◌, ◌<◌, ◌≤◌, List, [], ◌∷◌, map, Option, Some, None, Bool, true, false, cond, ◌==◌, nat_lt, get_or, refl, sym, ap, ◌∙◌, subst, arith}
use Rattle.std.specs.List.{filter_map, cons_option, find, AllByRecursion}
use Rattle.std.specs.Option.{option_map, option_map_or, option_or, option_and_then}
use Rattle.dispatch_core.proofs.Words.{Link, insert_in, placed, queue_slots, place_of, change_first, at, times}
use Rattle.process_queue.specs.declared.merge.Place.{Place}
use Rattle.dispatch_core.proofs.Times.{same, same_not, times-cons, Apart, filter_map_same}
use Rattle.dispatch_core.proofs.Room.{Distinct, Distinct-head, Distinct-tail}
use Rattle.std.proofs.lemmas.Bool.{cases_eq}
use Rattle.dispatch_core.proofs.QueueLists.{each_queued}

-- a test of what a reading gives, which fails where it gives nothing
abbrev pub Reads : {A : Type 0} → (ℕ → Bool) → (A → Bool) → (ℕ → Option A) → Type 0
Reads test passes reading = (k : ℕ) → test k ≡ option_map_or passes (reading k) false

-- what is found among slots is what is found among the values that they have
pub find_read : {A : Type 0} (test : ℕ → Bool) (passes : A → Bool) (reading : ℕ → Option A) (xs : List ℕ) → Reads test passes reading
    → find passes (filter_map reading xs) ≡ option_and_then reading (find test xs)
find_read test passes reading [] agree = refl
find_read test passes reading (x ∷ xs) agree =
    let ih = find_read test passes reading xs agree in
    elim (reading x) as (λ o. reading x ≡ o → find passes (cons_option o (filter_map reading xs)) ≡ option_and_then reading (find test (x ∷ xs))) [
      | None ↦ λ e.
          let fails : test x ≡ false = agree x ∙ ap (λ o. option_map_or passes o false) e in
          rw fails ih
      | Some a ↦ λ e.
          let here : test x ≡ passes a = agree x ∙ ap (λ o. option_map_or passes o false) e in
          rw here (elim (passes a) as (λ b. cond b (Some a) (find passes (filter_map reading xs)) ≡ option_and_then reading (cond b (Some x) (find test xs))) [
            | true ↦ sym e
            | false ↦ ih
          ])
    ] refl

-- where nothing passes among the slots, nothing does among their values
pub find_read_none : {A : Type 0} (test : ℕ → Bool) (passes : A → Bool) (reading : ℕ → Option A) (xs : List ℕ) → Reads test passes reading → find test xs ≡ None
    → find passes (filter_map reading xs) ≡ None
find_read_none test passes reading xs agree none = find_read test passes reading xs agree ∙ ap (option_and_then reading) none

-- and where a slot is found, its value is
pub find_read_some : {A : Type 0} (test : ℕ → Bool) (passes : A → Bool) (reading : ℕ → Option A) (xs : List ℕ) (slot : ℕ) → Reads test passes reading → find test xs ≡ Some slot
    → find passes (filter_map reading xs) ≡ reading slot
find_read_some test passes reading xs slot agree found = find_read test passes reading xs agree ∙ ap (option_and_then reading) found

-- what is found passes
pub find_true : (test : ℕ → Bool) (xs : List ℕ) (k : ℕ) → find test xs ≡ Some k → test k ≡ true
find_true test [] k e = cc
find_true test (x ∷ xs) k e = elim (test x) as (λ b. test x ≡ b → cond b (Some x) (find test xs) ≡ Some k → test k ≡ true) [
  | true ↦ λ t g. let same_slot : x ≡ k = cc in sym (ap test same_slot) ∙ t
  | false ↦ λ t g. find_true test xs k g
] refl e

-- two readings that agree at every slot but one give the same where that one does not stand
same_away : {A : Type 0} (before after : ℕ → Option A) (slot : ℕ) (xs : List ℕ) → Apart slot xs → ((k : ℕ) → k ≢ slot → after k ≡ before k)
    → filter_map after xs ≡ filter_map before xs
same_away before after slot xs apart away = filter_map_same after before xs (λ k d lt. away (get_or xs k d) (apart k d lt))

-- the first value that passes is changed, where the reading changes at its slot alone
pub change_read : {A : Type 0} (test : ℕ → Bool) (passes : A → Bool) (change : A → A) (before after : ℕ → Option A) (slot : ℕ) (xs : List ℕ)
    → Reads test passes before → find test xs ≡ Some slot → Distinct xs → ((k : ℕ) → k ≢ slot → after k ≡ before k) → after slot ≡ option_map change (before slot)
    → filter_map after xs ≡ change_first passes change (filter_map before xs)
change_read test passes change before after slot [] agree found distinct away here = cc
change_read {A} test passes change before after slot (x ∷ xs) agree found distinct away here =
    let ih : find test xs ≡ Some slot → filter_map after xs ≡ change_first passes change (filter_map before xs) =
    λ later. change_read test passes change before after slot xs agree later (Distinct-tail x xs distinct) away here in
    let rest : x ≡ slot → filter_map after xs ≡ filter_map before xs =
    λ e. let P : ℕ → Type 0 = λ s. Apart s xs in same_away before after slot xs (subst P e (Distinct-head x xs distinct)) away in
    elim (test x) as (λ b. test x ≡ b → cond b (Some x) (find test xs) ≡ Some slot → filter_map after (x ∷ xs) ≡ change_first passes change (filter_map before (x ∷ xs))) [
      | true ↦ λ t g.
          let e : x ≡ slot = cc in
          elim (before x) as (λ o. before x ≡ o → filter_map after (x ∷ xs) ≡ change_first passes change (cons_option o (filter_map before xs))) [
            | None ↦ λ b. let no : test x ≡ false = agree x ∙ ap (λ o. option_map_or passes o false) b in absurd cc
            | Some a ↦ λ b.
                let yes : passes a ≡ true = sym (agree x ∙ ap (λ o. option_map_or passes o false) b) ∙ t in
                let now : after x ≡ Some (change a) = ap after e ∙ here ∙ ap (option_map change) (sym (ap before e) ∙ b) in
                rw (now, yes) (ap (λ l. change a ∷ l) (rest e))
          ] refl
      | false ↦ λ t g.
          elim (before x) as (λ o. before x ≡ o → filter_map after (x ∷ xs) ≡ change_first passes change (cons_option o (filter_map before xs))) [
            | None ↦ λ b.
                let other : x ≢ slot = λ e. let found_here : test slot ≡ true = find_true test xs slot g in let no : test slot ≡ false = sym (ap test e) ∙ t in absurd cc in
                let now : after x ≡ None = away x other ∙ b in
                rw now (ih g)
            | Some a ↦ λ b.
                let other : x ≢ slot = λ e. let found_here : test slot ≡ true = find_true test xs slot g in let no : test slot ≡ false = sym (ap test e) ∙ t in absurd cc in
                let no : passes a ≡ false = sym (agree x ∙ ap (λ o. option_map_or passes o false) b) ∙ t in
                let now : after x ≡ Some a = away x other ∙ b in
                rw (now, no) (ap (λ l. a ∷ l) (ih g))
          ] refl
    ] refl found

-- the slots of some entries
abbrev slots_in : List (ℕ × ℕ) → List ℕ
slots_in entries = map (λ e. e.1) entries

-- a slot stands as often as before in entries with one more, and once more where it is that one's
times-insert : (s : ℕ) (e : ℕ × ℕ) (xs : List (ℕ × ℕ)) → times s (slots_in (insert_in e xs)) ≡ same e.1 s + times s (slots_in xs)
times-insert s e [] = times-cons s e.1 []
times-insert s e (x ∷ xs) = elim (nat_lt x.0 e.0) as (λ b. times s (slots_in (cond b (x ∷ insert_in e xs) (e ∷ x ∷ xs))) ≡ same e.1 s + times s (slots_in (x ∷ xs))) [
  | true ↦ omega (arith, times-cons s x.1 (slots_in (insert_in e xs)), times-insert s e xs, times-cons s x.1 (slots_in xs))
  | false ↦ times-cons s e.1 (slots_in (x ∷ xs))
]

-- a slot below the first number stands nowhere
placed_below : (q base s : ℕ) (links : List (Option Link)) → s < base → times s (slots_in (placed q base links)) ≡ 0
placed_below q base s [] h = refl
placed_below q base s (None ∷ links) h = placed_below q (base + 1) s links (omega arith)
placed_below q base s (Some l ∷ links) h =
    let rest : times s (slots_in (placed q (base + 1) links)) ≡ 0 = placed_below q (base + 1) s links (omega arith) in
    let other : same base s ≡ 0 = same_not base s (λ e. absurd (omega arith)) in
    elim (l.seat == q) as (λ b. times s (slots_in (cond b (insert_in (l.serial, base) (placed q (base + 1) links)) (placed q (base + 1) links))) ≡ 0) [
      | true ↦ omega (arith, times-insert s (l.serial, base) (placed q (base + 1) links), rest, other)
      | false ↦ rest
    ]

-- one where two slots are the same, and none else
same_few : (x s : ℕ) → same x s ≤ 1
same_few x s = elim (x == s) as (λ b. cond b 1 0 ≤ 1) [ true ↦ omega arith | false ↦ omega arith ]

-- each slot stands once at most
placed_few : (q base s : ℕ) (links : List (Option Link)) → times s (slots_in (placed q base links)) ≤ 1
placed_few q base s [] = omega arith
placed_few q base s (None ∷ links) = placed_few q (base + 1) s links
placed_few q base s (Some l ∷ links) =
    let rest : times s (slots_in (placed q (base + 1) links)) ≤ 1 = placed_few q (base + 1) s links in
    elim (l.seat == q) as (λ b. times s (slots_in (cond b (insert_in (l.serial, base) (placed q (base + 1) links)) (placed q (base + 1) links))) ≤ 1) [
      | true ↦ elim (cases_eq base s) [
        | inl e ↦
            let none : times s (slots_in (placed q (base + 1) links)) ≡ 0 = placed_below q (base + 1) s links (omega arith) in
            omega (arith, times-insert s (l.serial, base) (placed q (base + 1) links), none, same_few base s)
        | inr ne ↦ omega (arith, times-insert s (l.serial, base) (placed q (base + 1) links), rest, same_not base s ne)
      ]
      | false ↦ rest
    ]

-- so no slot stands twice in a queue
pub queue_distinct : (q : ℕ) (links : List (Option Link)) → Distinct (queue_slots q links)
queue_distinct q links s = placed_few q 0 s links

-- what is found in a queue is linked to its seat
pub found_linked : (test : ℕ → Bool) (q slot : ℕ) (links : List (Option Link)) → find test (queue_slots q links) ≡ Some slot
    → (link : Link) × (at links slot ≡ Some link) × (link.seat ≡ q)
found_linked test q slot links found =
    found_in (placed q 0 links) (each_queued Linked q links (λ k link e h. (link, e, h))) found where
      -- an entry's slot is linked to the seat
      Linked : ℕ × ℕ → Type 0
      Linked e = (link : Link) × (at links e.1 ≡ Some link) × (link.seat ≡ q)

      found_in : (xs : List (ℕ × ℕ)) → AllByRecursion Linked xs → find test (slots_in xs) ≡ Some slot → (link : Link) × (at links slot ≡ Some link) × (link.seat ≡ q)
      found_in [] ps e = cc
      found_in (x ∷ xs) ps e = elim (test x.1) as (λ b. cond b (Some x.1) (find test (slots_in xs)) ≡ Some slot → (link : Link) × (at links slot ≡ Some link) × (link.seat ≡ q)) [
        | true ↦ λ g.
            let same_slot : x.1 ≡ slot = cc in
            let P : ℕ → Type 0 = λ s. (link : Link) × (at links s ≡ Some link) × (link.seat ≡ q) in
            subst P same_slot ps.0
        | false ↦ λ g. found_in xs ps.1 g
      ] e

-- a bio that joins none of the slots joins none of their requests, and one that joins a slot joins its request

-- the first back merge, else the first front merge, as a place
abbrev pub chosen : Option ℕ → Option ℕ → Option Place
chosen back front = place_of (option_or (option_map (λ s. (s, false)) back) (option_map (λ s. (s, true)) front))

-- where there is no place, neither was found
pub chosen_none : (back front : Option ℕ) → chosen back front ≡ None → (back ≡ None) × (front ≡ None)
chosen_none None None e = (refl, refl)
chosen_none None (Some s) e = cc
chosen_none (Some s) front e = cc

-- a place at the end was found as a back merge
pub chosen_back : (back front : Option ℕ) (place : Place) → chosen back front ≡ Some place → place.front ≡ false → back ≡ Some place.slot
chosen_back None None place e f = cc
chosen_back None (Some s) place e f =
    let whole : Some (let p : Place = record { slot = s; front = true } in p) ≡ Some place = e in
    let p : (let p : Place = record { slot = s; front = true } in p) ≡ place = cc in
    let t : true ≡ false = ap (λ (p : Place). p.front) p ∙ f in
    absurd cc
chosen_back (Some s) front place e f =
    let whole : Some (let p : Place = record { slot = s; front = false } in p) ≡ Some place = e in
    let p : (let p : Place = record { slot = s; front = false } in p) ≡ place = cc in
    ap (λ (p : Place). Some p.slot) p

-- one at the front was found as a front merge, where there was no back merge
pub chosen_front : (back front : Option ℕ) (place : Place) → chosen back front ≡ Some place → place.front ≡ true → (back ≡ None) × (front ≡ Some place.slot)
chosen_front None None place e f = cc
chosen_front None (Some s) place e f =
    let p : (let p : Place = record { slot = s; front = true } in p) ≡ place = cc in
    (refl, ap (λ (p : Place). Some p.slot) p)
chosen_front (Some s) front place e f =
    let p : (let p : Place = record { slot = s; front = false } in p) ≡ place = cc in
    let t : false ≡ true = ap (λ (p : Place). p.front) p ∙ f in
    absurd cc
