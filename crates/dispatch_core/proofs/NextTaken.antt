-- A queue without the request that was found in it.
use Rattle.std.proofs.Common.{◌≡◌, ◌≢◌, ℕ, List, [], ◌∷◌, map, Option, Some, None, Bool, true, false, cond, nat_lt, set, get_or, refl, sym, ap, ◌∙◌, arith, length-set}
use Rattle.std.specs.List.{filter_map, cons_option, find, AllByRecursion}
use Rattle.std.specs.Option.{option_map_or}
use Rattle.dispatch_core.proofs.Words.{Link, insert_in, placed, queue_slots, at}
use Rattle.plain.specs.Steps.Dispatch.{without_first}
use Rattle.dispatch_core.proofs.Joins.{Reads, find_true, found_linked}
use Rattle.dispatch_core.proofs.QueueLists.{Unlike, within_of, put_back, freed, kept_of, placed-put_here, each_queued}

-- the slots of some entries
abbrev slots_in : List (ℕ × ℕ) → List ℕ
slots_in entries = map (λ e. e.1) entries

-- the first value that passes goes out
first_out : {A : Type 0} (test : ℕ → Bool) (passes : A → Bool) (f : ℕ → Option A) (v : A) (slot : ℕ) (xs : List ℕ) → Reads test passes f → f slot ≡ Some v → test slot ≡ true
    → without_first passes (filter_map f (slot ∷ xs)) ≡ filter_map f xs
first_out test passes f v slot xs agree value here =
    let passed : passes v ≡ true = sym (agree slot ∙ ap (λ o. option_map_or passes o false) value) ∙ here in
    rw (value, passed) refl

-- the entry that was found is taken out of the list in which it was put
taken_in : {A : Type 0} (test : ℕ → Bool) (passes : A → Bool) (f : ℕ → Option A) (v : A) (e : ℕ × ℕ) (xs : List (ℕ × ℕ)) → Reads test passes f → f e.1 ≡ Some v → test e.1 ≡ true
    → AllByRecursion (λ x. x.1 ≢ e.1) xs → find test (slots_in (insert_in e xs)) ≡ Some e.1
    → filter_map f (slots_in xs) ≡ without_first passes (filter_map f (slots_in (insert_in e xs)))
taken_in {A} test passes f v e [] agree value here others found = sym (first_out test passes f v e.1 [] agree value here)
taken_in {A} test passes f v e (x ∷ xs) agree value here others found =
    let ih : find test (slots_in (insert_in e xs)) ≡ Some e.1 → filter_map f (slots_in xs) ≡ without_first passes (filter_map f (slots_in (insert_in e xs))) =
    λ later. taken_in test passes f v e xs agree value here others.1 later in
    elim (nat_lt x.0 e.0) as (λ b. find test (slots_in (cond b (x ∷ insert_in e xs) (e ∷ x ∷ xs))) ≡ Some e.1
    → filter_map f (slots_in (x ∷ xs)) ≡ without_first passes (filter_map f (slots_in (cond b (x ∷ insert_in e xs) (e ∷ x ∷ xs))))) [
      | true ↦ λ g.
          elim (test x.1) as (λ b. test x.1 ≡ b → cond b (Some x.1) (find test (slots_in (insert_in e xs))) ≡ Some e.1
          → filter_map f (slots_in (x ∷ xs)) ≡ without_first passes (filter_map f (slots_in (x ∷ insert_in e xs)))) [
            | true ↦ λ t h. absurd (others.0 cc)
            | false ↦ λ t h.
                elim (f x.1) as (λ o. f x.1 ≡ o → cons_option o (filter_map f (slots_in xs)) ≡ without_first passes (cons_option o (filter_map f (slots_in (insert_in e xs))))) [
                  | None ↦ λ _. ih h
                  | Some w ↦ λ k.
                      let no : passes w ≡ false = sym (agree x.1 ∙ ap (λ o. option_map_or passes o false) k) ∙ t in
                      rw no (ap (λ l. w ∷ l) (ih h))
                ] refl
          ] refl g
      | false ↦ λ g. sym (first_out test passes f v e.1 (slots_in (x ∷ xs)) agree value here)
    ] found

-- a queue whose found slot is unlinked has lost the first request that passes
pub queue-taken : {A : Type 0} (test : ℕ → Bool) (passes : A → Bool) (f : ℕ → Option A) (v : A) (q i : ℕ) (links : List (Option Link)) → Reads test passes f → Unlike links → f i ≡ Some v
    → find test (queue_slots q links) ≡ Some i → filter_map f (queue_slots q (set links i None)) ≡ without_first passes (filter_map f (queue_slots q links))
queue-taken test passes f v q i links agree unlike value found =
    let linked : (l : Link) × (at links i ≡ Some l) × (l.seat ≡ q) = found_linked test q i links found in
    let h = within_of links i linked.0 linked.1 in
    let rest : List (ℕ × ℕ) = placed q 0 (set links i None) in
    let entry : ℕ × ℕ = (linked.0.serial, i) in
    let apart : (j : ℕ) (m : Link) → get_or (set links i None) j None ≡ Some m → m.serial ≢ linked.0.serial =
    λ j m g. let k = kept_of links i j linked.0 m linked.1 g in λ same. k.0 (unlike j i m linked.0 k.1 linked.1 same) in
    let inserted : placed q 0 links ≡ insert_in entry rest =
    sym (ap (placed q 0) (put_back links i linked.0 linked.1))
    ∙ placed-put_here q i (set links i None) linked.0 (omega (arith, h, length-set links i None)) (freed links i linked.0 linked.1) apart linked.2 in
    taken_in test passes f v entry rest agree value (find_true test (queue_slots q links) i found)
    (each_queued (λ x. x.1 ≢ i) q (set links i None) (λ k m g _. (kept_of links i k linked.0 m linked.1 g).0))
    (sym (ap (λ l. find test (slots_in l)) inserted) ∙ found)
    ∙ sym (ap (λ l. without_first passes (filter_map f (slots_in l))) inserted)
