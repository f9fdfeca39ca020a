-- How many slots are linked.
use Rattle.std.proofs.Common.{◌≡◌, ℕ, zero, suc, ◌+◌, ◌<◌, ◌≤◌, List, [], ◌∷◌, length, map, get_or, set, Option, Some, None, IsSome, refl, ap, arith}
use Rattle.process_queue.specs.declared.Link.{Link}
use Rattle.process_queue.specs.Queue.{placed, queue_slots}
use Rattle.process_queue.specs.Links.{linked_in}

pub linked-most : (links : List (Option Link)) → linked_in links ≤ length links
linked-most [] = omega arith
linked-most (None ∷ links) = let h = linked-most links in omega (arith, h)
linked-most (Some l ∷ links) = let h = linked-most links in omega (arith, h)

-- a slot is taken out
pub linked-out : (links : List (Option Link)) (i : ℕ) (l : Link) → get_or links i None ≡ Some l → linked_in links ≡ linked_in (set links i None) + 1
linked-out [] i l is = cc
linked-out (None ∷ links) zero l is = cc
linked-out (Some m ∷ links) zero l is = omega arith
linked-out (None ∷ links) (suc i) l is = linked-out links i l is
linked-out (Some m ∷ links) (suc i) l is = let h = linked-out links i l is in omega (arith, h)

-- a slot is put in
pub linked-in : (links : List (Option Link)) (i : ℕ) (l : Link) → get_or links i None ≡ None → i < length links → linked_in (set links i (Some l)) ≡ linked_in links + 1
linked-in [] i l is lt = absurd (omega arith)
linked-in (None ∷ links) zero l is lt = omega arith
linked-in (Some m ∷ links) zero l is lt = cc
linked-in (None ∷ links) (suc i) l is lt = linked-in links i l is (omega arith)
linked-in (Some m ∷ links) (suc i) l is lt = let h = linked-in links i l is (omega arith) in omega (arith, h)

-- where none is linked each queue is empty
placed-none : (links : List (Option Link)) (seat base : ℕ) → linked_in links ≡ 0 → placed seat base links ≡ []
placed-none [] seat base none = refl
placed-none (None ∷ links) seat base none = placed-none links seat (base + 1) none
placed-none (Some l ∷ links) seat base none = absurd (omega arith)

pub queue-none : (links : List (Option Link)) (seat : ℕ) → linked_in links ≡ 0 → queue_slots seat links ≡ []
queue-none links seat none = ap (map (λ (e : ℕ × ℕ). e.1)) (placed-none links seat 0 none)

-- where some are linked there is one of them
pub linked-some : (links : List (Option Link)) → 0 < linked_in links → (slot : ℕ) × IsSome (get_or links slot None)
linked-some [] some = absurd (omega arith)
linked-some (None ∷ links) some = let h = linked-some links some in (suc h.0, h.1)
linked-some (Some l ∷ links) some = (0, refl)

pub linked-fresh : (links : List (Option Link)) → ((i : ℕ) → get_or links i None ≡ None) → linked_in links ≡ 0
linked-fresh [] free = refl
linked-fresh (None ∷ links) free = linked-fresh links (λ i. free (suc i))
linked-fresh (Some l ∷ links) free = let no : Some l ≡ None = free 0 in cc
