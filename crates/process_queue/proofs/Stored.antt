-- The tables as the vectors hold them after a call wrote them.
use Rattle.std.proofs.Common.{◌≡◌, ℕ, zero, suc, ◌+◌, ◌<◌, ◌≤◌, List, [], ◌∷◌, ◌++◌, length, map, take, get_or, set, replicate, Option, Some, None, refl, sym, ap, ◌∙◌, subst, arith}
use Rattle.std.proofs.lemmas.List.{length-replicate, set-set}
use Rattle.process_queue.specs.declared.Link.{Link}
use Rattle.linked_rows.specs.declared.Sides.{Sides}
use Rattle.linked_rows.specs.declared.Ends.{Ends}
use Rattle.process_queue.specs.Queue.{placed, queue_slots}
use Rattle.linked_rows.specs.Chains.{alone, nobody, IsList}
use Rattle.process_queue.specs.Links.{unlinked_sides, unlinked_ends, linked_sides, linked_ends, fewer, IsQueues}
use Rattle.process_queue.proofs.Counts.{linked-fresh}
use Rattle.process_queue.proofs.Linked.{linked, unlinked}

take_front : {A : Type 0} (xs rest : List A) → take (length xs) (xs ++ rest) ≡ xs
take_front [] rest = refl
take_front (x ∷ xs) rest = ap (λ ys. x ∷ ys) (take_front xs rest)

pub held : {A : Type 0} (n : ℕ) (xs rest : List A) → length xs ≡ n → take n (xs ++ rest) ≡ xs
held n xs rest is = subst (λ (k : ℕ). take k (xs ++ rest) ≡ xs) is (take_front xs rest)

pub same_queues : (l m : List (Option Link)) (s t : List Sides) (e f : List Ends) (n : ℕ) → l ≡ m → s ≡ t → e ≡ f → IsQueues l s e n → IsQueues m t f n
same_queues l m s t e f n p q r h =
    subst (λ (x : List (Option Link)). IsQueues x t f n) p (subst (λ (x : List Sides). IsQueues l x f n) q (subst (λ (x : List Ends). IsQueues l s x n) r h))

pub unlinked_stored : (links : List (Option Link)) (sides : List Sides) (ends : List Ends) (queued slot : ℕ) (l1 l2 l3 : List (Option Link)) (s1 s2 s3 : List Sides) (e1 e2 e3 : List Ends) (n m k : ℕ) (old : Option Link) (left : ℕ)
    → IsQueues links sides ends queued → l1 ≡ links → s1 ≡ sides → e1 ≡ ends
    → l2 ≡ set l1 slot None → s2 ≡ unlinked_sides l1 s1 slot → e2 ≡ unlinked_ends l1 s1 e1 slot
    → length l2 ≡ n → length s2 ≡ m → length e2 ≡ k → old ≡ get_or l1 slot None → left ≡ fewer queued old
    → IsQueues (take n (l2 ++ l3)) (take m (s2 ++ s3)) (take k (e2 ++ e3)) left
unlinked_stored links sides ends queued slot l1 l2 l3 s1 s2 s3 e1 e2 e3 n m k old left q a b c x y z d f g old_is left_is =
    subst (λ (u : ℕ). IsQueues (take n (l2 ++ l3)) (take m (s2 ++ s3)) (take k (e2 ++ e3)) u) (sym (left_is ∙ ap (fewer queued) old_is))
    (same_queues l2 (take n (l2 ++ l3)) s2 (take m (s2 ++ s3)) e2 (take k (e2 ++ e3)) (fewer queued (get_or l1 slot None)) (sym (held n l2 l3 d)) (sym (held m s2 s3 f)) (sym (held k e2 e3 g))
    (same_queues (set l1 slot None) l2 (unlinked_sides l1 s1 slot) s2 (unlinked_ends l1 s1 e1 slot) e2 (fewer queued (get_or l1 slot None)) (sym x) (sym y) (sym z)
    (unlinked l1 s1 e1 queued slot (same_queues links l1 sides s1 ends e1 queued (sym a) (sym b) (sym c) q))))

pub linked_stored : (links : List (Option Link)) (sides : List Sides) (ends : List Ends) (queued slot : ℕ) (l : Link) (l1 l2 l3 : List (Option Link)) (s1 s2 s3 : List Sides) (e1 e2 e3 : List Ends) (n m k : ℕ)
    → IsQueues links sides ends queued → get_or links slot None ≡ None → slot < length links → l.seat < 256 → l1 ≡ links → s1 ≡ sides → e1 ≡ ends
    → l2 ≡ set l1 slot (Some l) → s2 ≡ linked_sides l1 s1 e1 slot l → e2 ≡ linked_ends l1 s1 e1 slot l
    → length l2 ≡ n → length s2 ≡ m → length e2 ≡ k
    → IsQueues (take n (l2 ++ l3)) (take m (s2 ++ s3)) (take k (e2 ++ e3)) (queued + 1)
linked_stored links sides ends queued slot l l1 l2 l3 s1 s2 s3 e1 e2 e3 n m k q free within small a b c x y z d f g =
    same_queues l2 (take n (l2 ++ l3)) s2 (take m (s2 ++ s3)) e2 (take k (e2 ++ e3)) (queued + 1) (sym (held n l2 l3 d)) (sym (held m s2 s3 f)) (sym (held k e2 e3 g))
    (same_queues (set l1 slot (Some l)) l2 (linked_sides l1 s1 e1 slot l) s2 (linked_ends l1 s1 e1 slot l) e2 (queued + 1) (sym x) (sym y) (sym z)
    (linked l1 s1 e1 queued slot l (same_queues links l1 sides s1 ends e1 queued (sym a) (sym b) (sym c) q)
    (ap (λ (x : List (Option Link)). get_or x slot None) a ∙ free) (subst (λ (x : List (Option Link)). slot < length x) (sym a) within) small))

-- queues of no slot
placed-free : (seat base n : ℕ) → placed seat base (replicate n None) ≡ []
placed-free seat base zero = refl
placed-free seat base (suc n) = placed-free seat (base + 1) n

at_default : {A : Type 0} (n i : ℕ) (d : A) → get_or (replicate n d) i d ≡ d
at_default zero i d = refl
at_default (suc n) zero d = refl
at_default (suc n) (suc i) d = at_default n i d

pub fresh : (n m : ℕ) → n ≤ 65535 → m ≡ 256 → IsQueues (replicate n None) (replicate n alone) (replicate m nobody) 0
fresh n m few seats_are =
    let empty : (seat : ℕ) → queue_slots seat (replicate n None) ≡ [] = λ seat. ap (map (λ (e : ℕ × ℕ). e.1)) (placed-free seat 0 n) in
    record {
      queues = λ seat lt. subst (λ (xs : List ℕ). IsList (replicate n alone) (replicate m nobody) seat xs) (sym (empty seat)) (record { chain = tt; ends_are = at_default m seat nobody });
      count = sym (linked-fresh (replicate n None) (λ i. at_default n i None));
      seats = λ i l at. (let never : None ≡ Some l = sym (at_default n i None) ∙ at in cc);
      sides_length = length-replicate n alone ∙ sym (length-replicate n None);
      ends_length = length-replicate m nobody ∙ seats_are;
      few = (let a : length (replicate n (let o : Option Link = None in o)) ≡ n = length-replicate n None in omega (arith, a, few));
    }

pub fresh_stored : (n n1 n2 : ℕ) (links : List (Option Link)) (sides : List Sides) (ends : List Ends) → n1 ≡ n → n2 ≡ n → n < 65536
    → links ≡ replicate n1 None → sides ≡ replicate n2 alone → ends ≡ replicate 256 nobody → IsQueues links sides ends 0
fresh_stored n n1 n2 links sides ends p q few a b c =
    same_queues (replicate n None) links (replicate n alone) sides (replicate 256 nobody) ends 0
    (ap (λ (k : ℕ). let o : Option Link = None in replicate k o) (sym p) ∙ sym a) (ap (λ (k : ℕ). replicate k alone) (sym q) ∙ sym b) (sym c)
    (fresh n 256 (omega (arith, few)) refl)

-- the links after a slot was taken out and put in
pub link_is : (old free l1 l2 rest : List (Option Link)) (slot n : ℕ) (l : Option Link) → free ≡ set old slot None → l1 ≡ free → l2 ≡ set l1 slot l → length l2 ≡ n → take n (l2 ++ rest) ≡ set old slot l
link_is old free l1 l2 rest slot n l a b x d =
    held n l2 rest d ∙ x ∙ ap (λ (ls : List (Option Link)). set ls slot l) (b ∙ a) ∙ set-set old slot None l
