-- Submit and Dispatch under bfq: which machines they may lead to.
use Rattle.std.proofs.Common.{true, false, Bool, ◌≡◌, ℕ, ◌+◌, ◌==◌, ◌&&◌, List, [], ◌∷◌, Some, All, cond, sum_by, refl, sym, ap, ◌∙◌, subst, arith, eqb-true}
use Rattle.std.specs.List.{find}
use Rattle.std.specs.Option.{option_map, option_map_or}
use Rattle.std.proofs.lemmas.List.Elements.{All-cons, All-head, All-tail}
use Rattle.std.proofs.lemmas.List.Sums.{sum_by-cons}
use Rattle.plain.specs.Machine.{WholeRequest, Bfq, Plain}
use Rattle.plain.specs.Lists.{is_empty}
use Rattle.plain.specs.Merge.{shape_of}
use Rattle.plain.specs.Next.{start_of, starts, wanted, has_start, next_of}
use Rattle.plain.specs.Rules.{activate}
use Rattle.plain.specs.declared.answer.Reply.{Reply}
use Rattle.plain.specs.Opening.{Limits}
use Rattle.plain.specs.Entities.{is_bfq}
use Rattle.plain.specs.Steps.Submit.{woken}
use Rattle.plain.specs.Requests.{shape, range_of}
use Rattle.plain.specs.Steps.Dispatch.{without_first, sent_by_bfq}
use Rattle.plain_laws.proofs.Puts.{some_is, and_then_is, map_is}
use Rattle.plain_laws.proofs.Sent.{rest_of, sent-is}
use Rattle.plain_laws.proofs.Sendings.{IsTaken, dispatched}

-- what is found passes the test
find_is : {A : Type 0} (passes : A → Bool) (xs : List A) (x : A) → find passes xs ≡ Some x → passes x ≡ true
find_is passes [] x e = cc
find_is {A} passes (y ∷ ys) x e = elim (passes y) as (λ b. passes y ≡ b → cond b (Some y) (find passes ys) ≡ Some x → passes x ≡ true) [
  | true ↦ λ yes here. sym (ap passes (some_is y x here)) ∙ yes
  | false ↦ λ _ later. find_is passes ys x later
] refl e

-- and what holds of every element holds of it
All-find : {A : Type 0} (P : A → Type 0) (passes : A → Bool) (xs : List A) (x : A) → find passes xs ≡ Some x → All P xs → P x
All-find P passes [] x e h = cc
All-find P passes (y ∷ ys) x e h = elim (passes y) as (λ b. passes y ≡ b → cond b (Some y) (find passes ys) ≡ Some x → P x) [
  | true ↦ λ _ here. subst P (some_is y x here) (All-head P y ys h)
  | false ↦ λ _ later. All-find P passes ys x later (All-tail P y ys h)
] refl e

-- what holds of every element holds of those without one
All-without_first : {A : Type 0} (P : A → Type 0) (passes : A → Bool) (xs : List A) → All P xs → All P (without_first passes xs)
All-without_first P passes [] h = h
All-without_first P passes (y ∷ ys) h = elim (passes y) as (λ b. All P (cond b ys (y ∷ without_first passes ys))) [
  | true ↦ All-tail P y ys h
  | false ↦ All-cons P y (without_first passes ys) (All-head P y ys h) (All-without_first P passes ys (All-tail P y ys h))
]

-- a sum over a list is that over the list without the element that is found, and that element's
sum_by-without_first : {A : Type 0} (f : A → ℕ) (passes : A → Bool) (xs : List A) (x : A) → find passes xs ≡ Some x → sum_by f xs ≡ f x + sum_by f (without_first passes xs)
sum_by-without_first f passes [] x e = cc
sum_by-without_first f passes (y ∷ ys) x e =
    elim (passes y) as (λ b. passes y ≡ b → cond b (Some y) (find passes ys) ≡ Some x → sum_by f (y ∷ ys) ≡ f x + sum_by f (cond b ys (y ∷ without_first passes ys))) [
      | true ↦ λ _ here. let same : f y ≡ f x = ap f (some_is y x here) in omega (arith, sum_by-cons f y ys, same)
      | false ↦ λ _ later. omega (arith, sum_by-cons f y ys, sum_by-cons f y (without_first passes ys), sum_by-without_first f passes ys x later)
    ] refl e

-- so what is found and the others are those of the list
IsTaken-found : (queue : List WholeRequest) (passes : WholeRequest → Bool) (r : WholeRequest) → find passes queue ≡ Some r → IsTaken queue r (without_first passes queue)
IsTaken-found queue passes r e = record {
  this = λ P h. All-find P passes queue r e h;
  others = λ P h. All-without_first P passes queue h;
  total = λ f. sum_by-without_first f passes queue r e;
}

-- where a request starts, what a merge asks of it starts too
start_of_range : (r : WholeRequest) → start_of shape r ≡ Some (range_of r.bios).start
start_of_range r = elim r.bios as (λ bios. Some (shape_of r.session r.op bios).start ≡ Some (range_of bios).start) [ [] ↦ refl | bio ∷ bios ↦ refl ]

-- the request to be served next is the first of the queue that starts where it does
found_next : (queue : List WholeRequest) (head : ℕ) (r : WholeRequest) → next_of shape queue head ≡ Some r → find (has_start shape (range_of r.bios).start) queue ≡ Some r
found_next queue head r e =
    let w = and_then_is (λ sector. find (has_start shape sector) queue) (wanted head (starts shape queue)) r e in
    let sector : ℕ = w.0 in
    let found : find (has_start shape sector) queue ≡ Some r = w.2 in
    let passes : has_start shape sector r ≡ true = find_is (has_start shape sector) queue r found in
    let same : ((range_of r.bios).start == sector) ≡ true = sym (ap (λ o. option_map_or (λ start. start == sector) o false) (start_of_range r)) ∙ passes in
    let at : (range_of r.bios).start ≡ sector = eqb-true (range_of r.bios).start sector same in
    let P : ℕ → Type 0 = λ s. find (has_start shape s) queue ≡ Some r in
    subst P (sym at) found

-- Submit: a machine with its bio queued, in which at most what BFQ knows has changed
pub woken-keeps : (P : Plain → Type 0) (m : Plain) (seat : ℕ) (next : Plain) (reply : Reply) → P next → ((b : Bfq) → activate seat m.bfq ≡ Some b → P (record next { bfq = b }))
    → (o : Plain × Reply) → option_map (λ next. (next, reply)) (woken m seat next) ≡ Some o → P o.0
woken-keeps P m seat next reply h g o e =
    let w = map_is (λ (next : Plain). (next, reply)) (woken m seat next) o e in
    let kept : P w.0 =
    elim (is_bfq m.scheduler && is_empty (m.queue seat)) as (λ b. cond b (option_map (λ b. record next { bfq = b }) (activate seat m.bfq)) (Some next) ≡ Some w.0 → P w.0) [
      | true ↦ λ is. let a = map_is (λ b. record next { bfq = b }) (activate seat m.bfq) w.0 is in subst P a.2 (g a.0 a.1)
      | false ↦ λ is. subst P (some_is next w.0 is) h
    ] w.1 in
    let Q : Plain × Reply → Type 0 = λ x. P x.0 in
    subst Q w.2 kept

-- Dispatch under bfq: a request of some queue is sent, and the others are queued still
pub sent_by_bfq-keeps : (P : Plain → Type 0) (l : Limits) (m : Plain) (n tag : ℕ)
    → ((seat : ℕ) (r : WholeRequest) (rest : List WholeRequest) (head : ℕ → ℕ) (b : Bfq) → IsTaken (m.queue seat) r rest → P (dispatched m n seat tag r rest m.served head b))
    → (o : Plain × Reply) → sent_by_bfq l m n tag ≡ Some o → P o.0
sent_by_bfq-keeps P l m n tag h o e =
    let s = sent-is l m n tag o e in
    let queue : List WholeRequest = m.queue s.slot.seat in
    let passes : WholeRequest → Bool = has_start shape (range_of s.request.bios).start in
    let found : find passes queue ≡ Some s.request = found_next queue (m.head s.slot.seat) s.request s.next in
    let Q : Plain × Reply → Type 0 = λ x. P x.0 in
    subst Q s.made (h s.slot.seat s.request (rest_of m s.slot.seat s.request) _ s.last (IsTaken-found queue passes s.request found))
