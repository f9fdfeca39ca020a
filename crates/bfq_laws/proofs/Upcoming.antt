-- A queue that is not empty has a next request, and where a queue is next one of a seat that there is is not empty.
use Rattle.std.proofs.Common.{true, false, Bool, ◌≡◌, ℕ, zero, suc, ◌+◌, ◌<◌, ◌≤◌, nat_le, min, not, List, [], ◌∷◌, ◌++◌, take, drop, Option, Some, None, All, is_some, eq-eqb, cond, refl, sym, ap, ◌∙◌, subst, arith}
use Rattle.std.specs.List.{filter, find}
use Rattle.std.specs.Option.{option_map_or, option_or, option_and_then}
use Rattle.std.proofs.Math.Nat.{min-eq_left, min-eq_right}
use Rattle.std.proofs.lemmas.Bool.{leb-true, leb-false}
use Rattle.std.proofs.lemmas.List.Elements.{All-nil, All-cons, All-head, All-tail, All-filter, All-append, All-take, All-drop}
use Rattle.plain.specs.Lists.{numbers, seats, is_empty}
use Rattle.plain.specs.Merge.{shape_of}
use Rattle.plain.specs.Next.{minimum, wanted, starts, has_start}
use Rattle.plain.specs.Machine.{WholeRequest, Plain}
use Rattle.plain.specs.Requests.{shape}
use Rattle.plain.specs.Steps.Dispatch.{next_queue, next_request}
use Rattle.plain_laws.proofs.Puts.{some_is}
use Rattle.bfq_laws.proofs.Puts.{All-find}

all-other : (P Q : ℕ → Type 0) → ((n : ℕ) → P n → Q n) → (xs : List ℕ) → All P xs → All Q xs
all-other P Q f [] all = All-nil Q
all-other P Q f (x ∷ xs) all = All-cons Q x xs (f x (All-head P x xs all)) (all-other P Q f xs (All-tail P x xs all))

-- a request of the queue starts there
abbrev Starts : List WholeRequest → ℕ → Type 0
Starts queue sector = is_some (find (has_start shape sector) queue) ≡ true

starts-there : (queue : List WholeRequest) → All (Starts queue) (starts shape queue)
starts-there [] = All-nil (Starts [])
starts-there (x ∷ xs) =
    let first : ℕ = (shape_of x.session x.op x.bios).start in
    let here : has_start shape first x ≡ true = eq-eqb first first refl in
    let later : (n : ℕ) → Starts xs n → Starts (x ∷ xs) n = λ n h.
    elim (has_start shape n x) as (λ t. is_some (cond t (Some x) (find (has_start shape n) xs)) ≡ true) [ true ↦ refl | false ↦ h ] in
    let found : Starts (x ∷ xs) first =
    elim (has_start shape first x) as (λ t. has_start shape first x ≡ t → is_some (cond t (Some x) (find (has_start shape first) xs)) ≡ true) [ true ↦ λ _. refl | false ↦ λ wrong. cc ] refl in
    All-cons (Starts (x ∷ xs)) first (starts shape xs) found (all-other (Starts xs) (Starts (x ∷ xs)) later (starts shape xs) (starts-there xs))

least-of : (P : ℕ → Type 0) (n m : ℕ) → P n → P m → P (min n m)
least-of P n m pn pm = elim (nat_le n m) as (λ t. nat_le n m ≡ t → P (min n m)) [
  | true ↦ λ is. subst P (sym (min-eq_left (leb-true n m is))) pn
  | false ↦ λ is. let lt : m < n = leb-false n m is in let le : m ≤ n = omega (arith, lt) in subst P (sym (min-eq_right le)) pm
] refl

minimum-is : (P : ℕ → Type 0) (ns : List ℕ) → All P ns → (w : ℕ) → minimum ns ≡ Some w → P w
minimum-is P [] all w e = cc
minimum-is P (n ∷ ns) all w e =
    elim (minimum ns) as (λ o. minimum ns ≡ o → Some (option_map_or (min n) o n) ≡ Some w → P w) [
      | None ↦ λ _ f. subst P (some_is n w f) (All-head P n ns all)
      | Some m ↦ λ is f. subst P (some_is (min n m) w f) (least-of P n m (All-head P n ns all) (minimum-is P ns (All-tail P n ns all) m is))
    ] refl e

wanted-is : (P : ℕ → Type 0) (first second : Option ℕ) → ((w : ℕ) → first ≡ Some w → P w) → ((w : ℕ) → second ≡ Some w → P w) → (w : ℕ) → option_or first second ≡ Some w → P w
wanted-is P None second one two w e = two w e
wanted-is P (Some v) second one two w e = one w e

or-some : (first second : Option ℕ) → is_some second ≡ true → is_some (option_or first second) ≡ true
or-some None second e = e
or-some (Some v) second e = refl

pub some_of : (o : Option ℕ) → is_some o ≡ true → (v : ℕ) × (o ≡ Some v)
some_of None e = cc
some_of (Some v) e = (v, refl)

minimum-some : (queue : List WholeRequest) → is_empty queue ≡ false → is_some (minimum (starts shape queue)) ≡ true
minimum-some [] e = cc
minimum-some (x ∷ xs) e = refl

pub next-some : (m : Plain) (seat : ℕ) → is_empty (m.queue seat) ≡ false → is_some (next_request m seat) ≡ true
next-some m seat full =
    let queue : List WholeRequest = m.queue seat in
    let head : ℕ = m.head seat in
    let all : All (Starts queue) (starts shape queue) = starts-there queue in
    let first : Option ℕ = minimum (filter (nat_le head) (starts shape queue)) in
    let w = some_of (wanted head (starts shape queue)) (or-some first (minimum (starts shape queue)) (minimum-some queue full)) in
    let found : Starts queue w.0 =
    wanted-is (Starts queue) first (minimum (starts shape queue)) (minimum-is (Starts queue) (filter (nat_le head) (starts shape queue)) (All-filter (nat_le head) (Starts queue) (starts shape queue) all))
    (minimum-is (Starts queue) (starts shape queue) all) w.0 w.1 in
    let Q : Option ℕ → Type 0 = λ o. is_some (option_and_then (λ sector. find (has_start shape sector) queue) o) ≡ true in
    subst Q (sym w.1) found

-- each seat is one of sixteen
numbers-below : (from count : ℕ) → All (λ n. n < from + count) (numbers from count)
numbers-below from zero = All-nil (λ n. n < from + 0)
numbers-below from (suc count) =
    let P : ℕ → Type 0 = λ n. n < from + suc count in
    let later : All (λ n. n < from + 1 + count) (numbers (from + 1) count) = numbers-below (from + 1) count in
    All-cons P from (numbers (from + 1) count) (omega arith) (all-other (λ n. n < from + 1 + count) P (λ n lt. omega (arith, lt)) (numbers (from + 1) count) later)

pub passes-of : (passes : ℕ → Bool) (xs : List ℕ) (x : ℕ) → find passes xs ≡ Some x → passes x ≡ true
passes-of passes [] x e = cc
passes-of passes (y ∷ ys) x e = elim (passes y) as (λ t. passes y ≡ t → cond t (Some y) (find passes ys) ≡ Some x → passes x ≡ true) [
  | true ↦ λ is f. ap passes (sym (some_is y x f)) ∙ is
  | false ↦ λ _ f. passes-of passes ys x f
] refl e

pub was-false : (t : Bool) → not t ≡ true → t ≡ false
was-false true e = cc
was-false false e = refl

-- where a queue is next it is that of a seat, and not empty
pub next_queue-is : (m : Plain) → is_some (next_queue m) ≡ true → (seat : ℕ) × (seat < 16) × (is_empty (m.queue seat) ≡ false)
next_queue-is m e =
    let passes : ℕ → Bool = λ seat. not (is_empty (m.queue seat)) in
    let turn : List ℕ = drop (m.served + 1) seats ++ take (m.served + 1) seats in
    let found = some_of (next_queue m) e in
    let Low : ℕ → Type 0 = λ n. n < 0 + 16 in
    let all : All Low turn = All-append Low (drop (m.served + 1) seats) (take (m.served + 1) seats) (All-drop Low (m.served + 1) seats (numbers-below 0 16)) (All-take Low (m.served + 1) seats (numbers-below 0 16)) in
    let low : found.0 < 0 + 16 = All-find Low passes turn found.0 found.1 all in
    (found.0, omega (arith, low), was-false (is_empty (m.queue found.0)) (passes-of passes turn found.0 found.1))
