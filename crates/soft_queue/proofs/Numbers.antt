-- Runs of seats.
use Rattle.std.proofs.Common.{◌≡◌, ℕ, zero, suc, ◌+◌, ◌-◌, ◌<◌, ◌≤◌, List, [], ◌∷◌, ◌++◌, Option, Some, None, Bool, true, false, not, cond, take, drop, ◌⊎◌, inl, inr, refl, sym, ap, ◌∙◌, arith}
use Rattle.std.specs.List.{find}
use Rattle.std.specs.Option.{option_or}
use Rattle.std.proofs.lemmas.List.Folds.{find-append}
use Rattle.process_queue.specs.declared.Link.{Link}
use Rattle.process_queue.specs.Queue.{queue_slots}
use Rattle.plain.specs.Lists.{is_empty, numbers, seats}
use Rattle.soft_queue.specs.Turn.{is_waiting, next_seat}

numbers-cons : (i n : ℕ) → 0 < n → numbers i n ≡ i ∷ numbers (i + 1) (n - 1)
numbers-cons i zero h = absurd (omega arith)
numbers-cons i (suc n) h = let e : suc n - 1 ≡ n = omega arith in rw e refl

-- the walk, one seat at a time
pub find-numbers : (p : ℕ → Bool) (i end : ℕ) → i < end → p i ≡ false → find p (numbers i (end - i)) ≡ find p (numbers (i + 1) (end - (i + 1)))
find-numbers p i end h fails =
    let less : end - i - 1 ≡ end - (i + 1) = omega arith in
    ap (find p) (numbers-cons i (end - i) (omega arith)) ∙ ap (λ b. cond b (Some i) (find p (numbers (i + 1) (end - i - 1)))) fails
    ∙ ap (λ n. find p (numbers (i + 1) n)) less

pub find-numbers_here : (p : ℕ → Bool) (i end : ℕ) → i < end → p i ≡ true → find p (numbers i (end - i)) ≡ Some i
find-numbers_here p i end h passes =
    ap (find p) (numbers-cons i (end - i) (omega arith)) ∙ ap (λ b. cond b (Some i) (find p (numbers (i + 1) (end - i - 1)))) passes

pub drop-numbers : (k a n : ℕ) → drop k (numbers a n) ≡ numbers (a + k) (n - k)
drop-numbers zero a n = let e : a + zero ≡ a = omega arith in let f : n - zero ≡ n = omega arith in sym (ap (λ m. numbers m (n - zero)) e ∙ ap (numbers a) f)
drop-numbers (suc k) a zero = let f : zero - suc k ≡ zero = omega arith in sym (ap (numbers (a + suc k)) f)
drop-numbers (suc k) a (suc n) =
    let e : a + 1 + k ≡ a + suc k = omega arith in
    let f : n - k ≡ suc n - suc k = omega arith in
    drop-numbers k (a + 1) n ∙ ap (λ m. numbers m (n - k)) e ∙ ap (numbers (a + suc k)) f

pub take-numbers : (k a n : ℕ) → k ≤ n → take k (numbers a n) ≡ numbers a k
take-numbers zero a n h = refl
take-numbers (suc k) a zero h = absurd (omega arith)
take-numbers (suc k) a (suc n) h = ap (λ xs. a ∷ xs) (take-numbers k (a + 1) n (omega arith))

pub take-numbers_past : (k a n : ℕ) → n ≤ k → take k (numbers a n) ≡ numbers a n
take-numbers_past zero a n h = let e : n ≡ zero = omega arith in sym (ap (numbers a) e)
take-numbers_past (suc k) a zero h = refl
take-numbers_past (suc k) a (suc n) h = ap (λ xs. a ∷ xs) (take-numbers_past k (a + 1) n (omega arith))

-- a turn in two runs: from the seat after the last one up, and from the first seat up to it
pub turn : (last after : ℕ) → ((last < 16) × (after ≡ last + 1)) ⊎ ((16 ≤ last) × (after ≡ 16))
    → drop (last + 1) seats ++ take (last + 1) seats ≡ numbers after (16 - after) ++ numbers 0 (after - 0)
turn last after (inl w) =
    let e : 0 + (last + 1) ≡ after = omega (arith, w.1) in
    let f : 16 - (last + 1) ≡ 16 - after = omega (arith, w.1) in
    let g : last + 1 ≡ after - 0 = omega (arith, w.1) in
    ap (λ xs. xs ++ take (last + 1) seats) (drop-numbers (last + 1) 0 16 ∙ ap (λ m. numbers m (16 - (last + 1))) e ∙ ap (numbers after) f)
    ∙ ap (λ xs. numbers after (16 - after) ++ xs) (take-numbers (last + 1) 0 16 (omega (arith, w.0)) ∙ ap (numbers 0) g)
turn last after (inr w) =
    let e : 16 - (last + 1) ≡ 0 = omega (arith, w.0) in
    let f : 16 - after ≡ 0 = omega (arith, w.1) in
    let g : 16 ≡ after - 0 = omega (arith, w.1) in
    ap (λ xs. xs ++ take (last + 1) seats) (drop-numbers (last + 1) 0 16 ∙ ap (numbers (0 + (last + 1))) e ∙ sym (ap (numbers after) f))
    ∙ ap (λ xs. numbers after (16 - after) ++ xs) (take-numbers_past (last + 1) 0 16 (omega (arith, w.0)) ∙ ap (numbers 0) g)

pub ruleset walk = (find-numbers, find-numbers_here)

abbrev pub IsAfter : ℕ → ℕ → Type 0
IsAfter last after = ((last < 16) × (after ≡ last + 1)) ⊎ ((16 ≤ last) × (after ≡ 16))

-- the first waiting seat of a turn is that of its first run, or else that of its second
pub next_seat_is : (last after : ℕ) (links : List (Option Link)) → IsAfter last after
    → next_seat last links ≡ option_or (find (is_waiting links) (numbers after (16 - after))) (find (is_waiting links) (numbers 0 (after - 0)))
next_seat_is last after links side =
    ap (find (is_waiting links)) (turn last after side) ∙ find-append (is_waiting links) (numbers after (16 - after)) (numbers 0 (after - 0))

-- nothing is found of which all say no
find_none : (p : ℕ → Bool) (xs : List ℕ) → ((x : ℕ) → p x ≡ false) → find p xs ≡ None
find_none p [] fails = refl
find_none p (x ∷ xs) fails = ap (λ b. cond b (Some x) (find p xs)) (fails x) ∙ find_none p xs fails

-- no seat is next where all queues are empty
pub none_next : (last : ℕ) (links : List (Option Link)) → ((seat : ℕ) → queue_slots seat links ≡ []) → None ≡ next_seat last links
none_next last links none =
    sym (find_none (is_waiting links) (drop (last + 1) seats ++ take (last + 1) seats) (λ seat. ap (λ slots. not (is_empty slots)) (none seat)))
