-- The text of a queue, a place at a time.
use Rattle.std.proofs.Common.{◌≡◌, ℕ, zero, suc, ◌+◌, ◌<◌, List, [], ◌∷◌, ◌++◌, codes, length, drop, refl, sym, ap, ◌∙◌, arith, add-one, append_assoc}
use Rattle.std.specs.Prelude.{Option, None, Some, Result, Ok, Err, OnOk}
use Rattle.sector_core.specs.declared.range.Range.{Range}
use Rattle.plain.specs.Machine.{WholeRequest}
use Rattle.plain.specs.Keeper.{State, machine_of}
use Rattle.plain.specs.Looks.{view_in, view_at}
use Rattle.plain.specs.declared.view.RequestView.TheVariants.{Free, Past, Queued}
use Rattle.host_console.specs.Printed.{request_text, requests_text, queue_text}

-- what is left to print after `queue` and the requests before a place
abbrev pub left : {A : Type 0} → Option A → List WholeRequest → ℕ → List ℕ
left None queue place = codes " none"
left (Some seat) queue place = requests_text (drop place queue)

-- `queue` and all that is left after it is the text of a queue
joined : {A : Type 0} (seat : Option A) (queue : List WholeRequest) → codes "queue" ++ left seat queue 0
    ≡ elim seat [ None ↦ codes "queue none" | Some session ↦ codes "queue" ++ requests_text queue ]
joined None queue = refl
joined (Some seat) queue = refl

-- after `queue` the whole text of the queue is left
pub begun : (before now : List ℕ) (k : State) (seat : ℕ) → now ≡ before ++ codes "queue"
    → now ++ left ((machine_of k).seat seat) ((machine_of k).queue seat) 0 ≡ before ++ queue_text k seat
begun before now k seat is = rw (is, append_assoc) (ap (λ ys. before ++ ys) (joined ((machine_of k).seat seat) ((machine_of k).queue seat)))

-- a look into a queue finds no free seat
not_free : (queue : List WholeRequest) (place : ℕ) → Free ≡ view_in queue place → ⊥
not_free [] place seen = cc
not_free (request ∷ queue) zero seen = cc
not_free (request ∷ queue) (suc place) seen = not_free queue place seen

-- past the last request nothing is left of the queue
none_left : (queue : List WholeRequest) (place : ℕ) → Past ≡ view_in queue place → requests_text (drop place queue) ≡ []
none_left [] zero seen = refl
none_left [] (suc place) seen = refl
none_left (request ∷ queue) zero seen = absurd (cc)
none_left (request ∷ queue) (suc place) seen = none_left queue place seen

-- the request that is seen is the next of the queue
next_left : (queue : List WholeRequest) (place : ℕ) (range : Range) (bios : ℕ) → Queued range bios ≡ view_in queue place
    → (place < length queue) × (requests_text (drop place queue) ≡ 32 ∷ (request_text range bios ++ requests_text (drop (suc place) queue)))
next_left [] place range bios seen = absurd (cc)
next_left (request ∷ queue) zero range bios seen = (omega arith, cc)
next_left (request ∷ queue) (suc place) range bios seen =
    let later = next_left queue place range bios seen in
    (omega (arith, later.0), later.1)

-- a free seat is told as such
pub left-free : (seat : _) (queue : List WholeRequest) (place : ℕ) → Free ≡ view_at seat queue place → left seat queue place ≡ codes " none"
left-free None queue place seen = refl
left-free (Some seat) queue place seen = absurd (not_free queue place seen)

-- past the last request nothing is left
pub left-past : (seat : _) (queue : List WholeRequest) (place : ℕ) → Past ≡ view_at seat queue place → left seat queue place ≡ []
left-past None queue place seen = absurd (cc)
left-past (Some seat) queue place seen = none_left queue place seen

-- the request that is seen is the next to print
pub left-queued : (seat : _) (queue : List WholeRequest) (place : ℕ) (range : Range) (bios : ℕ) → Queued range bios ≡ view_at seat queue place
    → (place < length queue) × (left seat queue place ≡ 32 ∷ (request_text range bios ++ left seat queue (place + 1)))
left-queued None queue place range bios seen = absurd (cc)
left-queued (Some seat) queue place range bios seen = rw add-one (next_left queue place range bios seen)

-- one request more is printed
pub one_more : (before after rest whole text more : List ℕ) → after ≡ before ++ 32 ∷ text → rest ≡ 32 ∷ (text ++ more)
    → before ++ rest ≡ whole → after ++ more ≡ whole
one_more before after rest whole text more is next so_far =
    let joined_up : after ++ more ≡ before ++ 32 ∷ (text ++ more) = rw is (simp append_assoc) in
    joined_up ∙ ap (λ ys. before ++ ys) (sym next) ∙ so_far

-- where the seat is free, ` none` is what was left to print
pub told_free : {T E : Type 0} (result : Result T E) (before after rest whole : List ℕ) → OnOk result (after ≡ before ++ codes " none")
    → rest ≡ codes " none" → before ++ rest ≡ whole → OnOk result (after ≡ whole)
told_free (Ok done) before after rest whole put is so_far = put ∙ ap (λ ys. before ++ ys) (sym is) ∙ so_far
told_free (Err error) before after rest whole put is so_far = tt
