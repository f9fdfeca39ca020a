-- The walk from the end of a queue back to the first slot that does not come after an entry.
use Rattle.std.proofs.Common.{◌≡◌, ℕ, zero, suc, ◌+◌, ◌-◌, ◌<◌, ◌≤◌, List, [], ◌∷◌, length, true, false, cond, Option, Some, None, refl, ap, ◌∙◌, arith}
use Rattle.std.proofs.lemmas.Bool.{cond-true, cond-false}
use Rattle.process_queue.specs.declared.Link.{Link}
use Rattle.linked_rows.specs.declared.Sides.{Sides}
use Rattle.process_queue.specs.Queue.{is_after}
use Rattle.linked_rows.specs.Chains.{side_at, last_or, IsChain}
use Rattle.process_queue.specs.Links.{walk_back, serial_at}

pub back_none : (links : List (Option Link)) (sides : List Sides) (e : ℕ × ℕ) (k : ℕ) → walk_back links sides e k None ≡ None
unfolding walk_back
back_none links sides e zero = refl
back_none links sides e (suc k) = refl

back_some : (links : List (Option Link)) (sides : List Sides) (e : ℕ × ℕ) (k i : ℕ)
    → walk_back links sides e (suc k) (Some i) ≡ cond (is_after (Some e) (serial_at links i, i)) (walk_back links sides e k (side_at sides i).before) (Some i)
unfolding walk_back
back_some links sides e k i = refl

back_left : (links : List (Option Link)) (sides : List Sides) (e : ℕ × ℕ) (n k i : ℕ) → k < n
    → walk_back links sides e (n - k) (Some i) ≡ cond (is_after (Some e) (serial_at links i, i)) (walk_back links sides e (n - (k + 1)) (side_at sides i).before) (Some i)
back_left links sides e n k i lt =
    let left : n - k ≡ suc (n - (k + 1)) = omega arith in
    ap (λ (m : ℕ). walk_back links sides e m (Some i)) left ∙ back_some links sides e (n - (k + 1)) i

-- the walk goes on
pub back_on : (links : List (Option Link)) (sides : List Sides) (e : ℕ × ℕ) (n k i : ℕ) → k < n → is_after (Some e) (serial_at links i, i) ≡ true
    → walk_back links sides e (n - k) (Some i) ≡ walk_back links sides e (n - (k + 1)) (side_at sides i).before
back_on links sides e n k i lt after = back_left links sides e n k i lt ∙ cond-true _ _ _ after

-- the walk stops
pub back_stops : (links : List (Option Link)) (sides : List Sides) (e : ℕ × ℕ) (n k i : ℕ) → k < n → is_after (Some e) (serial_at links i, i) ≡ false
    → walk_back links sides e (n - k) (Some i) ≡ Some i
back_stops links sides e n k i lt after = back_left links sides e n k i lt ∙ cond-false _ _ _ after

pub back_zero : (links : List (Option Link)) (sides : List Sides) (e : ℕ × ℕ) (k : ℕ) (at : Option ℕ) → k ≤ 0 → walk_back links sides e k at ≡ at
unfolding walk_back
back_zero links sides e zero at le = refl
back_zero links sides e (suc k) at le = absurd (omega arith)

-- the slots all come after an entry
abbrev pub AllAfter : List (Option Link) → ℕ × ℕ → List ℕ → Type 0
AllAfter links e [] = Unit {0}
AllAfter links e (y ∷ ys) = (is_after (Some e) (serial_at links y, y) ≡ true) × AllAfter links e ys

-- a walk over slots that all come after an entry
over : (links : List (Option Link)) (sides : List Sides) (e : ℕ × ℕ) (ys : List ℕ) (prev next : Option ℕ) (j k : ℕ) → k ≡ length ys + j → IsChain sides prev ys next → AllAfter links e ys
    → walk_back links sides e k (last_or prev ys) ≡ walk_back links sides e j prev
over links sides e [] prev next j k is c a = let z : k ≡ j = omega arith in ap (λ (m : ℕ). walk_back links sides e m prev) z
over links sides e (y ∷ ys) prev next j k is c a =
    over links sides e ys (Some y) next (suc j) k (omega arith) c.2 a.1
    ∙ back_some links sides e j y ∙ cond-true _ _ _ a.0
    ∙ ap (λ (s : Sides). walk_back links sides e j s.before) c.1

-- a walk that starts at a slot that does not come after the entry stays there
stays : (links : List (Option Link)) (sides : List Sides) (e : ℕ × ℕ) (k : ℕ) (at : Option ℕ) → ((i : ℕ) → at ≡ Some i → is_after (Some e) (serial_at links i, i) ≡ false)
    → walk_back links sides e k at ≡ at
stays links sides e zero at h = back_zero links sides e 0 at (omega arith)
stays links sides e (suc k) None h = back_none links sides e (suc k)
stays links sides e (suc k) (Some i) h = back_some links sides e k i ∙ cond-false _ _ _ (h i refl)

-- of two parts, where the later all come after the entry and the last of the earlier does not, the walk finds that one
pub walk_found : (links : List (Option Link)) (sides : List Sides) (e : ℕ × ℕ) (ys : List ℕ) (prev next : Option ℕ) (k : ℕ) → length ys ≤ k → IsChain sides prev ys next → AllAfter links e ys
    → ((i : ℕ) → prev ≡ Some i → is_after (Some e) (serial_at links i, i) ≡ false)
    → walk_back links sides e k (last_or prev ys) ≡ prev
walk_found links sides e ys prev next k le c a h =
    over links sides e ys prev next (k - length ys) k (omega arith) c a ∙ stays links sides e (k - length ys) prev h
