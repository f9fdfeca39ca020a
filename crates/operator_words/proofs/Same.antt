-- Two calls that have the same words are equal.
use Rattle.std.proofs.Common.{◌≡◌, ℕ, ◌+◌, ◌*◌, List, [], ◌∷◌, refl, ap, arith}
use Rattle.sector_core.specs.declared.config.Scheduler.{Scheduler}
use Rattle.sector_core.specs.declared.config.Scheduler.TheVariants.{Plain, Bfq}
use Rattle.host_calls.specs.declared.operator.OperatorCall.{OperatorCall}
use Rattle.host_calls.specs.declared.operator.OperatorCall.TheVariants.{GroupMake, GroupDrop, SetWeight, Freeze, Thaw, Switch, Tick, Hold, Release, Undo, Redo, Stop}
use Rattle.operator_words.specs.Words.{words_of, Fits, scheduler_word}
use Rattle.operator_words.proofs.Numbers.{one_number}

-- a number that differs from name to name
abbrev mark : List ℕ → ℕ
mark [] = 0
mark (x ∷ xs) = x + 31 * mark xs

-- that of the first word
abbrev first_mark : List (List ℕ) → ℕ
first_mark [] = 0
first_mark (word ∷ words) = mark word

one_scheduler : (s t : Scheduler) → scheduler_word s ≡ scheduler_word t → s ≡ t
one_scheduler Plain Plain e = refl
one_scheduler Bfq Bfq e = refl
one_scheduler _ _ e = absurd (omega (arith, ap mark e))

pub one : (c d : OperatorCall) → Fits c → Fits d → words_of c ≡ words_of d → c ≡ d
one (GroupMake p w) (GroupMake q v) f g e =
    let parent : p ≡ q = one_number p q (omega arith) (omega arith) (cc) in
    let weight : w ≡ v = one_number w v (omega arith) (omega arith) (cc) in
    cc
one (GroupDrop n) (GroupDrop m) f g e = let group : n ≡ m = one_number n m (omega arith) (omega arith) (cc) in cc
one (SetWeight n w) (SetWeight m v) f g e =
    let group : n ≡ m = one_number n m (omega arith) (omega arith) (cc) in
    let weight : w ≡ v = one_number w v (omega arith) (omega arith) (cc) in
    cc
one Freeze Freeze f g e = refl
one Thaw Thaw f g e = refl
one (Switch s) (Switch t) f g e = let scheduler : s ≡ t = one_scheduler s t (cc) in cc
one Tick Tick f g e = refl
one Hold Hold f g e = refl
one Release Release f g e = refl
one (Undo k) (Undo n) f g e = let steps : k ≡ n = one_number k n (omega arith) (omega arith) (cc) in cc
one (Redo k) (Redo n) f g e = let steps : k ≡ n = one_number k n (omega arith) (omega arith) (cc) in cc
one Stop Stop f g e = refl
-- two names that differ
one _ _ f g e = absurd (omega (arith, ap first_mark e))
