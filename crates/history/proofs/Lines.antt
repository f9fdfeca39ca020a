-- The line: what an undo, a redo and a new step do to its past and its future.
use Rattle.std.proofs.Common.{true, ◌≡◌, ℕ, zero, suc, ◌+◌, ◌<◌, ◌≤◌, List, [], ◌∷◌, ◌++◌, take, length, refl, sym, ap, ◌∙◌, subst, arith}
use Rattle.std.proofs.Math.Seq.{take-suc}
use Rattle.change_record.specs.declared.change.Change.{Change}
use Rattle.change_record.specs.Tables.{Tables}
use Rattle.change_record.specs.Exchange.{back_tables, back_left, forth_tables, forth_left, ArePuts}
use Rattle.plain.specs.Machine.{Plain}
use Rattle.change_record.specs.Machine.{meaning}
use Rattle.change_record.proofs.Exchanges.{back_tables-forth, back_left-forth, forth_tables-back, FitBack-forth}
use Rattle.plain.specs.declared.call.Stamped.{Stamped}
use Rattle.plain.specs.Opening.{Limits, opening}
use Rattle.plain.specs.Step.{step}
use Rattle.plain.specs.Keeper.{fold_from, fold}
use Rattle.dispatch_core.specs.WellFormed.{IsSound}
use Rattle.dispatch_core.proofs.Laws.{IsSound-later}
use Rattle.history.specs.Line.{stamped_at, Stands, Waits, IsPast, IsFuture}

-- what stands waits once it is undone
pub undone : (l : Limits) (n : ℕ) (c : List Change) (s : Stamped) (t : Tables) → IsSound l n t → Stands l n c s t → Waits l n (back_left c t) s (back_tables c t)
undone l n c s t w h =
    let P : Tables → Type 0 = λ u. IsSound l n u in
    record {
      puts = h.puts;
      well = subst P (sym (forth_tables-back c t)) w;
      made = ap meaning (forth_tables-back c t) ∙ h.made;
    }

-- what waits stands once it is redone
pub redone : (l : Limits) (n : ℕ) (c : List Change) (s : Stamped) (t : Tables) → IsSound l n t → Waits l n c s t → Stands l n (forth_left c t) s (forth_tables c t)
redone l n c s t w h =
    let P : Tables → Type 0 = λ u. IsSound l n u in
    let Q : List Change → Type 0 = λ d. ArePuts d in
    record {
      fits = FitBack-forth c t h.puts;
      puts = subst Q (sym (back_left-forth c t)) h.puts;
      well = subst P (sym (back_tables-forth c t)) w;
      made = h.made ∙ ap (λ u. (step l (meaning u) s.serial true s.step).0) (sym (back_tables-forth c t));
    }

-- the past looks at the earlier steps alone
pub past-same : (l : Limits) (n : ℕ) (f g : ℕ → List Change) (s r : ℕ → Stamped) (k : ℕ) (t : Tables)
    → ((i : ℕ) → i < k → g i ≡ f i) → ((i : ℕ) → i < k → r i ≡ s i) → IsPast l n f s k t → IsPast l n g r k t
past-same l n f g s r zero t e d h = h
past-same l n f g s r (suc k) t e d h =
    let P : List Change → Type 0 = λ c. Stands l n c (r k) t × IsPast l n f s k (back_tables c t) in
    let Q : Stamped → Type 0 = λ x. Stands l n (f k) x t in
    let here : P (g k) = subst P (sym (e k (omega arith))) (subst Q (sym (d k (omega arith))) h.0, h.1) in
    (here.0, past-same l n f g s r k (back_tables (g k) t) (λ i lt. e i (omega (arith, lt))) (λ i lt. d i (omega (arith, lt))) here.1)

-- the future looks at the later steps alone
pub future-same : (l : Limits) (n : ℕ) (f g : ℕ → List Change) (s : ℕ → Stamped) (more k : ℕ) (t : Tables)
    → ((i : ℕ) → k ≤ i → g i ≡ f i) → IsFuture l n f s more k t → IsFuture l n g s more k t
future-same l n f g s zero k t e h = h
future-same l n f g s (suc more) k t e h =
    let P : List Change → Type 0 = λ c. Waits l n c (s k) t × IsFuture l n f s more (k + 1) (forth_tables c t) in
    let here : P (g k) = subst P (sym (e k (omega arith))) h in
    (here.0, future-same l n f g s more (k + 1) (forth_tables (g k) t) (λ i le. e i (omega (arith, le))) here.1)

-- a past for a serial is one for the next
pub past-later : (l : Limits) (n : ℕ) (f : ℕ → List Change) (s : ℕ → Stamped) (k : ℕ) (t : Tables) → IsPast l n f s k t → IsPast l (n + 1) f s k t
past-later l n f s zero t h = h
past-later l n f s (suc k) t h = (
  record { fits = h.0.fits; puts = h.0.puts; well = IsSound-later l n _ h.0.well; made = h.0.made },
  past-later l n f s k (back_tables (f k) t) h.1,
)

fold_from-append : (l : Limits) (m : Plain) (xs ys : List Stamped) → fold_from l m (xs ++ ys) ≡ fold_from l (fold_from l m xs) ys
fold_from-append l m [] ys = refl
fold_from-append l m (x ∷ xs) ys = fold_from-append l (step l m x.serial true x.step).0 xs ys

-- the machine is that of the steps that stand
pub past-fold : (l : Limits) (n : ℕ) (f : ℕ → List Change) (line : List Stamped) (k : ℕ) (t : Tables) → k ≤ length line → IsPast l n f (stamped_at line) k t → meaning t ≡ fold l (take k line)
past-fold l n f line zero t e h = h
past-fold l n f line (suc k) t e h =
    h.0.made
    ∙ ap (λ m. (step l m (stamped_at line k).serial true (stamped_at line k).step).0) (past-fold l n f line k (back_tables (f k) t) (omega (arith, e)) h.1)
    ∙ sym (fold_from-append l (opening l) (take k line) (stamped_at line k ∷ []))
    ∙ ap (fold l) (sym (take-suc line k _ (omega (arith, e))))
