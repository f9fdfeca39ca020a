-- The serials of a keeper's line rise, so that what every accepted step keeps holds of every keeper's machine.
use Rattle.std.proofs.Common.{true, false, Bool, ◌≡◌, ℕ, zero, suc, ◌+◌, ◌≤◌, List, [], ◌∷◌, ◌++◌, take, Option, Some, None, if◌then◌else◌, refl, sym, subst, arith}
use Rattle.plain.specs.Machine.{Plain}
use Rattle.plain.specs.declared.step.Step.{Step}
use Rattle.plain.specs.declared.call.Call.{Call}
use Rattle.plain.specs.declared.call.Call.TheVariants.{Do, Hold, Release, Undo, Redo}
use Rattle.plain.specs.declared.call.Stamped.{Stamped}
use Rattle.plain.specs.declared.answer.Answer.{Answer}
use Rattle.plain.specs.declared.answer.Answer.TheVariants.{Accepted, Refused, NotYet}
use Rattle.plain.specs.declared.answer.Cause.TheVariants.{Held}
use Rattle.plain.specs.Opening.{Limits, opening}
use Rattle.plain.specs.Step.{step}
use Rattle.plain.specs.Keeper.{State, opened, machine_of, has_room, did, called, fold_from}
use Rattle.plain.specs.Headline.{replayed, replay}
use Rattle.plain_laws.proofs.Leads.{Leads, step-leads}
use Rattle.plain_laws.proofs.Moves.{Moves, moves-lead}

-- the serials of some steps rise, from one number on and below another
abbrev Rising : ℕ → ℕ → List Stamped → Type 0
Rising low top [] = low ≤ top
Rising low top (s ∷ steps) = (low ≤ s.serial) × Rising (s.serial + 1) top steps

rising_room : (low top : ℕ) (steps : List Stamped) → Rising low top steps → low ≤ top
rising_room low top [] h = h
rising_room low top (s ∷ steps) h = omega (arith, h.0, rising_room (s.serial + 1) top steps h.1)

Rising-take : (low top n : ℕ) (steps : List Stamped) → Rising low top steps → Rising low top (take n steps)
Rising-take low top zero steps h = rising_room low top steps h
Rising-take low top (suc n) [] h = h
Rising-take low top (suc n) (s ∷ steps) h = (h.0, Rising-take (s.serial + 1) top n steps h.1)

Rising-push : (low top : ℕ) (steps : List Stamped) (s : Stamped) → s.serial ≡ top → Rising low top steps → Rising low (top + 1) (steps ++ s ∷ [])
Rising-push low top [] s e h = (omega (arith, e, h), omega (arith, e))
Rising-push low top (t ∷ steps) s e h = (h.0, Rising-push (t.serial + 1) top steps s e h.1)

-- so each step finds a machine whose steps had serials below its own
fold_from-leads : (l : Limits) (P : ℕ → Plain → Type 0) → Leads l P → (low top : ℕ) (m : Plain) (steps : List Stamped) → Rising low top steps → P low m → P top (fold_from l m steps)
fold_from-leads l P k low top m [] r h = k.later low top m r h
fold_from-leads l P k low top m (s ∷ steps) r h =
    fold_from-leads l P k (s.serial + 1) top (step l m s.serial true s.step).0 steps r.1 (step-leads l P k m s.serial true s.step (k.later low s.serial m r.0 h))

-- a keeper of these limits, the serials of whose line rise and are at most the last one given
record IsStamped (l : Limits) (k : State) : Type 0 where
  limits : k.limits ≡ l
  rising : Rising 0 (k.last + 1) k.line

-- a call that a test may refuse
entered-stamped : (l : Limits) (k : State) (first : Option Answer) (next : State) (answer : Answer) → IsStamped l k → IsStamped l next
    → IsStamped l (elim first as (λ _. State × Answer) [ None ↦ (next, answer) | Some refusal ↦ (k, refusal) ]).0
entered-stamped l k None next answer h g = g
entered-stamped l k (Some refusal) next answer h g = h

-- a step
did-stamped : (l : Limits) (k : State) (s : Step) (answer : Answer) → IsStamped l k → IsStamped l (did k s answer).0
did-stamped l k s (Accepted reply) h = record {
  limits = h.limits;
  rising = Rising-push 0 (k.last + 1) (take k.cursor k.line) (record { serial = k.last + 1; step = s }) refl (Rising-take 0 (k.last + 1) k.cursor k.line h.rising);
}
did-stamped l k s (Refused code) h = h
did-stamped l k s (NotYet cause) h = h

do-stamped : (l : Limits) (k : State) (s : Step) (held : Bool) (answer : Answer) → IsStamped l k → IsStamped l (if held then (k, NotYet Held) else did k s answer).0
do-stamped l k s true answer h = h
do-stamped l k s false answer h = did-stamped l k s answer h

-- every call
called-stamped : (l : Limits) (k : State) (call : Call) → IsStamped l k → IsStamped l (called k call).0
called-stamped l k (Do s) h = do-stamped l k s k.held (step k.limits (machine_of k) (k.last + 1) (has_room k) s).1 h
called-stamped l k Hold h = entered-stamped l k _ _ _ h (record { limits = h.limits; rising = h.rising })
called-stamped l k Release h = entered-stamped l k _ _ _ h (record { limits = h.limits; rising = h.rising })
called-stamped l k (Undo n) h = entered-stamped l k _ _ _ h (record { limits = h.limits; rising = h.rising })
called-stamped l k (Redo n) h = entered-stamped l k _ _ _ h (record { limits = h.limits; rising = h.rising })

replayed-stamped : (l : Limits) (k : State) (calls : List Call) → IsStamped l k → IsStamped l (replayed k calls)
replayed-stamped l k [] h = h
replayed-stamped l k (call ∷ calls) h = replayed-stamped l (called k call).0 calls (called-stamped l k call h)

-- the machine of such a keeper
pub machine-leads : (l : Limits) (most : ℕ) (journal : List Call) (P : ℕ → Plain → Type 0) → Leads l P → P 0 (opening l)
    → P ((replay l most journal).last + 1) (machine_of (replay l most journal))
machine-leads l most journal P keeps h =
    let k : State = replay l most journal in
    let is : IsStamped l k = replayed-stamped l (opened l most) journal (record { limits = refl; rising = omega arith }) in
    let steps : List Stamped = take k.cursor k.line in
    let Q : Limits → Type 0 = λ x. P (k.last + 1) (fold_from x (opening x) steps) in
    subst Q (sym is.limits) (fold_from-leads l P keeps 0 (k.last + 1) (opening l) steps (Rising-take 0 (k.last + 1) k.cursor k.line is.rising) h)

-- and so where every move does
pub machine-moves : (l : Limits) (most : ℕ) (journal : List Call) (P : ℕ → Plain → Type 0) → Moves l P → P 0 (opening l)
    → P ((replay l most journal).last + 1) (machine_of (replay l most journal))
machine-moves l most journal P keeps h = machine-leads l most journal P (moves-lead l P keeps) h
