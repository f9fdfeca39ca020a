-- The keeper: a line of steps, a cursor, and a journal. Its machine is the fold over the steps that stand.
use Rattle.std.specs.Prelude.{ℕ, ◌+◌, ◌-◌, ◌==◌, nat_lt, Bool, true, false, not, List, [], ◌∷◌, ◌++◌, length, take, None, Some, if◌then◌else◌}
use Rattle.plain.specs.Lists.{first_of}
use Rattle.plain.specs.Machine.{Plain}
use Rattle.plain.specs.declared.step.Step.{Step}
use Rattle.plain.specs.declared.call.Call.{Call}
use Rattle.plain.specs.declared.call.Call.TheVariants.{Do, Hold, Release, Undo, Redo}
use Rattle.plain.specs.declared.call.Stamped.{Stamped}
use Rattle.plain.specs.declared.answer.Answer.{Answer}
use Rattle.plain.specs.declared.answer.Answer.TheVariants.{Accepted, Refused, NotYet}
use Rattle.plain.specs.declared.answer.Reply.{Reply}
use Rattle.plain.specs.declared.answer.Reply.TheVariants.{Moved, Done}
use Rattle.plain.specs.declared.answer.Code.TheVariants.{NotHeld, AlreadyHeld, ZeroCount, NothingToUndo, NothingToRedo, HistoryFull}
use Rattle.plain.specs.declared.answer.Cause.TheVariants.{Held}
use Rattle.plain.specs.Opening.{Limits, opening}
use Rattle.plain.specs.Step.{step}

-- the machine after some steps, each under its serial, with room in the history (our profile)
abbrev pub fold_from : Limits → Plain → List Stamped → Plain
fold_from l m [] = m
fold_from l m (s ∷ steps) = fold_from l (step l m s.serial true s.step).0 steps

-- the machine of a list of steps: they are taken one after the other from the opening machine (our profile)
abbrev pub fold : Limits → List Stamped → Plain
fold l steps = fold_from l (opening l) steps

-- a keeper at one moment: a line of steps, how many of them stand, and the calls that it has accepted (our profile)
pub record State : Type 0 where
  -- what the machine was made for (our profile)
  pub limits : Limits
  -- how many calls the history holds (our profile)
  pub most : ℕ
  -- the accepted steps, each with its serial; those past the cursor are undone and can be redone (our profile)
  pub line : List Stamped
  -- how many steps stand, the first ones of the line (our profile)
  pub cursor : ℕ
  -- whether the host is held, so that no step is taken (our profile)
  pub held : Bool
  -- the last serial that was given; going back does not lower it (our profile)
  pub last : ℕ
  -- the accepted calls, in order (our profile)
  pub journal : List Call

-- a keeper before its first call (our profile)
abbrev pub opened : Limits → ℕ → State
opened l most = record { limits = l; most = most; line = []; cursor = 0; held = false; last = 0; journal = [] }

-- its machine: the fold over the steps that stand (our profile)
abbrev pub machine_of : State → Plain
machine_of k = fold k.limits (take k.cursor k.line)

-- whether the history has a place for one more call (our profile)
abbrev pub has_room : State → Bool
has_room k = nat_lt (length k.journal) k.most

-- a call is refused by the first test that holds; else it is accepted and becomes the journal's next entry (our profile)
abbrev pub entered : State → List (Bool × Answer) → State → Call → Reply → State × Answer
entered k tests next call reply = elim (first_of tests) [
  | None ↦ (record next { journal = k.journal ++ call ∷ [] }, Accepted reply)
  | Some answer ↦ (k, answer)
]

-- an accepted step cuts the line at the cursor and is its last; after another answer the keeper is as it was (our profile)
abbrev pub did : State → Step → Answer → State × Answer
did k s (Accepted reply) = (
  record k {
    line = take k.cursor k.line ++ record { serial = k.last + 1; step = s } ∷ [];
    cursor = k.cursor + 1;
    last = k.last + 1;
    journal = k.journal ++ Do s ∷ [];
  },
  Accepted reply,
)
did k s (Refused code) = (k, Refused code)
did k s (NotYet cause) = (k, NotYet cause)

-- what a call does: the keeper after it, and the answer; a step waits while the host is held (our profile)
abbrev pub called : State → Call → State × Answer
called k (Do s) = if k.held then (k, NotYet Held) else did k s (step k.limits (machine_of k) (k.last + 1) (has_room k) s).1
called k Hold = entered k (
    (k.held, Refused AlreadyHeld)
    ∷ (not (has_room k), Refused HistoryFull)
    ∷ []) (record k { held = true }) Hold (Moved k.cursor (length k.line))
called k Release = entered k (
    (not k.held, Refused NotHeld)
    ∷ (not (has_room k), Refused HistoryFull)
    ∷ []) (record k { held = false }) Release Done
called k (Undo n) = entered k (
    (not k.held, Refused NotHeld)
    ∷ (n == 0, Refused ZeroCount)
    ∷ (nat_lt k.cursor n, Refused NothingToUndo)
    ∷ (not (has_room k), Refused HistoryFull)
    ∷ []) (record k { cursor = k.cursor - n }) (Undo n) (Moved (k.cursor - n) (length k.line))
called k (Redo n) = entered k (
    (not k.held, Refused NotHeld)
    ∷ (n == 0, Refused ZeroCount)
    ∷ (nat_lt (length k.line) (k.cursor + n), Refused NothingToRedo)
    ∷ (not (has_room k), Refused HistoryFull)
    ∷ []) (record k { cursor = k.cursor + n }) (Redo n) (Moved (k.cursor + n) (length k.line))

-- which calls may find no memory: all but Undo (our profile)
abbrev pub MayWant : Call → Type 0
MayWant (Do s) = Unit {0}
MayWant Hold = Unit {0}
MayWant Release = Unit {0}
MayWant (Undo n) = ⊥
MayWant (Redo n) = Unit {0}
