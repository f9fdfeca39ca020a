-- How many exchanges the lists of the steps have, and how many an Undo and a Redo make.
use Rattle.std.specs.Prelude.{◌≡◌, ◌⊎◌, ℕ, ◌+◌, ◌-◌, ◌%◌, ◌^◌, List, [], ◌∷◌, ◌++◌, take, drop}
use Rattle.std.specs.List.{sum}
use Rattle.plain.specs.declared.call.Call.{Call}
use Rattle.plain.specs.declared.call.Call.TheVariants.{Do, Hold, Release, Undo, Redo}
use Rattle.plain.specs.declared.answer.Answer.{Answer}
use Rattle.plain.specs.declared.answer.Answer.TheVariants.{Accepted, Refused, NotYet}
use Rattle.plain.specs.Keeper.{machine_of}
use Rattle.plain.specs.Headline.{MayCall}
use Rattle.plain.specs.declared.answer.Code.TheVariants.{OutOfMemory}
use Rattle.change_record.specs.Tape.{TakesBack}
use Rattle.dispatch_core.specs.Counts.{IsCount}
use Rattle.history.specs.Kept.{Kept}

-- the changes of so many steps from a number on
abbrev pub changes_of : List ℕ → ℕ → ℕ → ℕ
changes_of lengths from count = sum (take count (drop from lengths))

-- the counter wraps at 2^64
abbrev pub MakesTurns : ℕ → ℕ → ℕ → Type 0
MakesTurns old count new = new % 2 ^ 64 ≡ (old + count) % 2 ^ 64

-- an accepted step cuts the lists at the cursor and adds one with so many exchanges as it may have, 512 at most;
-- an accepted Undo or Redo makes exactly the exchanges of its steps, and leaves each list as long as it is;
-- a Redo that finds no memory turns back what it has made, and any other refused one makes none
abbrev pub Turns : Kept → Call → Answer → Kept → Type 0
Turns old (Undo n) (Accepted reply) new = MakesTurns old.turns (changes_of old.lengths (old.state.cursor - n) n) new.turns × (new.lengths ≡ old.lengths)
Turns old (Redo n) (Accepted reply) new = MakesTurns old.turns (changes_of old.lengths old.state.cursor n) new.turns × (new.lengths ≡ old.lengths)
Turns old (Undo n) (Refused code) new = (new.turns ≡ old.turns) × (new.lengths ≡ old.lengths)
Turns old (Redo n) (Refused OutOfMemory) new =
    ((new.turns ≡ old.turns) ⊎ TakesBack old.turns (changes_of old.lengths old.state.cursor n) new.turns) × (new.lengths ≡ old.lengths)
Turns old (Redo n) (Refused code) new = (new.turns ≡ old.turns) × (new.lengths ≡ old.lengths)
Turns old (Undo n) (NotYet cause) new = new.lengths ≡ old.lengths
Turns old (Redo n) (NotYet cause) new = new.lengths ≡ old.lengths
Turns old (Do s) (Accepted reply) new =
    (count : ℕ) × (new.lengths ≡ take old.state.cursor old.lengths ++ count ∷ []) × IsCount (machine_of old.state) s count
Turns old (Do s) (Refused code) new = new.lengths ≡ old.lengths
Turns old (Do s) (NotYet cause) new = new.lengths ≡ old.lengths
Turns old Hold answer new = (new.turns ≡ old.turns) × (new.lengths ≡ old.lengths)
Turns old Release answer new = (new.turns ≡ old.turns) × (new.lengths ≡ old.lengths)

-- calls one after the other, each answered so, and with these exchanges
abbrev pub KeptRun : Kept → List Call → List Answer → Kept → Type 0
KeptRun k [] [] next = next ≡ k
KeptRun k [] (answer ∷ answers) next = ⊥
KeptRun k (call ∷ calls) [] next = ⊥
KeptRun k (call ∷ calls) (answer ∷ answers) next =
    (mid : Kept) × MayCall k.state call answer mid.state × Turns k call answer mid × KeptRun mid calls answers next
