-- The operator's calls, as the words of a command line spell them.
use Rattle.std.specs.Prelude.{ℕ, ◌<◌, ◌^◌, List, [], ◌∷◌, codes}
use Rattle.std.specs.Fmt.{decimal}
use Rattle.sector_core.specs.declared.config.Scheduler.{Scheduler}
use Rattle.sector_core.specs.declared.config.Scheduler.TheVariants.{Plain, Bfq}
use Rattle.host_calls.specs.declared.operator.OperatorCall.{OperatorCall}
use Rattle.host_calls.specs.declared.operator.OperatorCall.TheVariants.{GroupMake, GroupDrop, SetWeight, Freeze, Thaw, Switch, Tick, Hold, Release, Undo, Redo, Stop}

-- the word that names a scheduler (our format)
abbrev pub scheduler_word : Scheduler → List ℕ
scheduler_word Plain = codes "none"
scheduler_word Bfq = codes "bfq"

-- the words of a call: its name, and then what it is given, numbers in decimal (our format)
abbrev pub words_of : OperatorCall → List (List ℕ)
words_of (GroupMake parent weight) = codes "group-make" ∷ decimal parent ∷ decimal weight ∷ []
words_of (GroupDrop group) = codes "group-drop" ∷ decimal group ∷ []
words_of (SetWeight group weight) = codes "set-weight" ∷ decimal group ∷ decimal weight ∷ []
words_of Freeze = codes "freeze" ∷ []
words_of Thaw = codes "thaw" ∷ []
words_of (Switch scheduler) = codes "switch" ∷ scheduler_word scheduler ∷ []
words_of Tick = codes "tick" ∷ []
words_of Hold = codes "hold" ∷ []
words_of Release = codes "release" ∷ []
words_of (Undo k) = codes "undo" ∷ decimal k ∷ []
words_of (Redo k) = codes "redo" ∷ decimal k ∷ []
words_of Stop = codes "stop" ∷ []

-- each number of a call is within its type (our format)
abbrev pub Fits : OperatorCall → Type 0
Fits (GroupMake parent weight) = (parent < 2 ^ 8) × (weight < 2 ^ 16)
Fits (GroupDrop group) = group < 2 ^ 8
Fits (SetWeight group weight) = (group < 2 ^ 8) × (weight < 2 ^ 16)
Fits Freeze = Unit {0}
Fits Thaw = Unit {0}
Fits (Switch scheduler) = Unit {0}
Fits Tick = Unit {0}
Fits Hold = Unit {0}
Fits Release = Unit {0}
Fits (Undo k) = k < 2 ^ 32
Fits (Redo k) = k < 2 ^ 32
Fits Stop = Unit {0}
