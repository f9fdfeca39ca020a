-- Lines that are a word and then numbers, and those that end in a class or at a sector of the payload.
use Rattle.std.specs.Prelude.{◌≡◌, ℕ, List, [], ◌∷◌, ◌++◌, codes, Option, MatchOption, ◌⊎◌}
use Rattle.script_line.specs.Words.{numbers, at_sector, class_named}
use Rattle.sector_core.specs.declared.class.Class.{Class as ClassOf}
use Rattle.script_line.specs.Line.{Fits}
use Rattle.script_line.specs.declared.line.Line.{Line}
use Rattle.script_line.specs.declared.line.Line.TheVariants.{Attach, ClassAttach, Read, Write, WriteFrom, Discard, Reap, Leave, Dispatch, Finish, Work, Requeue, Hold, Release, Undo, Redo, Group, Drop, Weight, Freeze, Thaw, Switch, Tick, Sector, Queue, Cursor, Vtime, ClassVtime, Entity, Class, Show}

-- the line is this word and then these numbers
abbrev pub IsWordAndNumbers : List ℕ → List ℕ → Line → Type 0
IsWordAndNumbers word given (Attach seat group prio) = (word ≡ codes "attach") × (given ≡ seat ∷ group ∷ prio ∷ [])
IsWordAndNumbers word given (ClassAttach seat group prio class) = ⊥
IsWordAndNumbers word given (Read seat session start count) = (word ≡ codes "read") × (given ≡ seat ∷ session ∷ start ∷ count ∷ [])
IsWordAndNumbers word given (Write seat session start count byte) = (word ≡ codes "write") × (given ≡ seat ∷ session ∷ start ∷ count ∷ byte ∷ [])
IsWordAndNumbers word given (WriteFrom seat session start count from) = ⊥
IsWordAndNumbers word given (Discard seat session start count) = (word ≡ codes "discard") × (given ≡ seat ∷ session ∷ start ∷ count ∷ [])
IsWordAndNumbers word given (Reap seat session) = (word ≡ codes "reap") × (given ≡ seat ∷ session ∷ [])
IsWordAndNumbers word given (Leave seat) = (word ≡ codes "leave") × (given ≡ seat ∷ [])
IsWordAndNumbers word given Dispatch = (word ≡ codes "dispatch") × (given ≡ [])
IsWordAndNumbers word given (Finish tag issue ending) = ⊥
IsWordAndNumbers word given (Work tag issue) = (word ≡ codes "work") × (given ≡ tag ∷ issue ∷ [])
IsWordAndNumbers word given (Requeue tag issue) = (word ≡ codes "requeue") × (given ≡ tag ∷ issue ∷ [])
IsWordAndNumbers word given Hold = (word ≡ codes "hold") × (given ≡ [])
IsWordAndNumbers word given Release = (word ≡ codes "release") × (given ≡ [])
IsWordAndNumbers word given (Undo k) = (word ≡ codes "undo") × (given ≡ k ∷ [])
IsWordAndNumbers word given (Redo k) = (word ≡ codes "redo") × (given ≡ k ∷ [])
IsWordAndNumbers word given (Group parent weight) = (word ≡ codes "group") × (given ≡ parent ∷ weight ∷ [])
IsWordAndNumbers word given (Drop group) = (word ≡ codes "drop") × (given ≡ group ∷ [])
IsWordAndNumbers word given (Weight group weight) = (word ≡ codes "weight") × (given ≡ group ∷ weight ∷ [])
IsWordAndNumbers word given Freeze = (word ≡ codes "freeze") × (given ≡ [])
IsWordAndNumbers word given Thaw = (word ≡ codes "thaw") × (given ≡ [])
IsWordAndNumbers word given (Switch scheduler) = ⊥
IsWordAndNumbers word given Tick = (word ≡ codes "tick") × (given ≡ [])
IsWordAndNumbers word given (Sector number) = (word ≡ codes "sector") × (given ≡ number ∷ [])
IsWordAndNumbers word given (Queue seat) = (word ≡ codes "queue") × (given ≡ seat ∷ [])
IsWordAndNumbers word given Cursor = (word ≡ codes "line") × (given ≡ [])
IsWordAndNumbers word given (Vtime group) = (word ≡ codes "vtime") × (given ≡ group ∷ [])
IsWordAndNumbers word given (ClassVtime group class) = ⊥
IsWordAndNumbers word given (Entity number) = (word ≡ codes "entity") × (given ≡ number ∷ [])
IsWordAndNumbers word given (Class number) = (word ≡ codes "class") × (given ≡ number ∷ [])
IsWordAndNumbers word given (Show look) = ⊥

-- what a word and numbers are read to: the line that they are, or none where no line is
abbrev pub Reads : List ℕ → List ℕ → Option Line → Type 0
Reads word given found = MatchOption found
    ((l : Line) → Fits l → IsWordAndNumbers word given l → ⊥)
    (λ l. Fits l × IsWordAndNumbers word given l)

-- the line is this word, then these numbers, and then this class (our profile)
abbrev pub IsWordNumbersAndClass : List ℕ → List ℕ → ClassOf → Line → Type 0
IsWordNumbersAndClass word given named (ClassAttach seat group prio class) = (word ≡ codes "attach") × (given ≡ seat ∷ group ∷ prio ∷ []) × (named ≡ class)
IsWordNumbersAndClass word given named (ClassVtime group class) = (word ≡ codes "vtime") × (given ≡ group ∷ []) × (named ≡ class)
IsWordNumbersAndClass word given named line = ⊥

-- what a word, numbers and a class are read to: the line that they are, or none where no line is (our profile)
abbrev pub ReadsClass : List ℕ → List ℕ → ClassOf → Option Line → Type 0
ReadsClass word given named found = MatchOption found
    ((l : Line) → Fits l → IsWordNumbersAndClass word given named l → ⊥)
    (λ l. Fits l × IsWordNumbersAndClass word given named l)

-- the line is this word, and what stands after it, which ends in a class (our profile)
abbrev pub IsClassed : List ℕ → List ℕ → Line → Type 0
IsClassed word text (ClassAttach seat group prio class) = (word ≡ codes "attach") × (text ≡ numbers (seat ∷ group ∷ prio ∷ []) ++ class_named class)
IsClassed word text (ClassVtime group class) = (word ≡ codes "vtime") × (text ≡ numbers (group ∷ []) ++ class_named class)
IsClassed word text line = ⊥

-- the line begins with `write`, and this is what stands after that word, which ends at a sector of the payload (our profile)
abbrev pub IsSourced : List ℕ → Line → Type 0
IsSourced text (WriteFrom seat session start count from) = text ≡ numbers (seat ∷ session ∷ start ∷ count ∷ []) ++ at_sector from
IsSourced text line = ⊥

-- the line is this word, and what stands after it, which ends in a class or at a sector of the payload (our profile)
abbrev pub IsMarked : List ℕ → List ℕ → Line → Type 0
IsMarked word text line = IsClassed word text line ⊎ ((word ≡ codes "write") × IsSourced text line)

-- the line where its numbers are within their types, else none
abbrev pub FitsOrNone : Line → Option Line → Type 0
FitsOrNone line found = MatchOption found (Fits line → ⊥) (λ l. Fits line × (l ≡ line))
