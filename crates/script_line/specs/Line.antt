-- The lines of a script, as they are spelled: words joined by one space.
use Rattle.std.specs.Prelude.{ℕ, ◌<◌, ◌^◌, List, [], ◌∷◌, ◌++◌, codes}
use Rattle.sector_core.specs.declared.config.Scheduler.{Scheduler}
use Rattle.sector_core.specs.declared.config.Scheduler.TheVariants.{Plain, Bfq}
use Rattle.script_line.specs.Words.{numbers, at_sector, class_named}
use Rattle.script_line.specs.Look.{shown, LookFits}
use Rattle.script_line.specs.declared.line.Line.{Line}
use Rattle.script_line.specs.declared.line.Line.TheVariants.{Attach, ClassAttach, Read, Write, WriteFrom, Discard, Reap, Leave, Dispatch, Finish, Work, Requeue, Hold, Release, Undo, Redo, Group, Drop, Weight, Freeze, Thaw, Switch, Tick, Sector, Queue, Cursor, Vtime, ClassVtime, Entity, Class, Show}
use Rattle.script_line.specs.declared.line.Ending.{Ending}
use Rattle.script_line.specs.declared.line.Ending.TheVariants.{Stored, Fill, Short, Fault}

-- how a `finish` line ends
abbrev pub ended : Ending → List ℕ
ended Stored = codes " stored"
ended (Fill byte) = codes " fill" ++ numbers (byte ∷ [])
ended Short = codes " short"
ended Fault = codes " fault"

-- how a `switch` line names a scheduler
abbrev pub named : Scheduler → List ℕ
named Plain = codes " none"
named Bfq = codes " bfq"

-- the bytes of a line
abbrev pub spelled : Line → List ℕ
spelled (Attach seat group prio) = codes "attach" ++ numbers (seat ∷ group ∷ prio ∷ [])
spelled (ClassAttach seat group prio class) = codes "attach" ++ (numbers (seat ∷ group ∷ prio ∷ []) ++ class_named class)
spelled (Read seat session start count) = codes "read" ++ numbers (seat ∷ session ∷ start ∷ count ∷ [])
spelled (Write seat session start count byte) = codes "write" ++ numbers (seat ∷ session ∷ start ∷ count ∷ byte ∷ [])
spelled (WriteFrom seat session start count from) = codes "write" ++ (numbers (seat ∷ session ∷ start ∷ count ∷ []) ++ at_sector from)
spelled (Discard seat session start count) = codes "discard" ++ numbers (seat ∷ session ∷ start ∷ count ∷ [])
spelled (Reap seat session) = codes "reap" ++ numbers (seat ∷ session ∷ [])
spelled (Leave seat) = codes "leave" ++ numbers (seat ∷ [])
spelled Dispatch = codes "dispatch"
spelled (Finish tag issue ending) = codes "finish" ++ (numbers (tag ∷ issue ∷ []) ++ ended ending)
spelled (Work tag issue) = codes "work" ++ numbers (tag ∷ issue ∷ [])
spelled (Requeue tag issue) = codes "requeue" ++ numbers (tag ∷ issue ∷ [])
spelled Hold = codes "hold"
spelled Release = codes "release"
spelled (Undo k) = codes "undo" ++ numbers (k ∷ [])
spelled (Redo k) = codes "redo" ++ numbers (k ∷ [])
spelled (Group parent weight) = codes "group" ++ numbers (parent ∷ weight ∷ [])
spelled (Drop group) = codes "drop" ++ numbers (group ∷ [])
spelled (Weight group weight) = codes "weight" ++ numbers (group ∷ weight ∷ [])
spelled Freeze = codes "freeze"
spelled Thaw = codes "thaw"
spelled (Switch scheduler) = codes "switch" ++ named scheduler
spelled Tick = codes "tick"
spelled (Sector number) = codes "sector" ++ numbers (number ∷ [])
spelled (Queue seat) = codes "queue" ++ numbers (seat ∷ [])
spelled Cursor = codes "line"
spelled (Vtime group) = codes "vtime" ++ numbers (group ∷ [])
spelled (ClassVtime group class) = codes "vtime" ++ (numbers (group ∷ []) ++ class_named class)
spelled (Entity number) = codes "entity" ++ numbers (number ∷ [])
spelled (Class number) = codes "class" ++ numbers (number ∷ [])
spelled (Show look) = codes "show" ++ shown look

-- the byte of an ending is a byte
abbrev pub EndingFits : Ending → Type 0
EndingFits Stored = Unit {0}
EndingFits (Fill byte) = byte < 2 ^ 8
EndingFits Short = Unit {0}
EndingFits Fault = Unit {0}

-- each number of a line is within its type
abbrev pub Fits : Line → Type 0
Fits (Attach seat group prio) = (seat < 2 ^ 8) × (group < 2 ^ 8) × (prio < 2 ^ 8)
Fits (ClassAttach seat group prio class) = (seat < 2 ^ 8) × (group < 2 ^ 8) × (prio < 2 ^ 8)
Fits (Read seat session start count) = (seat < 2 ^ 8) × (session < 2 ^ 64) × (start < 2 ^ 64) × (count < 2 ^ 16)
Fits (Write seat session start count byte) = (seat < 2 ^ 8) × (session < 2 ^ 64) × (start < 2 ^ 64) × (count < 2 ^ 16) × (byte < 2 ^ 8)
Fits (WriteFrom seat session start count from) = (seat < 2 ^ 8) × (session < 2 ^ 64) × (start < 2 ^ 64) × (count < 2 ^ 16) × (from < 2 ^ 64)
Fits (Discard seat session start count) = (seat < 2 ^ 8) × (session < 2 ^ 64) × (start < 2 ^ 64) × (count < 2 ^ 16)
Fits (Reap seat session) = (seat < 2 ^ 8) × (session < 2 ^ 64)
Fits (Leave seat) = seat < 2 ^ 8
Fits Dispatch = Unit {0}
Fits (Finish tag issue ending) = (tag < 2 ^ 8) × (issue < 2 ^ 64) × EndingFits ending
Fits (Work tag issue) = (tag < 2 ^ 8) × (issue < 2 ^ 64)
Fits (Requeue tag issue) = (tag < 2 ^ 8) × (issue < 2 ^ 64)
Fits Hold = Unit {0}
Fits Release = Unit {0}
Fits (Undo k) = k < 2 ^ 32
Fits (Redo k) = k < 2 ^ 32
Fits (Group parent weight) = (parent < 2 ^ 8) × (weight < 2 ^ 16)
Fits (Drop group) = group < 2 ^ 8
Fits (Weight group weight) = (group < 2 ^ 8) × (weight < 2 ^ 16)
Fits Freeze = Unit {0}
Fits Thaw = Unit {0}
Fits (Switch scheduler) = Unit {0}
Fits Tick = Unit {0}
Fits (Sector number) = number < 2 ^ 64
Fits (Queue seat) = seat < 2 ^ 8
Fits Cursor = Unit {0}
Fits (Vtime group) = group < 2 ^ 8
Fits (ClassVtime group class) = group < 2 ^ 8
Fits (Entity number) = number < 2 ^ 8
Fits (Class number) = number < 2 ^ 8
Fits (Show look) = LookFits look
