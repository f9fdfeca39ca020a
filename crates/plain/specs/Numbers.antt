-- The numbers that a client reads (our profile).
use Rattle.std.specs.Prelude.{ℕ, ◌==◌, List, [], ◌∷◌, Option, find}
use Rattle.plain.specs.declared.answer.Code.{Code}
use Rattle.plain.specs.declared.answer.Code.TheVariants.{BadSeat, SeatTaken, NoSession, StaleSession, NoGroup, RootGroup, BadWeight, BadPrio, TooDeep, GroupsFull, GroupInUse, BadCount, BadLength, OutOfRange, TooManyBios, NothingOwed, NothingQueued, NoTag, BadTag, NotInFlight, BadOutcome, AlreadyFrozen, NotFrozen, NotDrained, SameScheduler, NoneInService, VtimeFull, NotHeld, AlreadyHeld, ZeroCount, NothingToUndo, NothingToRedo, HistoryFull, OutOfMemory, BadWorker}
use Rattle.plain.specs.declared.answer.Cause.{Cause}
use Rattle.plain.specs.declared.answer.Cause.TheVariants.{Held, Frozen, RequestsFull, NotCompleted, NothingToTake}

-- the number that a client reads for a code (our profile)
abbrev pub code_number : Code → ℕ
code_number BadSeat = 1
code_number SeatTaken = 2
code_number NoSession = 3
code_number StaleSession = 4
code_number NoGroup = 5
code_number RootGroup = 6
code_number BadWeight = 7
code_number BadPrio = 8
code_number TooDeep = 9
code_number GroupsFull = 10
code_number GroupInUse = 11
code_number BadCount = 12
code_number BadLength = 13
code_number OutOfRange = 14
code_number TooManyBios = 15
code_number NothingOwed = 16
code_number NothingQueued = 17
code_number NoTag = 18
code_number BadTag = 19
code_number NotInFlight = 20
code_number BadOutcome = 21
code_number AlreadyFrozen = 22
code_number NotFrozen = 23
code_number NotDrained = 24
code_number SameScheduler = 25
code_number NoneInService = 26
code_number VtimeFull = 27
code_number NotHeld = 28
code_number AlreadyHeld = 29
code_number ZeroCount = 30
code_number NothingToUndo = 31
code_number NothingToRedo = 32
code_number HistoryFull = 33
code_number OutOfMemory = 34
code_number BadWorker = 35

-- the number that a client reads for a cause (our profile)
abbrev pub cause_number : Cause → ℕ
cause_number Held = 41
cause_number Frozen = 42
cause_number RequestsFull = 43
cause_number NotCompleted = 44
cause_number NothingToTake = 45

-- every code that a refusal may have (our profile)
abbrev pub all_codes : List Code
all_codes =
    BadSeat ∷ SeatTaken ∷ NoSession ∷ StaleSession ∷ NoGroup ∷ RootGroup ∷ BadWeight ∷ BadPrio ∷ TooDeep ∷
    GroupsFull ∷ GroupInUse ∷ BadCount ∷ BadLength ∷ OutOfRange ∷ TooManyBios ∷ NothingOwed ∷ NothingQueued ∷ NoTag ∷
    BadTag ∷ NotInFlight ∷ BadOutcome ∷ AlreadyFrozen ∷ NotFrozen ∷ NotDrained ∷ SameScheduler ∷ NoneInService ∷
    VtimeFull ∷ NotHeld ∷ AlreadyHeld ∷ ZeroCount ∷ NothingToUndo ∷ NothingToRedo ∷ HistoryFull ∷ OutOfMemory ∷
    BadWorker ∷ []

-- the code whose number it is, or none (our profile)
unfoldable pub code_of_number : ℕ → Option Code
code_of_number number = find (λ code. code_number code == number) all_codes

-- every cause for which a call may have to wait (our profile)
abbrev pub all_causes : List Cause
all_causes = Held ∷ Frozen ∷ RequestsFull ∷ NotCompleted ∷ NothingToTake ∷ []

-- the cause whose number it is, or none (our profile)
unfoldable pub cause_of_number : ℕ → Option Cause
cause_of_number number = find (λ cause. cause_number cause == number) all_causes
