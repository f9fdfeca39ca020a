-- What each part of a run does.
use Rattle.std.specs.Prelude.{◌≡◌, ℕ, ◌+◌, ◌<◌, ◌≤◌, List, ◌++◌, length, ◌⊎◌}
use Rattle.std.specs.List.{AllByRecursion}
use Rattle.std.specs.Io.KnownBytes.{Appends, Consumes}
use Rattle.byte_writing.specs.Written.{IsCut}
use Rattle.script_line.specs.declared.line.Line.{Line}
use Rattle.script_line.specs.Script.{Known, IsLine, IsBad, Step, MayHaveRun, Runs, ended, bad_text, piece_bytes, most_lines}
use Rattle.script_line.specs.declared.ending.ScriptEnd.{ScriptEnd}
use Rattle.script_line.specs.declared.ending.ScriptEnd.TheVariants.{Done, BadLine, ReadFault, WriteFault, OutOfMemory}
use Rattle.script_line.specs.declared.run_line.Ran.{Ran}
use Rattle.script_line.specs.declared.run_line.Ran.TheVariants.{Printed, Bad, NoMemory}

-- the text of a bad line is written, a front of it, or nothing
abbrev pub IsBadEnd : Known → Known → ℕ → ScriptEnd → Type 0
IsBadEnd w0 w1 number Done = ⊥
IsBadEnd w0 w1 number (BadLine n) = (n ≡ number) × Appends w0 w1 (bad_text number)
IsBadEnd w0 w1 number ReadFault = ⊥
IsBadEnd w0 w1 number WriteFault = IsCut w0 w1 (bad_text number)
IsBadEnd w0 w1 number OutOfMemory = w1 ≡ w0

-- what can end a run at a line: no fault of the reader
abbrev pub IsLineEnd : ScriptEnd → Type 0
IsLineEnd Done = ⊥
IsLineEnd (BadLine n) = Unit {0}
IsLineEnd ReadFault = ⊥
IsLineEnd WriteFault = Unit {0}
IsLineEnd OutOfMemory = Unit {0}

-- what can end a run where the input is at its end: no fault of the reader
abbrev pub IsLastEnd : ScriptEnd → Type 0
IsLastEnd Done = Unit {0}
IsLastEnd (BadLine n) = Unit {0}
IsLastEnd ReadFault = ⊥
IsLastEnd WriteFault = Unit {0}
IsLastEnd OutOfMemory = Unit {0}

-- what can end a run before a read: a fault of the writer, where the read is not made, or of the reader
abbrev pub IsReadEnd : ScriptEnd → Type 0
IsReadEnd why = (why ≡ WriteFault) ⊎ (why ≡ ReadFault)

-- a line ran, or is bad, or there was no memory for what it prints, and then it may have run
abbrev pub HasRun : {C : Type 0} → (C → Line → List ℕ → C → Type 0) → List ℕ → C → List ℕ → C → Ran → Type 0
HasRun prints line before text after Printed = Step prints before line text after
HasRun prints line before text after Bad = IsBad prints before line × (after ≡ before)
HasRun prints line before text after NoMemory = (0 < length line) × MayHaveRun (Step prints) before line after

-- the lines so far have run, one has begun, and `waiting` is read but not yet looked at
pub record SoFar {C : Type 0} (prints : C → Line → List ℕ → C → Type 0) (r0 r1 w0 w1 : Known) (c0 c1 : C)
    (count : ℕ) (begun waiting : List ℕ) : Type 0 where
  pub lines : List (List ℕ)
  pub text : List ℕ
  pub read : Consumes r0 r1 (ended lines ++ (begun ++ waiting))
  pub near : length waiting ≤ piece_bytes
  pub each : AllByRecursion IsLine lines
  pub counted : count ≡ length lines
  pub few : count ≤ most_lines
  pub is_line : IsLine begun
  pub room : 0 < length begun → count < most_lines
  pub runs : Runs prints c0 lines text c1
  pub wrote : Appends w0 w1 text

-- the lines so far have run, and then one more, after which `after` is read
pub record OneMore {C : Type 0} (prints : C → Line → List ℕ → C → Type 0) (r0 r1 w0 w1 : Known) (c0 c1 : C)
    (count : ℕ) (line after : List ℕ) : Type 0 where
  pub lines : List (List ℕ)
  pub text : List ℕ
  pub printed : List ℕ
  pub last : C
  pub read : Consumes r0 r1 (ended lines ++ (line ++ after))
  pub near : length after ≤ piece_bytes
  pub each : AllByRecursion IsLine lines
  pub counted : count ≡ length lines + 1
  pub few : count ≤ most_lines
  pub is_line : IsLine line
  pub runs : Runs prints c0 lines text last
  pub step : Step prints last line printed c1
  pub wrote : Appends w0 w1 (text ++ printed)
