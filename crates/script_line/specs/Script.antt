-- A script: lines ended by byte 0A, what each prints, and how a run ends.
use Rattle.std.specs.Prelude.{◌≡◌, ◌≢◌, ℕ, ◌+◌, ◌<◌, ◌≤◌, List, [], ◌∷◌, ◌++◌, length, codes, Option, ◌⊎◌}
use Rattle.std.specs.Fmt.{decimal}
use Rattle.std.specs.List.{AllByRecursion}
use Rattle.std.specs.Io.KnownBytes.{Appends, Consumes, IsAtEnd}
use Rattle.script_line.specs.Line.{spelled, Fits}
use Rattle.script_line.specs.declared.line.Line.{Line}
use Rattle.script_line.specs.declared.ending.ScriptEnd.{ScriptEnd}
use Rattle.script_line.specs.declared.ending.ScriptEnd.TheVariants.{Done, BadLine, ReadFault, WriteFault, OutOfMemory}

-- a line has at most this many bytes, without its 0A
abbrev pub most_bytes : ℕ
most_bytes = 256

-- so many bytes are asked for at once
abbrev pub piece_bytes : ℕ
piece_bytes = 4096

-- a script has at most this many lines
abbrev pub most_lines : ℕ
most_lines = 1048576

-- bytes that are known, or not
abbrev pub Known : Type 0
Known = Option (List ℕ)

-- no byte is 0A
abbrev pub HasNoEnd : List ℕ → Type 0
HasNoEnd bytes = AllByRecursion (λ b. b ≢ 10) bytes

-- the bytes of a line, without its 0A
abbrev pub IsLine : List ℕ → Type 0
IsLine line = HasNoEnd line × (length line ≤ most_bytes)

-- lines, each ended by 0A
abbrev pub ended : List (List ℕ) → List ℕ
ended [] = []
ended (line ∷ lines) = line ++ (10 ∷ ended lines)

-- an empty line and a comment print nothing
abbrev pub IsSilent : List ℕ → Type 0
IsSilent [] = Unit {0}
IsSilent (b ∷ bs) = b ≡ 35

-- a line that may print nothing at this console, whatever the console would be then: it does not run there. Of a kind of console at which
-- the same lines run in each state this says what it would say of all states at once: `prints` alone decides it
abbrev pub IsStrange : {C : Type 0} → (C → Line → List ℕ → C → Type 0) → C → Line → Type 0
IsStrange {C} prints before l = (text : List ℕ) (after : C) → prints before l text after → ⊥

-- neither silent nor spelled as a line that runs at this console
abbrev pub IsBad : {C : Type 0} → (C → Line → List ℕ → C → Type 0) → C → List ℕ → Type 0
IsBad prints before line = (IsSilent line → ⊥) × ((l : Line) → Fits l → line ≡ spelled l → IsStrange prints before l)

-- a line runs: a silent one prints nothing and changes nothing, another prints what the console allows for it
abbrev pub Step : {C : Type 0} → (C → Line → List ℕ → C → Type 0) → C → List ℕ → List ℕ → C → Type 0
Step prints before line text after =
    (IsSilent line × (text ≡ []) × (after ≡ before))
    ⊎ ((l : Line) × Fits l × (line ≡ spelled l) × prints before l text after)

-- the line was not run, or it was run and what it printed is lost
abbrev pub MayHaveRun : {C L : Type 0} → (C → L → List ℕ → C → Type 0) → C → L → C → Type 0
MayHaveRun prints before line after = (after ≡ before) ⊎ ((text : List ℕ) × prints before line text after)

-- lines run one after another, from one console to another, and print their texts in turn
abbrev pub Runs : {C : Type 0} → (C → Line → List ℕ → C → Type 0) → C → List (List ℕ) → List ℕ → C → Type 0
Runs prints before [] text after = (text ≡ []) × (after ≡ before)
Runs {C} prints before (line ∷ lines) text after =
    (first : List ℕ) × (others : List ℕ) × (mid : C)
    × Step prints before line first mid × Runs prints mid lines others after × (text ≡ first ++ others)

-- what is printed at a bad line
abbrev pub bad_text : ℕ → List ℕ
bad_text n = codes "bad line " ++ (decimal n ++ (10 ∷ []))

-- a line is there whole: its 0A follows, or the input is at its end
abbrev pub IsWhole : Known → List ℕ → List ℕ → Type 0
IsWhole left line after = ((more : List ℕ) × (after ≡ 10 ∷ more)) ⊎ ((after ≡ []) × (0 < length line) × IsAtEnd left)

-- the bytes after these lines begin with this line
pub record IsNext (left : Known) (lines : List (List ℕ)) (rest line : List ℕ) : Type 0 where
  pub after : List ℕ
  pub begins : rest ≡ line ++ after
  pub whole : IsWhole left line after
  pub is_line : IsLine line
  pub room : length lines < most_lines

-- the next line after these is bad: one line too many, one byte too many, or no line that runs at the console that they left
pub data IsBadNext {C : Type 0} (prints : C → Line → List ℕ → C → Type 0) (last : C) (left : Known) (lines : List (List ℕ)) (rest : List ℕ) : Type 0 where
  too_many : 0 < length rest → length lines ≡ most_lines → IsBadNext prints last left lines rest
  too_long : (front more : List ℕ) → rest ≡ front ++ more → HasNoEnd front → length front ≡ most_bytes + 1 → IsBadNext prints last left lines rest
  no_line : (line : List ℕ) → IsNext left lines rest line → IsBad prints last line → IsBadNext prints last left lines rest

-- the end, after these lines ran and wrote their text: `rest` are the bytes read after them
abbrev pub EndsBy : {C : Type 0} → (C → Line → List ℕ → C → Type 0) → Known → Known → Known
    → List (List ℕ) → List ℕ → List ℕ → C → C → ScriptEnd → Type 0
-- no byte is left: none after the lines, or a last line without 0A, which ran too
EndsBy prints left w0 w1 lines text rest last now Done =
    IsAtEnd left
    × (((rest ≡ []) × Appends w0 w1 text × (now ≡ last))
    ⊎ ((printed : List ℕ) × IsNext left lines rest rest × Step prints last rest printed now × Appends w0 w1 (text ++ printed)))
-- the next line is bad, its number is written, and the console is as the lines left it
EndsBy prints left w0 w1 lines text rest last now (BadLine n) =
    (n ≡ length lines + 1) × IsBadNext prints last left lines rest × Appends w0 w1 (text ++ bad_text n) × (now ≡ last)
-- the bytes after the lines are no whole line yet
EndsBy prints left w0 w1 lines text rest last now ReadFault =
    IsLine rest × (0 < length rest → length lines < most_lines) × Appends w0 w1 text × (now ≡ last)
-- a write or a flush failed: nothing is written after the lines and no other ran, or one more ran or is bad, and a front of its text
-- is written, which may be all
EndsBy prints left w0 w1 lines text rest last now WriteFault =
    (Appends w0 w1 text × (now ≡ last))
    ⊎ ((front : List ℕ) × (unwritten : List ℕ) × Appends w0 w1 (text ++ front)
    × (((line : List ℕ) × IsNext left lines rest line × Step prints last line (front ++ unwritten) now)
    ⊎ (IsBadNext prints last left lines rest × (front ++ unwritten ≡ bad_text (length lines + 1)) × (now ≡ last))))
-- a next line is there, of which nothing is written, and the console is as the lines left it, or as the next line may leave it
EndsBy prints left w0 w1 lines text rest last now OutOfMemory =
    (0 < length rest) × Appends w0 w1 text
    × ((now ≡ last) ⊎ ((line : List ℕ) × (printed : List ℕ) × IsNext left lines rest line × Step prints last line printed now))

-- A run from a reader that had r0 to read and has r1 left, to a writer that held w0 and holds w1,
-- of a console that was c0 and is c1: the lines are the first of the bytes read, they all ran in their order,
-- and the run ended as it says. Behind the lines there is no more than the next line's bytes and one piece that was asked for.
pub record IsEnd {C : Type 0} (prints : C → Line → List ℕ → C → Type 0) (r0 r1 w0 w1 : Known) (c0 c1 : C) (why : ScriptEnd) : Type 0 where
  pub lines : List (List ℕ)
  pub text : List ℕ
  pub rest : List ℕ
  pub last : C
  pub read : Consumes r0 r1 (ended lines ++ rest)
  pub near : length rest ≤ most_bytes + piece_bytes
  pub each : AllByRecursion IsLine lines
  pub few : length lines ≤ most_lines
  pub runs : Runs prints c0 lines text last
  pub ends : EndsBy prints r1 w0 w1 lines text rest last c1 why
