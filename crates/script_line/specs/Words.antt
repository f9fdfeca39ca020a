-- Words and numbers of a line of a script.
use Rattle.std.specs.Prelude.{◌≡◌, ◌≢◌, ℕ, ◌<◌, ◌^◌, List, [], ◌∷◌, ◌++◌, length, codes, slice_index}
use Rattle.std.specs.Fmt.{decimal}
use Rattle.sector_core.specs.declared.class.Class.{Class}
use Rattle.sector_core.specs.declared.class.Class.TheVariants.{RealTime, BestEffort, Idle}

-- each number in decimal, after one space
abbrev pub numbers : List ℕ → List ℕ
numbers [] = []
numbers (n ∷ ns) = 32 ∷ (decimal n ++ numbers ns)

-- each is below 2 ^ 64
abbrev pub AreNumbers : List ℕ → Type 0
AreNumbers [] = Unit {0}
AreNumbers (n ∷ ns) = (n < 2 ^ 64) × AreNumbers ns

-- no byte is a space
abbrev pub HasNoSpace : List ℕ → Type 0
HasNoSpace [] = Unit {0}
HasNoSpace (c ∷ cs) = (c ≢ 32) × HasNoSpace cs

-- what can stand after a word: nothing, or a space and more
abbrev pub IsTail : List ℕ → Type 0
IsTail [] = Unit {0}
IsTail (c ∷ cs) = c ≡ 32

-- a word that is not empty, with no plus and no leading zero
abbrev pub IsPlain : List ℕ → Type 0
IsPlain word = (0 < length word) × (slice_index word 0 ≢ 43) × (slice_index word 0 ≡ 48 → length word ≡ 1)

-- a sector of the payload, in decimal behind `@`, after one space (our profile)
abbrev pub at_sector : ℕ → List ℕ
at_sector from = codes " @" ++ decimal from

-- the name of a class, after one space (our profile)
abbrev pub class_named : Class → List ℕ
class_named RealTime = codes " rt"
class_named BestEffort = codes " be"
class_named Idle = codes " idle"
