-- The kinds of a side: a number for each, and what the fields behind it say.
use Rattle.std.specs.Prelude.{ℕ, List, [], ◌∷◌, Result, Err, ◌==◌, if◌then◌else◌}
use Rattle.session_proto.specs.declared.fault.Fault.{Fault}
use Rattle.session_proto.specs.declared.fault.Fault.TheVariants.{BadKind}

-- what the fields say behind a kind of the table (our format)
abbrev pub said_by : {T : Type 0} → List (ℕ × (List ℕ → Result T Fault)) → ℕ → List ℕ → Result T Fault
said_by [] kind fields = Err BadKind
said_by (k ∷ ks) kind fields = if kind == k.0 then k.1 fields else said_by ks kind fields

-- a body begins with its kind (our format)
abbrev pub read_by : {T : Type 0} → List (ℕ × (List ℕ → Result T Fault)) → List ℕ → Result T Fault
read_by kinds [] = Err BadKind
read_by kinds (kind ∷ fields) = said_by kinds kind fields
