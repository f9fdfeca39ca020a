-- Which lines make no call, and are looked at alone.
use Rattle.std.specs.Prelude.{Bool, true, false}
use Rattle.script_line.specs.declared.line.Line.{Line}
use Rattle.script_line.specs.declared.line.Line.TheVariants.{Sector, Queue, Cursor, Vtime, ClassVtime, Entity, Class, Show}

-- a line that only looks at the keeper
abbrev pub is_query : Line → Bool
is_query (Sector number) = true
is_query (Queue seat) = true
is_query Cursor = true
is_query (Vtime group) = true
is_query (ClassVtime group named) = true
is_query (Entity number) = true
is_query (Class number) = true
is_query (Show look) = true
is_query line = false
