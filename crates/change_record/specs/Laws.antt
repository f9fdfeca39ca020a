-- The laws of exchanges, on tables that no rule joins (our profile).
use Rattle.std.specs.Prelude.{◌≡◌, List}
use Rattle.change_record.specs.declared.change.Change.{Change}
use Rattle.change_record.specs.Tables.{Tables}
use Rattle.change_record.specs.Exchange.{after, left_by, forth_tables, forth_left, back_tables, back_left}

-- an exchange, and then the exchange of what it left
pub record TurnedTwice (t : Tables) (c : Change) : Type 0 where
  pub tables : after (after t c) (left_by t c) ≡ t
  pub change : left_by (after t c) (left_by t c) ≡ c

-- a list turned back and then forth, and one turned forth and then back
pub record ForthAgain (t : Tables) (cs : List Change) : Type 0 where
  pub tables : forth_tables (back_left cs t) (back_tables cs t) ≡ t
  pub changes : forth_left (back_left cs t) (back_tables cs t) ≡ cs
  pub tables_back : back_tables (forth_left cs t) (forth_tables cs t) ≡ t
  pub changes_back : back_left (forth_left cs t) (forth_tables cs t) ≡ cs
