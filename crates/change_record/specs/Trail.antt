-- A step under way: the changes that it has made so far lead back to where it began (our profile).
use Rattle.std.specs.Prelude.{◌≡◌, List}
use Rattle.change_record.specs.declared.change.Change.{Change}
use Rattle.change_record.specs.Tables.{Tables}
use Rattle.change_record.specs.Exchange.{back_tables, back_left, FitBack, ArePuts}

-- turning the changes back gives the tables of the origin and adds no block, and turning them forth again removes none
pub record IsTrail (changes : List Change) (tables origin : Tables) : Type 0 where
  pub back : back_tables changes tables ≡ origin
  pub fits : FitBack changes tables
  pub puts : ArePuts (back_left changes tables)

-- whatever origin the changes led back to before, they lead back to now
abbrev pub KeepsTrail : List Change → Tables → List Change → Tables → Type 0
KeepsTrail old before new now = (origin : Tables) → IsTrail old before origin → IsTrail new now origin
